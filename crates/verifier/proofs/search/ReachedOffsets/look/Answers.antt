use Rattle.std.proofs.Common.{◌≡◌, Some, ap, sym, ◌∙◌, arith, length}
use Rattle.std.proofs.lemmas.Option.{slice_get-get_or}
use Rattle.verifier.proofs.Indices.{number_inside, numbered_at}
use Rattle.modules.specs.Code.{instruction_at}
use Rattle.modules.specs.declared.instruction.Instruction.{Instruction}
use Rattle.std.proofs.Common.{List, ℕ, get_or}
use Rattle.modules.specs.Code.{offset_at}
use Rattle.verifier.proofs.search.ReachedOffsets.look.Goals as goal

read : (code found : List Instruction) (number at : ℕ) (i d : Instruction) → found ≡ code → offset_at code number ≡ at → instruction_at code at ≡ Some i →
    instruction_at code at ≡ Some (get_or found number d)
read code found number at i d same there is =
    sym (ap (instruction_at code) there) ∙ numbered_at code number
    ∙ slice_get-get_or code number d (number_inside code number at i there is)
    ∙ ap (λ l. Some (get_or l number d)) (sym same)

pub bounds-code-listed : goal.bounds-code-listed
bounds-code-listed g c =
    let r = c.requires in
    omega (arith, number_inside c.args.body.now.procedure.now.code c.args.listed.number c.args.listed.at r.there.instruction r.listed.number r.there.there, ap length c.requires.code)

pub visit-requires-clause-instruction : goal.visit-requires-clause-instruction
visit-requires-clause-instruction g c =
    let r = c.requires in
    read c.args.body.now.procedure.now.code c.args.code.now c.args.listed.number c.args.listed.at r.there.instruction _ c.requires.code r.listed.number r.there.there
