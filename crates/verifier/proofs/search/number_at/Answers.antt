use Rattle.std.proofs.Common.{length, sym, ap, ◌∙◌}
use Rattle.modules.specs.declared.instruction.Instruction.{Instruction}
use Rattle.std.proofs.Common.{List}
use Rattle.verifier.proofs.Reaching.{stands_found, stands_last}
use Rattle.verifier.proofs.search.number_at.Goals as goal

pub returns-in-Some : goal.returns-in-Some
returns-in-Some c = stands_found c.args.body.now.procedure.now c.args.body.now.index.now c.args.to c.in-Some.number c.requires.body.index (sym c.number.ensures ∙ c.in-Some.is)

pub returns-in-None : goal.returns-in-None
returns-in-None c =
    stands_last c.args.body.now.procedure.now c.args.body.now.index.now c.args.to _ c.requires.body.index (sym c.in-None.is ∙ c.number.ensures) c.requires.boundary (ap (λ (code : List Instruction). length code) c.code.ensures)
