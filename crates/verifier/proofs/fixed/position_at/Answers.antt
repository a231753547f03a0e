use Rattle.std.proofs.Common.{◌≡◌, ◌∙◌, ℕ, List, Option, None, Some, ap, get_or}
use Rattle.std.specs.Prelude.{IfSome}
use Rattle.modules.specs.declared.instruction.Instruction.{Instruction}
use Rattle.verifier.specs.Positions.{or_zero, position_at, position_of}
use Rattle.verifier.proofs.Indices.{begins, index_is_position}
use Rattle.verifier.proofs.fixed.position_at.Goals as goal

there : (code : List Instruction) (offset : ℕ) (o : Option ℕ) → o ≡ position_at code offset → IfSome o (λ position. position ≡ position_of code offset)
there code offset None e = tt
there code offset (Some position) e = ap or_zero e

pub returns-clause-start : goal.returns-clause-start
returns-clause-start c = begins c.args.body.now.procedure.now.code c.args.body.now.index.now c.args.offset c.number.result c.requires.index c.number.ensures

pub returns-clause-position : goal.returns-clause-position
returns-clause-position c =
    let code = c.args.body.now.procedure.now.code in
    there code c.args.offset c.number.result
    (c.number.ensures ∙ ap (λ (l : List (Option ℕ)). get_or l c.args.offset None) c.requires.index ∙ index_is_position code c.args.offset)
