use Rattle.std.proofs.Common.{refl}
use Rattle.constraints.proofs.exit_unknowns.ExitUnknowns.within_single.Goals as goal

pub returns-clause-exit_unknowns : goal.returns-clause-exit_unknowns
returns-clause-exit_unknowns c = λ thrown within. rw c.if-only.false refl
