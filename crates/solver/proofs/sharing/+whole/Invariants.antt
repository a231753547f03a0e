use Rattle.solver.specs.Sharing.{kept_at}
use Rattle.solver.proofs.sharing.+whole.Given as goal

-- each row stands on one less than the one that stands on it
abbrev pub decreases-whole : goal.decreases-whole
decreases-whole l = (kept_at l.kept.now l.number).steps
