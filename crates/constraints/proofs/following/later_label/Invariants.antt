use Rattle.std.proofs.Common.{List, ℕ}
use Rattle.solver.specs.declared.constraints.Atom.TheVariants.{Unknown}
use Rattle.constraints.specs.Added.{Stored}
use Rattle.constraints.specs.Following.{AreFollowed}
use Rattle.constraints.specs.Merging.{IsFollowed}
use Rattle.constraints.proofs.following.later_label.Given as goal

abbrev pub invariant-loop-step : goal.invariant-loop-step
invariant-loop-step l = record {
  at : (real : ℕ) (base : List Stored) → AreFollowed real base l.rows → AreFollowed real base l.others → IsFollowed real base (Unknown l.fn.from) (Unknown l.at);
}
