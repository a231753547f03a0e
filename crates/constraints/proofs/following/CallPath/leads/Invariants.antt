use Rattle.std.proofs.Common.{List, ℕ}
use Rattle.solver.specs.declared.constraints.Atom.TheVariants.{Unknown}
use Rattle.constraints.specs.Added.{Stored}
use Rattle.constraints.specs.Following.{IsCallPath}
use Rattle.constraints.specs.Merging.{IsFollowed}
use Rattle.constraints.proofs.following.CallPath.leads.Given as goal

abbrev pub invariant-loop-round : goal.invariant-loop-round
invariant-loop-round l = record {
  at : (real : ℕ) (base : List Stored) → IsCallPath real base l.self → IsFollowed real base (Unknown l.from) (Unknown l.at);
}
