use Rattle.constraints.specs.Following.{AreOnward}
use Rattle.constraints.proofs.following.Onward.of.Given as goal

abbrev pub invariant-loop-constraint : goal.invariant-loop-constraint
invariant-loop-constraint l = record {
  onward : AreOnward l.real l.constraints l.onward;
}
