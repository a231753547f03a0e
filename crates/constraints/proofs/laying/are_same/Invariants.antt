use Rattle.std.proofs.Common.{◌≡◌, take}
use Rattle.constraints.proofs.laying.are_same.Given as goal

abbrev pub invariant-loop-i : goal.invariant-loop-i
invariant-loop-i l = record { same : take l.i l.one ≡ take l.i l.other }
