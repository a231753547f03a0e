use Rattle.std.proofs.Common.{◌≡◌, ◌∷◌, take}
use Rattle.types.proofs.JoinAll.{thrown_labels}
use Rattle.types.proofs.procedure.join_all.Given as goal

abbrev pub invariant-loop-thrown : goal.invariant-loop-thrown
invariant-loop-thrown l = l.named.items ≡ l.first ∷ thrown_labels (take l.thrown-index l.throws)
