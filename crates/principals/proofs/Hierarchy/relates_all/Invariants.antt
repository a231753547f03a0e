use Rattle.std.proofs.Common.{get_or, take}
use Rattle.std.specs.Prelude.{All}
use Rattle.principals.specs.ActsFor.{ActsFor}
use Rattle.principals.proofs.Hierarchy.relates_all.Given as goal

-- the pairs so far hold here
abbrev pub invariant-loop-left : goal.invariant-loop-left
invariant-loop-left l = All (λ pair. ActsFor l.self.pairs (get_or l.here pair.0 0) (get_or l.here pair.1 0)) (take l.left-index l.pairs)
