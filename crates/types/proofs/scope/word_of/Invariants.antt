use Rattle.std.proofs.Common.{◌≡◌, ◌≤◌, ℕ, List, true, drop, length}
use Rattle.types.specs.ShortNames.{are_bytes, digits}
use Rattle.types.proofs.scope.word_of.Given as goal

-- the bytes from here on are read
pub record IsRead (name : List ℕ) (at number : ℕ) : Type 0 where
  pub within : at ≤ length name
  pub value : number ≡ digits (drop at name)
  pub bytes : are_bytes (drop at name) ≡ true

abbrev pub invariant-loop-at : goal.invariant-loop-at
invariant-loop-at l = IsRead l.name l.at l.number

abbrev pub decreases-loop-at : goal.decreases-loop-at
decreases-loop-at l = l.at
