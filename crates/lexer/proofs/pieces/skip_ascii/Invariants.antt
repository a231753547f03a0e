use Rattle.std.proofs.Common.{◌≡◌, ◌≤◌, ◌-◌, ℕ, List, drop, length}
use Rattle.std.specs.Str.{chars, IsCharBoundary}
use Rattle.lexer.specs.Scan.{holds, after_run}
use Rattle.lexer.specs.declared.pieces.Class.{Class}
use Rattle.lexer.proofs.pieces.skip_ascii.Given as goal

-- the bytes before this one are of the class
pub record IsPassed (text : List ℕ) (class : Class) (at : ℕ) : Type 0 where
  pub within : at ≤ length text
  pub boundary : IsCharBoundary text at
  pub run : after_run (holds class) (chars (drop at text)) ≡ after_run (holds class) (chars text)

abbrev pub invariant-loop-at : goal.invariant-loop-at
invariant-loop-at l = IsPassed l.text l.class l.at

abbrev pub decreases-loop-at : goal.decreases-loop-at
decreases-loop-at l = length l.text - l.at
