use Rattle.std.proofs.Common.{◌≡◌, ◌-◌, drop, length}
use Rattle.std.specs.Prelude.{bytes_eq}
use Rattle.lexer.proofs.names.keep.Given as goal

-- the bytes before this one are the same
abbrev pub invariant-loop-at : goal.invariant-loop-at
invariant-loop-at l = bytes_eq l.text l.word ≡ bytes_eq (drop l.at l.text) (drop l.at l.word)

abbrev pub decreases-loop-at : goal.decreases-loop-at
decreases-loop-at l = length l.word - l.at
