use Rattle.std.proofs.Common.{length, replicate, ◌+◌, ◌≡◌}
use Rattle.labels.proofs.rows.zero_words.Given as goal

-- what was added and what is left are all words
abbrev pub invariant-loop-left : goal.invariant-loop-left
invariant-loop-left l = (l.words.items ≡ replicate (length l.words.items) 0) × (length l.words.items + l.left ≡ l.count)

abbrev pub decreases-loop-left : goal.decreases-loop-left
decreases-loop-left l = l.left
