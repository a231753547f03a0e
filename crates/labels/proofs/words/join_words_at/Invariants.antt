use Rattle.labels.specs.Words.{AreJoinedAt}
use Rattle.labels.proofs.words.join_words_at.Given as goal

abbrev pub invariant-loop-k : goal.invariant-loop-k
invariant-loop-k l = AreJoinedAt l.fn.words l.others l.words l.at l.k
