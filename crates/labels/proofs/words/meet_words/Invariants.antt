use Rattle.labels.specs.Words.{AreWordsMet}
use Rattle.labels.proofs.words.meet_words.Given as goal

abbrev pub invariant-loop-at : goal.invariant-loop-at
invariant-loop-at l = AreWordsMet l.fn.words l.others l.words l.at
