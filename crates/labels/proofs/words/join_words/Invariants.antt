use Rattle.std.proofs.Common.{length, ◌-◌, ◌≤◌}
use Rattle.labels.specs.Words.{AreJoined}
use Rattle.labels.proofs.words.join_words.Given as goal

abbrev pub invariant-fours : goal.invariant-fours
invariant-fours l = record {
  joined : AreJoined l.fn.words l.others l.words 0 l.at l.grew;
  inside : l.at ≤ length l.others;
}

abbrev pub decreases-fours : goal.decreases-fours
decreases-fours l = length l.others - l.at

abbrev pub invariant-rest : goal.invariant-rest
invariant-rest l = record {
  joined : AreJoined l.fn.words l.others l.words 0 l.at l.grew;
  inside : l.at ≤ length l.others;
}

abbrev pub decreases-rest : goal.decreases-rest
decreases-rest l = length l.others - l.at
