use Rattle.std.proofs.Common.{length, ◌-◌, ◌≤◌, false}
use Rattle.labels.specs.Words.{GrowBetween}
use Rattle.labels.proofs.words.covers_words.Given as goal

abbrev pub invariant-fours : goal.invariant-fours
invariant-fours l = record {
  kept : GrowBetween l.words l.others 0 l.at false;
  inside : l.at ≤ length l.words;
}

abbrev pub decreases-fours : goal.decreases-fours
decreases-fours l = length l.words - l.at

abbrev pub invariant-rest : goal.invariant-rest
invariant-rest l = record {
  kept : GrowBetween l.words l.others 0 l.at false;
  inside : l.at ≤ length l.words;
}

abbrev pub decreases-rest : goal.decreases-rest
decreases-rest l = length l.words - l.at
