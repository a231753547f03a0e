use Rattle.std.proofs.Common.{◌≡◌, ℕ, ◌<◌, ◌+◌, length}
use Rattle.std.specs.Prelude.{IsTrue}
use Rattle.labels.specs.Comparing.{start}
use Rattle.labels.specs.Row.{Includes, has}
use Rattle.labels.proofs.under.Under.add_part.Given as goal

abbrev pub invariant-loop-k : goal.invariant-loop-k
invariant-loop-k l = record {
  count : length l.left.policies ≡ length l.fn.left.policies;
  labels : l.left.labels ≡ l.fn.left.labels;
  parts : l.left.parts ≡ l.fn.left.parts;
  kept : Includes l.left.policies l.fn.left.policies;
  added : (j : ℕ) → j < l.k → IsTrue (has l.left.policies (start l.self.entries.now l.part + j));
}
