use Rattle.std.proofs.Common.{ℕ, ◌-◌, ◌≤◌, ◌<◌, length}
use Rattle.std.specs.Prelude.{IsTrue}
use Rattle.labels.specs.Entries.{own_at}
use Rattle.labels.specs.Label.{Covers}
use Rattle.labels.specs.Row.{has}
use Rattle.labels.proofs.entries.part_above.Given as goal

abbrev pub invariant-loop-part : goal.invariant-loop-part
invariant-loop-part l = record {
  inside : l.from ≤ length l.row;
  none : (part : ℕ) → part < l.from → IsTrue (has l.row part) → ¬ Covers l.hierarchy (own_at l.entries part) l.policy;
}

abbrev pub decreases-loop-part : goal.decreases-loop-part
decreases-loop-part l = length l.row - l.from
