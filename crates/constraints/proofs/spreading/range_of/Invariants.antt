use Rattle.std.proofs.Common.{◌<◌, ◌≤◌, ℕ, get_or}
use Rattle.constraints.specs.declared.journal.Called.{Called}
use Rattle.constraints.proofs.spreading.range_of.Given as goal

abbrev pub invariant-loop-called : goal.invariant-loop-called
invariant-loop-called l = record {
  first : (k : ℕ) (d : Called) → k < l.called-index → l.first ≤ (get_or l.calls k d).call;
  last : (k : ℕ) (d : Called) → k < l.called-index → (get_or l.calls k d).call ≤ l.last;
}
