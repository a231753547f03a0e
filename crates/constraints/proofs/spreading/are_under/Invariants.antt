use Rattle.std.proofs.Common.{◌≡◌, ◌<◌, ℕ, get_or}
use Rattle.constraints.specs.declared.journal.Called.{Called}
use Rattle.constraints.proofs.spreading.are_under.Given as goal

abbrev pub invariant-loop-called : goal.invariant-loop-called
invariant-loop-called l = (k : ℕ) (d : Called) → k < l.called-index → (get_or l.calls k d).barrier ≡ l.barrier
