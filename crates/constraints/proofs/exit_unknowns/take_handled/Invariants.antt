use Rattle.std.proofs.Common.{◌≡◌, ℕ, ◌+◌, drop}
use Rattle.std.specs.Prelude.{slice_index_or}
use Rattle.resolved.specs.TreeOf.{handlers_of}
use Rattle.constraints.specs.ExitUnknowns.{entry_in_try, no_entry, undone}
use Rattle.constraints.proofs.exit_unknowns.take_handled.Given as goal

abbrev pub invariant-loop-i : goal.invariant-loop-i
invariant-loop-i l = record {
  undone : undone l.saved.items l.thrown.items ≡ undone l.fn.saved.items l.fn.thrown.items;
  taken : (x : ℕ) → entry_in_try (handlers_of (drop l.i l.handlers)) (l.first + l.i) l.level x (slice_index_or l.thrown.items x no_entry)
      ≡ entry_in_try (handlers_of l.handlers) l.first l.level x (slice_index_or l.fn.thrown.items x no_entry);
}
