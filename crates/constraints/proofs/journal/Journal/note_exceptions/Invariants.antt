use Rattle.std.proofs.Common.{◌≡◌, ℕ, drop, length, map}
use Rattle.constraints.specs.Journals.{moments_at, noted_all}
use Rattle.constraints.proofs.journal.Journal.note_exceptions.Given as goal

abbrev pub invariant-loop-one : goal.invariant-loop-one
invariant-loop-one g l = record {
  calls : l.self.calls ≡ l.fn.self.calls;
  count : length l.self.moments.items ≡ length l.fn.self.moments.items;
  moments : (x : ℕ) → noted_all (length l.fn.self.moments.items) (length l.fn.self.calls.items) l.thrown
      (map g.T.NamesException.named_exception (drop l.one-index l.naming)) x (moments_at l.self.moments.items x)
      ≡ noted_all (length l.fn.self.moments.items) (length l.fn.self.calls.items) l.thrown
      (map g.T.NamesException.named_exception l.naming) x (moments_at l.fn.self.moments.items x);
}
