use Rattle.std.proofs.Common.{◌≡◌, ℕ, ◌<◌, length, get_or}
use Rattle.std.specs.Prelude.{IsTrue}
use Rattle.principals.specs.ActsFor.{ActsFor}
use Rattle.labels.specs.Comparing.{AreBits, slots}
use Rattle.labels.specs.Label.{PolicyAllows, ReaderPolicy}
use Rattle.labels.specs.Row.{has}
use Rattle.labels.proofs.under.Under.below.Given as goal

abbrev pub invariant-loop-reader : goal.invariant-loop-reader
invariant-loop-reader l = record {
  bits : AreBits l.self.hierarchy.now l.self.entries.now l.bits;
  count : length l.row ≡ length (slots l.self.entries.now);
  owner : (s : ℕ) (d : ReaderPolicy) → IsTrue (has l.row s) → ActsFor l.self.hierarchy.now.pairs l.policy.owner (get_or (slots l.self.entries.now) s d).owner;
  readers : (s : ℕ) (d : ReaderPolicy) → IsTrue (has l.row s) → (j e : ℕ) → j < l.reader-index → PolicyAllows l.self.hierarchy.now (get_or l.policy.readers j e) (get_or (slots l.self.entries.now) s d);
}
