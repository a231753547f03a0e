use Rattle.std.proofs.Common.{[], List, ℕ, ◌-◌, ◌||◌, ◌≡◌}
use Rattle.std.specs.BTreeSet.{contains_text}
use Rattle.modules.specs.ByteFormat.{each_at, read}
use Rattle.modules.specs.Format.{is_among, name_after}
use Rattle.bytecode.specs.Reading.{texts}
use Rattle.bytecode.proofs.names.read_names.Given as goal

-- what is left to read goes on to what reading gives from the start, and the set has the names
abbrev pub invariant-loop : goal.invariant-loop
invariant-loop l = record {
  goes_on : each_at (λ before rest. read (name_after (contains_text l.fn.taken) before) rest) (l.count - l.counter) (texts l.names.items) l.rest
      ≡ each_at (λ before rest. read (name_after (contains_text l.fn.taken) before) rest) l.count [] l.bytes;
  has : (q : List ℕ) → contains_text l.taken q ≡ (contains_text l.fn.taken q || is_among (texts l.names.items) q);
}
