use Rattle.std.proofs.Common.{[], List, ℕ, ◌-◌, ◌||◌, ◌≡◌}
use Rattle.std.specs.BTreeSet.{contains_text}
use Rattle.modules.specs.ByteFormat.{each_at, read}
use Rattle.modules.specs.Format.{channel_after, is_among}
use Rattle.modules.specs.FormatParts.{channel_names}
use Rattle.bytecode.proofs.channels.read_channels.Given as goal

-- what is left to read goes on to what reading gives from the start, and the set has the names of the channels
abbrev pub invariant-loop : goal.invariant-loop
invariant-loop l = record {
  goes_on : each_at (λ before rest. read (channel_after l.principals (contains_text l.fn.taken) before) rest) (l.count - l.counter) l.channels.items l.rest
      ≡ each_at (λ before rest. read (channel_after l.principals (contains_text l.fn.taken) before) rest) l.count [] l.bytes;
  has : (q : List ℕ) → contains_text l.taken q ≡ (contains_text l.fn.taken q || is_among (channel_names l.channels.items) q);
}
