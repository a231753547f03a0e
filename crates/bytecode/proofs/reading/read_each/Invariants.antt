use Rattle.std.proofs.Common.{[], ◌-◌, ◌≡◌}
use Rattle.modules.specs.ByteFormat.{each_at}
use Rattle.bytecode.proofs.reading.read_each.Given as goal

-- what is left to read goes on to what reading gives from the start, and the state is that of the items
abbrev pub invariant-loop : goal.invariant-loop
invariant-loop g l = record {
  goes_on : each_at (g.E.Element.reads l.element) (l.count - l.counter) l.items.items l.rest ≡ each_at (g.E.Element.reads l.element) l.count [] l.bytes;
  holds : g.E.Element.holds l.element l.state l.items.items;
}
