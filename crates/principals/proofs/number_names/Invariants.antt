use Rattle.std.proofs.Common.{◌≡◌, length, take}
use Rattle.principals.proofs.number_names.Given as goal

abbrev pub invariant-loop-name : goal.invariant-loop-name
invariant-loop-name l = l.table.keys ≡ take (length l.yielded) l.fn.names.items
