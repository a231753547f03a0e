use Rattle.std.proofs.Common.{◌≡◌, take}
use Rattle.path_map.specs.Exceptions.{exceptions_of, is_one_of}
use Rattle.path_map.specs.Sets.{IsSum, members}
use Rattle.path_map.proofs.calls.insert_all.Given as goal

abbrev pub invariant-loop-thrown : goal.invariant-loop-thrown
invariant-loop-thrown l = record {
  added : IsSum (members l.fn.set) (is_one_of (exceptions_of (take l.thrown-index l.throws))) (members l.set);
  bound : l.set.bound ≡ l.fn.set.bound;
}
