use Rattle.std.proofs.Common.{◌≡◌, ℕ, ◌&&◌, not, take}
use Rattle.path_map.specs.Exceptions.{exceptions_of, is_one_of}
use Rattle.path_map.specs.Sets.{members}
use Rattle.path_map.proofs.map.are_declared.Given as goal

abbrev pub invariant-loop-thrown : goal.invariant-loop-thrown
invariant-loop-thrown l = (e : ℕ) →
    members l.set e ≡ (members l.fn.set e && not (is_one_of (exceptions_of (take l.thrown-index l.throws)) e))
