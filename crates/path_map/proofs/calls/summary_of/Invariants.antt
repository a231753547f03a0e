use Rattle.std.proofs.Common.{◌≡◌, take}
use Rattle.path_map.specs.Exceptions.{exceptions_of}
use Rattle.path_map.specs.Exits.{raised_by}
use Rattle.path_map.proofs.calls.summary_of.Given as goal

abbrev pub invariant-loop-thrown : goal.invariant-loop-thrown
invariant-loop-thrown l = l.summary ≡ raised_by (exceptions_of (take l.thrown-index l.throws))
