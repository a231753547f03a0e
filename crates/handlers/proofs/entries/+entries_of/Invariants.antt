use Rattle.std.proofs.Common.{length}
use Rattle.handlers.proofs.entries.+entries_of.Given as goal

abbrev pub decreases-entries_of : goal.decreases-entries_of
decreases-entries_of l = length l.handlers.now
