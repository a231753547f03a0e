use Rattle.types.proofs.Frames.{Counts}
use Rattle.types.proofs.cells.fits.Given as goal

abbrev pub invariant-loop-slot : goal.invariant-loop-slot
invariant-loop-slot l = Counts l.slots l.cells l.slot-index
