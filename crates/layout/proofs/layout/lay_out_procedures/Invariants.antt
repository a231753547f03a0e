use Rattle.std.proofs.Common.{◌≡◌, map, take}
use Rattle.layout.specs.Offsets.{laid_out_procedure}
use Rattle.layout.proofs.layout.lay_out_procedures.Given as goal

-- the procedures so far
abbrev pub invariant-loop-procedure : goal.invariant-loop-procedure
invariant-loop-procedure l = l.made.items ≡ map laid_out_procedure (take l.procedure-index l.procedures)
