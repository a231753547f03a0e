use Rattle.std.proofs.Common.{◌≡◌, map, take}
use Rattle.modules.specs.Machine.{handler_for}
use Rattle.handlers.specs.Targets.{target_in}
use Rattle.handlers.proofs.tables.HandlerTables.of.Given as goal

-- the tables of the procedures so far
abbrev pub invariant-loop-procedure : goal.invariant-loop-procedure
invariant-loop-procedure l = map target_in l.tables ≡ map (λ procedure. handler_for procedure.handlers) (take l.procedure-index l.procedures)
