use Rattle.std.proofs.Common.{◌≡◌, map, take}
use Rattle.std.specs.Prelude.{slice_index_or}
use Rattle.resolved.specs.declared.statement.Handler.{Handler}
use Rattle.constraints.specs.ExitUnknowns.{no_entry}
use Rattle.constraints.proofs.exit_unknowns.numbers_of.Given as goal

abbrev pub invariant-loop-handler : goal.invariant-loop-handler
invariant-loop-handler l =
    l.numbers.items ≡ map (λ (handler : Handler). (slice_index_or l.thrown handler.exception no_entry).number) (take l.handler-index l.handlers)
