use Rattle.std.proofs.Common.{◌≡◌, drop}
use Rattle.modules.specs.Machine.{handler_for}
use Rattle.handlers.proofs.tables.first_target.Given as goal

-- the handlers so far do not take the exception
abbrev pub invariant-loop-handler : goal.invariant-loop-handler
invariant-loop-handler l = handler_for l.handlers l.offset l.exception ≡ handler_for (drop l.handler-index l.handlers) l.offset l.exception
