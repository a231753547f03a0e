use Rattle.std.proofs.Common.{◌≡◌, drop}
use Rattle.verifier.specs.Fixed.{handler_refusals}
use Rattle.verifier.proofs.fixed.find_handler_refusal.Given as goal

-- what is left to look at
abbrev pub invariant-loop-handler : goal.invariant-loop-handler
invariant-loop-handler l =
    handler_refusals l.body.program.now l.procedure l.body.procedure.now (drop l.handler-index l.handlers) ≡ handler_refusals l.body.program.now l.procedure l.body.procedure.now l.handlers
