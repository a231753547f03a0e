use Rattle.std.proofs.Common.{ap, sym, ◌∙◌, slice_get}
use Rattle.verifier.specs.Fixed.{handler_refusals}
use Rattle.verifier.proofs.FixedRefusals.{handlers_on, first_handler}
use Rattle.verifier.proofs.fixed.find_handler_refusal.Goals as goal

pub returns-in-Some : goal.returns-in-Some
returns-in-Some c =
    sym (ap (λ refusals. slice_get refusals 0) (sym (ap (handler_refusals c.args.body.now.program.now c.args.procedure c.args.body.now.procedure.now) c.handlers-handlers.ensures) ∙ sym c.loop-handler.invariant)
    ∙ first_handler c.args.body.now.program.now c.args.procedure c.args.body.now.procedure.now c.handlers-handlers.result.now c.loop-handler.handler-index (record { start = 0; end = 0; exception = 0; target = 0 }) c.in-Some.kind c.loop-handler-test.true (sym c.check_handler.ensures ∙ c.in-Some.is))

pub loop-handler-preserved : goal.loop-handler-preserved
loop-handler-preserved c =
    sym (handlers_on c.args.body.now.program.now c.args.procedure c.args.body.now.procedure.now c.handlers-handlers.result.now c.loop-handler.handler-index (record { start = 0; end = 0; exception = 0; target = 0 }) c.loop-handler-test.true (sym c.check_handler.ensures ∙ c.in_default.is))
    ∙ c.loop-handler.invariant
