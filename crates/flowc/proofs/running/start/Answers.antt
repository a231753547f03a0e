use Rattle.channels.specs.WorldText.{lines_of}
use Rattle.flowc.specs.Given.{text_of}
use Rattle.flowc.proofs.Refusals.{named_world, unknown_channel}
use Rattle.flowc.proofs.Reporting.{module_message, world_message}
use Rattle.flowc.proofs.running.start.Goals as goal

pub unreachable-requires : goal.unreachable-requires
unreachable-requires c =
    let named = named_world c.in_ok-verified.verified c.module.result.now c.in_ok-numbers.numbers (lines_of c.args.world.bytes.now) c.module.ensures.value c.in_ok-numbers.ensures.exact in
    c.in-Err-Refused-UnknownChannel.ensures.unknown.0 (unknown_channel _ _ c.in-Err-Refused-UnknownChannel.field-0-is) named

pub returns-in_err-verified-clause-message : goal.returns-in_err-verified-clause-message
returns-in_err-verified-clause-message c =
    module_message c.from_residual.result (text_of c.args.code) (text_of c.args.world) _ c.from_residual.ensures.1 c.in_err-verified.ensures.message

pub returns-in_err-numbers-clause-message : goal.returns-in_err-numbers-clause-message
returns-in_err-numbers-clause-message c =
    world_message c.from_residual-in_err-numbers.result c.in_ok-verified.verified c.module.result.now (text_of c.args.code) (text_of c.args.world) _
    c.in_ok-verified.ensures.accepted.spelled c.in_ok-verified.ensures.accepted.not_refused c.module.ensures.value
    c.from_residual-in_err-numbers.ensures.1 c.in_err-numbers.ensures.message
