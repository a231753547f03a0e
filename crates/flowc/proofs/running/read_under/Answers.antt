use Rattle.std.proofs.Common.{ap, option_map}
use Rattle.flowc.specs.Given.{text_of}
use Rattle.flowc.proofs.Reporting.{named_message}
use Rattle.flowc.proofs.running.read_under.Goals as goal

pub returns-in_err-read_larger-in-Some-clause-message :
    goal.returns-in_err-read_larger-in-Some-clause-message
returns-in_err-read_larger-in-Some-clause-message c =
    named_message c.from_residual.result c.args.program.now (text_of c.in-Some.file) _ _ (ap (option_map text_of) c.in-Some.is)
    c.from_residual.ensures.1 c.in_err-read_larger-in-Some.ensures.message
