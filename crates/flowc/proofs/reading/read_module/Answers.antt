use Rattle.flowc.proofs.Reporting.{refused_module}
use Rattle.flowc.proofs.reading.read_module.Goals as goal

pub returns-in_ok-module_line-in-Err-Refused-clause-message : goal.returns-in_ok-module_line-in-Err-Refused-clause-message
returns-in_ok-module_line-in-Err-Refused-clause-message c =
    refused_module _ _ _ _ _ c.in-Err-Refused.field-0-is c.in-Err-Refused.ensures.rejected c.in_ok-module_line-in-Err-Refused.ensures
