use Rattle.std.proofs.Common.{◌≡◌, rules}
use Rattle.flowc.proofs.Reporting.{wrong_line}
use Rattle.flowc.proofs.reading.read_world.Goals as goal

pub returns-in_ok-world_line-in-Err-Refused-clause-message :
    goal.returns-in_ok-world_line-in-Err-Refused-clause-message
returns-in_ok-world_line-in-Err-Refused-clause-message c =
    let same : c.in-Ok.text.now ≡ c.args.file.bytes.now = search rules in
    wrong_line c.args.program.now _ c.in-Ok.text.now c.args.file.bytes.now _ _ _ c.in-Err-Refused.field-0-is c.in-Err-Refused.ensures.first_fault same (search rules)
    c.in_ok-world_line-in-Err-Refused.ensures
