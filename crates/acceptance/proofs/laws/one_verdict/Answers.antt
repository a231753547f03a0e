use Rattle.acceptance.proofs.Phases.{has_verdict, has_one_verdict}
use Rattle.acceptance.proofs.laws.one_verdict.Goals as goal

pub returns-clause-some : goal.returns-clause-some
returns-clause-some c =
    let laws = c.one_reading.ensures in
    has_verdict (record { read_or_refused = laws.read_or_refused; one_hierarchy = laws.one_hierarchy; not_both = laws.not_both; one_refusal = laws.one_refusal })

pub returns-clause-one : goal.returns-clause-one
returns-clause-one c =
    let laws = c.one_reading.ensures in
    has_one_verdict (record { read_or_refused = laws.read_or_refused; one_hierarchy = laws.one_hierarchy; not_both = laws.not_both; one_refusal = laws.one_refusal })
