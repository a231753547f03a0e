use Rattle.labels.specs.Carried.{number_by_name}
use Rattle.labels.proofs.Carried.{carried-flow, names-keep}
use Rattle.labels.proofs.laws.flows_are_kept.Goals as goal

pub returns-clause-renumbered : goal.returns-clause-renumbered
returns-clause-renumbered c = carried-flow

pub returns-clause-names : goal.returns-clause-names
returns-clause-names c = names-keep

pub returns-clause-by_name : goal.returns-clause-by_name
returns-clause-by_name c smaller larger is_smaller is_larger contains =
    carried-flow smaller larger (number_by_name smaller larger) (names-keep smaller larger is_smaller is_larger contains)
