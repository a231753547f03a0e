use Rattle.labels.specs.Carried.{number_by_name}
use Rattle.labels.proofs.Carried.{names-keep}
use Rattle.isolation.proofs.Laws.{isolated-carried}
use Rattle.isolation.proofs.noninterference.labelled_programs_stay_isolated.Goals as goal

pub returns-clause-renumbered : goal.returns-clause-renumbered
returns-clause-renumbered c = isolated-carried

pub returns-clause-by_name : goal.returns-clause-by_name
returns-clause-by_name c program faults labelled is_own larger is_larger contains =
    isolated-carried program larger (number_by_name program.hierarchy larger) faults labelled (names-keep program.hierarchy larger is_own is_larger contains)
