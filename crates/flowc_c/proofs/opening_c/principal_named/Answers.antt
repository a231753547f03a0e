use Rattle.std.proofs.Common.{◌<◌, ◌≤◌, length, arith}
use Rattle.std.proofs.lemmas.Option.{slice_get_within}
use Rattle.flowc_c.proofs.opening_c.principal_named.Goals as goal

pub returns-in-Some-clause-none : goal.returns-in-Some-clause-none
returns-in-Some-clause-none c = λ says.
    let few : length c.hierarchy-hierarchy.result.now.names ≤ 256 = c.count-count.ensures.kept.few in
    let within : c.in-Some.number < length c.hierarchy-hierarchy.result.now.names =
    slice_get_within c.hierarchy-hierarchy.result.now.names c.in-Some.number c.in-Ok.name.now ((c.find.ensures.number c.in-Some.number).0 c.in-Some.is) in
    absurd (omega (arith, says, few, within))

pub returns-in-Some-clause-memory : goal.returns-in-Some-clause-memory
returns-in-Some-clause-memory c = λ says.
    let few : length c.hierarchy-hierarchy.result.now.names ≤ 256 = c.count-count.ensures.kept.few in
    let within : c.in-Some.number < length c.hierarchy-hierarchy.result.now.names =
    slice_get_within c.hierarchy-hierarchy.result.now.names c.in-Some.number c.in-Ok.name.now ((c.find.ensures.number c.in-Some.number).0 c.in-Some.is) in
    omega (arith, says, few, within)
