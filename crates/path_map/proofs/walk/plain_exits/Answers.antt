use Rattle.std.proofs.Common.{refl, ap, ◌++◌, []}
use Rattle.std.proofs.lemmas.Option.{IfSome_then}
use Rattle.resolved.specs.CoreOf.{program_of}
use Rattle.resolved.specs.Exits.{index_raises, raises}
use Rattle.resolved.specs.Tree as T
use Rattle.resolved.specs.TreeOf.{expression_of, statement_of}
use Rattle.path_map.proofs.Forms.{found-at, faults-at}
use Rattle.path_map.proofs.walk.plain_exits.Goals as goal

pub returns-in-Assign-clause-found : goal.returns-in-Assign-clause-found
returns-in-Assign-clause-found c =
    let value = expression_of c.in-Assign.value in
    IfSome_then c.going_on.result c.going_on.ensures (λ exits found core entries had.
    found-at (program_of core) c.args.statement.now (T.Placed c.in-Assign.field-0 (T.Assign c.in-Assign.field-1 value)) (ap statement_of c.in-Assign.is)
    entries entries had had exits (found (raises value) had c.raises_of.ensures entries))

pub returns-in-Assign-clause-accepted : goal.returns-in-Assign-clause-accepted
returns-in-Assign-clause-accepted c =
    IfSome_then c.going_on.result c.going_on.ensures (λ exits found core in_loop.
    faults-at (program_of core) c.args.statement.now (T.Placed c.in-Assign.field-0 (T.Assign c.in-Assign.field-1 (expression_of c.in-Assign.value))) (ap statement_of c.in-Assign.is) in_loop refl)

pub returns-in-Clear-clause-found : goal.returns-in-Clear-clause-found
returns-in-Clear-clause-found c =
    IfSome_then c.going_on-in-Clear.result c.going_on-in-Clear.ensures (λ exits found core entries had.
    found-at (program_of core) c.args.statement.now (T.Placed c.in-Clear.field-0 (T.Clear c.in-Clear.field-1)) (ap statement_of c.in-Clear.is)
    entries entries had had exits (found [] had (λ e. refl) entries))

pub returns-in-Clear-clause-accepted : goal.returns-in-Clear-clause-accepted
returns-in-Clear-clause-accepted c =
    IfSome_then c.going_on-in-Clear.result c.going_on-in-Clear.ensures (λ exits found core in_loop.
    faults-at (program_of core) c.args.statement.now (T.Placed c.in-Clear.field-0 (T.Clear c.in-Clear.field-1)) (ap statement_of c.in-Clear.is) in_loop refl)

pub returns-in-Store-clause-found : goal.returns-in-Store-clause-found
returns-in-Store-clause-found c =
    let index = expression_of c.in-Store.index in
    let value = expression_of c.in-Store.value in
    IfSome_then c.going_on-in-Store.result c.going_on-in-Store.ensures (λ exits found core entries had.
    found-at (program_of core) c.args.statement.now (T.Placed c.in-Store.field-0 (T.Store c.in-Store.field-1 c.in-Store.length index value)) (ap statement_of c.in-Store.is)
    entries entries had had exits (found (raises index ++ raises value ++ index_raises index c.in-Store.length) had c.raises_of_store.ensures entries))

pub returns-in-Store-clause-accepted : goal.returns-in-Store-clause-accepted
returns-in-Store-clause-accepted c =
    IfSome_then c.going_on-in-Store.result c.going_on-in-Store.ensures (λ exits found core in_loop.
    faults-at (program_of core) c.args.statement.now (T.Placed c.in-Store.field-0 (T.Store c.in-Store.field-1 c.in-Store.length (expression_of c.in-Store.index) (expression_of c.in-Store.value)))
    (ap statement_of c.in-Store.is) in_loop refl)

pub returns-in-Send-clause-found : goal.returns-in-Send-clause-found
returns-in-Send-clause-found c =
    let value = expression_of c.in-Send.value in
    IfSome_then c.going_on-in-Send.result c.going_on-in-Send.ensures (λ exits found core entries had.
    found-at (program_of core) c.args.statement.now (T.Placed c.in-Send.field-0 (T.Send c.in-Send.field-1 value)) (ap statement_of c.in-Send.is)
    entries entries had had exits (found (raises value) had c.raises_of-in-Send.ensures entries))

pub returns-in-Send-clause-accepted : goal.returns-in-Send-clause-accepted
returns-in-Send-clause-accepted c =
    IfSome_then c.going_on-in-Send.result c.going_on-in-Send.ensures (λ exits found core in_loop.
    faults-at (program_of core) c.args.statement.now (T.Placed c.in-Send.field-0 (T.Send c.in-Send.field-1 (expression_of c.in-Send.value))) (ap statement_of c.in-Send.is) in_loop refl)
