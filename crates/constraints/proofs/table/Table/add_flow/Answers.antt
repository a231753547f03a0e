use Rattle.std.proofs.Common.{ap}
use Rattle.std.proofs.lemmas.Result.{on_ok_weaker}
use Rattle.gathering.specs.Walk.{flow, inner_constraint}
use Rattle.constraints.proofs.Added.{added-same, left-same}
use Rattle.constraints.proofs.table.Table.add_flow.Goals as goal

pub returns-in_ok-from_slice-in-Some : goal.returns-in_ok-from_slice-in-Some
returns-in_ok-from_slice-in-Some c =
    let core = c.args.self.now.core.now in
    let table = c.args.self.now.core.now.labels in
    on_ok_weaker c.add_inner.result
    (λ added. λ atoms left. added-same core table (flow atoms c.args.exit_unknown) (inner_constraint atoms c.in-Some.number) _ _ (ap (flow atoms) c.in-Some.is)
    (added atoms (left-same core table atoms c.args.left.now c.in_ok-from_slice-in-Some.field-0.items c.in_ok-from_slice-in-Some.ensures.ok left)))
    c.add_inner.ensures
