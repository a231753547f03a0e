use Rattle.std.proofs.Common.{[], ◌∷◌, ap}
use Rattle.std.proofs.lemmas.Result.{on_ok_weaker}
use Rattle.gathering.specs.Walk.{flow, inner_constraint}
use Rattle.constraints.proofs.Added.{added-same, alone-left}
use Rattle.constraints.proofs.table.Table.add_pc_flow.Goals as goal

pub returns-in_ok-left_of_pc-in-Some : goal.returns-in_ok-left_of_pc-in-Some
returns-in_ok-left_of_pc-in-Some c =
    let core = c.args.self.now.core.now in
    let table = c.args.self.now.core.now.labels in
    on_ok_weaker c.add_inner.result
    (λ added. λ named stands. added-same core table (flow (named ∷ []) c.args.exit_unknown) (inner_constraint (named ∷ []) c.in-Some.number) _ _ (ap (flow (named ∷ [])) c.in-Some.is)
    (added (named ∷ []) (alone-left core table named c.args.pc c.in_ok-left_of_pc-in-Some.field-0.items c.in_ok-left_of_pc-in-Some.ensures stands)))
    c.add_inner.ensures
