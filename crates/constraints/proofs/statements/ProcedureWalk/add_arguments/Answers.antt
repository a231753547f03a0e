use Rattle.std.proofs.Common.{◌∷◌, refl}
use Rattle.resolved.specs.Labelled.{value_label}
use Rattle.resolved.specs.TreeOf.{expression_of}
use Rattle.gathering.specs.Names.{named_atoms}
use Rattle.gathering.specs.Walk.{inner_atom}
use Rattle.constraints.specs.LeftSides.{scope_of}
use Rattle.constraints.proofs.Called.{argument-next}
use Rattle.constraints.proofs.statements.ProcedureWalk.add_arguments.Goals as goal

pub loop-parameter-preserved : goal.loop-parameter-preserved
loop-parameter-preserved c = λ k stands.
    let core = c.args.self.now.table.now.core.now in
    let table = c.args.self.now.table.now.core.now.labels in
    let procedure = c.args.self.now.procedure in
    let scope = scope_of core procedure in
    argument-next core table procedure c.args.at k c.args.callee c.loop-parameter.parameter c.args.arguments.now c.loop-parameter.parameter c.index-arguments-parameter.result _ _ _
    c.loop-parameter-test.true c.index-arguments-parameter.is refl (c.loop-parameter.invariant k stands)
    (c.in_ok-add_rule.ensures procedure (inner_atom k ∷ named_atoms (value_label scope (expression_of c.index-arguments-parameter.result))) (c.in_ok-left.ensures (inner_atom k) stands))
