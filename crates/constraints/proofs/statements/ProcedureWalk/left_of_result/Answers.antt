use Rattle.resolved.specs.CoreOf.{program_of}
use Rattle.resolved.specs.Labelled.{label_of, one}
use Rattle.resolved.specs.declared.statement.Exit.TheVariants.{Normal}
use Rattle.resolved.specs.declared.target.Target.TheVariants.{ToValue}
use Rattle.gathering.specs.Walk.{call_atoms}
use Rattle.constraints.proofs.Called.{left-then}
use Rattle.constraints.proofs.statements.ProcedureWalk.left_of_result.Goals as goal

pub returns : goal.returns
returns c = λ named stands.
    let core = c.args.self.now.table.now.core.now in
    let table = c.args.self.now.table.now.core.now.labels in
    let procedure = c.args.self.now.procedure in
    left-then core table c.args.own (call_atoms (program_of core) c.args.callee Normal) (one (label_of (program_of core) (ToValue c.args.callee))) _ _
    c.in_ok-left.ensures c.in_ok-add_label.ensures named stands
