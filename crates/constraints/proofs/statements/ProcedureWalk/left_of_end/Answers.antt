use Rattle.std.proofs.lemmas.Result.{IfOk-weaker}
use Rattle.std.proofs.Common.{◌≡◌, sym, ◌∙◌, true}
use Rattle.resolved.specs.CoreOf.{program_of}
use Rattle.resolved.specs.Labelled.{any_of}
use Rattle.resolved.specs.Program.{procedure_at}
use Rattle.constraints.proofs.statements.ProcedureWalk.left_of_end.Goals as goal

pub returns-then-throws_any : goal.returns-then-throws_any
returns-then-throws_any c =
    let throws : any_of (procedure_at (program_of c.args.self.now.table.now.core.now) c.args.callee).throws ≡ true = sym c.throws_any.ensures ∙ c.if-throws_any.true in
    IfOk-weaker c.left_of_label.result _ _ (λ left from. λ named stands. rw throws (from named stands)) c.left_of_label.ensures
