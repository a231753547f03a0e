use Rattle.std.proofs.Common.{ap, not, length, rules, ◌≡◌, ◌==◌, ◌∙◌}
use Rattle.std.specs.Vec.{vec_len}
use Rattle.resolved.specs.Program.{ThrownEntry, procedure_at}
use Rattle.constraints.specs.ByTable.{program_in}
use Rattle.constraints.specs.declared.rows.ThrownLabel.{ThrownLabel}
use Rattle.constraints.proofs.Joined.{any-mapped}
use Rattle.constraints.proofs.statements.ProcedureWalk.throws_any.Goals as goal

pub returns : goal.returns
returns c =
    let throws = c.row.result.now.throws in
    let counts : vec_len throws ≡ length throws.items = search rules in
    ap not c.is_empty.ensures
    ∙ ap (λ n. not (n == 0)) counts
    ∙ any-mapped (λ (thrown : ThrownLabel). thrown.exception) (λ (entry : ThrownEntry). entry.exception) throws.items
    (procedure_at (program_in c.args.self.now.table.now) c.args.callee).throws c.row.ensures.exceptions_are
