use Rattle.std.proofs.Common.{◌+◌, ◌<◌, ◌^◌, ◌∙◌, List, All, ap, get_or, length, map, subst, sym}
use Rattle.resolved.specs.declared.tables.Procedure.{Procedure}
use Rattle.resolved.specs.CoreOf.{program_of}
use Rattle.resolved.specs.ProgramOf.{procedure_entry}
use Rattle.resolved.specs.Program.{ProcedureEntry}
use Rattle.lowering.specs.Code.{block_size}
use Rattle.lowering.specs.Graphs.{procedure_contents}
use Rattle.lowering.proofs.Lists.{made_more, mapped_holds}
use Rattle.lowering.proofs.Room.{bodies-short}
use Rattle.lowering.proofs.procedures.procedures_of.Goals as goal

pub procedure_of-requires : goal.procedure_of-requires
procedure_of-requires c =
    mapped_holds (procedure_entry c.args.core.now.labels) (λ (p : ProcedureEntry). block_size (program_of c.args.core.now) p.body + 1 < 2 ^ 32) c.deref-procedure-items.result.now
    c.loop-procedure.procedure-index c.procedure-item.result c.loop-procedure-test.true c.procedure-item.is
    (subst (λ (ps : List Procedure). All (λ (p : ProcedureEntry). block_size (program_of c.args.core.now) p.body + 1 < 2 ^ 32) (map (procedure_entry c.args.core.now.labels) ps))
    (sym c.deref-procedure-items.ensures.value) (bodies-short (program_of c.args.core.now) c.args.core.now.well_formed))

pub loop-procedure-preserved : goal.loop-procedure-preserved
loop-procedure-preserved c =
    made_more (procedure_entry c.args.core.now.labels) (procedure_contents (program_of c.args.core.now)) c.args.core.now.procedures.items
    c.loop-procedure.made.items c.push.new.self.items c.loop-procedure.procedure-index c.procedure-item.result c.in_ok-procedure_of.field-0
    (subst (λ (ps : List Procedure). c.loop-procedure.procedure-index < length ps) c.deref-procedure-items.ensures.value c.loop-procedure-test.true)
    (c.procedure-item.is ∙ ap (λ (ps : List Procedure). get_or ps c.loop-procedure.procedure-index c.procedure-item.result) c.deref-procedure-items.ensures.value)
    c.in_ok-push.ensures.items c.loop-procedure.invariant c.in_ok-procedure_of.ensures
