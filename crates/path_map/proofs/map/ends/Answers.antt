use Rattle.common.specs.Answers.{IfRefused}
use Rattle.std.proofs.Common.{◌≡◌, sym, ◌∙◌, subst, map, drop, get_or, length, ◌+◌, ◌<◌, ◌++◌, [], rules}
use Rattle.std.specs.Prelude.{IsTrue}
use Rattle.resolved.specs.WellFormed.{procedure_fits}
use Rattle.path_map.proofs.Fitting.{procedure-fits}
use Rattle.resolved.specs.CoreOf.{program_of}
use Rattle.resolved.specs.ExitFaults.{procedure_faults}
use Rattle.resolved.specs.Labelled.{exit_faults}
use Rattle.resolved.specs.ProgramOf.{procedure_entry}
use Rattle.resolved.proofs.Judged.{faults-apart}
use Rattle.path_map.specs.FirstFault.{IsFirstEndFault}
use Rattle.path_map.specs.Paths.{HaveSameExits, block_paths}
use Rattle.path_map.proofs.Procedures.{WithEnds, beside-begin, beside-first, beside-step, beside-end, beside-clean, next-procedure, last-procedure}
use Rattle.path_map.proofs.Pieces.{ends-found}
use Rattle.path_map.proofs.map.ends.Goals as goal

pub loop-procedure-init : goal.loop-procedure-init
loop-procedure-init c =
    let program = program_of c.args.core.now in
    subst (λ list. WithEnds program (map (procedure_entry c.args.core.now.labels) c.args.core.now.procedures.items) (map (procedure_entry c.args.core.now.labels) list) c.in_ok-table.table)
    (sym c.deref-procedure-items.ensures.value)
    (beside-begin program (map (procedure_entry c.args.core.now.labels) c.args.core.now.procedures.items) c.in_ok-table.table c.in_ok-table.ensures)

pub loop-procedure-preserved : goal.loop-procedure-preserved
loop-procedure-preserved c =
    let program = program_of c.args.core.now in
    let procedure = procedure_entry c.args.core.now.labels c.procedure-item.result in
    let all = map (procedure_entry c.args.core.now.labels) c.args.core.now.procedures.items in
    let tail = map (procedure_entry c.args.core.now.labels) (drop (c.loop-procedure.procedure-index + 1) c.deref-procedure-items.result.now) in
    beside-step program all procedure tail c.loop-procedure.table c.walk_procedure.new.table
    (subst (λ list. WithEnds program all list c.loop-procedure.table)
    (next-procedure (procedure_entry c.args.core.now.labels) c.deref-procedure-items.result.now c.loop-procedure.procedure-index c.procedure-item.result c.loop-procedure-test.true c.procedure-item.is) c.loop-procedure.invariant)
    (subst (λ core. HaveSameExits c.walk_procedure.new.table (c.loop-procedure.table ++ block_paths (program_of core) (procedure_entry core.labels c.procedure-item.result).body)) c.in_ok-walk.ensures c.in_ok-walk_procedure.ensures.found)
    (subst (λ core. procedure_faults (program_of core) (procedure_entry core.labels c.procedure-item.result) ≡ []) c.in_ok-walk.ensures c.in_ok-walk_procedure.ensures.accepted)

pub returns-in_err-walk_procedure-clause-first_fault : goal.returns-in_err-walk_procedure-clause-first_fault
returns-in_err-walk_procedure-clause-first_fault c =
    let program = program_of c.args.core.now in
    let procedure = procedure_entry c.args.core.now.labels c.procedure-item.result in
    let all = map (procedure_entry c.args.core.now.labels) c.args.core.now.procedures.items in
    let tail = map (procedure_entry c.args.core.now.labels) (drop (c.loop-procedure.procedure-index + 1) c.deref-procedure-items.result.now) in
    let first : IfRefused (IsFirstEndFault (exit_faults program)) c.in_err-walk_procedure.field-0.0 =
    subst (λ faults. IfRefused (IsFirstEndFault faults) c.in_err-walk_procedure.field-0.0) (sym (faults-apart program))
    (beside-first program all procedure tail c.loop-procedure.table c.in_err-walk_procedure.field-0.0
    (subst (λ list. WithEnds program all list c.loop-procedure.table)
    (next-procedure (procedure_entry c.args.core.now.labels) c.deref-procedure-items.result.now c.loop-procedure.procedure-index c.procedure-item.result c.loop-procedure-test.true c.procedure-item.is) c.loop-procedure.invariant)
    (subst (λ core. IfRefused (IsFirstEndFault (procedure_faults (program_of core) (procedure_entry core.labels c.procedure-item.result))) c.in_err-walk_procedure.field-0.0) c.in_ok-walk.ensures c.in_err-walk_procedure.ensures.first_fault)) in
    search (rules, first)

pub returns-clause-found : goal.returns-clause-found
returns-clause-found c =
    let program = program_of c.args.core.now in
    let all = map (procedure_entry c.args.core.now.labels) c.args.core.now.procedures.items in
    ends-found program c.loop-procedure.table
    (beside-end program all c.loop-procedure.table
    (subst (λ list. WithEnds program all list c.loop-procedure.table)
    (last-procedure (procedure_entry c.args.core.now.labels) c.deref-procedure-items.result.now c.loop-procedure.procedure-index c.loop-procedure-test.false) c.loop-procedure.invariant))

pub returns-clause-accepted : goal.returns-clause-accepted
returns-clause-accepted c =
    let program = program_of c.args.core.now in
    let all = map (procedure_entry c.args.core.now.labels) c.args.core.now.procedures.items in
    faults-apart program
    ∙ beside-clean program all c.loop-procedure.table
    (subst (λ list. WithEnds program all list c.loop-procedure.table)
    (last-procedure (procedure_entry c.args.core.now.labels) c.deref-procedure-items.result.now c.loop-procedure.procedure-index c.loop-procedure-test.false) c.loop-procedure.invariant)

pub walk_procedure-requires : goal.walk_procedure-requires
walk_procedure-requires c =
    subst (λ core. IsTrue (procedure_fits (program_of core) (procedure_entry core.labels c.procedure-item.result))) (sym c.in_ok-walk.ensures)
    (procedure-fits c.args.core.now c.loop-procedure.procedure-index c.procedure-item.result
    (subst (λ list. c.loop-procedure.procedure-index < length list) c.deref-procedure-items.ensures.value c.loop-procedure-test.true)
    (subst (λ list. c.procedure-item.result ≡ get_or list c.loop-procedure.procedure-index c.procedure-item.result) c.deref-procedure-items.ensures.value c.procedure-item.is))
