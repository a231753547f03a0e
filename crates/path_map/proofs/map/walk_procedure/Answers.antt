use Rattle.common.specs.Answers.{IfRefused}
use Rattle.std.proofs.lemmas.Result.{err_from_is_err_and}
use Rattle.std.proofs.Common.{ap, sym, ◌∙◌, subst, ◌++◌, not, false}
use Rattle.resolved.specs.CoreOf.{program_of}
use Rattle.resolved.specs.TreeOf.{block_of}
use Rattle.resolved.specs.ExitFaults.{procedure_faults}
use Rattle.resolved.specs.ProgramOf.{procedure_entry}
use Rattle.path_map.specs.FirstFault.{IsFirstEndFault}
use Rattle.path_map.specs.Paths.{HaveSameExits, block_paths}
use Rattle.path_map.specs.Walks.{faults_of_block}
use Rattle.path_map.specs.Sets.{members}
use Rattle.path_map.proofs.Procedures.{walked, all-may-end, body-first, no-value-first, some-value, undeclared-first, no-faults}
use Rattle.path_map.proofs.Fitting.{lent-body-fits}
use Rattle.path_map.proofs.map.walk_procedure.Goals as goal

pub returns-clause-found : goal.returns-clause-found
returns-clause-found c =
    subst (λ list. HaveSameExits c.walk_block.new.table (c.args.table.now ++ block_paths (program_of c.args.walk.now.core.now) (block_of list))) c.deref.ensures.value
    c.in_ok-exits.ensures.found.entries

pub returns-clause-accepted : goal.returns-clause-accepted
returns-clause-accepted c =
    let piece = walked c.args.walk.now.core.now.labels (program_of c.args.walk.now.core.now) c.args.procedure.now c.deref.result.now c.args.table.now c.walk_block.new.table
    (members c.new-raised.result) (members c.walk_block.new.raised) c.in_ok-exits.exits c.deref.ensures.value c.new-raised.ensures.empty c.in_ok-exits.ensures.found c.in_ok-exits.ensures.accepted in
    no-faults (program_of c.args.walk.now.core.now) (procedure_entry c.args.walk.now.core.now.labels c.args.procedure.now) piece.clean
    (piece.value ∙ (some-value c.args.walk.now.core.now.labels c.args.procedure.now.result c.in_ok-exits.exits.normal ∙ sym c.lacks_value.ensures ∙ c.if-lacks_value.false))
    (all-may-end c.args.walk.now.core.now.labels (program_of c.args.walk.now.core.now) c.args.procedure.now c.deref-2.result.now (members c.walk_block.new.raised) c.in_ok-exits.exits c.are_declared-declared.result
    c.deref-2.ensures.value piece c.are_declared-declared.ensures ∙ ap not (sym c.lets_out.ensures ∙ c.if-lets_out.false))

pub returns-then-lacks_value-clause-first_fault : goal.returns-then-lacks_value-clause-first_fault
returns-then-lacks_value-clause-first_fault c =
    let piece = walked c.args.walk.now.core.now.labels (program_of c.args.walk.now.core.now) c.args.procedure.now c.deref.result.now c.args.table.now c.walk_block.new.table
    (members c.new-raised.result) (members c.walk_block.new.raised) c.in_ok-exits.exits c.deref.ensures.value c.new-raised.ensures.empty c.in_ok-exits.ensures.found c.in_ok-exits.ensures.accepted in
    subst (λ fault. IfRefused (IsFirstEndFault (procedure_faults (program_of c.args.walk.now.core.now) (procedure_entry c.args.walk.now.core.now.labels c.args.procedure.now))) fault) (sym c.refuse.ensures)
    (no-value-first (program_of c.args.walk.now.core.now) (procedure_entry c.args.walk.now.core.now.labels c.args.procedure.now) piece.clean
    (piece.value ∙ (some-value c.args.walk.now.core.now.labels c.args.procedure.now.result c.in_ok-exits.exits.normal ∙ sym c.lacks_value.ensures ∙ c.if-lacks_value.true)))

pub returns-then-lets_out-clause-first_fault : goal.returns-then-lets_out-clause-first_fault
returns-then-lets_out-clause-first_fault c =
    let piece = walked c.args.walk.now.core.now.labels (program_of c.args.walk.now.core.now) c.args.procedure.now c.deref.result.now c.args.table.now c.walk_block.new.table
    (members c.new-raised.result) (members c.walk_block.new.raised) c.in_ok-exits.exits c.deref.ensures.value c.new-raised.ensures.empty c.in_ok-exits.ensures.found c.in_ok-exits.ensures.accepted in
    subst (λ fault. IfRefused (IsFirstEndFault (procedure_faults (program_of c.args.walk.now.core.now) (procedure_entry c.args.walk.now.core.now.labels c.args.procedure.now))) fault) (sym c.refuse-then-lets_out.ensures)
    (undeclared-first (program_of c.args.walk.now.core.now) (procedure_entry c.args.walk.now.core.now.labels c.args.procedure.now) piece.clean
    (piece.value ∙ (some-value c.args.walk.now.core.now.labels c.args.procedure.now.result c.in_ok-exits.exits.normal ∙ sym c.lacks_value.ensures ∙ c.if-lacks_value.false))
    (all-may-end c.args.walk.now.core.now.labels (program_of c.args.walk.now.core.now) c.args.procedure.now c.deref-2.result.now (members c.walk_block.new.raised) c.in_ok-exits.exits c.are_declared-declared.result
    c.deref-2.ensures.value piece c.are_declared-declared.ensures ∙ ap not (sym c.lets_out.ensures ∙ c.if-lets_out.true)))

pub walk_block-requires-clause-fits : goal.walk_block-requires-clause-fits
walk_block-requires-clause-fits c =
    lent-body-fits c.args.walk.now.core.now c.args.procedure.now c.deref.result.now c.deref.ensures.value c.requires

pub returns-in_err-exits-clause-first_fault : goal.returns-in_err-exits-clause-first_fault
returns-in_err-exits-clause-first_fault c =
    let core = c.args.walk.now.core.now in
    let fault = c.in_err-exits.field-0.0 in
    let given = err_from_is_err_and c.from_residual.result c.from_residual.ensures.1 in
    rw (given.1, given.2)
    (body-first (program_of core) (procedure_entry core.labels c.args.procedure.now) fault
    (subst (λ list. IfRefused (IsFirstEndFault (faults_of_block core false list)) fault) c.deref.ensures.value c.in_err-exits.ensures.first_fault))
