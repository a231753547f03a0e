use Rattle.std.proofs.Common.{arith, ◌≡◌, ◌<◌, ◌≤◌, length, get_or, refl, subst}
use Rattle.resolved.specs.declared.tables.Procedure.{Procedure}
use Rattle.resolved.specs.CoreOf.{program_of}
use Rattle.path_map.specs.Paths.{program_paths}
use Rattle.path_map.proofs.Alike.{alike-exits}
use Rattle.path_map.proofs.Pieces.{paths-found}
use Rattle.constraints.specs.Ready.{entries_of}
use Rattle.constraints.proofs.Bodies.{exceptions-numbered, next-ready, passed-added, passed-next, passed-none, passed-number, procedures-numbered}
use Rattle.constraints.proofs.procedures.walk_procedures.Goals as goal

pub loop-i-init : goal.loop-i-init
loop-i-init c =
    passed-none c.args.table.now.core.now c.args.table.now.core.now.labels (entries_of c.args.ends.now) _ _ (alike-exits c.args.ends.now (program_paths (program_of c.args.table.now.core.now)) (paths-found (program_of c.args.table.now.core.now) c.args.ends.now c.requires.mapped)) refl c.args.table.now.count c.in_ok-with_capacity.ensures.items
    (c.in_ok-vec.ensures.items_if_clones_equal (λ y e. e))
    (omega (arith, c.len.ensures, c.args.table.now.core.now.exceptions.ok.0))
    c.in_ok-new.ensures.calls c.in_ok-new.ensures.moments c.in_ok-new.ensures.count

pub loop-i-preserved : goal.loop-i-preserved
loop-i-preserved c =
    let core = c.args.table.now.core.now in
    let table = c.args.table.now.core.now.labels in
    let entries = (entries_of c.args.ends.now) in
    let i = c.loop-i.i in
    let procedure : Procedure = c.procedure-item.result in
    passed-next core table entries i procedure c.loop-i.progress c.add_procedure.new.progress
    (subst (λ list. i < length list) c.deref-procedure-items.ensures.value c.loop-i-test.true)
    (subst (λ list. procedure ≡ get_or list i procedure) c.deref-procedure-items.ensures.value c.procedure-item.is)
    c.in_ok-add_procedure.ensures c.loop-i.invariant

pub returns-clause-added : goal.returns-clause-added
returns-clause-added c =
    passed-added c.args.table.now.core.now c.args.table.now.core.now.labels (entries_of c.args.ends.now) c.loop-i.i c.loop-i.progress
    (subst (λ list. length list ≤ c.loop-i.i) c.deref-procedure-items.ensures.value c.loop-i-test.false) c.loop-i.invariant

pub returns-clause-number : goal.returns-clause-number
returns-clause-number c =
    passed-number c.args.table.now.core.now c.args.table.now.core.now.labels (entries_of c.args.ends.now) c.loop-i.i c.loop-i.progress
    (subst (λ list. length list ≤ c.loop-i.i) c.deref-procedure-items.ensures.value c.loop-i-test.false) c.loop-i.invariant

pub add_procedure-requires : goal.add_procedure-requires
add_procedure-requires c =
    let core = c.args.table.now.core.now in
    let entries = (entries_of c.args.ends.now) in
    let i = c.loop-i.i in
    let procedure : Procedure = c.procedure-item.result in
    next-ready core c.args.table.now.core.now.labels entries i procedure c.loop-i.progress
    (subst (λ list. i < length list) c.deref-procedure-items.ensures.value c.loop-i-test.true)
    (subst (λ list. procedure ≡ get_or list i procedure) c.deref-procedure-items.ensures.value c.procedure-item.is)
    c.loop-i.invariant

pub overflow_add-exceptions : goal.overflow_add-exceptions
overflow_add-exceptions c =
    let few = exceptions-numbered c.args.table.now.core.now in
    omega (arith, few, c.len.ensures, c.args.table.now.core.now.exceptions.ok.0)

pub overflow_cast-number : goal.overflow_cast-number
overflow_cast-number c =
    let few = procedures-numbered c.args.table.now.core.now in
    let inside = subst (λ list. c.loop-i.i < length list) c.deref-procedure-items.ensures.value c.loop-i-test.true in
    omega (arith, few, inside)
