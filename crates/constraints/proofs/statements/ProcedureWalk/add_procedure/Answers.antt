use Rattle.std.proofs.Common.{◌++◌, ◌+◌, ap, arith, length, map, ◌∙◌, refl, sym}
use Rattle.resolved.specs.CoreOf.{program_of}
use Rattle.resolved.specs.Exits.{block_exits}
use Rattle.resolved.specs.Labelled.{here}
use Rattle.path_map.specs.Exits.{exits_of}
use Rattle.path_map.specs.Paths.{rest_paths}
use Rattle.constraints.specs.Ready.{entries_of}
use Rattle.constraints.specs.declared.progress.Progress.{Progress}
use Rattle.constraints.specs.LeftSides.{scope_of}
use Rattle.constraints.proofs.Bodies.{body-ready, procedure-passed, procedure-room, throws-inside}
use Rattle.constraints.proofs.statements.ProcedureWalk.add_procedure.Goals as goal

pub returns : goal.returns
returns c = λ is left goes within.
    let walk = c.args.self.now in
    let core = walk.table.now.core.now in
    let program = program_of core in
    let body = (here (scope_of core walk.procedure)).body in
    let middle : Progress = record c.args.progress.now { number = (c.args.progress.now.number + 1) + c.len.result; thrown = c.take_declared.new.thrown; journal = c.note_exceptions.new.self } in
    procedure-passed core walk.table.now.core.now.labels (entries_of walk.map.now) walk.procedure c.args.barrier (c.args.barrier + 1) (c.args.progress.now.number + 1) c.len.result
    c.args.procedure.now c.deref.result.now c.deref-2.result.now c.deref-3.result.now c.deref-4.result.now c.part-begin.result c.end_exit_unknowns-exit_unknowns.result c.is_single_of_procedure-only.result left c.args.progress.now middle c.walk_block.new.progress c.add_exit_demands.new.progress
    is goes within refl refl (c.len.ensures ∙ c.args.procedure.now.throws.ok.0) c.deref.ensures.value c.deref-4.ensures.value
    (c.is_single_of_procedure-only.ensures (block_exits program body) (c.exits_at.ensures (exits_of (block_exits program body)) (map exits_of (rest_paths program body) ++ left) goes))
    c.end_exit_unknowns-exit_unknowns.ensures c.part-begin.ensures refl refl refl c.in_ok-note_exceptions.ensures.calls c.in_ok-note_exceptions.ensures.moments c.in_ok-note_exceptions.ensures.count
    c.deref-3.ensures.value (c.deref-2.ensures.value ∙ sym c.deref.ensures.value) c.in_ok-take_declared.ensures.wide (c.in_ok-take_declared.ensures.taken core.labels) c.in_ok-walk_block.ensures
    c.in_ok-add_exit_demands.ensures.unchanged c.in_ok-add_exit_demands.ensures.added

pub take_declared-requires : goal.take_declared-requires
take_declared-requires c =
    let walk = c.args.self.now in
    record {
      inside = throws-inside walk.table.now.core.now (entries_of walk.map.now) walk.procedure c.args.barrier c.args.procedure.now c.deref.result.now c.args.progress.now
          c.requires c.deref.ensures.value;
      room =
          let room = (procedure-room walk.table.now.core.now (entries_of walk.map.now) walk.procedure c.args.barrier c.args.procedure.now c.args.progress.now c.requires).1 in
          omega (arith, room, ap length c.deref.ensures.value);
    }

pub overflow_add-level : goal.overflow_add-level
overflow_add-level c =
    let walk = c.args.self.now in
    let room = (procedure-room walk.table.now.core.now (entries_of walk.map.now) walk.procedure c.args.barrier c.args.procedure.now c.args.progress.now c.requires).0 in
    omega (arith, room)

pub overflow_add-first : goal.overflow_add-first
overflow_add-first c =
    let walk = c.args.self.now in
    let room = (procedure-room walk.table.now.core.now (entries_of walk.map.now) walk.procedure c.args.barrier c.args.procedure.now c.args.progress.now c.requires).1 in
    omega (arith, room)

pub overflow_cast-progress : goal.overflow_cast-progress
overflow_cast-progress c =
    let walk = c.args.self.now in
    let room = (procedure-room walk.table.now.core.now (entries_of walk.map.now) walk.procedure c.args.barrier c.args.procedure.now c.args.progress.now c.requires).1 in
    omega (arith, room, c.len.ensures, c.args.procedure.now.throws.ok.0)

pub overflow_add-progress : goal.overflow_add-progress
overflow_add-progress c =
    let walk = c.args.self.now in
    let room = (procedure-room walk.table.now.core.now (entries_of walk.map.now) walk.procedure c.args.barrier c.args.procedure.now c.args.progress.now c.requires).1 in
    omega (arith, room, c.len.ensures, c.args.procedure.now.throws.ok.0)

pub walk_block-requires : goal.walk_block-requires
walk_block-requires c =
    let walk = c.args.self.now in
    body-ready walk.table.now.core.now (entries_of walk.map.now) walk.procedure c.args.barrier (c.args.barrier + 1) (c.args.progress.now.number + 1)
    c.args.procedure.now c.deref.result.now c.deref-4.result.now c.end_exit_unknowns-exit_unknowns.result c.is_single_of_procedure-only.result c.args.progress.now _
    c.requires refl c.deref.ensures.value c.deref-4.ensures.value c.end_exit_unknowns-exit_unknowns.ensures refl (omega (arith, c.len.ensures, c.args.procedure.now.throws.ok.0))
    c.in_ok-take_declared.ensures.wide (c.in_ok-take_declared.ensures.taken walk.table.now.core.now.labels)
