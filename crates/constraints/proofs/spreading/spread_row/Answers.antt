use Rattle.std.proofs.Common.{arith, length, refl, sym}
use Rattle.std.specs.Prelude.{vec_len}
use Rattle.std.proofs.lemmas.Bool.{eqb-true}
use Rattle.constraints.specs.Following.{IsOver}
use Rattle.constraints.specs.Merging.{rows_of}
use Rattle.constraints.proofs.Paths.{over-same, over-then}
use Rattle.constraints.proofs.SpreadTaken.{no-calls-taken, no-throws-taken, row-taken}
use Rattle.constraints.proofs.spreading.spread_row.Goals.{then-is_empty-via-then-is_empty, then-is_empty-via-else-is_empty+then-is_empty-2}
use Rattle.constraints.proofs.spreading.spread_row.Goals as goal

pub returns-then-is_empty-clause-spread : goal.returns-then-is_empty-clause-spread
returns-then-is_empty-clause-spread c =
    let core = c.args.of.now.table.now.core.now in
    let following = c.args.of.now.following.now in
    elim c.then-is_empty.branch [
      | then-is_empty-via-then-is_empty w ↦ no-calls-taken (IsOver following) (over-same following) (over-then following) core core.labels c.args.of.now.journal.now
          c.args.callee c.args.calls.now c.args.made.now.number (rows_of c.args.kept.now.items) c.args.made.now.constraints.items
          (eqb-true (length c.args.calls.now) 0 (sym w.if-is_empty.ensures))
      | then-is_empty-via-else-is_empty+then-is_empty-2 w ↦
          let throws = c.row.result.now.throws in
          let none = eqb-true (vec_len throws) 0 (sym w.if-is_empty-2.ensures) in
          no-throws-taken (IsOver following) (over-same following) (over-then following) core core.labels c.args.of.now.journal.now
          c.args.callee c.row.result.now throws.items c.args.calls.now c.args.made.now.number (rows_of c.args.kept.now.items) c.args.made.now.constraints.items
          c.row.ensures refl (omega (arith, none, throws.ok.0))
    ]

pub returns-clause-spread : goal.returns-clause-spread
returns-clause-spread c =
    let core = c.args.of.now.table.now.core.now in
    let following = c.args.of.now.following.now in
    row-taken (IsOver following) (over-same following) (over-then following) core core.labels c.args.of.now.journal.now
    c.args.callee c.row.result.now _ c.args.calls.now c.args.made.now.number c.spread.new.made.number
    (rows_of c.args.kept.now.items) (rows_of c.spread.new.kept.items) c.args.made.now.constraints.items c.spread.new.made.constraints.items c.in_ok-spread.field-0
    c.row.ensures c.deref.ensures.value c.in_ok-spread.ensures.spread
