use Rattle.std.proofs.Common.{arith}
use Rattle.gathering.proofs.Before.{before-next}
use Rattle.gathering.proofs.Few.{counted-within}
use Rattle.constraints.proofs.Tables.{rows-next}
use Rattle.constraints.proofs.building.rows_of.Goals as goal

pub first_after-first-requires : goal.first_after-first-requires
first_after-first-requires c =
    let within = counted-within c.args.labels.now c.args.procedures.now c.loop-procedure.procedure-index c.loop-procedure.first c.procedure-item.result
    c.loop-procedure.invariant.count c.loop-procedure-test.true c.procedure-item.is in
    omega (arith, within, c.requires)

pub row_of-requires : goal.row_of-requires
row_of-requires c =
    let within = counted-within c.args.labels.now c.args.procedures.now c.loop-procedure.procedure-index c.loop-procedure.first c.procedure-item.result
    c.loop-procedure.invariant.count c.loop-procedure-test.true c.procedure-item.is in
    omega (arith, within, c.requires)

pub loop-procedure-preserved : goal.loop-procedure-preserved
loop-procedure-preserved c = record {
  rows = rows-next c.args.labels.now c.args.procedures.now c.loop-procedure.procedure-index c.procedure-item.result c.loop-procedure.rows.items _ c.in_ok-row_of.field-0 c.loop-procedure.first
      c.loop-procedure-test.true c.procedure-item.is c.in_ok-push.ensures.items c.loop-procedure.invariant.rows c.in_ok-row_of.ensures c.loop-procedure.invariant.count;
  count = before-next c.args.labels.now c.args.procedures.now c.loop-procedure.procedure-index c.loop-procedure.first c.loop-procedure.invariant.count c.procedure-item.result _
      c.loop-procedure-test.true c.procedure-item.is c.first_after-first.ensures;
}
