use Rattle.std.proofs.Common.{arith}
use Rattle.common.specs.declared.limits.TheConstants.{MAX_TEXT}
use Rattle.syntax.specs.Written.{Anywhere, IsNameWithin}
use Rattle.types.specs.Views.{tables_view}
use Rattle.types.proofs.Loops.{goes_further}
use Rattle.types.proofs.Within.{item_written, next_nodes}
use Rattle.types.proofs.program.ItemTables.of.Goals as goal

pub with_item-requires-clause-written : goal.with_item-requires-clause-written
with_item-requires-clause-written c =
    item_written c.args.items.now c.loop-item.item-index c.item-item.result c.item-item.is c.loop-item-test.true Anywhere (IsNameWithin MAX_TEXT) c.requires.written

pub with_item-requires-clause-room : goal.with_item-requires-clause-room
with_item-requires-clause-room c =
    let next = next_nodes c.args.items.now c.loop-item.item-index c.item-item.result c.item-item.is c.loop-item-test.true in
    omega (arith, next, c.loop-item.invariant.few, c.requires.room)

pub loop-item-preserved : goal.loop-item-preserved
loop-item-preserved c =
    let next = next_nodes c.args.items.now c.loop-item.item-index c.item-item.result c.item-item.is c.loop-item-test.true in
    record {
      on = goes_further c.loop-item.invariant.on c.item-item.result (tables_view c.in_ok-tables-2.tables) c.item-item.is c.loop-item-test.true c.in_ok-tables-2.ensures.made;
      inside = c.in_ok-tables-2.ensures.inside;
      few = omega (arith, next, c.loop-item.invariant.few, c.in_ok-tables-2.ensures.few);
    }
