use Rattle.std.proofs.Common.{refl, sym, ap, ◌∙◌}
use Rattle.resolved.specs.TreeOf.{block_of, handlers_of}
use Rattle.resolved.proofs.Views.{tree-if, tree-try, tree-nested}
use Rattle.lowering.specs.Code.{block_falls, handlers_fall, statement_falls}
use Rattle.lowering.proofs.Falling.{first-decides, second-decides}
use Rattle.lowering.proofs.endings.+falls.Goals as goal

pub statement_falls-returns-then-block_falls : goal.statement_falls-returns-then-block_falls
statement_falls-returns-then-block_falls t c =
    first-decides (block_falls (block_of c.deref.result.now)) (block_falls (block_of c.in-If.else_block.items)) c.block_falls.result c.block_falls.ensures c.if-block_falls.true
    ∙ sym (ap statement_falls (tree-if c.args.statement.now _ _ c.in-If.then_block c.in-If.else_block c.deref.result.now c.in-If.else_block.items c.in-If.is c.deref.ensures.value refl))

pub statement_falls-returns-else-block_falls : goal.statement_falls-returns-else-block_falls
statement_falls-returns-else-block_falls t c =
    second-decides (block_falls (block_of c.deref.result.now)) (block_falls (block_of c.deref-else-block_falls.result.now)) c.block_falls.result c.block_falls-else-block_falls.result
    c.block_falls.ensures c.if-block_falls.false c.block_falls-else-block_falls.ensures
    ∙ sym (ap statement_falls (tree-if c.args.statement.now _ _ c.in-If.then_block c.in-If.else_block c.deref.result.now c.deref-else-block_falls.result.now c.in-If.is c.deref.ensures.value c.deref-else-block_falls.ensures.value))

pub statement_falls-returns-then-block_falls-2 : goal.statement_falls-returns-then-block_falls-2
statement_falls-returns-then-block_falls-2 t c =
    first-decides (block_falls (block_of c.deref-in-Try.result.now)) (handlers_fall (handlers_of c.in-Try.handlers.items)) c.block_falls-in-Try.result c.block_falls-in-Try.ensures c.if-block_falls-2.true
    ∙ sym (ap statement_falls (tree-try c.args.statement.now _ c.in-Try.block c.in-Try.handlers c.deref-in-Try.result.now c.in-Try.handlers.items c.in-Try.is c.deref-in-Try.ensures.value refl))

pub statement_falls-returns-else-block_falls-2 : goal.statement_falls-returns-else-block_falls-2
statement_falls-returns-else-block_falls-2 t c =
    second-decides (block_falls (block_of c.deref-in-Try.result.now)) (handlers_fall (handlers_of c.deref-else-block_falls-2.result.now)) c.block_falls-in-Try.result c.handlers_fall.result
    c.block_falls-in-Try.ensures c.if-block_falls-2.false c.handlers_fall.ensures
    ∙ sym (ap statement_falls (tree-try c.args.statement.now _ c.in-Try.block c.in-Try.handlers c.deref-in-Try.result.now c.deref-else-block_falls-2.result.now c.in-Try.is c.deref-in-Try.ensures.value c.deref-else-block_falls-2.ensures.value))

pub statement_falls-returns-in-Nested : goal.statement_falls-returns-in-Nested
statement_falls-returns-in-Nested t c =
    c.block_falls-in-Nested.ensures
    ∙ sym (ap statement_falls (tree-nested c.args.statement.now _ c.in-Nested.block c.deref-in-Nested.result.now c.in-Nested.is c.deref-in-Nested.ensures.value))
