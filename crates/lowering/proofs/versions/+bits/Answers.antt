use Rattle.std.proofs.Common.{arith, ◌≡◌, ◌∙◌, ap, sym}
use Rattle.resolved.specs.TreeOf.{block_of, handlers_of}
use Rattle.resolved.specs.BitUse.{block_uses_bits, handlers_use_bits}
use Rattle.resolved.specs.WellFormed.{block_nodes, handlers_nodes}
use Rattle.lowering.proofs.BitForms.{bits_if, bits_while, bits_try}
use Rattle.lowering.proofs.Falling.{first-decides, second-decides}
use Rattle.lowering.proofs.Forms.{nodes_if, nodes_try}
use Rattle.lowering.proofs.versions.+bits.Goals as goal

pub statement_uses_bits-block_uses_bits-requires : goal.statement_uses_bits-block_uses_bits-requires
statement_uses_bits-block_uses_bits-requires t c =
    let nodes = nodes_if c.args.statement.now _ _ c.in-If.then_block c.in-If.else_block c.in-If.is in
    let same = ap (λ l. block_nodes (block_of l)) c.deref-in-If.ensures.value in
    (omega (arith, nodes, same), tt)

pub statement_uses_bits-block_uses_bits-requires-else-block_uses_bits : goal.statement_uses_bits-block_uses_bits-requires-else-block_uses_bits
statement_uses_bits-block_uses_bits-requires-else-block_uses_bits t c =
    let nodes = nodes_if c.args.statement.now _ _ c.in-If.then_block c.in-If.else_block c.in-If.is in
    let same = ap (λ l. block_nodes (block_of l)) c.deref-else-block_uses_bits.ensures.value in
    (omega (arith, nodes, same), tt)

pub statement_uses_bits-block_uses_bits-requires-in-Try : goal.statement_uses_bits-block_uses_bits-requires-in-Try
statement_uses_bits-block_uses_bits-requires-in-Try t c =
    let nodes = nodes_try c.args.statement.now _ c.in-Try.block c.in-Try.handlers c.in-Try.is in
    let same = ap (λ l. block_nodes (block_of l)) c.deref-in-Try.ensures.value in
    (omega (arith, nodes, same), tt)

pub statement_uses_bits-handlers_use_bits-requires : goal.statement_uses_bits-handlers_use_bits-requires
statement_uses_bits-handlers_use_bits-requires t c =
    let nodes = nodes_try c.args.statement.now _ c.in-Try.block c.in-Try.handlers c.in-Try.is in
    let same = ap (λ l. handlers_nodes (handlers_of l)) c.deref-else-block_uses_bits-2.ensures.value in
    (omega (arith, nodes, same), tt)

pub statement_uses_bits-returns-then-block_uses_bits : goal.statement_uses_bits-returns-then-block_uses_bits
statement_uses_bits-returns-then-block_uses_bits t c =
    let yes = c.in-If.then_block in
    let no = c.in-If.else_block in
    let first : c.block_uses_bits.result ≡ block_uses_bits (block_of yes.items) =
    c.block_uses_bits.ensures ∙ ap (λ l. block_uses_bits (block_of l)) c.deref-in-If.ensures.value in
    first-decides _ (block_uses_bits (block_of no.items)) c.block_uses_bits.result
    (second-decides _ _ c.expression_uses_bits-in-If.result c.block_uses_bits.result c.expression_uses_bits-in-If.ensures c.if-expression_uses_bits-2.false first)
    c.if-block_uses_bits.true
    ∙ sym (bits_if c.args.statement.now _ _ yes no c.in-If.is)

pub statement_uses_bits-returns-else-block_uses_bits : goal.statement_uses_bits-returns-else-block_uses_bits
statement_uses_bits-returns-else-block_uses_bits t c =
    let yes = c.in-If.then_block in
    let no = c.in-If.else_block in
    let first : c.block_uses_bits.result ≡ block_uses_bits (block_of yes.items) =
    c.block_uses_bits.ensures ∙ ap (λ l. block_uses_bits (block_of l)) c.deref-in-If.ensures.value in
    let second : c.block_uses_bits-else-block_uses_bits.result ≡ block_uses_bits (block_of no.items) =
    c.block_uses_bits-else-block_uses_bits.ensures ∙ ap (λ l. block_uses_bits (block_of l)) c.deref-else-block_uses_bits.ensures.value in
    second-decides _ (block_uses_bits (block_of no.items)) c.block_uses_bits.result _
    (second-decides _ _ c.expression_uses_bits-in-If.result c.block_uses_bits.result c.expression_uses_bits-in-If.ensures c.if-expression_uses_bits-2.false first)
    c.if-block_uses_bits.false second
    ∙ sym (bits_if c.args.statement.now _ _ yes no c.in-If.is)

pub statement_uses_bits-returns-else-expression_uses_bits-3 : goal.statement_uses_bits-returns-else-expression_uses_bits-3
statement_uses_bits-returns-else-expression_uses_bits-3 t c =
    let body = c.in-While.body in
    let second : c.block_uses_bits-else-expression_uses_bits-3.result ≡ block_uses_bits (block_of body.items) =
    c.block_uses_bits-else-expression_uses_bits-3.ensures ∙ ap (λ l. block_uses_bits (block_of l)) c.deref-else-expression_uses_bits-3.ensures.value in
    second-decides _ _ c.expression_uses_bits-in-While.result _ c.expression_uses_bits-in-While.ensures c.if-expression_uses_bits-3.false second
    ∙ sym (bits_while c.args.statement.now _ _ _ body c.in-While.is)

pub statement_uses_bits-returns-then-block_uses_bits-2 : goal.statement_uses_bits-returns-then-block_uses_bits-2
statement_uses_bits-returns-then-block_uses_bits-2 t c =
    let block = c.in-Try.block in
    let handlers = c.in-Try.handlers in
    let first : c.block_uses_bits-in-Try.result ≡ block_uses_bits (block_of block.items) =
    c.block_uses_bits-in-Try.ensures ∙ ap (λ l. block_uses_bits (block_of l)) c.deref-in-Try.ensures.value in
    first-decides (block_uses_bits (block_of block.items)) (handlers_use_bits (handlers_of handlers.items)) c.block_uses_bits-in-Try.result first c.if-block_uses_bits-2.true
    ∙ sym (bits_try c.args.statement.now _ block handlers c.in-Try.is)

pub statement_uses_bits-returns-else-block_uses_bits-2 : goal.statement_uses_bits-returns-else-block_uses_bits-2
statement_uses_bits-returns-else-block_uses_bits-2 t c =
    let block = c.in-Try.block in
    let handlers = c.in-Try.handlers in
    let first : c.block_uses_bits-in-Try.result ≡ block_uses_bits (block_of block.items) =
    c.block_uses_bits-in-Try.ensures ∙ ap (λ l. block_uses_bits (block_of l)) c.deref-in-Try.ensures.value in
    let second : c.handlers_use_bits.result ≡ handlers_use_bits (handlers_of handlers.items) =
    c.handlers_use_bits.ensures ∙ ap (λ l. handlers_use_bits (handlers_of l)) c.deref-else-block_uses_bits-2.ensures.value in
    second-decides (block_uses_bits (block_of block.items)) (handlers_use_bits (handlers_of handlers.items)) c.block_uses_bits-in-Try.result _ first c.if-block_uses_bits-2.false second
    ∙ sym (bits_try c.args.statement.now _ block handlers c.in-Try.is)
