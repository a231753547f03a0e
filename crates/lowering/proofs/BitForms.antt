-- Where the forms of statements that have blocks use operators on bits, by the lists that code goes along.
use Rattle.std.proofs.Common.{◌≡◌, refl, ap, ℕ, List, length, ◌<◌, ◌+◌, drop, get_or}
use Rattle.std.specs.Prelude.{Vec, ◌||◌}
use Rattle.std.specs.declared.alloc.Global.{Global}
use Rattle.resolved.specs.declared.expression.Expression as E
use Rattle.resolved.specs.declared.statement.Statement as S
use Rattle.resolved.specs.declared.statement.Handler.{Handler}
use Rattle.resolved.specs.TreeOf.{expression_of, statement_of, block_of, handlers_of}
use Rattle.resolved.specs.BitUse.{expression_uses_bits, statement_uses_bits, block_uses_bits, handlers_use_bits}
use Rattle.resolved.proofs.Views.{next-statement, next-handler, tree-if, tree-while, tree-try, tree-nested}
use Rattle.lowering.proofs.Forms.{nodes_if, nodes_while, nodes_try, nodes_nested, nodes_next, nodes_next_handler}

pub bits_if : (s : S.Statement) (at : ℕ) (e : E.Expression) (then_block else_block : Vec S.Statement Global) → s ≡ S.If at e then_block else_block
    → statement_uses_bits (statement_of s)
    ≡ (expression_uses_bits (expression_of e) || block_uses_bits (block_of then_block.items) || block_uses_bits (block_of else_block.items))
bits_if s at e then_block else_block is = ap statement_uses_bits (tree-if s at e then_block else_block then_block.items else_block.items is refl refl)

pub bits_while : (s : S.Statement) (at loop : ℕ) (e : E.Expression) (body : Vec S.Statement Global) → s ≡ S.While at loop e body
    → statement_uses_bits (statement_of s) ≡ (expression_uses_bits (expression_of e) || block_uses_bits (block_of body.items))
bits_while s at loop e body is = ap statement_uses_bits (tree-while s at loop e body body.items is refl)

pub bits_try : (s : S.Statement) (at : ℕ) (block : Vec S.Statement Global) (handlers : Vec Handler Global) → s ≡ S.Try at block handlers
    → statement_uses_bits (statement_of s) ≡ (block_uses_bits (block_of block.items) || handlers_use_bits (handlers_of handlers.items))
bits_try s at block handlers is = ap statement_uses_bits (tree-try s at block handlers block.items handlers.items is refl refl)

pub bits_nested : (s : S.Statement) (at : ℕ) (block : Vec S.Statement Global) → s ≡ S.Nested at block
    → statement_uses_bits (statement_of s) ≡ block_uses_bits (block_of block.items)
bits_nested s at block is = ap statement_uses_bits (tree-nested s at block block.items is refl)

pub bits_next : (block : List S.Statement) (i : ℕ) (statement : S.Statement) → i < length block → statement ≡ get_or block i statement
    → block_uses_bits (block_of (drop i block)) ≡ (statement_uses_bits (statement_of statement) || block_uses_bits (block_of (drop (i + 1) block)))
bits_next block i statement inside is = ap block_uses_bits (next-statement block i statement inside is)

pub bits_next_handler : (handlers : List Handler) (i : ℕ) (handler : Handler) → i < length handlers → handler ≡ get_or handlers i handler
    → handlers_use_bits (handlers_of (drop i handlers))
    ≡ (block_uses_bits (block_of handler.body.items) || handlers_use_bits (handlers_of (drop (i + 1) handlers)))
bits_next_handler handlers i handler inside is = ap handlers_use_bits (next-handler handlers i handler handler.body.items inside is refl)

pub ruleset bit_forms = (bits_if, bits_while, bits_try, bits_nested, bits_next, bits_next_handler, nodes_if, nodes_while, nodes_try, nodes_nested, nodes_next, nodes_next_handler)
