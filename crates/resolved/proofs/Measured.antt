-- Statements and handlers are not larger than the blocks and lists that hold them.
use Rattle.std.proofs.Common.{◌≡◌, ap, ℕ, zero, suc, ◌+◌, ◌≤◌, ◌<◌, List, [], ◌∷◌, drop, get_or, length, arith}
use Rattle.resolved.specs.declared.statement.Statement as S
use Rattle.resolved.specs.declared.statement.Handler.{Handler}
use Rattle.resolved.specs.TreeOf.{statement_of, block_of, handlers_of}
use Rattle.resolved.specs.WellFormed.{statement_nodes, block_nodes, handlers_nodes}
use Rattle.resolved.proofs.Views.{next-statement, next-handler}

dropped-nodes : (block : List S.Statement) (i : ℕ) → block_nodes (block_of (drop i block)) ≤ block_nodes (block_of block)
dropped-nodes block zero = omega arith
dropped-nodes [] (suc i) = omega arith
dropped-nodes (x ∷ block) (suc i) = omega (arith, dropped-nodes block i)

dropped-handlers : (handlers : List Handler) (i : ℕ) → handlers_nodes (handlers_of (drop i handlers)) ≤ handlers_nodes (handlers_of handlers)
dropped-handlers handlers zero = omega arith
dropped-handlers [] (suc i) = omega arith
dropped-handlers (x ∷ handlers) (suc i) = omega (arith, dropped-handlers handlers i)

pub statement-within : (block : List S.Statement) (i : ℕ) (statement : S.Statement) → i < length block → statement ≡ get_or block i statement
    → statement_nodes (statement_of statement) ≤ block_nodes (block_of block)
statement-within block i statement inside is =
    omega (arith, ap block_nodes (next-statement block i statement inside is), dropped-nodes block i)

pub handler-within : (handlers : List Handler) (i : ℕ) (handler : Handler) (body : List S.Statement) → i < length handlers
    → handler ≡ get_or handlers i handler → body ≡ handler.body.items
    → 1 + block_nodes (block_of body) ≤ handlers_nodes (handlers_of handlers)
handler-within handlers i handler body inside is lent =
    omega (arith, ap handlers_nodes (next-handler handlers i handler body inside is lent), dropped-handlers handlers i)
