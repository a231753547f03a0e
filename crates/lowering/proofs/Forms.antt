-- Sizes of the forms of statements that have blocks, by the lists that code goes along.
use Rattle.std.proofs.Common.{◌≡◌, refl, ap, ℕ, List, length, ◌<◌, ◌+◌, drop, get_or, true, false}
use Rattle.std.specs.Prelude.{Vec}
use Rattle.std.specs.declared.alloc.Global.{Global}
use Rattle.resolved.specs.declared.expression.Expression as E
use Rattle.resolved.specs.declared.statement.Statement as S
use Rattle.resolved.specs.declared.statement.Handler.{Handler}
use Rattle.resolved.specs.Program.{Program}
use Rattle.resolved.specs.TreeOf.{expression_of, statement_of, block_of, handlers_of}
use Rattle.resolved.specs.WellFormed.{expression_nodes, statement_nodes, block_nodes, handlers_nodes}
use Rattle.lowering.specs.Expressions.{branch_size}
use Rattle.lowering.specs.Code.{statement_size, block_size, handlers_size, jump_size, jumps_over, jumps_after}
use Rattle.resolved.proofs.Views.{next-statement, next-handler, tree-if, tree-while, tree-try, tree-nested}

pub nodes_if : (s : S.Statement) (at : ℕ) (e : E.Expression) (then_block else_block : Vec S.Statement Global)
    → s ≡ S.If at e then_block else_block
    → statement_nodes (statement_of s) ≡ 1 + expression_nodes (expression_of e) + block_nodes (block_of then_block.items) + block_nodes (block_of else_block.items)
nodes_if s at e then_block else_block is = ap statement_nodes (tree-if s at e then_block else_block then_block.items else_block.items is refl refl)

pub nodes_while : (s : S.Statement) (at loop : ℕ) (e : E.Expression) (body : Vec S.Statement Global)
    → s ≡ S.While at loop e body → statement_nodes (statement_of s) ≡ 1 + expression_nodes (expression_of e) + block_nodes (block_of body.items)
nodes_while s at loop e body is = ap statement_nodes (tree-while s at loop e body body.items is refl)

pub nodes_try : (s : S.Statement) (at : ℕ) (block : Vec S.Statement Global) (handlers : Vec Handler Global)
    → s ≡ S.Try at block handlers → statement_nodes (statement_of s) ≡ 1 + block_nodes (block_of block.items) + handlers_nodes (handlers_of handlers.items)
nodes_try s at block handlers is = ap statement_nodes (tree-try s at block handlers block.items handlers.items is refl refl)

pub nodes_nested : (s : S.Statement) (at : ℕ) (block : Vec S.Statement Global)
    → s ≡ S.Nested at block → statement_nodes (statement_of s) ≡ 1 + block_nodes (block_of block.items)
nodes_nested s at block is = ap statement_nodes (tree-nested s at block block.items is refl)

module _ (program : Program) where
  pub size_if : (s : S.Statement) (at : ℕ) (e : E.Expression) (then_block else_block : Vec S.Statement Global)
      → s ≡ S.If at e then_block else_block
      → statement_size program (statement_of s) ≡ branch_size false (expression_of e) + (block_size program (block_of then_block.items)
      + (jump_size (jumps_over (block_of then_block.items) (block_of else_block.items)) + block_size program (block_of else_block.items)))
  size_if s at e then_block else_block is = ap (statement_size program) (tree-if s at e then_block else_block then_block.items else_block.items is refl refl)

  pub size_while : (s : S.Statement) (at loop : ℕ) (e : E.Expression) (body : Vec S.Statement Global)
      → s ≡ S.While at loop e body → statement_size program (statement_of s) ≡ 1 + (block_size program (block_of body.items) + branch_size true (expression_of e))
  size_while s at loop e body is = ap (statement_size program) (tree-while s at loop e body body.items is refl)

  pub size_try : (s : S.Statement) (at : ℕ) (block : Vec S.Statement Global) (handlers : Vec Handler Global)
      → s ≡ S.Try at block handlers
      → statement_size program (statement_of s) ≡ block_size program (block_of block.items)
      + (jump_size (jumps_after (block_of block.items) (handlers_of handlers.items)) + handlers_size program (handlers_of handlers.items))
  size_try s at block handlers is = ap (statement_size program) (tree-try s at block handlers block.items handlers.items is refl refl)

  pub size_nested : (s : S.Statement) (at : ℕ) (block : Vec S.Statement Global)
      → s ≡ S.Nested at block → statement_size program (statement_of s) ≡ block_size program (block_of block.items)
  size_nested s at block is = ap (statement_size program) (tree-nested s at block block.items is refl)

  pub size_next : (block : List S.Statement) (i : ℕ) (statement : S.Statement) → i < length block → statement ≡ get_or block i statement
      → block_size program (block_of (drop i block)) ≡ statement_size program (statement_of statement) + block_size program (block_of (drop (i + 1) block))
  size_next block i statement inside is = ap (block_size program) (next-statement block i statement inside is)

pub nodes_next : (block : List S.Statement) (i : ℕ) (statement : S.Statement) → i < length block → statement ≡ get_or block i statement
    → block_nodes (block_of (drop i block)) ≡ statement_nodes (statement_of statement) + block_nodes (block_of (drop (i + 1) block))
nodes_next block i statement inside is = ap block_nodes (next-statement block i statement inside is)

pub nodes_next_handler : (handlers : List Handler) (i : ℕ) (handler : Handler) → i < length handlers → handler ≡ get_or handlers i handler
    → handlers_nodes (handlers_of (drop i handlers)) ≡ 1 + block_nodes (block_of handler.body.items) + handlers_nodes (handlers_of (drop (i + 1) handlers))
nodes_next_handler handlers i handler inside is = ap handlers_nodes (next-handler handlers i handler handler.body.items inside is refl)

pub size_next_handler : (program : Program) (handlers : List Handler) (i : ℕ) (handler : Handler) → i < length handlers → handler ≡ get_or handlers i handler
    → handlers_size program (handlers_of (drop i handlers)) ≡ block_size program (block_of handler.body.items)
    + (jump_size (jumps_after (block_of handler.body.items) (handlers_of (drop (i + 1) handlers))) + handlers_size program (handlers_of (drop (i + 1) handlers)))
size_next_handler program handlers i handler inside is = ap (handlers_size program) (next-handler handlers i handler handler.body.items inside is refl)

pub ruleset size_forms = (nodes_if, nodes_while, nodes_try, nodes_nested, size_if, size_while, size_try, size_nested, size_next, nodes_next, nodes_next_handler, size_next_handler)
