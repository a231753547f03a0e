-- Statements that hold blocks, by what was found of those.
use Rattle.std.proofs.Common.{◌≡◌, ℕ, ◌+◌, ◌≤◌, ◌∙◌, Ok, Option, None, Some, arith}
use Rattle.syntax.specs.Nodes.{expression_nodes, block_nodes, statement_nodes}
use Rattle.syntax.specs.Tree.{ExpressionTree, IfTree, WhileTree, TryTree, NestedTree, BlockTree, BlockOf, StatementTrees, CatchTrees, if_tree}
use Rattle.common.specs.declared.base_type.BaseType.TheVariants.{Boolean}
use Rattle.resolved.specs.Tree.{Expression, Placed, If, While, Try, Nested, Block, Empty, Handlers}
use Rattle.common.specs.Answers.{IfRefused}
use Rattle.common.specs.declared.fault.OrNoMemory.{OrNoMemory}
use Rattle.types.specs.Finding.{IsRefusalOf}
use Rattle.common.specs.declared.refusal.RefusalAt.{RefusalAt}
use Rattle.types.specs.declared.fault.TypeRefusalKind.{TypeRefusalKind}
use Rattle.types.specs.Expressions.{typed_finding}
use Rattle.types.specs.Statements.{Setting, Point, statement_finding, block_finding, statements_finding, catches_finding}
use Rattle.types.proofs.Loops.{fails_later, fails_second, then_ok}

-- ---- conditions

pub condition_wrong : (setting : Setting) (point : Point) (at : ℕ) (condition : ExpressionTree) (body : BlockTree) (otherwise : Option BlockTree) (fault : OrNoMemory (RefusalAt TypeRefusalKind))
    → IfRefused (IsRefusalOf (typed_finding point.names Boolean condition)) fault → IfRefused (IsRefusalOf (statement_finding setting point (if_tree at condition body otherwise))) fault
unfolding statement_finding
condition_wrong setting point at condition body otherwise fault wrong = fails_later _ _ fault wrong

module _ (setting : Setting) (point : Point) (at : ℕ) (condition : ExpressionTree) (e : Expression) (typed : typed_finding point.names Boolean condition ≡ Ok e) where
  -- with one block
  pub if_done : (body : BlockTree) (inside : Point) (block : Block) → block_finding setting point body ≡ Ok (inside, block)
      → statement_finding setting point (if_tree at condition body None) ≡ Ok (inside, Placed at (If e block Empty))
  unfolding statement_finding block_finding statements_finding
  if_done body inside block done = then_ok _ _ e typed ∙ then_ok _ _ (inside, block) done

  -- with two
  pub if_else_done : (body otherwise : BlockTree) (inside after : Point) (block other : Block) → block_finding setting point body ≡ Ok (inside, block)
      → block_finding setting inside otherwise ≡ Ok (after, other)
      → statement_finding setting point (IfTree at condition body otherwise) ≡ Ok (after, Placed at (If e block other))
  unfolding statement_finding
  if_else_done body otherwise inside after block other first second =
      then_ok _ _ e typed ∙ then_ok _ _ (inside, block) first ∙ then_ok _ _ (after, other) second

  pub if_wrong : (body : BlockTree) (otherwise : Option BlockTree) (fault : OrNoMemory (RefusalAt TypeRefusalKind)) → IfRefused (IsRefusalOf (block_finding setting point body)) fault
      → IfRefused (IsRefusalOf (statement_finding setting point (if_tree at condition body otherwise))) fault
  unfolding statement_finding
  if_wrong body otherwise fault wrong = fails_second _ _ e fault typed (fails_later _ _ fault wrong)

  pub else_wrong : (body otherwise : BlockTree) (inside : Point) (block : Block) (fault : OrNoMemory (RefusalAt TypeRefusalKind)) → block_finding setting point body ≡ Ok (inside, block)
      → IfRefused (IsRefusalOf (block_finding setting inside otherwise)) fault → IfRefused (IsRefusalOf (statement_finding setting point (IfTree at condition body otherwise))) fault
  unfolding statement_finding
  else_wrong body otherwise inside block fault first wrong =
      fails_second _ _ e fault typed (fails_second _ _ (inside, block) fault first (fails_later _ _ fault wrong))

  -- ---- loops

  pub while_done : (body : BlockTree) (inside : Point) (block : Block) → block_finding setting (record point { loops = point.loops + 1 }) body ≡ Ok (inside, block)
      → statement_finding setting point (WhileTree at condition body) ≡ Ok (inside, Placed at (While point.loops e block))
  unfolding statement_finding
  while_done body inside block done = then_ok _ _ e typed ∙ then_ok _ _ (inside, block) done

  pub while_wrong : (body : BlockTree) (fault : OrNoMemory (RefusalAt TypeRefusalKind)) → IfRefused (IsRefusalOf (block_finding setting (record point { loops = point.loops + 1 }) body)) fault
      → IfRefused (IsRefusalOf (statement_finding setting point (WhileTree at condition body))) fault
  unfolding statement_finding
  while_wrong body fault wrong = fails_second _ _ e fault typed (fails_later _ _ fault wrong)

-- ---- handlers, and blocks among statements

module _ (setting : Setting) (point : Point) (at : ℕ) where
  pub try_done : (body : BlockTree) (catches : CatchTrees) (inside after : Point) (block : Block) (handlers : Handlers) → block_finding setting point body ≡ Ok (inside, block)
      → catches_finding setting inside catches ≡ Ok (after, handlers)
      → statement_finding setting point (TryTree at body catches) ≡ Ok (after, Placed at (Try block handlers))
  unfolding statement_finding
  try_done body catches inside after block handlers first second = then_ok _ _ (inside, block) first ∙ then_ok _ _ (after, handlers) second

  pub try_wrong : (body : BlockTree) (catches : CatchTrees) (fault : OrNoMemory (RefusalAt TypeRefusalKind)) → IfRefused (IsRefusalOf (block_finding setting point body)) fault
      → IfRefused (IsRefusalOf (statement_finding setting point (TryTree at body catches))) fault
  unfolding statement_finding
  try_wrong body catches fault wrong = fails_later _ _ fault wrong

  pub handlers_wrong : (body : BlockTree) (catches : CatchTrees) (inside : Point) (block : Block) (fault : OrNoMemory (RefusalAt TypeRefusalKind)) → block_finding setting point body ≡ Ok (inside, block)
      → IfRefused (IsRefusalOf (catches_finding setting inside catches)) fault → IfRefused (IsRefusalOf (statement_finding setting point (TryTree at body catches))) fault
  unfolding statement_finding
  handlers_wrong body catches inside block fault first wrong = fails_second _ _ (inside, block) fault first (fails_later _ _ fault wrong)

  pub nested_done : (statements : StatementTrees) (inside : Point) (block : Block) → block_finding setting point (BlockOf at statements) ≡ Ok (inside, block)
      → statement_finding setting point (NestedTree (BlockOf at statements)) ≡ Ok (inside, Placed at (Nested block))
  unfolding statement_finding
  nested_done statements inside block done = then_ok _ _ (inside, block) done

  pub nested_wrong : (statements : StatementTrees) (fault : OrNoMemory (RefusalAt TypeRefusalKind)) → IfRefused (IsRefusalOf (block_finding setting point (BlockOf at statements))) fault
      → IfRefused (IsRefusalOf (statement_finding setting point (NestedTree (BlockOf at statements)))) fault
  unfolding statement_finding
  nested_wrong statements fault wrong = fails_later _ _ fault wrong

-- the first block of a condition is within it
pub if_nodes : (at : ℕ) (condition : ExpressionTree) (body : BlockTree) (otherwise : Option BlockTree)
    → 1 + (expression_nodes condition + block_nodes body) ≤ statement_nodes (if_tree at condition body otherwise)
if_nodes at condition body None = omega arith
if_nodes at condition body (Some otherwise) = omega arith
