-- The symbols by which the parser's grammar refers to itself, with the types of their trees. Private.
-- Source: our own.
use Rattle.std.specs.Prelude.{ℕ, List}
use Rattle.syntax.specs.declared.tree.BinaryOperator.{BinaryOperator}
use Rattle.syntax.specs.Tree.{ExpressionTree, StatementTree}

-- an expression in parentheses or brackets; the operand of a unary operator; the right operand of an operator of a line, and
-- the further ones of its chain; the arguments of a call; the statements of a block
pub data Symbol : Type 0 where
  Expression Unary : Symbol
  Operands : (line : ℕ) → Symbol
  Arguments Statements : Symbol

abbrev pub tree_of : Symbol → Type 0
tree_of Expression = ExpressionTree
tree_of Unary = ExpressionTree
tree_of (Operands line) = ExpressionTree × List (BinaryOperator × ExpressionTree)
tree_of Arguments = List ExpressionTree
tree_of Statements = List StatementTree
