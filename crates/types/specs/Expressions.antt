-- The resolved expression that a written one stands for, and the type of its values. Operands are looked at before their operator,
-- from the left, and each is tested against the wanted type at once; one of another type is refused at its first token (401).
-- Source: our own, the usual rules of simple types.
use Rattle.std.specs.Prelude.{ℕ, Ok}
use Rattle.common.specs.declared.base_type.BaseType.{BaseType}
use Rattle.common.specs.declared.operator.Comparison.TheVariants.{Ordered, Matched}
use Rattle.syntax.specs.declared.tree.BinaryOperator.{BinaryOperator}
use Rattle.syntax.specs.declared.tree.BinaryOperator.TheVariants.{Compute, Compare, Connect}
use Rattle.syntax.specs.Tree.{ExpressionTree, IntegerTree, TruthTree, VariableTree, ElementTree, UnaryTree, BinaryTree, expression_at}
use Rattle.common.specs.declared.base_type.BaseType.TheVariants.{Int, Boolean}
use Rattle.common.specs.declared.operator.Operator.TheVariants as operators
use Rattle.resolved.specs.Tree.{Expression, Integer, Logical, Read, Element, Unary, Binary, Short}
use Rattle.resolved.specs.WellFormed.{same_base, prefix_base}
use Rattle.types.specs.declared.fault.TypeRefusalKind.TheVariants as refusals
use Rattle.common.specs.Results.{◌>>=◌}
use Rattle.types.specs.Finding.{Finding, ◌gives◌, give_if}
use Rattle.types.specs.Environment.{Environment, use_as, scalar_of, array_of}

-- an expression, with the type of its values, at a place that wants a type
unfoldable pub of_base : BaseType → (at : ℕ) → Expression × BaseType → Finding Expression
of_base base at found = give_if (same_base found.1 base) found.0 refusals.WrongType at

-- of an operator by the type of its left operand: the type that its operands have to have, that of its value, and what it makes of both
abbrev pub operator_typing : BinaryOperator → (left : BaseType) → BaseType × BaseType × (Expression → Expression → Expression)
operator_typing (Compute operator) left = (Int, Int, Binary (operators.Compute operator))
operator_typing (Compare (Ordered order)) left = (Int, Boolean, Binary (operators.Compare (Ordered order)))
operator_typing (Compare (Matched sameness)) Int = (Int, Boolean, Binary (operators.Compare (Matched sameness)))
operator_typing (Compare (Matched sameness)) Boolean = (Boolean, Boolean, Binary (operators.Match sameness))
operator_typing (Connect connective) left = (Boolean, Boolean, Short connective)

unfoldable pub expression_finding : Environment → ExpressionTree → Finding (Expression × BaseType)
expression_finding names (IntegerTree at value) = Ok (Integer value, Int)
expression_finding names (TruthTree at value) = Ok (Logical value, Boolean)
expression_finding names (VariableTree name) = use_as scalar_of (names name.text) name.at gives λ (x, base). (Read x, base)
expression_finding names (ElementTree array index) = do
  (a, base, size) ← use_as array_of (names array.text) array.at
  expression_finding names index >>= of_base Int (expression_at index) gives λ i. (Element a size i, base)
expression_finding names (UnaryTree at prefix operand) = expression_finding names operand
    >>= of_base (prefix_base prefix) (expression_at operand) gives λ e. (Unary prefix e, prefix_base prefix)
expression_finding names (BinaryTree at operator left right) = do
  l ← expression_finding names left
  let (operands, value, made) = operator_typing operator l.1
  d ← of_base operands (expression_at left) l
  r ← expression_finding names right
  of_base operands (expression_at right) r gives λ e. (made d e, value)

-- an expression at a place that wants a type
unfoldable pub typed_finding : Environment → BaseType → ExpressionTree → Finding Expression
typed_finding names base tree = expression_finding names tree >>= of_base base (expression_at tree)

-- ---- parts of the rules, by which proofs speak of them

-- what is found of an expression, at a place that wants a type
abbrev pub wanting : BaseType → (at : ℕ) → Finding (Expression × BaseType) → Finding Expression
wanting base at looked = looked >>= of_base base at

-- what is found of an expression
abbrev pub Typed : Type 0
Typed = Expression × BaseType

-- the type that the operands of an operator have to have, by that of the left one, that of its value, and what it makes of both
abbrev pub operands_base : BinaryOperator → (left : BaseType) → BaseType
operands_base operator left = (operator_typing operator left).0

abbrev pub value_base : BinaryOperator → (left : BaseType) → BaseType
value_base operator left = (operator_typing operator left).1

abbrev pub combined : BinaryOperator → (left : BaseType) → Expression → Expression → Expression
combined operator left d e = (operator_typing operator left).2 d e
