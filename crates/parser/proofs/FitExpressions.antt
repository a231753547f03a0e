-- Expressions fit.
use Prim.Native.String.{String}
use Rattle.std.proofs.Common.{◌≡◌, ℕ, zero, suc, pred, ◌+◌, ◌≤◌, ◌<◌, List, [], ◌∷◌, sym, subst, inl, inr, sum_by, arith}
use Rattle.std.specs.Prelude.{Option, None, Some, length, slice_get}
use Rattle.std.specs.List.{All}
use Rattle.syntax.specs.declared.tree.BinaryOperator.{BinaryOperator}
use Rattle.parser.specs.ReadForm.{Form, level, only}
use Rattle.syntax.specs.Grammar.{lines, grouped}
use Rattle.parser.specs.ReadGrammar.{optional, chains, others_by, others_of, name, index, integer, primary, unary, expression, variable_tree, some}
use Rattle.parser.specs.Parts.{arguments, chain, variable, parenthesised, signed, operand_of}
use Rattle.syntax.specs.Nesting.{IsNestedExpression}
use Rattle.syntax.specs.Nodes.{expression_nodes}
use Rattle.parser.specs.ReadSymbol.{Expression, Arguments}
use Rattle.syntax.specs.Tree.{NameTree, ExpressionTree, IntegerTree, TruthTree, VariableTree, ElementTree, UnaryTree, BinaryTree, expression_at}
use Rattle.syntax.specs.Written.{IsWrittenName, IsWrittenExpression}
use Rattle.parser.proofs.Fits.{Fit, Has, FitExpression, FitExpressions, FitOthers, AreWrittenOthers, AreNestedOthers, others_nodes, from_before, some_fit}
use Rattle.parser.proofs.FitLabels.{name_fits, integer_fits, truth_fits}

-- more room is no harm
pred_le : (r room : ℕ) → r ≤ room → pred r ≤ pred room
pred_le zero room le = omega arith
pred_le (suc r) zero le = absurd (omega (arith, le))
pred_le (suc r) (suc room) le = omega (arith, le)

roomier : (r room : ℕ) → r ≤ room → (tree : ExpressionTree) → IsNestedExpression r tree → IsNestedExpression room tree
roomier r room le (IntegerTree at value) h = tt
roomier r room le (TruthTree at value) h = tt
roomier r room le (VariableTree name) h = tt
roomier r room le (ElementTree array index) h = (omega (arith, le, h.0), roomier (pred r) (pred room) (pred_le r room le) index h.1)
roomier r room le (UnaryTree at operator operand) h = (omega (arith, le, h.0), roomier (pred r) (pred room) (pred_le r room le) operand h.1)
roomier r room le (BinaryTree at operator left right) h =
    (omega (arith, le, h.0), roomier r room le left h.1, roomier (pred r) (pred room) (pred_le r room le) right h.2)

pred_less : (room : ℕ) → pred room ≤ room
pred_less zero = omega arith
pred_less (suc room) = omega arith

grouped_nodes : (left : ExpressionTree) (others : List (BinaryOperator × ExpressionTree)) → expression_nodes (grouped left others) ≡ expression_nodes left + others_nodes others
grouped_nodes left [] = omega arith
grouped_nodes left (next ∷ others) =
    omega (arith, grouped_nodes (BinaryTree (expression_at left) next.0 left next.1) others)

grouped_nested : (room r : ℕ) → r ≤ room → (left : ExpressionTree) (others : List (BinaryOperator × ExpressionTree)) → IsNestedExpression room left → AreNestedOthers r others → IsNestedExpression room (grouped left others)
grouped_nested room r le left [] inner h = inner
grouped_nested room r le left (next ∷ others) inner h =
    grouped_nested room (pred r) (omega (arith, le, pred_less r)) (BinaryTree (expression_at left) next.0 left next.1) others (omega (arith, le, h.0), inner, roomier (pred r) (pred room) (pred_le r room le) next.1 h.1) h.2

module _ (fits : ℕ → Type 0) (word : List ℕ → Type 0) (number : ℕ → Type 0) where
  abbrev Written : ExpressionTree → Type 0
  Written tree = IsWrittenExpression fits word number tree

  place_fits : (tree : ExpressionTree) → Written tree → fits (expression_at tree)
  place_fits (IntegerTree at value) h = h.0
  place_fits (TruthTree at value) h = h
  place_fits (VariableTree _) h = h.0
  place_fits (ElementTree array _) h = h.0.0
  place_fits (UnaryTree at operator operand) h = h.0
  place_fits (BinaryTree at operator left right) h = h.0

  grouped_written : (left : ExpressionTree) (others : List (BinaryOperator × ExpressionTree)) → Written left → AreWrittenOthers fits word number others → Written (grouped left others)
  grouped_written left [] inner h = inner
  grouped_written left (next ∷ others) inner h =
      grouped_written (BinaryTree (expression_at left) next.0 left next.1) others (place_fits left inner, inner, h.0) h.1

  module _ (room : ℕ) where
    abbrev Having : {A : Type 0} → Form A → A → ℕ → Type 0
    Having F tree k = Has fits word number room F tree k

    abbrev Fitted : ExpressionTree → ℕ → Type 0
    Fitted tree k = FitExpression fits word number room tree k

    others_fit_by : (line : ℕ) (found : Option (List (String × BinaryOperator))) (others : List (BinaryOperator × ExpressionTree)) (k : ℕ) → Having (others_by line found) others k → FitOthers fits word number room others k
    others_fit_by line None others k h =
        subst (λ list. FitOthers fits word number room list k) (sym h.0) (record { written = tt; few = omega arith; nested = tt })
    others_fit_by line (Some operators) others k (inl h) =
        let inner = h.1.3 in
        subst (λ list. FitOthers fits word number room list k) (sym h.2) (record {
          written = inner.written;
          few = omega (arith, inner.few, h.1.4);
          nested = (h.1.1, inner.nested.0, inner.nested.1);
        })
    others_fit_by line (Some operators) others k (inr h) =
        subst (λ list. FitOthers fits word number room list k) (sym h.0) (record { written = tt; few = omega arith; nested = tt })

    pub others_fit : (line : ℕ) (others : List (BinaryOperator × ExpressionTree)) (k : ℕ) → Having (others_of line) others k → FitOthers fits word number room others k
    others_fit line others k h = others_fit_by line (slice_get lines line) others k h

    chain_fits : (line : ℕ) (F : Form ExpressionTree) → ((tree : ExpressionTree) (k : ℕ) → Having F tree k → Fitted tree k) → (tree : ExpressionTree) (k : ℕ) → Having (chain line F) tree k → Fitted tree k
    chain_fits line F f tree k h =
        let both = h.1 in
        let left = f h.0.0 both.0 both.2 in
        let others = others_fit line h.0.1 both.1 both.3 in
        subst (λ t. Fitted t k) (sym h.2) (record {
          written = grouped_written h.0.0 h.0.1 left.written others.written;
          few = omega (arith, grouped_nodes h.0.0 h.0.1, left.few, others.few, both.4);
          nested = grouped_nested room room (omega arith) h.0.0 h.0.1 left.nested others.nested;
        })

    abbrev FitIndex : ExpressionTree → ℕ → Type 0
    FitIndex tree k = Fit (Written tree) (2 + expression_nodes tree) ((0 < room) × IsNestedExpression (pred room) tree) k

    pub index_fits : (tree : ExpressionTree) (k : ℕ) → Having index tree k → FitIndex tree k
    unfolding index
    index_fits tree k h =
        let front = from_before fits word number room (level (only "[") Expression) "]" h.0 k h.1 in
        let inner = front.1.3 in
        subst (λ t. FitIndex t k) (sym h.2) (record {
          written = inner.written;
          few = omega (arith, inner.few, front.1.4, front.2);
          nested = (front.1.1, inner.nested);
        })

    parenthesised_fits : (tree : ExpressionTree) (k : ℕ) → Having parenthesised tree k → Fitted tree k
    unfolding parenthesised
    parenthesised_fits tree k h =
        let front = from_before fits word number room (level (only "(") Expression) ")" h.0 k h.1 in
        let inner = front.1.3 in
        subst (λ t. Fitted t k) (sym h.2) (record {
          written = inner.written;
          few = omega (arith, inner.few, front.1.4, front.2);
          nested = roomier (pred room) room (pred_less room) h.0.2 inner.nested;
        })

    -- a name, and an index after it or none
    with_index : (named : NameTree) (found : Option ExpressionTree) (i j : ℕ) → Fit (IsWrittenName fits word number named) 1 (Unit {0}) i → Having (optional index) found j → Fitted (variable_tree named found) (i + j)
    with_index named found i j front (inl h) =
        let one = index_fits h.0 j h.1 in
        subst (λ (o : Option ExpressionTree). Fitted (variable_tree named o) (i + j)) (sym h.2) (record { written = (front.written, one.written); few = omega (arith, front.few, one.few); nested = one.nested })
    with_index named found i j front (inr h) =
        subst (λ (o : Option ExpressionTree). Fitted (variable_tree named o) (i + j)) (sym h.0) (record { written = front.written; few = omega (arith, front.few); nested = tt })

    variable_fits : (tree : ExpressionTree) (k : ℕ) → Having variable tree k → Fitted tree k
    unfolding variable
    variable_fits tree k h =
        let both = h.1 in
        subst (λ t. Fitted t k) (sym h.2) (subst (Fitted (variable_tree h.0.0 h.0.1)) (sym both.4) (with_index h.0.0 h.0.1 both.0 both.1 (name_fits fits word number room h.0.0 both.0 both.2) both.3))

    signed_fits : (tree : ExpressionTree) (k : ℕ) → Having signed tree k → Fitted tree k
    unfolding signed
    signed_fits tree k h =
        let inner = h.1.3 in
        subst (λ t. Fitted t k) (sym h.2) (record {
          written = (h.1.2.place, inner.written);
          few = omega (arith, inner.few, h.1.4);
          nested = (h.1.1, inner.nested);
        })

    integer_tree_fits : (tree : ExpressionTree) (k : ℕ) (found : ℕ × ℕ) → Having integer found k → tree ≡ IntegerTree found.0 found.1 → Fitted tree k
    integer_tree_fits tree k found h e =
        let one = integer_fits fits word number room found k h in
        subst (λ t. Fitted t k) (sym e) (record { written = (one.0, one.1); few = omega (arith, one.2); nested = tt })

    primary_fits : (tree : ExpressionTree) (k : ℕ) → Having primary tree k → Fitted tree k
    unfolding primary variable parenthesised
    primary_fits tree k h = elim h [
      | inl one ↦ integer_tree_fits tree k one.0 one.1 one.2
      | inr h ↦ elim h [
        | inl one ↦
            let found = truth_fits fits word number room one.0 k one.1 in
            subst (λ t. Fitted t k) (sym one.2) (record { written = found.0; few = omega (arith, found.1); nested = tt })
        | inr h ↦ elim h [ inl one ↦ variable_fits tree k one | inr one ↦ parenthesised_fits tree k one ]
      ]
    ]

    unary_fits : (tree : ExpressionTree) (k : ℕ) → Having unary tree k → Fitted tree k
    unfolding unary signed
    unary_fits tree k h = elim h [ inl one ↦ signed_fits tree k one | inr one ↦ primary_fits tree k one ]

    chains_fit : (count : ℕ) (tree : ExpressionTree) (k : ℕ) → Having (chains count unary) tree k → Fitted tree k
    chains_fit zero tree k h = unary_fits tree k h
    chains_fit (suc line) tree k h = chain_fits line (chains line unary) (chains_fit line) tree k h

    pub expression_fits : (tree : ExpressionTree) (k : ℕ) → Having expression tree k → Fitted tree k
    unfolding expression
    expression_fits tree k h = chains_fit (length lines) tree k h

    pub operand_fits : (line : ℕ) (tree : ExpressionTree) (k : ℕ) → Having (operand_of line) tree k → Fitted tree k
    unfolding operand_of
    operand_fits line tree k h = chains_fit line tree k h

    pub unary_symbol_fits : (tree : ExpressionTree) (k : ℕ) → Having unary tree k → Fitted tree k
    unary_symbol_fits tree k h = unary_fits tree k h

    pub expressions_fit : (trees : List ExpressionTree) (k : ℕ) → Having (some "," expression) trees k → FitExpressions fits word number room trees k
    expressions_fit trees k h =
        some_fit fits word number room "," expression Written expression_nodes (IsNestedExpression room) expression_fits trees k h

    pub arguments_fit : (trees : List ExpressionTree) (k : ℕ) → Having arguments trees k → Fit (All Written trees) (2 + sum_by expression_nodes trees) ((0 < room) × All (IsNestedExpression (pred room)) trees) k
    unfolding arguments
    arguments_fit trees k h =
        let front = from_before fits word number room (level (only "(") Arguments) ")" h.0 k h.1 in
        let inner = front.1.3 in
        subst (λ (list : List ExpressionTree). Fit (All Written list) (2 + sum_by expression_nodes list) ((0 < room) × All (IsNestedExpression (pred room)) list) k) (sym h.2) (record {
          written = inner.written;
          few = omega (arith, inner.few, front.1.4, front.2);
          nested = (front.1.1, inner.nested);
        })
