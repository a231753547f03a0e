-- Statements and blocks fit, and so do the trees of all symbols.
use Prim.Native.String.{String}
use Rattle.std.proofs.Common.{◌≡◌, ℕ, ◌+◌, ◌<◌, ◌≤◌, List, [], ◌∷◌, sym, subst, inl, inr, ⊎_elim, arith}
use Rattle.std.specs.Prelude.{Option, None, Some}
use Rattle.parser.specs.ReadForm.{Form, level, ◌·◌, ◌or◌, only, ◌gives◌}
use Rattle.parser.specs.ReadGrammar.{at, ◌▸◌, ◌◂◌, base, name, index, expression, call, right, size, block, condition, catch, statement, production, optional, label}
use Rattle.parser.specs.Parts.{arguments, operand_of, declare, declare_array, assign, assign_element, call_statement, catches, receive, send, conditional, while_statement, break_statement, continue_statement, throw_statement, return_statement, attempt, CatchTree}
use Rattle.syntax.specs.Nesting.{IsNestedExpression, IsNestedOptionalExpression, IsNestedCall, IsNestedRight, IsNestedStatement, IsNestedBlock, AreNestedCatches}
use Rattle.syntax.specs.Nodes.{expression_nodes, optional_expression_nodes, call_nodes, right_nodes, statement_nodes, block_nodes, catches_nodes}
use Rattle.parser.specs.ReadSymbol.{Symbol, Expression, Unary, Operands, Arguments, Statements, tree_of}
use Rattle.syntax.specs.Tree.{NameTree, ExpressionTree, CallTree, RightTree, StatementTree, BlockTree, BlockOf, if_tree, catches_of, NestedTree}
use Rattle.syntax.specs.Written.{IsWrittenName, IsWrittenExpression, IsWrittenOptionalExpression, IsWrittenCall, IsWrittenRight, IsWrittenStatement, IsWrittenBlock, AreWrittenCatches}
use Rattle.parser.proofs.Holds.{Each}
use Rattle.parser.proofs.Fits.{Fit, Fits, Has, FitStatements, from_at, from_after, from_before}
use Rattle.parser.proofs.FitLabels.{name_fits, optional_label_fits, base_fits, size_fits}
use Rattle.parser.proofs.FitExpressions.{others_fit, index_fits, expression_fits, operand_fits, unary_symbol_fits, expressions_fit, arguments_fit}

abbrev otherwise_nodes : Option BlockTree → ℕ
otherwise_nodes None = 0
otherwise_nodes (Some body) = block_nodes body

module _ (fits : ℕ → Type 0) (word : List ℕ → Type 0) (number : ℕ → Type 0) (room : ℕ) where
  abbrev Having : {A : Type 0} → Form A → A → ℕ → Type 0
  Having F tree k = Has fits word number room F tree k

  abbrev FitCall : CallTree → ℕ → Type 0
  FitCall tree k = Fit (IsWrittenCall fits word number tree) (call_nodes tree) (IsNestedCall room tree) k

  abbrev FitRight : RightTree → ℕ → Type 0
  FitRight tree k = Fit (IsWrittenRight fits word number tree) (right_nodes tree) (IsNestedRight room tree) k

  abbrev FitBlock : BlockTree → ℕ → Type 0
  FitBlock tree k = Fit (IsWrittenBlock fits word number tree) (1 + block_nodes tree) (IsNestedBlock room tree) k

  abbrev FitStatement : StatementTree → ℕ → Type 0
  FitStatement tree k = Fit (IsWrittenStatement fits word number tree) (statement_nodes tree) (IsNestedStatement room tree) k

  call_fits : (tree : CallTree) (k : ℕ) → Having call tree k → FitCall tree k
  unfolding call arguments
  call_fits tree k h =
      let named = name_fits fits word number room tree.0 h.0 h.2 in
      let list = arguments_fit fits word number room tree.1 h.1 h.3 in
      record {
        written = (named.written, list.written);
        few = omega (arith, list.few, named.few, h.4);
        nested = list.nested;
      }

  -- a keyword and a name
  keyed : (text : String) (pair : ℕ × NameTree) (k : ℕ) → Having (at text · name) pair k → fits pair.0 × IsWrittenName fits word number pair.1 × (2 ≤ k)
  keyed text pair k h =
      let keyword = from_at fits word number room text pair.0 h.0 h.2 in
      let named = name_fits fits word number room pair.1 h.1 h.3 in
      (keyword.0, named.written, omega (arith, keyword.1, named.few, h.4))

  -- a keyword and two forms
  keyed_two : {A B : Type 0} (text : String) (F : Form A) (G : Form B) (trees : (ℕ × A) × B) (k : ℕ) → Having (at text · F · G) trees k
      → fits trees.0.0 × (i : ℕ) × Having F trees.0.1 i × (j : ℕ) × Having G trees.1 j × (1 + (i + j) ≤ k)
  keyed_two text F G trees k h =
      let front = h.2 in
      let keyword = from_at fits word number room text trees.0.0 front.0 front.2 in
      (keyword.0, front.1, front.3, h.1, h.3, omega (arith, keyword.1, front.4, h.4))

  pub right_fits : (tree : RightTree) (k : ℕ) → Having right tree k → FitRight tree k
  unfolding right
  right_fits tree k h = elim h [
    | inl one ↦
        let both = keyed "receive" one.0 k one.1 in
        subst (λ t. FitRight t k) (sym one.2) (record { written = (both.0, both.1); few = both.2; nested = tt })
    | inr h ↦ elim h [
      | inl one ↦
          let inner = call_fits one.0 k one.1 in
          subst (λ t. FitRight t k) (sym one.2) (record { written = inner.written; few = inner.few; nested = inner.nested })
      | inr one ↦
          let inner = expression_fits fits word number room one.0 k one.1 in
          subst (λ t. FitRight t k) (sym one.2) (record { written = inner.written; few = inner.few; nested = inner.nested })
    ]
  ]

  pub block_fits : (tree : BlockTree) (k : ℕ) → Having block tree k → FitBlock tree k
  unfolding block
  block_fits tree k h =
      let front = from_before fits word number room (level (only "{") Statements) "}" h.0 k h.1 in
      let inner = front.1.3 in
      subst (λ t. FitBlock t k) (sym h.2) (record {
        written = (front.1.2.place, inner.written);
        few = omega (arith, inner.few, front.1.4, front.2);
        nested = (front.1.1, inner.nested);
      })

  condition_fits : (tree : ExpressionTree) (k : ℕ) → Having condition tree k → Fit (IsWrittenExpression fits word number tree) (2 + expression_nodes tree) (IsNestedExpression room tree) k
  unfolding condition
  condition_fits tree k h =
      let front = from_before fits word number room ("(" ▸ expression) ")" tree k h in
      let inner = from_after fits word number room "(" expression tree front.0 front.1 in
      let one = expression_fits fits word number room tree inner.0 inner.1 in
      record { written = one.written; few = omega (arith, one.few, inner.2, front.2); nested = one.nested }

  -- a declaration with its first value, and one of an array
  declare_fits : (tree : StatementTree) (k : ℕ) → Having declare tree k → FitStatement tree k
  unfolding declare
  declare_fits tree k h =
      let line = from_before fits word number room (base · optional label · name · "=" ▸ right) ";" h.0 k h.1 in
      let a = line.1 in
      let b = a.2 in
      let c = b.2 in
      let typed = base_fits fits word number room h.0.0.0.0 c.0 c.2 in
      let labelled = optional_label_fits fits word number room h.0.0.0.1 c.1 c.3 in
      let named = name_fits fits word number room h.0.0.1 b.1 b.3 in
      let inner = from_after fits word number room "=" right h.0.1 a.1 a.3 in
      let value = right_fits h.0.1 inner.0 inner.1 in
      subst (λ t. FitStatement t k) (sym h.2) (record {
        written = (typed.0, labelled.written, named.written, value.written);
        few = omega (arith, typed.1, labelled.few, named.few, value.few, inner.2, line.2, a.4, b.4, c.4);
        nested = value.nested;
      })

  declare_array_fits : (tree : StatementTree) (k : ℕ) → Having declare_array tree k → FitStatement tree k
  unfolding declare_array
  declare_array_fits tree k h =
      let line = from_before fits word number room (base · optional label · name · size) ";" h.0 k h.1 in
      let a = line.1 in
      let b = a.2 in
      let c = b.2 in
      let typed = base_fits fits word number room h.0.0.0.0 c.0 c.2 in
      let labelled = optional_label_fits fits word number room h.0.0.0.1 c.1 c.3 in
      let named = name_fits fits word number room h.0.0.1 b.1 b.3 in
      let sized = size_fits fits word number room h.0.1 a.1 a.3 in
      subst (λ t. FitStatement t k) (sym h.2) (record {
        written = (typed.0, labelled.written, named.written, sized.written);
        few = omega (arith, typed.1, labelled.few, named.few, sized.few, line.2, a.4, b.4, c.4);
        nested = tt;
      })

  -- an assignment to a scalar, and one to an element
  assign_fits : (tree : StatementTree) (k : ℕ) → Having assign tree k → FitStatement tree k
  unfolding assign
  assign_fits tree k h =
      let line = from_before fits word number room (name · "=" ▸ right) ";" h.0 k h.1 in
      let both = line.1 in
      let named = name_fits fits word number room h.0.0 both.0 both.2 in
      let inner = from_after fits word number room "=" right h.0.1 both.1 both.3 in
      let value = right_fits h.0.1 inner.0 inner.1 in
      subst (λ t. FitStatement t k) (sym h.2) (record {
        written = (named.written, value.written);
        few = omega (arith, named.few, value.few, inner.2, line.2, both.4);
        nested = value.nested;
      })

  assign_element_fits : (tree : StatementTree) (k : ℕ) → Having assign_element tree k → FitStatement tree k
  unfolding assign_element
  assign_element_fits tree k h =
      let line = from_before fits word number room (name · (index ◂ "=" · expression)) ";" h.0 k h.1 in
      let both = line.1 in
      let named = name_fits fits word number room h.0.0 both.0 both.2 in
      let pair = both.3 in
      let front = from_before fits word number room index "=" h.0.1.0 pair.0 pair.2 in
      let index = index_fits fits word number room h.0.1.0 front.0 front.1 in
      let value = expression_fits fits word number room h.0.1.1 pair.1 pair.3 in
      subst (λ t. FitStatement t k) (sym h.2) (record {
        written = (named.written, index.written, value.written);
        few = omega (arith, named.few, index.few, value.few, front.2, pair.4, both.4, line.2);
        nested = (index.nested.0, index.nested.1, value.nested);
      })

  call_statement_fits : (tree : StatementTree) (k : ℕ) → Having call_statement tree k → FitStatement tree k
  unfolding call_statement
  call_statement_fits tree k h =
      let line = from_before fits word number room call ";" h.0 k h.1 in
      let called = call_fits h.0 line.0 line.1 in
      subst (λ t. FitStatement t k) (sym h.2) (record { written = called.written; few = omega (arith, called.few, line.2); nested = called.nested })

  receive_fits : (tree : StatementTree) (k : ℕ) → Having receive tree k → FitStatement tree k
  unfolding receive
  receive_fits tree k h =
      let line = from_before fits word number room (at "receive" · name) ";" h.0 k h.1 in
      let both = keyed "receive" h.0 line.0 line.1 in
      subst (λ t. FitStatement t k) (sym h.2) (record { written = (both.0, both.1); few = omega (arith, both.2, line.2); nested = tt })

  send_fits : (tree : StatementTree) (k : ℕ) → Having send tree k → FitStatement tree k
  unfolding send
  send_fits tree k h =
      let line = from_before fits word number room (at "send" · name ◂ "," · expression) ";" h.0 k h.1 in
      let a = line.1 in
      let front = from_before fits word number room (at "send" · name) "," h.0.0 a.0 a.2 in
      let both = keyed "send" h.0.0 front.0 front.1 in
      let value = expression_fits fits word number room h.0.1 a.1 a.3 in
      subst (λ t. FitStatement t k) (sym h.2) (record {
        written = (both.0, both.1, value.written);
        few = omega (arith, both.2, value.few, front.2, a.4, line.2);
        nested = value.nested;
      })

  -- an `else`, or none
  abbrev OtherwiseWritten : Option BlockTree → Type 0
  OtherwiseWritten None = Unit {0}
  OtherwiseWritten (Some body) = IsWrittenBlock fits word number body

  abbrev OtherwiseNested : Option BlockTree → Type 0
  OtherwiseNested None = Unit {0}
  OtherwiseNested (Some body) = IsNestedBlock room body

  abbrev FitOtherwise : Option BlockTree → ℕ → Type 0
  FitOtherwise tree k = Fit (OtherwiseWritten tree) (otherwise_nodes tree) (OtherwiseNested tree) k

  otherwise_fits : (tree : Option BlockTree) (k : ℕ) → Having (optional ("else" ▸ block)) tree k → FitOtherwise tree k
  otherwise_fits tree k (inl h) =
      let inner = from_after fits word number room "else" block h.0 k h.1 in
      let body = block_fits h.0 inner.0 inner.1 in
      subst (λ t. FitOtherwise t k) (sym h.2) (record { written = body.written; few = omega (arith, body.few, inner.2); nested = body.nested })
  otherwise_fits tree k (inr h) =
      subst (λ t. FitOtherwise t k) (sym h.0) (record { written = tt; few = omega arith; nested = tt })

  has_room : (body : BlockTree) → IsNestedBlock room body → 0 < room
  has_room (BlockOf at statements) d = d.0

  if_fits : (place : ℕ) (condition : ExpressionTree) (body : BlockTree) (otherwise : Option BlockTree) (k : ℕ) → fits place → IsWrittenExpression fits word number condition → IsNestedExpression room condition → IsWrittenBlock fits word number body → IsNestedBlock room body → Fit (OtherwiseWritten otherwise) (2 + (expression_nodes condition + (block_nodes body + otherwise_nodes otherwise))) (OtherwiseNested otherwise) k → FitStatement (if_tree place condition body otherwise) k
  if_fits place condition body None k here a b c d one =
      record { written = (here, a, c, (here, tt)); few = omega (arith, one.few); nested = (b, d, (has_room body d, tt)) }
  if_fits place condition body (Some otherwise) k here a b c d one =
      record { written = (here, a, c, one.written); few = omega (arith, one.few); nested = (b, d, one.nested) }

  conditional_fits : (tree : StatementTree) (k : ℕ) → Having conditional tree k → FitStatement tree k
  unfolding conditional
  conditional_fits tree k h =
      let both = h.1 in
      let front = keyed_two "if" condition block h.0.0 both.0 both.2 in
      let test = condition_fits h.0.0.0.1 front.1 front.2 in
      let body = block_fits h.0.0.1 front.3 front.4 in
      let other = otherwise_fits h.0.1 both.1 both.3 in
      subst (λ t. FitStatement t k) (sym h.2) (if_fits h.0.0.0.0 h.0.0.0.1 h.0.0.1 h.0.1 k front.0 test.written test.nested body.written body.nested (record {
        written = other.written;
        few = omega (arith, front.5, test.few, body.few, other.few, both.4);
        nested = other.nested;
      }))

  while_fits : (tree : StatementTree) (k : ℕ) → Having while_statement tree k → FitStatement tree k
  unfolding while_statement
  while_fits tree k h =
      let parts = keyed_two "while" condition block h.0 k h.1 in
      let test = condition_fits h.0.0.1 parts.1 parts.2 in
      let body = block_fits h.0.1 parts.3 parts.4 in
      subst (λ t. FitStatement t k) (sym h.2) (record {
        written = (parts.0, test.written, body.written);
        few = omega (arith, parts.5, test.few, body.few);
        nested = (test.nested, body.nested);
      })

  break_fits : (tree : StatementTree) (k : ℕ) → Having break_statement tree k → FitStatement tree k
  unfolding break_statement
  break_fits tree k h =
      let line = from_before fits word number room (at "break") ";" h.0 k h.1 in
      let keyword = from_at fits word number room "break" h.0 line.0 line.1 in
      subst (λ t. FitStatement t k) (sym h.2) (record { written = keyword.0; few = omega (arith, keyword.1, line.2); nested = tt })

  continue_fits : (tree : StatementTree) (k : ℕ) → Having continue_statement tree k → FitStatement tree k
  unfolding continue_statement
  continue_fits tree k h =
      let line = from_before fits word number room (at "continue") ";" h.0 k h.1 in
      let keyword = from_at fits word number room "continue" h.0 line.0 line.1 in
      subst (λ t. FitStatement t k) (sym h.2) (record { written = keyword.0; few = omega (arith, keyword.1, line.2); nested = tt })

  throw_fits : (tree : StatementTree) (k : ℕ) → Having throw_statement tree k → FitStatement tree k
  unfolding throw_statement
  throw_fits tree k h =
      let line = from_before fits word number room (at "throw" · name) ";" h.0 k h.1 in
      let both = keyed "throw" h.0 line.0 line.1 in
      subst (λ t. FitStatement t k) (sym h.2) (record { written = (both.0, both.1); few = omega (arith, both.2, line.2); nested = tt })

  abbrev FitReturned : Option ExpressionTree → ℕ → Type 0
  FitReturned tree k =
      Fit (IsWrittenOptionalExpression fits word number tree) (optional_expression_nodes tree) (IsNestedOptionalExpression room tree) k

  returned_fits : (tree : Option ExpressionTree) (k : ℕ) → Having (optional expression) tree k → FitReturned tree k
  returned_fits tree k (inl h) =
      let one = expression_fits fits word number room h.0 k h.1 in
      subst (λ t. FitReturned t k) (sym h.2) (record { written = one.written; few = one.few; nested = one.nested })
  returned_fits tree k (inr h) =
      subst (λ t. FitReturned t k) (sym h.0) (record { written = tt; few = omega arith; nested = tt })

  return_fits : (tree : StatementTree) (k : ℕ) → Having return_statement tree k → FitStatement tree k
  unfolding return_statement
  return_fits tree k h =
      let line = from_before fits word number room (at "return" · optional expression) ";" h.0 k h.1 in
      let both = line.1 in
      let keyword = from_at fits word number room "return" h.0.0 both.0 both.2 in
      let value = returned_fits h.0.1 both.1 both.3 in
      subst (λ t. FitStatement t k) (sym h.2) (record {
        written = (keyword.0, value.written);
        few = omega (arith, keyword.1, value.few, both.4, line.2);
        nested = value.nested;
      })

  abbrev FitCatch : CatchTree → ℕ → Type 0
  FitCatch tree k =
      Fit (fits tree.0 × IsWrittenName fits word number tree.1 × IsWrittenBlock fits word number tree.2) (2 + block_nodes tree.2) (IsNestedBlock room tree.2) k

  catch_fits : (tree : CatchTree) (k : ℕ) → Having catch tree k → FitCatch tree k
  unfolding catch
  catch_fits tree k h =
      let a = h.1 in
      let close = from_before fits word number room (at "catch" ◂ "(" · name) ")" h.0.0 a.0 a.2 in
      let b = close.1 in
      let front = from_before fits word number room (at "catch") "(" h.0.0.0 b.0 b.2 in
      let keyword = from_at fits word number room "catch" h.0.0.0 front.0 front.1 in
      let named = name_fits fits word number room h.0.0.1 b.1 b.3 in
      let body = block_fits h.0.1 a.1 a.3 in
      subst (λ t. FitCatch t k) (sym h.2) (record {
        written = (keyword.0, named.written, body.written);
        few = omega (arith, keyword.1, named.few, body.few, a.4, b.4, front.2, close.2);
        nested = body.nested;
      })

  abbrev FitCatches : List CatchTree → ℕ → Type 0
  FitCatches trees k =
      Fit (AreWrittenCatches fits word number (catches_of trees)) (catches_nodes (catches_of trees)) (AreNestedCatches room (catches_of trees)) k

  one_more : (tree : CatchTree) (trees : List CatchTree) (i j k : ℕ) → FitCatch tree i → FitCatches trees j → k ≡ i + j → FitCatches (tree ∷ trees) k
  one_more tree trees i j k one others e = record {
    written = (one.written.0, one.written.1, one.written.2, others.written);
    few = omega (arith, one.few, others.few, e);
    nested = (one.nested, others.nested);
  }

  each_catch : (trees : List CatchTree) (k : ℕ) → Each (Having catch) trees k → FitCatches trees k
  each_catch [] k h = record { written = tt; few = omega arith; nested = tt }
  each_catch (tree ∷ trees) k h = one_more tree trees h.0 h.1 k (catch_fits tree h.0 h.2) (each_catch trees h.1 h.3) h.4

  catches_fit : (trees : List CatchTree) (k : ℕ) → Having catches trees k → FitCatches trees k
  unfolding catches
  catches_fit trees k h =
      let both = h.1 in
      subst (λ list. FitCatches list k) (sym h.2) (one_more h.0.0 h.0.1 both.0 both.1 k (catch_fits h.0.0 both.0 both.2) (each_catch h.0.1 both.1 both.3) both.4)

  attempt_fits : (tree : StatementTree) (k : ℕ) → Having attempt tree k → FitStatement tree k
  unfolding attempt
  attempt_fits tree k h =
      let parts = keyed_two "try" block catches h.0 k h.1 in
      let body = block_fits h.0.0.1 parts.1 parts.2 in
      let list = catches_fit h.0.1 parts.3 parts.4 in
      subst (λ t. FitStatement t k) (sym h.2) (record {
        written = (parts.0, body.written, list.written);
        few = omega (arith, parts.5, body.few, list.few);
        nested = (body.nested, list.nested);
      })

  nested_fits : (tree : StatementTree) (k : ℕ) → Having (block gives NestedTree) tree k → FitStatement tree k
  nested_fits tree k h =
      let body = block_fits h.0 k h.1 in
      subst (λ t. FitStatement t k) (sym h.2) (record { written = body.written; few = body.few; nested = body.nested })

  -- all trees of a form
  record AllFit (F : Form StatementTree) : Type 0 where
    pub fit : (tree : StatementTree) (k : ℕ) → Having F tree k → FitStatement tree k

  either : (F : Form StatementTree) {G : Form StatementTree} → ((tree : StatementTree) (k : ℕ) → Having F tree k → FitStatement tree k) → AllFit G → AllFit (F or G)
  either F one others = record { fit = λ tree k. ⊎_elim (one tree k) (others.fit tree k) }

  statement_fits : AllFit statement
  unfolding statement declare declare_array assign assign_element call_statement receive send conditional while_statement break_statement continue_statement throw_statement return_statement catches attempt
  statement_fits =
      either declare declare_fits (either declare_array declare_array_fits (either assign assign_fits (either assign_element assign_element_fits
      (either call_statement call_statement_fits (either receive receive_fits (either send send_fits (either conditional conditional_fits
      (either while_statement while_fits (either break_statement break_fits (either continue_statement continue_fits
      (either throw_statement throw_fits (either return_statement return_fits (either attempt attempt_fits (record { fit = nested_fits }))))))))))))))

  each_statement : (trees : List StatementTree) (k : ℕ) → Each (Having statement) trees k → FitStatements fits word number room trees k
  each_statement [] k h = record { written = tt; few = omega arith; nested = tt }
  each_statement (tree ∷ trees) k h =
      let one = statement_fits.fit tree h.0 h.2 in
      let others = each_statement trees h.1 h.3 in
      record {
        written = (one.written, others.written);
        few = omega (arith, one.few, others.few, h.4);
        nested = (one.nested, others.nested);
      }

-- what holds of each symbol's form holds of the symbol
pub symbols_fit : (fits : ℕ → Type 0) (word : List ℕ → Type 0) (number : ℕ → Type 0) (symbol : Symbol) (room : ℕ) (tree : tree_of symbol) (k : ℕ) → Has fits word number room (production symbol) tree k → Fits fits word number symbol room tree k
unfolding production operand_of
symbols_fit fits word number Expression room tree k h = expression_fits fits word number room tree k h
symbols_fit fits word number Unary room tree k h = unary_symbol_fits fits word number room tree k h
symbols_fit fits word number (Operands line) room tree k h =
    let one = operand_fits fits word number room line tree.0 h.0 h.2 in
    let others = others_fit fits word number room line tree.1 h.1 h.3 in
    record {
      written = (one.written, others.written);
      few = omega (arith, one.few, others.few, h.4);
      nested = (one.nested, others.nested);
    }
symbols_fit fits word number Arguments room tree k h = expressions_fit fits word number room tree k h
symbols_fit fits word number Statements room tree k h = each_statement fits word number room tree k h
