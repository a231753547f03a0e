-- Trees that fit: they are written, have no more nodes than tokens, and are nested in the room; and what a form's tokens say of
-- its tree, form by form.
use Prim.Native.String.{String}
use Rattle.lexer.specs.TokenKind as token_kinds
use Rattle.std.proofs.Common.{◌≡◌, ℕ, pred, ◌+◌, ◌≤◌, ◌<◌, List, [], ◌∷◌, sym, subst, inl, inr, sum_by, arith}
use Rattle.std.specs.List.{All}
use Rattle.std.proofs.lemmas.List.Elements.{All-nil, All-cons}
use Rattle.std.proofs.lemmas.List.Sums.{sum_by-cons}
use Rattle.lexer.specs.Terminal.{Terminal}
use Rattle.syntax.specs.declared.tree.BinaryOperator.{BinaryOperator}
use Rattle.parser.specs.ReadForm.{Form}
use Rattle.syntax.specs.Grammar.{value_of}
use Rattle.parser.specs.ReadGrammar.{at, ◌▸◌, ◌◂◌, separated, some}
use Rattle.syntax.specs.Nesting.{IsNestedExpression, AreNestedStatements}
use Rattle.syntax.specs.Nodes.{expression_nodes, statements_nodes}
use Rattle.parser.specs.ReadSymbol.{Expression, Unary, Operands, Arguments, Statements}
use Rattle.syntax.specs.Tree.{ExpressionTree, StatementTree, statements_of}
use Rattle.syntax.specs.Written.{IsWrittenExpression, AreWrittenStatements}
use Rattle.parser.proofs.Holds.{Each, Held, Holds}

pub record Fit (W : Type 0) (nodes : ℕ) (D : Type 0) (k : ℕ) : Type 0 where
  pub written : W
  pub few : nodes ≤ k
  pub nested : D

-- a token at a place that fits, whose text fits where it is a name, and whose value fits
pub record Fitting (fits : ℕ → Type 0) (word : List ℕ → Type 0) (number : ℕ → Type 0) (token : Terminal) : Type 0 where
  pub place : fits token.start
  pub named : token.kind ≡ token_kinds.Name → word token.text
  pub valued : number (value_of token.kind)

-- operators with their right operands
abbrev pub others_nodes : List (BinaryOperator × ExpressionTree) → ℕ
others_nodes [] = 0
others_nodes (next ∷ others) = 1 + (expression_nodes next.1 + others_nodes others)

abbrev pub AreNestedOthers : ℕ → List (BinaryOperator × ExpressionTree) → Type 0
AreNestedOthers room [] = Unit {0}
AreNestedOthers room (next ∷ others) = (0 < room) × IsNestedExpression (pred room) next.1 × AreNestedOthers (pred room) others

module _ (fits : ℕ → Type 0) (word : List ℕ → Type 0) (number : ℕ → Type 0) where
  abbrev pub AreWrittenOthers : List (BinaryOperator × ExpressionTree) → Type 0
  AreWrittenOthers [] = Unit {0}
  AreWrittenOthers (next ∷ others) = IsWrittenExpression fits word number next.1 × AreWrittenOthers others

  abbrev pub FitExpression : ℕ → ExpressionTree → ℕ → Type 0
  FitExpression room tree k = Fit (IsWrittenExpression fits word number tree) (expression_nodes tree) (IsNestedExpression room tree) k

  abbrev pub FitOthers : ℕ → List (BinaryOperator × ExpressionTree) → ℕ → Type 0
  FitOthers room others k = Fit (AreWrittenOthers others) (others_nodes others) (AreNestedOthers room others) k

  abbrev pub FitExpressions : ℕ → List ExpressionTree → ℕ → Type 0
  FitExpressions room trees k =
      Fit (All (IsWrittenExpression fits word number) trees) (sum_by expression_nodes trees) (All (IsNestedExpression room) trees) k

  abbrev pub FitStatements : ℕ → List StatementTree → ℕ → Type 0
  FitStatements room trees k =
      Fit (AreWrittenStatements fits word number (statements_of trees)) (statements_nodes (statements_of trees)) (AreNestedStatements room (statements_of trees)) k

  abbrev pub Fits : Held
  Fits Expression room tree k = FitExpression room tree k
  Fits Unary room tree k = FitExpression room tree k
  Fits (Operands line) room pair k =
      Fit (IsWrittenExpression fits word number pair.0 × AreWrittenOthers pair.1) (expression_nodes pair.0 + others_nodes pair.1) (IsNestedExpression room pair.0 × AreNestedOthers room pair.1) k
  Fits Arguments room trees k = FitExpressions room trees k
  Fits Statements room trees k = FitStatements room trees k

  -- what a form's tokens say of its tree
  abbrev pub Has : ℕ → {A : Type 0} → Form A → A → ℕ → Type 0
  Has room F tree k = Holds (Fitting fits word number) Fits room F tree k

  module _ (room : ℕ) where
    pub from_at : (text : String) (place k : ℕ) → Has room (at text) place k → fits place × (k ≡ 1)
    from_at text place k h = (subst fits (sym h.2) h.1.0.place, h.1.2)

    pub from_after : {A : Type 0} (text : String) (F : Form A) (tree : A) (k : ℕ) → Has room (text ▸ F) tree k → (j : ℕ) × Has room F tree j × (k ≡ 1 + j)
    from_after text F tree k h =
        let both = h.1 in
        (both.1, subst (λ t. Has room F t both.1) (sym h.2) both.3, omega (arith, both.4, (from_at text h.0.0 both.0 both.2).1))

    pub from_before : {A : Type 0} (F : Form A) (text : String) (tree : A) (k : ℕ) → Has room (F ◂ text) tree k → (i : ℕ) × Has room F tree i × (k ≡ i + 1)
    from_before F text tree k h =
        let both = h.1 in
        (both.0, subst (λ t. Has room F t both.0) (sym h.2) both.2, omega (arith, both.4, (from_at text h.0.1 both.1 both.3).1))

    -- lists, where each tree of a form fits
    module _ {A : Type 0} (F : Form A) (W : A → Type 0) (N : A → ℕ) (D : A → Type 0) (f : (tree : A) (k : ℕ) → Has room F tree k → Fit (W tree) (N tree) (D tree) k) where
      pub each_fits : (trees : List A) (k : ℕ) → Each (Has room F) trees k → Fit (All W trees) (sum_by N trees) (All D trees) k
      each_fits [] k h = record { written = All-nil W; few = omega arith; nested = All-nil D }
      each_fits (tree ∷ trees) k h =
          let one = f tree h.0 h.2 in
          let others = each_fits trees h.1 h.3 in
          record {
            written = All-cons W tree trees one.written others.written;
            few = omega (arith, sum_by-cons N tree trees, one.few, others.few, h.4);
            nested = All-cons D tree trees one.nested others.nested;
          }

    module _ {A : Type 0} (text : String) (F : Form A) (W : A → Type 0) (N : A → ℕ) (D : A → Type 0) (f : (tree : A) (k : ℕ) → Has room F tree k → Fit (W tree) (N tree) (D tree) k) where
      parted_fits : (tree : A) (k : ℕ) → Has room (text ▸ F) tree k → Fit (W tree) (N tree) (D tree) k
      parted_fits tree k h =
          let inner = from_after text F tree k h in
          let one = f tree inner.0 inner.1 in
          record { written = one.written; few = omega (arith, one.few, inner.2); nested = one.nested }

      pub separated_fits : (trees : List A) (k : ℕ) → Has room (separated text F) trees k → Fit (All W trees) (sum_by N trees) (All D trees) k
      separated_fits trees k h =
          let both = h.1 in
          let one = f h.0.0 both.0 both.2 in
          let others = each_fits (text ▸ F) W N D parted_fits h.0.1 both.1 both.3 in
          subst (λ list. Fit (All W list) (sum_by N list) (All D list) k) (sym h.2) (record {
            written = All-cons W h.0.0 h.0.1 one.written others.written;
            few = omega (arith, sum_by-cons N h.0.0 h.0.1, one.few, others.few, both.4);
            nested = All-cons D h.0.0 h.0.1 one.nested others.nested;
          })

      pub some_fit : (trees : List A) (k : ℕ) → Has room (some text F) trees k → Fit (All W trees) (sum_by N trees) (All D trees) k
      some_fit trees k (inl h) = separated_fits trees k h
      some_fit trees k (inr h) =
          subst (λ list. Fit (All W list) (sum_by N list) (All D list) k) (sym h.0) (record { written = All-nil W; few = omega arith; nested = All-nil D })
