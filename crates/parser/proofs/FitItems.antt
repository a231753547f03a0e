-- Items and programs fit.
use Rattle.std.proofs.Common.{◌≡◌, ℕ, ◌+◌, ◌≤◌, List, sym, subst, inl, inr, sum_by, arith}
use Rattle.std.specs.Prelude.{Option}
use Rattle.std.specs.List.{All}
use Rattle.std.proofs.lemmas.List.Elements.{All-nil}
use Rattle.common.specs.declared.direction.Direction.{Direction}
use Rattle.parser.specs.ReadForm.{Form, many, ◌·◌}
use Rattle.parser.specs.ReadGrammar.{at, ◌◂◌, base, name, label, direction, constant, written_result, parameter, throws, item, program, optional, some, ◌▸◌}
use Rattle.parser.specs.Parts.{procedure, global, exception, channel, global_value, negative_constant, valued, some_throws, thrown, thrown_list}
use Rattle.syntax.specs.Nesting.{IsNestedItem, IsNested}
use Rattle.syntax.specs.Nodes.{optional_label_nodes, written_result_nodes, parameter_nodes, thrown_nodes, item_nodes, program_nodes}
use Rattle.syntax.specs.Tree.{LabelTree, ConstantTree, GlobalValueTree, WrittenResultTree, ParameterTree, ThrownTree, ItemTree, ProgramTree}
use Rattle.syntax.specs.Written.{IsWrittenOptionalLabel, IsWrittenConstant, IsWrittenGlobalValue, IsWrittenResult, IsWrittenParameter, IsWrittenThrown, IsWrittenItem, IsWritten}
use Rattle.parser.proofs.Fits.{Fit, Has, from_at, from_after, from_before, each_fits, separated_fits, some_fit}
use Rattle.parser.proofs.FitLabels.{Nothing, name_fits, label_fits, optional_label_fits, base_fits, integer_fits, truth_fits, size_fits}
use Rattle.parser.proofs.FitStatements.{block_fits}

module _ (fits : ℕ → Type 0) (word : List ℕ → Type 0) (number : ℕ → Type 0) (room : ℕ) where
  abbrev Having : {A : Type 0} → Form A → A → ℕ → Type 0
  Having F tree k = Has fits word number room F tree k

  abbrev FitItem : ItemTree → ℕ → Type 0
  FitItem tree k = Fit (IsWrittenItem fits word number tree) (item_nodes tree) (IsNestedItem room tree) k

  direction_fits : (found : ℕ × Direction) (k : ℕ) → Having direction found k → fits found.0 × (k ≡ 1)
  unfolding direction
  direction_fits found k h = (subst (λ (pair : ℕ × Direction). fits pair.0) (sym h.2) h.1.0.place, h.1.2)

  channel_fits : (tree : ItemTree) (k : ℕ) → Having channel tree k → FitItem tree k
  unfolding channel
  channel_fits tree k h =
      let line = from_before fits word number room (direction · label · name) ";" h.0 k h.1 in
      let a = line.1 in
      let b = a.2 in
      let keyword = direction_fits h.0.0.0 b.0 b.2 in
      let labelled = label_fits fits word number room h.0.0.1 b.1 b.3 in
      let named = name_fits fits word number room h.0.1 a.1 a.3 in
      subst (λ t. FitItem t k) (sym h.2) (record {
        written = (keyword.0, labelled.written, named.written);
        few = omega (arith, keyword.1, labelled.few, named.few, line.2, a.4, b.4);
        nested = tt;
      })

  exception_fits : (tree : ItemTree) (k : ℕ) → Having exception tree k → FitItem tree k
  unfolding exception
  exception_fits tree k h =
      let line = from_before fits word number room (at "exception" · name) ";" h.0 k h.1 in
      let both = line.1 in
      let keyword = from_at fits word number room "exception" h.0.0 both.0 both.2 in
      let named = name_fits fits word number room h.0.1 both.1 both.3 in
      subst (λ t. FitItem t k) (sym h.2) (record {
        written = (keyword.0, named.written);
        few = omega (arith, keyword.1, named.few, line.2, both.4);
        nested = tt;
      })

  abbrev FitConstant : ConstantTree → ℕ → Type 0
  FitConstant tree k = IsWrittenConstant fits word number tree × (1 ≤ k)

  constant_fits : (tree : ConstantTree) (k : ℕ) → Having constant tree k → FitConstant tree k
  unfolding constant negative_constant
  constant_fits tree k h = elim h [
    | inl one ↦
        let both = one.1 in
        let keyword = from_at fits word number room "-" one.0.0 both.0 both.2 in
        let value = integer_fits fits word number room one.0.1 both.1 both.3 in
        subst (λ t. FitConstant t k) (sym one.2) ((keyword.0, value.1), omega (arith, keyword.1, both.4))
    | inr h ↦ elim h [
      | inl one ↦
          let value = integer_fits fits word number room one.0 k one.1 in
          subst (λ t. FitConstant t k) (sym one.2) ((value.0, value.1), omega (arith, value.2))
      | inr one ↦
          let value = truth_fits fits word number room one.0 k one.1 in
          subst (λ t. FitConstant t k) (sym one.2) (value.0, omega (arith, value.1))
    ]
  ]

  abbrev FitGlobalValue : GlobalValueTree → ℕ → Type 0
  FitGlobalValue tree k = IsWrittenGlobalValue fits word number tree × (1 ≤ k)

  global_value_fits : (tree : GlobalValueTree) (k : ℕ) → Having global_value tree k → FitGlobalValue tree k
  unfolding global_value
  global_value_fits tree k (inl h) =
      let inner = from_after fits word number room "=" constant h.0 k h.1 in
      let one = constant_fits h.0 inner.0 inner.1 in
      subst (λ t. FitGlobalValue t k) (sym h.2) (one.0, omega (arith, one.1, inner.2))
  global_value_fits tree k (inr h) =
      let one = size_fits fits word number room h.0 k h.1 in
      subst (λ t. FitGlobalValue t k) (sym h.2) (one.written, omega (arith, one.few))

  global_fits : (tree : ItemTree) (k : ℕ) → Having global tree k → FitItem tree k
  unfolding global global_value
  global_fits tree k h =
      let line = from_before fits word number room (at "global" · base · label · name · global_value) ";" h.0 k h.1 in
      let a = line.1 in
      let b = a.2 in
      let c = b.2 in
      let d = c.2 in
      let keyword = from_at fits word number room "global" h.0.0.0.0.0 d.0 d.2 in
      let typed = base_fits fits word number room h.0.0.0.0.1 d.1 d.3 in
      let labelled = label_fits fits word number room h.0.0.0.1 c.1 c.3 in
      let named = name_fits fits word number room h.0.0.1 b.1 b.3 in
      let value = global_value_fits h.0.1 a.1 a.3 in
      subst (λ t. FitItem t k) (sym h.2) (record {
        written = (keyword.0, labelled.written, named.written, value.0);
        few = omega (arith, keyword.1, typed.1, labelled.few, named.few, value.1, line.2, a.4, b.4, c.4, d.4);
        nested = tt;
      })

  -- what a procedure answers, after the place that it begins at
  abbrev FitResult : ℕ × WrittenResultTree → ℕ → Type 0
  FitResult pair k = fits pair.0 × IsWrittenResult fits word number pair.1 × (1 + written_result_nodes pair.1 ≤ k)

  result_fits : (pair : ℕ × WrittenResultTree) (k : ℕ) → Having written_result pair k → FitResult pair k
  unfolding written_result valued
  result_fits pair k (inl h) =
      let keyword = from_at fits word number room "void" h.0 k h.1 in
      subst (λ p. FitResult p k) (sym h.2) (keyword.0, tt, omega (arith, keyword.1))
  result_fits pair k (inr h) =
      let both = h.1 in
      let typed = base_fits fits word number room h.0.0 both.0 both.2 in
      let labelled = label_fits fits word number room h.0.1 both.1 both.3 in
      subst (λ p. FitResult p k) (sym h.2) (typed.0, labelled.written, omega (arith, typed.1, labelled.few, both.4))

  parameter_fits : (tree : ParameterTree) (k : ℕ) → Having parameter tree k → Fit (IsWrittenParameter fits word number tree) (parameter_nodes tree) (Nothing tree) k
  unfolding parameter
  parameter_fits tree k h =
      let a = h.1 in
      let b = a.2 in
      let typed = base_fits fits word number room h.0.0.0 b.0 b.2 in
      let labelled = label_fits fits word number room h.0.0.1 b.1 b.3 in
      let named = name_fits fits word number room h.0.1 a.1 a.3 in
      subst (λ t. Fit (IsWrittenParameter fits word number t) (parameter_nodes t) (Nothing t) k) (sym h.2) (record {
        written = (typed.0, labelled.written, named.written);
        few = omega (arith, typed.1, labelled.few, named.few, a.4, b.4);
        nested = tt;
      })

  parameters_fit : (trees : List ParameterTree) (k : ℕ) → Having (some "," parameter) trees k → Fit (All (IsWrittenParameter fits word number) trees) (sum_by parameter_nodes trees) (All Nothing trees) k
  parameters_fit trees k h =
      some_fit fits word number room "," parameter (IsWrittenParameter fits word number) parameter_nodes Nothing parameter_fits trees k h

  end_label_fits : (tree : Option LabelTree) (k : ℕ) → Having (optional (":" ▸ label)) tree k → Fit (IsWrittenOptionalLabel fits word number tree) (optional_label_nodes tree) (Nothing tree) k
  end_label_fits tree k (inl h) =
      let inner = from_after fits word number room ":" label h.0 k h.1 in
      let one = label_fits fits word number room h.0 inner.0 inner.1 in
      subst (λ t. Fit (IsWrittenOptionalLabel fits word number t) (optional_label_nodes t) (Nothing t) k) (sym h.2) (record { written = one.written; few = omega (arith, one.few, inner.2); nested = tt })
  end_label_fits tree k (inr h) =
      subst (λ t. Fit (IsWrittenOptionalLabel fits word number t) (optional_label_nodes t) (Nothing t) k) (sym h.0) (record { written = tt; few = omega arith; nested = tt })

  thrown_fits : (tree : ThrownTree) (k : ℕ) → Having thrown tree k → Fit (IsWrittenThrown fits word number tree) (thrown_nodes tree) (Nothing tree) k
  unfolding thrown
  thrown_fits tree k h =
      let named = name_fits fits word number room tree.0 h.0 h.2 in
      let labelled = label_fits fits word number room tree.1 h.1 h.3 in
      record {
        written = (named.written, labelled.written);
        few = omega (arith, named.few, labelled.few, h.4);
        nested = tt;
      }

  abbrev FitThrows : List ThrownTree → ℕ → Type 0
  FitThrows trees k = Fit (All (IsWrittenThrown fits word number) trees) (sum_by thrown_nodes trees) (All Nothing trees) k

  thrown_list_fits : (trees : List ThrownTree) (k : ℕ) → Having thrown_list trees k → FitThrows trees k
  unfolding thrown_list
  thrown_list_fits trees k h =
      separated_fits fits word number room "," thrown (IsWrittenThrown fits word number) thrown_nodes Nothing thrown_fits trees k h

  some_throws_fit : (trees : List ThrownTree) (k : ℕ) → Having some_throws trees k → FitThrows trees k
  unfolding some_throws
  some_throws_fit trees k h =
      let close = from_before fits word number room (at "throws" ◂ "(" · thrown_list) ")" h.0 k h.1 in
      let both = close.1 in
      let list = thrown_list_fits h.0.1 both.1 both.3 in
      subst (λ list. FitThrows list k) (sym h.2) (record { written = list.written; few = omega (arith, list.few, both.4, close.2); nested = list.nested })

  throws_fit : (trees : List ThrownTree) (k : ℕ) → Having throws trees k → FitThrows trees k
  unfolding throws some_throws thrown_list thrown
  throws_fit trees k (inl h) = some_throws_fit trees k h
  throws_fit trees k (inr h) =
      subst (λ list. FitThrows list k) (sym h.0) (record { written = All-nil (IsWrittenThrown fits word number); few = omega arith; nested = All-nil Nothing })

  procedure_fits : (tree : ItemTree) (k : ℕ) → Having procedure tree k → FitItem tree k
  unfolding procedure
  procedure_fits tree k h =
      let a = h.1 in
      let b = a.2 in
      let c = b.2 in
      let close = from_before fits word number room (written_result · name · optional label ◂ "(" · some "," parameter) ")" h.0.0.0.0 c.0 c.2 in
      let d = close.1 in
      let front = from_before fits word number room (written_result · name · optional label) "(" h.0.0.0.0.0 d.0 d.2 in
      let e = front.1 in
      let f = e.2 in
      let answers = result_fits h.0.0.0.0.0.0.0 f.0 f.2 in
      let named = name_fits fits word number room h.0.0.0.0.0.0.1 f.1 f.3 in
      let begins = optional_label_fits fits word number room h.0.0.0.0.0.1 e.1 e.3 in
      let takes = parameters_fit h.0.0.0.0.1 d.1 d.3 in
      let ends = end_label_fits h.0.0.0.1 c.1 c.3 in
      let throwing = throws_fit h.0.0.1 b.1 b.3 in
      let body = block_fits fits word number room h.0.1 a.1 a.3 in
      subst (λ t. FitItem t k) (sym h.2) (record {
        written = record {
          at = answers.0;
          result = answers.1;
          name = named.written;
          begin = begins.written;
          parameters = takes.written;
          end = ends.written;
          throws = throwing.written;
          body = body.written;
        };
        few = omega (arith, answers.2, named.few, begins.few, takes.few, ends.few, throwing.few, body.few, front.2, close.2, a.4, b.4, c.4, d.4, e.4, f.4);
        nested = body.nested;
      })

  item_fits : (tree : ItemTree) (k : ℕ) → Having item tree k → FitItem tree k
  unfolding item channel exception global global_value procedure
  item_fits tree k h = elim h [
    | inl one ↦ channel_fits tree k one
    | inr h ↦ elim h [
      | inl one ↦ exception_fits tree k one
      | inr h ↦ elim h [ inl one ↦ global_fits tree k one | inr one ↦ procedure_fits tree k one ]
    ]
  ]

  pub program_fits : (tree : ProgramTree) (k : ℕ) → Having program tree k → Fit (IsWritten fits word number tree) (program_nodes tree) (IsNested room tree) k
  unfolding program
  program_fits tree k h =
      let inner = from_before fits word number room (many item) "the end" h.0 k h.1 in
      let list = each_fits fits word number room item (IsWrittenItem fits word number) item_nodes (IsNestedItem room) item_fits h.0 inner.0 inner.1 in
      subst (λ t. Fit (IsWritten fits word number t) (program_nodes t) (IsNested room t) k) (sym h.2) (record {
        written = list.written;
        few = omega (arith, list.few, inner.2);
        nested = list.nested;
      })
