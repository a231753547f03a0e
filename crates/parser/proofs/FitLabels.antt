-- Names, labels, integers and base types fit.
use Rattle.std.proofs.Common.{◌≡◌, ℕ, ◌+◌, List, [], ◌∷◌, length, Bool, refl, sym, subst, inl, inr, sum_by, arith}
use Rattle.std.specs.Prelude.{Option}
use Rattle.std.specs.List.{All}
use Rattle.std.proofs.lemmas.List.Sums.{sum_by-cons}
use Rattle.common.specs.declared.base_type.BaseType.{BaseType}
use Rattle.parser.specs.ReadForm.{Form, ◌·◌}
use Rattle.parser.specs.ReadGrammar.{at, ◌▸◌, name, component, label, base, integer, truth, size, optional, some}
use Rattle.parser.specs.Parts.{readers}
use Rattle.syntax.specs.Nodes.{component_nodes, label_nodes, optional_label_nodes}
use Rattle.syntax.specs.Tree.{NameTree, ComponentTree, component_of, LabelTree, SizeTree}
use Rattle.syntax.specs.Written.{IsWrittenName, IsWrittenComponent, IsWrittenLabel, IsWrittenOptionalLabel, IsWrittenSize}
use Rattle.parser.proofs.SameKind.{name_is}
use Rattle.parser.proofs.Fits.{Fit, Has, from_at, from_after, from_before, some_fit}

abbrev pub Nothing : {A : Type 0} → A → Type 0
Nothing tree = Unit {0}

ones : {A : Type 0} (list : List A) → length list ≡ sum_by (λ one. 1) list
ones [] = refl
ones (first ∷ list) = omega (arith, sum_by-cons (λ one. 1) first list, ones list)

module _ (fits : ℕ → Type 0) (word : List ℕ → Type 0) (number : ℕ → Type 0) (room : ℕ) where
  abbrev Having : {A : Type 0} → Form A → A → ℕ → Type 0
  Having F tree k = Has fits word number room F tree k

  pub name_fits : (tree : NameTree) (k : ℕ) → Having name tree k → Fit (IsWrittenName fits word number tree) 1 (Nothing tree) k
  unfolding name
  name_fits tree k h =
      let token = h.1.0 in
      let kind_is = name_is h.0.0.kind h.0.1 h.1.1 in
      subst (λ t. Fit (IsWrittenName fits word number t) 1 (Nothing t) k) (sym h.2) (record {
        written = (token.place, token.named kind_is);
        few = omega (arith, h.1.2);
        nested = tt;
      })

  readers_fit : (trees : List NameTree) (k : ℕ) → Having (some "," name) trees k → Fit (All (IsWrittenName fits word number) trees) (sum_by (λ one. 1) trees) (All Nothing trees) k
  readers_fit trees k h = some_fit fits word number room "," name (IsWrittenName fits word number) (λ one. 1) Nothing name_fits trees k h

  abbrev FitComponent : ComponentTree → ℕ → Type 0
  FitComponent tree k = Fit (IsWrittenComponent fits word number tree) (component_nodes tree) (Nothing tree) k

  -- a name, and readers after it or none
  with_readers : (owner : NameTree) (found : Option (List NameTree)) (i j : ℕ) → Fit (IsWrittenName fits word number owner) 1 (Nothing owner) i → Having readers found j → FitComponent (component_of owner found) (i + j)
  unfolding readers
  with_readers owner found i j front (inl h) =
      let inner = from_after fits word number room ":" (some "," name) h.0 j h.1 in
      let others = readers_fit h.0 inner.0 inner.1 in
      subst (λ (o : Option (List NameTree)). FitComponent (component_of owner o) (i + j)) (sym h.2) (record {
        written = (front.written, others.written);
        few = omega (arith, front.few, others.few, ones h.0, inner.2);
        nested = tt;
      })
  with_readers owner found i j front (inr h) =
      subst (λ (o : Option (List NameTree)). FitComponent (component_of owner o) (i + j)) (sym h.0) (record {
        written = front.written;
        few = omega (arith, front.few);
        nested = tt;
      })

  component_fits : (tree : ComponentTree) (k : ℕ) → Having component tree k → FitComponent tree k
  unfolding component readers
  component_fits tree k h =
      let both = h.1 in
      subst (λ t. FitComponent t k) (sym h.2) (subst (FitComponent (component_of h.0.0 h.0.1)) (sym both.4) (with_readers h.0.0 h.0.1 both.0 both.1 (name_fits h.0.0 both.0 both.2) both.3))

  components_fit : (trees : List ComponentTree) (k : ℕ) → Having (some ";" component) trees k → Fit (All (IsWrittenComponent fits word number) trees) (sum_by component_nodes trees) (All Nothing trees) k
  components_fit trees k h =
      some_fit fits word number room ";" component (IsWrittenComponent fits word number) component_nodes Nothing component_fits trees k h

  pub label_fits : (tree : LabelTree) (k : ℕ) → Having label tree k → Fit (IsWrittenLabel fits word number tree) (1 + label_nodes tree) (Nothing tree) k
  unfolding label
  label_fits tree k h =
      let inner = from_before fits word number room (at "{" · some ";" component) "}" h.0 k h.1 in
      let both = inner.1 in
      let here = from_at fits word number room "{" h.0.0 both.0 both.2 in
      let list = components_fit h.0.1 both.1 both.3 in
      subst (λ t. Fit (IsWrittenLabel fits word number t) (1 + label_nodes t) (Nothing t) k) (sym h.2) (record {
        written = (here.0, list.written);
        few = omega (arith, list.few, here.1, both.4, inner.2);
        nested = tt;
      })

  pub optional_label_fits : (tree : Option LabelTree) (k : ℕ) → Having (optional label) tree k → Fit (IsWrittenOptionalLabel fits word number tree) (optional_label_nodes tree) (Nothing tree) k
  optional_label_fits tree k (inl h) =
      let one = label_fits h.0 k h.1 in
      subst (λ t. Fit (IsWrittenOptionalLabel fits word number t) (optional_label_nodes t) (Nothing t) k) (sym h.2) (record { written = one.written; few = omega (arith, one.few); nested = tt })
  optional_label_fits tree k (inr h) =
      subst (λ t. Fit (IsWrittenOptionalLabel fits word number t) (optional_label_nodes t) (Nothing t) k) (sym h.0) (record { written = tt; few = omega arith; nested = tt })

  pub base_fits : (found : ℕ × BaseType) (k : ℕ) → Having base found k → fits found.0 × (k ≡ 1)
  unfolding base
  base_fits found k h = (subst (λ (pair : ℕ × BaseType). fits pair.0) (sym h.2) h.1.0.place, h.1.2)

  pub integer_fits : (found : ℕ × ℕ) (k : ℕ) → Having integer found k → fits found.0 × number found.1 × (k ≡ 1)
  unfolding integer
  integer_fits found k h = (
    subst (λ (pair : ℕ × ℕ). fits pair.0) (sym h.2) h.1.0.place,
    subst (λ (pair : ℕ × ℕ). number pair.1) (sym h.2) h.1.0.valued,
    h.1.2,
  )

  pub truth_fits : (found : ℕ × Bool) (k : ℕ) → Having truth found k → fits found.0 × (k ≡ 1)
  unfolding truth
  truth_fits found k h = (subst (λ (pair : ℕ × Bool). fits pair.0) (sym h.2) h.1.0.place, h.1.2)

  pub size_fits : (tree : SizeTree) (k : ℕ) → Having size tree k → Fit (IsWrittenSize fits word number tree) 3 (Nothing tree) k
  unfolding size
  size_fits tree k h =
      let front = from_before fits word number room ("[" ▸ integer) "]" tree k h in
      let inner = from_after fits word number room "[" integer tree front.0 front.1 in
      let here = integer_fits tree inner.0 inner.1 in
      record { written = (here.0, here.1); few = omega (arith, here.2, inner.2, front.2); nested = tt }
