-- Code of a condition goes to its target where the condition has the wanted truth, and else on after.
use Rattle.common.specs.Functions.{same_truth}
use Rattle.std.proofs.Common.{◌≡◌, ℕ, ◌+◌, Bool, true, false, not, List, [], ◌∷◌, refl, sym, ap, subst, arith}
use Rattle.std.specs.Prelude.{Option, if◌then◌else◌}
use Rattle.common.proofs.Operators.{comparison_turned, sameness_turned}
use Rattle.std.proofs.lemmas.Bool.{and_parts}
use Rattle.common.specs.declared.value.Value.{Value}
use Rattle.common.specs.declared.value.Value.TheVariants.{Int as Number, Bool as Truth}
use Rattle.common.specs.declared.base_type.BaseType.TheVariants as base
use Rattle.common.specs.declared.operator.Prefix.TheVariants as prefix
use Rattle.common.specs.declared.operator.Operator.{Operator}
use Rattle.common.specs.declared.operator.Operator.TheVariants as operator
use Rattle.common.specs.declared.operator.Connective.{Connective}
use Rattle.common.specs.declared.operator.Connective.TheVariants.{And, Or}
use Rattle.resolved.specs.Tree.{Expression, Integer, Logical, Read, Element, Unary, Binary, Short}
use Rattle.resolved.specs.SourceState as source
use Rattle.resolved.specs.SourceState.{value_of}
use Rattle.common.specs.Values.{truth_in, number_in}
use Rattle.common.specs.Operators.{prefix_value}
use Rattle.resolved.specs.Value.{Evaluated, Yields, Raises, then_with, operator_evaluated, decides}
use Rattle.resolved.specs.WellFormed.{has_base, result_base}
use Rattle.resolved.specs.Kinds.{StateFits, GivesBase}
use Rattle.resolved.proofs.Sound.Values.{value_fits}
use Rattle.common.specs.declared.value.Value.TheVariants as cell
use Rattle.modules.specs.declared.instruction.Instruction.{Instruction}
use Rattle.modules.specs.declared.instruction.Instruction.TheVariants.{JumpIfFalse}
use Rattle.modules.specs.Machine.{Machine}
use Rattle.lowering.specs.Expressions.{value_size, value_code, negated, negated_operator, tested, deciding, branch_size, branch_code, test_code}
use Rattle.lowering.proofs.Negated.{operands-fit, negated-fits}
use Rattle.lowering.proofs.CodePieces.{Stands, stands-front, stands-back}
use Rattle.lowering.proofs.Sizes.{value-sized, branch-sized}
use Rattle.lowering.proofs.Steps.{Leads, Strides, leads-through, strides-through, strides-leads}
use Rattle.lowering.proofs.States.{Setting, position, thrown_to}
use Rattle.lowering.proofs.SingleSteps.{does_stride, onward}
use Rattle.lowering.proofs.Values.{Finds, finds-part, ValueRuns}
use Rattle.lowering.proofs.Expressions.{value-runs}

-- the position to which a condition leads by its truth
abbrev pub lead_by : (wanted truth : Bool) → (target end : ℕ) → ℕ
lead_by wanted truth target end = if same_truth wanted truth then target else end

-- in at least one step the machine comes to the target or after the code, or to where the exception goes
abbrev pub BranchRuns : Setting → (ℕ → Option ℕ) → (wanted : Bool) → (target : ℕ) → Machine → (end : ℕ) → source.SourceState → Evaluated Value → Type 0
BranchRuns g h wanted target from end s (Yields v) = Strides g.p from (position g (lead_by wanted (truth_in v) target end) [] s)
BranchRuns g h wanted target from end s (Raises exception) = Leads g.p from (thrown_to g (h exception) exception s)

-- ---- negated conditions

twice : (b : Bool) → b ≡ not (not b)
twice true = refl
twice false = refl

negated_truth : (a b : Bool) → a ≡ b → ◌≡◌ {A = Evaluated Value} (Yields (Truth a)) (Yields (Truth b))
negated_truth a b e = ap (λ (t : Bool). Yields (Truth t)) e

negated-operator : (op : Operator) (v w : Value) → result_base op ≡ base.Boolean
    → operator_evaluated (negated_operator op) v w ≡ then_with (operator_evaluated op v w) (λ x. Yields (prefix_value prefix.Not x))
negated-operator (operator.Compare comparison) v w e = negated_truth _ _ (comparison_turned comparison (number_in v) (number_in w))
negated-operator (operator.Match sameness) v w e = negated_truth _ _ (sameness_turned sameness (same_truth (truth_in v) (truth_in w)))
negated-operator (operator.Compute computed) v w e = cc

negated_pair : (op : Operator) (first second : Evaluated Value) → result_base op ≡ base.Boolean
    → then_with first (λ v. then_with second (λ w. operator_evaluated (negated_operator op) v w))
    ≡ then_with (then_with first (λ v. then_with second (λ w. operator_evaluated op v w))) (λ x. Yields (prefix_value prefix.Not x))
negated_pair op (Yields v) (Yields w) e = negated-operator op v w e
negated_pair op (Yields v) (Raises exception) e = refl
negated_pair op (Raises exception) second e = refl

module _ (g : Setting) (h : ℕ → Option ℕ) (s : source.SourceState) (fit : StateFits g.program g.procedure s) where
  negated-value : (e : Expression) → has_base g.program g.procedure base.Boolean e ≡ true
      → value_of s (negated e) ≡ then_with (value_of s e) (λ x. Yields (prefix_value prefix.Not x))
  negated-value (Integer n) typed = refl
  negated-value (Logical b) typed = refl
  negated-value (Read x) typed = refl
  negated-value (Element array count index) typed = refl
  negated-value (Unary sign e) typed = refl
  negated-value (Binary op d e) typed = negated_pair op (value_of s d) (value_of s e) (operands-fit g.program g.procedure base.Boolean op d e typed).result
  negated-value (Short connective d e) typed = refl

  -- ---- putting pieces together

  branch-from : (wanted : Bool) (target : ℕ) (from mid : Machine) (end : ℕ) (o : Evaluated Value)
      → Leads g.p from mid → BranchRuns g h wanted target mid end s o → BranchRuns g h wanted target from end s o
  branch-from wanted target from mid end (Yields v) first second = strides-through g.p from mid _ first second
  branch-from wanted target from mid end (Raises exception) first second = leads-through g.p from mid _ first second

  branch-at : (wanted : Bool) (target : ℕ) (from : Machine) (mid end : ℕ) (o : Evaluated Value)
      → mid ≡ end → BranchRuns g h wanted target from mid s o → BranchRuns g h wanted target from end s o
  branch-at wanted target from mid end o e first = subst (λ (q : ℕ). BranchRuns g h wanted target from q s o) e first

  -- a truth on the operands is tested
  after-test : (target mid : ℕ) (from : Machine) (more : List Instruction) (o : Evaluated Value) → GivesBase base.Boolean o
      → ValueRuns g h [] from mid s o → Stands g.code (JumpIfFalse target ∷ more) mid → BranchRuns g h false target from (mid + 1) s o
  after-test target mid from more (Yields (Truth true)) typed run stands =
      strides-through g.p from _ _ run (does_stride g more (JumpIfFalse target) mid (cell.Bool true ∷ []) s _ stands refl (onward g mid (cell.Bool true ∷ []) [] s))
  after-test target mid from more (Yields (Truth false)) typed run stands =
      strides-through g.p from _ _ run (does_stride g more (JumpIfFalse target) mid (cell.Bool false ∷ []) s _ stands refl refl)
  after-test target mid from more (Yields (Number z)) typed run stands = absurd (let no : base.Int ≡ base.Boolean = typed in cc)
  after-test target mid from more (Raises exception) typed run stands = run

  -- a condition after `!`
  not-branch : (wanted : Bool) (target end : ℕ) (from : Machine) (o : Evaluated Value)
      → BranchRuns g h (not wanted) target from end s o → BranchRuns g h wanted target from end s (then_with o (λ x. Yields (prefix_value prefix.Not x)))
  not-branch wanted target end from (Yields v) run = subst (λ (b : Bool). Strides g.p from (position g (if b then target else end) [] s)) (same wanted (truth_in v)) run
    where
      same : (a b : Bool) → same_truth (not a) b ≡ same_truth a (not b)
      same true b = refl
      same false true = refl
      same false false = refl
  not-branch wanted target end from (Raises exception) run = run

  negated-branch : (target end : ℕ) (from : Machine) (o : Evaluated Value)
      → BranchRuns g h false target from end s (then_with o (λ x. Yields (prefix_value prefix.Not x))) → BranchRuns g h true target from end s o
  negated-branch target end from (Yields v) run = subst (λ (b : Bool). Strides g.p from (position g (if b then target else end) [] s)) (sym (twice (truth_in v))) run
  negated-branch target end from (Raises exception) run = run

  test-runs : (wanted : Bool) (e : Expression) (at target : ℕ) → has_base g.program g.procedure base.Boolean e ≡ true
      → Stands g.code (test_code wanted at target e) at → Finds g at (value_size (tested wanted e) + 1) h
      → BranchRuns g h wanted target (position g at [] s) (at + (value_size (tested wanted e) + 1)) s (value_of s e)
  test-runs false e at target typed stands finds =
      let mid = at + value_size e in
      branch-at false target (position g at [] s) (mid + 1) (at + (value_size e + 1)) (value_of s e) (omega arith)
      (after-test target mid (position g at [] s) [] (value_of s e) (value_fits g.program g.procedure s fit base.Boolean e typed)
      (value-runs g h s fit e base.Boolean at [] typed (stands-front g.code (value_code at e) (JumpIfFalse target ∷ []) at stands)
      (finds-part g at (value_size e + 1) h at (value_size e) (omega arith) (omega arith) finds))
      (stands-back g.code (value_code at e) (JumpIfFalse target ∷ []) at (value_size e) (value-sized e at) stands))
  test-runs true e at target typed stands finds =
      let mid = at + value_size (negated e) in
      let fits : has_base g.program g.procedure base.Boolean (negated e) ≡ true = negated-fits g.program g.procedure e typed in
      negated-branch target (at + (value_size (negated e) + 1)) (position g at [] s) (value_of s e)
      (subst (λ (o : Evaluated Value). BranchRuns g h false target (position g at [] s) (at + (value_size (negated e) + 1)) s o) (negated-value e typed)
      (branch-at false target (position g at [] s) (mid + 1) (at + (value_size (negated e) + 1)) (value_of s (negated e)) (omega arith)
      (after-test target mid (position g at [] s) [] (value_of s (negated e)) (value_fits g.program g.procedure s fit base.Boolean (negated e) fits)
      (value-runs g h s fit (negated e) base.Boolean at [] fits (stands-front g.code (value_code at (negated e)) (JumpIfFalse target ∷ []) at stands)
      (finds-part g at (value_size (negated e) + 1) h at (value_size (negated e)) (omega arith) (omega arith) finds))
      (stands-back g.code (value_code at (negated e)) (JumpIfFalse target ∷ []) at (value_size (negated e)) (value-sized (negated e) at) stands))))

  short-branch : (connective : Connective) (wanted : Bool) (target mid end : ℕ) (from : Machine) (o right : Evaluated Value) → GivesBase base.Boolean o
      → BranchRuns g h (deciding connective) (if same_truth wanted (deciding connective) then target else end) from mid s o
      → BranchRuns g h wanted target (position g mid [] s) end s right
      → BranchRuns g h wanted target from end s (then_with o (λ v. if decides connective v then Yields v else right))
  short-branch And wanted target mid end from (Yields (Truth true)) right typed run next = branch-from wanted target from _ end right (strides-leads g.p _ _ run) next
  short-branch And wanted target mid end from (Yields (Truth false)) right typed run next = run
  short-branch Or wanted target mid end from (Yields (Truth true)) right typed run next = run
  short-branch Or wanted target mid end from (Yields (Truth false)) right typed run next = branch-from wanted target from _ end right (strides-leads g.p _ _ run) next
  short-branch connective wanted target mid end from (Yields (Number z)) right typed run next = absurd (let no : base.Int ≡ base.Boolean = typed in cc)
  short-branch connective wanted target mid end from (Raises exception) right typed run next = run

  pub branch-runs : (e : Expression) (wanted : Bool) (at target : ℕ) → has_base g.program g.procedure base.Boolean e ≡ true
      → Stands g.code (branch_code wanted at target e) at → Finds g at (branch_size wanted e) h
      → BranchRuns g h wanted target (position g at [] s) (at + branch_size wanted e) s (value_of s e)
  branch-runs (Integer n) wanted at target typed stands finds = test-runs wanted (Integer n) at target typed stands finds
  branch-runs (Logical b) wanted at target typed stands finds = test-runs wanted (Logical b) at target typed stands finds
  branch-runs (Read x) wanted at target typed stands finds = test-runs wanted (Read x) at target typed stands finds
  branch-runs (Element array count index) wanted at target typed stands finds = test-runs wanted (Element array count index) at target typed stands finds
  branch-runs (Unary prefix.Negate e) wanted at target typed stands finds = test-runs wanted (Unary prefix.Negate e) at target typed stands finds
  branch-runs (Unary prefix.Not e) wanted at target typed stands finds =
      not-branch wanted target (at + branch_size (not wanted) e) (position g at [] s) (value_of s e) (branch-runs e (not wanted) at target typed stands finds)
  branch-runs (Binary op d e) wanted at target typed stands finds = test-runs wanted (Binary op d e) at target typed stands finds
  branch-runs (Short connective d e) wanted at target typed stands finds =
      let parts : (has_base g.program g.procedure base.Boolean d ≡ true) × (has_base g.program g.procedure base.Boolean e ≡ true) =
      and_parts (has_base g.program g.procedure base.Boolean d) _ typed in
      let n = branch_size (deciding connective) d in
      let m = branch_size wanted e in
      let mid = at + n in
      let inner = (if same_truth wanted (deciding connective) then target else mid + m) in
      branch-at wanted target (position g at [] s) (mid + m) (at + (n + m)) (value_of s (Short connective d e)) (omega arith)
      (short-branch connective wanted target mid (mid + m) (position g at [] s) (value_of s d) (value_of s e) (value_fits g.program g.procedure s fit base.Boolean d parts.0)
      (branch-runs d (deciding connective) at inner parts.0 (stands-front g.code (branch_code (deciding connective) at inner d) (branch_code wanted mid target e) at stands)
      (finds-part g at (n + m) h at n (omega arith) (omega arith) finds))
      (branch-runs e wanted mid target parts.1
      (stands-back g.code (branch_code (deciding connective) at inner d) (branch_code wanted mid target e) at n (branch-sized d (deciding connective) at inner) stands)
      (finds-part g at (n + m) h mid m (omega arith) (omega arith) finds)))
