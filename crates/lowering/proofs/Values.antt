-- Code of an expression pushes its value, or raises what the expression raises.
use Rattle.std.proofs.Common.{◌≡◌, ℕ, ◌+◌, ◌<◌, ◌≤◌, Bool, true, false, ℤ, pos, negsuc, List, [], ◌∷◌, length, refl, ap, ◌∙◌, slice_get, subst, arith, nat_lt, eqb-true}
use Rattle.std.specs.Prelude.{Option, Some, None, if◌then◌else◌, is_none}
use Rattle.std.specs.Option.{option_map}
use Rattle.std.proofs.lemmas.Bool.{ltb-true, ltb-false, and_parts}
use Rattle.std.proofs.lemmas.List.{length-map}
use Rattle.std.proofs.lemmas.Option.{slice_get-get_or, slice_get_past, slice_get-map}
use Rattle.common.proofs.Cases.{none_there}
use Rattle.common.specs.declared.value.Value.{Value}
use Rattle.common.specs.declared.value.Value.TheVariants.{Int as Number, Bool as Truth}
use Rattle.common.specs.declared.base_type.BaseType.{BaseType}
use Rattle.common.specs.declared.base_type.BaseType.TheVariants as base
use Rattle.resolved.specs.declared.expression.Variable.{Variable}
use Rattle.resolved.specs.SourceState as source
use Rattle.resolved.specs.SourceState.{value_of, cells, cell_at}
use Rattle.common.specs.Values.{kind_of}
use Rattle.resolved.specs.Value.{Evaluated, Yields, Raises, then_with, checked_index}
use Rattle.resolved.specs.WellFormed.{VariableType, variable_type, same_base, scalar_by, array_by, has_length, cell_count}
use Rattle.resolved.specs.Kinds.{StateFits, CellsFit}
use Rattle.common.specs.declared.value.Value.{Value as Cell}
use Rattle.common.specs.declared.value.Value.TheVariants as cell
use Rattle.modules.specs.declared.declaration.Slot.{Slot}
use Rattle.modules.specs.declared.declaration.Slot.TheVariants as slot
use Rattle.modules.specs.declared.instruction.Instruction.{Instruction}
use Rattle.modules.specs.Machine.{Machine, element_at, goes_on}
use Rattle.modules.specs.Transitions.{act, loads, loads_element, scalar_cell}
use Rattle.modules.specs.MachineParts.{found}
use Rattle.common.specs.declared.exceptions.TheConstants.{BOUNDS}
use Rattle.lowering.specs.Expressions.{load_of, load_element_of}
use Rattle.lowering.proofs.CodePieces.{Stands}
use Rattle.lowering.proofs.Steps.{Leads, leads-through}
use Rattle.lowering.proofs.States.{Setting, state_at, position, cell_of, cells_of, thrown_to, raised-is}
use Rattle.lowering.proofs.SingleSteps.{does, onward, slot_for, loads-is, loads_element-is}

-- in these positions the search for a handler comes to what a function says
pub record Finds (g : Setting) (at n : ℕ) (h : ℕ → Option ℕ) : Type 0 where
  pub finds : (i : ℕ) → at ≤ i → i < at + n → (exception : ℕ) → g.p.find g.number i exception ≡ h exception

pub finds-part : (g : Setting) (at n : ℕ) (h : ℕ → Option ℕ) (from m : ℕ) → at ≤ from → from + m ≤ at + n → Finds g at n h → Finds g from m h
finds-part g at n h from m low high f = record { finds = λ i least most exception. f.finds i (omega (arith, low, least)) (omega (arith, high, most)) exception }

-- the machine comes from one machine to the end of code with the value on the operands, or to where the exception goes
abbrev pub ValueRuns : Setting → (ℕ → Option ℕ) → List Cell → Machine → (end : ℕ) → source.SourceState → Evaluated Value → Type 0
ValueRuns g h operands from end s (Yields v) = Leads g.p from (position g end (cell_of v ∷ operands) s)
ValueRuns g h operands from end s (Raises exception) = Leads g.p from (thrown_to g (h exception) exception s)

-- ---- putting pieces together

pub value-from : (g : Setting) (h : ℕ → Option ℕ) (operands : List Cell) (from mid : Machine) (end : ℕ) (s : source.SourceState) (o : Evaluated Value)
    → Leads g.p from mid → ValueRuns g h operands mid end s o → ValueRuns g h operands from end s o
value-from g h operands from mid end s (Yields v) first second = leads-through g.p from mid _ first second
value-from g h operands from mid end s (Raises exception) first second = leads-through g.p from mid _ first second

pub value-to : (g : Setting) (h : ℕ → Option ℕ) (operands : List Cell) (from : Machine) (mid end : ℕ) (s : source.SourceState) (o : Evaluated Value)
    → ValueRuns g h operands from mid s o → ((v : Value) → Leads g.p (position g mid (cell_of v ∷ operands) s) (position g end (cell_of v ∷ operands) s))
    → ValueRuns g h operands from end s o
value-to g h operands from mid end s (Yields v) first each = leads-through g.p from _ _ first (each v)
value-to g h operands from mid end s (Raises exception) first each = first

pub value-at : (g : Setting) (h : ℕ → Option ℕ) (operands : List Cell) (from : Machine) (mid end : ℕ) (s : source.SourceState) (o : Evaluated Value)
    → mid ≡ end → ValueRuns g h operands from mid s o → ValueRuns g h operands from end s o
value-at g h operands from mid end s o e first = subst (λ (q : ℕ). ValueRuns g h operands from q s o) e first

pub then-runs : (g : Setting) (h : ℕ → Option ℕ) (before beyond : List Cell) (from : Machine) (mid end : ℕ) (s : source.SourceState) (first : Evaluated Value) (next : Value → Evaluated Value)
    → ValueRuns g h before from mid s first
    → ((v : Value) → first ≡ Yields v → ValueRuns g h beyond (position g mid (cell_of v ∷ before) s) end s (next v))
    → ValueRuns g h beyond from end s (then_with first next)
then-runs g h before beyond from mid end s (Yields v) next run each =
    value-from g h beyond from (position g mid (cell_of v ∷ before) s) end s (next v) run (each v refl)
then-runs g h before beyond from mid end s (Raises exception) next run each = run

-- ---- variables

pub scalar-there : (o : Option VariableType) (test : BaseType → Bool) → scalar_by o test ≡ true
    → (type : VariableType) × (o ≡ Some type) × (type.size ≡ None) × (test type.base ≡ true)
scalar-there None test h = cc
scalar-there (Some type) test h =
    let parts : (is_none type.size ≡ true) × (test type.base ≡ true) = and_parts (is_none type.size) (test type.base) h in
    (type, refl, none_there type.size parts.0, parts.1)

pub array-there : (o : Option VariableType) (count : ℕ) (test : BaseType → Bool) → array_by o count test ≡ true
    → (type : VariableType) × (o ≡ Some type) × (type.size ≡ Some count) × (test type.base ≡ true)
array-there None count test h = cc
array-there (Some type) count test h =
    let parts : (has_length type.size count ≡ true) × (test type.base ≡ true) = and_parts (has_length type.size count) (test type.base) h in
    (type, refl, this_size type.size parts.0, parts.1)
  where
    this_size : (size : Option ℕ) → has_length size count ≡ true → size ≡ Some count
    this_size None h = cc
    this_size (Some n) h = ap (λ (m : ℕ). Some m) (eqb-true n count h)

first_cell : (kind : BaseType) (values : List Value) → length values ≡ 1 → scalar_cell kind (cells_of values) ≡ cell_of (cell_at values 0)
first_cell kind [] e = absurd (let no : 0 ≡ 1 = e in omega (arith, no))
first_cell kind (v ∷ rest) e = refl

pub element-there : (values : List Value) (i : ℕ) → i < length values → slice_get (cells_of values) i ≡ Some (cell_of (cell_at values i))
element-there values i below =
    slice_get-map cell_of values i ∙ ap (option_map cell_of) (slice_get-get_or values i (Number (pos 0)) below)

pub element-missing : (values : List Value) (i : ℕ) → length values ≤ i → slice_get (cells_of values) i ≡ None
element-missing values i most = slice_get_past (cells_of values) i (omega (arith, length-map values cell_of, most))

module _ (g : Setting) (h : ℕ → Option ℕ) (s : source.SourceState) (fit : StateFits g.program g.procedure s) where
  pub read-runs : (x : Variable) (b : BaseType) (at : ℕ) (operands : List Cell) (more : List Instruction)
      → scalar_by (variable_type g.program g.procedure x) (same_base b) ≡ true → Stands g.code (load_of x ∷ more) at
      → Leads g.p (position g at operands s) (position g (at + 1) (cell_of (cell_at (cells s x) 0) ∷ operands) s)
  read-runs x b at operands more typed stands =
      let there = scalar-there (variable_type g.program g.procedure x) (same_base b) typed in
      let type : VariableType = there.0 in
      let is_type : variable_type g.program g.procedure x ≡ Some type = there.1 in
      let no_size : type.size ≡ None = there.2 in
      let fits : CellsFit type (cells s x) = fit.fits x type is_type in
      let kind : BaseType = type.base in
      let one : length (cells s x) ≡ 1 = fits.count ∙ ap cell_count no_size in
      let S = state_at g at operands s in
      does g more (load_of x) at operands s _ stands
      (loads-is g x at operands s
      ∙ ap (λ (o : Option Slot). loads g.p S o (cells_of (cells s x))) (slot_is type is_type no_size)
      ∙ ap (λ (c : Cell). goes_on g.p S (c ∷ operands)) (first_cell kind (cells s x) one)
      ∙ onward g at operands (cell_of (cell_at (cells s x) 0) ∷ operands) s)
    where
      slot_is : (type : VariableType) → variable_type g.program g.procedure x ≡ Some type → type.size ≡ None → slot_for g x ≡ Some (slot.Scalar type.base)
      slot_is type e f = rw (e, f) refl

  pub element-runs : (x : Variable) (count : ℕ) (b : BaseType) (v : Value) (at : ℕ) (operands : List Cell) (more : List Instruction)
      → array_by (variable_type g.program g.procedure x) count (same_base b) ≡ true → kind_of v ≡ base.Int → Stands g.code (load_element_of x ∷ more) at
      → ((exception : ℕ) → g.p.find g.number at exception ≡ h exception)
      → ValueRuns g h operands (position g at (cell_of v ∷ operands) s) (at + 1) s (then_with (checked_index v count) (λ i. Yields (cell_at (cells s x) i)))
  element-runs x count b (Truth t) at operands more typed is_int stands finds = cc
  element-runs x count b (Number z) at operands more typed is_int stands finds =
      let there = array-there (variable_type g.program g.procedure x) count (same_base b) typed in
      let type : VariableType = there.0 in
      let is_type : variable_type g.program g.procedure x ≡ Some type = there.1 in
      let size_is : type.size ≡ Some count = there.2 in
      let fits : CellsFit type (cells s x) = fit.fits x type is_type in
      let many : length (cells s x) ≡ count = fits.count ∙ ap cell_count size_is in
      go z many (loads_element-is g x at (cell.Int z ∷ operands) s
      ∙ ap (λ (o : Option Slot). loads_element g.p (state_at g at (cell.Int z ∷ operands) s) o (cells_of (cells s x)) (cell.Int z ∷ operands)) (slot_is type is_type size_is))
    where
      slot_is : (type : VariableType) → variable_type g.program g.procedure x ≡ Some type → type.size ≡ Some count → slot_for g x ≡ Some (slot.Array type.base count)
      slot_is type e f = rw (e, f) refl

      missing : (z : ℤ) → element_at (cells_of (cells s x)) z ≡ None → act g.p (load_element_of x) (state_at g at (cell.Int z ∷ operands) s) ≡ found g.p (state_at g at (cell.Int z ∷ operands) s) operands (element_at (cells_of (cells s x)) z)
          → Leads g.p (position g at (cell.Int z ∷ operands) s) (thrown_to g (h BOUNDS) BOUNDS s)
      missing z none acts =
          does g more (load_element_of x) at (cell.Int z ∷ operands) s _ stands
          (acts ∙ ap (found g.p (state_at g at (cell.Int z ∷ operands) s) operands) none ∙ raised-is g at (cell.Int z ∷ operands) s BOUNDS
          ∙ ap (λ (o : Option ℕ). thrown_to g o BOUNDS s) (finds BOUNDS))

      inside : (i : ℕ) (test : Bool) → nat_lt i count ≡ test → length (cells s x) ≡ count
          → act g.p (load_element_of x) (state_at g at (cell.Int (pos i) ∷ operands) s) ≡ found g.p (state_at g at (cell.Int (pos i) ∷ operands) s) operands (element_at (cells_of (cells s x)) (pos i))
          → ValueRuns g h operands (position g at (cell.Int (pos i) ∷ operands) s) (at + 1) s (then_with (if test then Yields i else Raises 1) (λ i. Yields (cell_at (cells s x) i)))
      inside i true e many acts =
          does g more (load_element_of x) at (cell.Int (pos i) ∷ operands) s _ stands
          (acts ∙ ap (found g.p (state_at g at (cell.Int (pos i) ∷ operands) s) operands) (element-there (cells s x) i (omega (arith, many, ltb-true i count e)))
          ∙ onward g at (cell.Int (pos i) ∷ operands) (cell_of (cell_at (cells s x) i) ∷ operands) s)
      inside i false e many acts = missing (pos i) (element-missing (cells s x) i (omega (arith, many, ltb-false i count e))) acts

      go : (z : ℤ) → length (cells s x) ≡ count
          → act g.p (load_element_of x) (state_at g at (cell.Int z ∷ operands) s) ≡ found g.p (state_at g at (cell.Int z ∷ operands) s) operands (element_at (cells_of (cells s x)) z)
          → ValueRuns g h operands (position g at (cell.Int z ∷ operands) s) (at + 1) s (then_with (checked_index (Number z) count) (λ i. Yields (cell_at (cells s x) i)))
      go (pos i) many acts = inside i (nat_lt i count) refl many acts
      go (negsuc i) many acts = missing (negsuc i) refl acts
