-- The value of an expression has its base type.
use Rattle.std.proofs.Common.{◌≡◌, refl, sym, ◌∙◌, subst, ℕ, ◌<◌, List, [], ◌∷◌, length, Bool, true, false, ◌&&◌, arith}
use Rattle.std.specs.Prelude.{Option, Some, None, is_none, ℤ, pos, negsuc, nat_abs, nat_lt, if◌then◌else◌}
use Rattle.std.proofs.lemmas.Bool.{eqb-true, and_parts}
use Rattle.std.proofs.lemmas.List.Elements.{All-get_or}
use Rattle.std.proofs.lemmas.Bool.Decides.{nat_tests}
use Rattle.common.specs.declared.base_type.BaseType.{BaseType}
use Rattle.common.specs.declared.base_type.BaseType.TheVariants.{Int, Boolean}
use Rattle.common.specs.declared.value.Value.{Value}
use Rattle.common.specs.declared.value.Value.TheVariants.{Int as Number}
use Rattle.resolved.specs.declared.expression.Variable.{Variable}
use Rattle.common.specs.declared.operator.Prefix.{Prefix}
use Rattle.common.specs.declared.operator.Prefix.TheVariants.{Negate, Not}
use Rattle.common.specs.declared.operator.Operator.{Operator}
use Rattle.common.specs.declared.operator.Operator.TheVariants.{Compute, Compare, Match}
use Rattle.common.specs.declared.operator.Connective.{Connective}
use Rattle.resolved.specs.Tree.{Expression, Integer, Logical, Read, Element, Unary, Binary, Short}
use Rattle.resolved.specs.Program.{Program, ProcedureEntry, SlotEntry}
use Rattle.common.specs.Values.{kind_of, number_in}
use Rattle.common.specs.Operators.{prefix_value}
use Rattle.resolved.specs.Value.{Evaluated, Yields, Raises, then_with, operator_evaluated, or_arith, checked_index, in_range, decides}
use Rattle.resolved.specs.SourceState.{SourceState, cells, cell_at, value_of, values_of}
use Rattle.resolved.specs.WellFormed.{VariableType, variable_type, scalar_by, array_by, has_length, cell_count, same_base, prefix_base, result_base, has_base, arguments_match}
use Rattle.resolved.specs.Kinds.{CellsFit, StateFits, GivesBase, ArgumentsFit}
use Rattle.common.specs.Operators.{computed}
use Rattle.common.specs.declared.exceptions.TheConstants.{BOUNDS}

-- ---- tests

pub same_base_is : (a b : BaseType) → same_base a b ≡ true → a ≡ b
same_base_is Int Int h = refl
same_base_is Boolean Boolean h = refl
same_base_is Int Boolean h = cc
same_base_is Boolean Int h = cc

pub same_base_itself : (a : BaseType) → same_base a a ≡ true
same_base_itself Int = refl
same_base_itself Boolean = refl

-- ---- operators
prefix_keeps : (prefix : Prefix) (v : Value) → kind_of (prefix_value prefix v) ≡ prefix_base prefix
prefix_keeps Negate v = refl
prefix_keeps Not v = refl

or_arith_gives : (found : Option ℤ) → GivesBase Int (or_arith found)
or_arith_gives None = tt
or_arith_gives (Some z) = refl

operator_gives : (operator : Operator) (v w : Value) → GivesBase (result_base operator) (operator_evaluated operator v w)
operator_gives (Compute operator) v w = or_arith_gives (computed operator (number_in v) (number_in w))
operator_gives (Compare comparison) v w = refl
operator_gives (Match sameness) v w = refl

-- ---- evaluation
gives_at : (a b : BaseType) (result : Evaluated Value) → a ≡ b → GivesBase a result → GivesBase b result
gives_at a b result e h = subst (λ base. GivesBase base result) e h

-- what goes on with a value gives a base type if it does for each value of the first one's base type
then_gives : {A : Type 0} (base : BaseType) (first : Evaluated A) (next : A → Evaluated Value)
    → ((v : A) → first ≡ Yields v → GivesBase base (next v)) → GivesBase base (then_with first next)
then_gives base (Yields v) next h = h v refl
then_gives base (Raises exception) next h = tt

cell_fits : (type : VariableType) (values : List Value) (i : ℕ)
    → CellsFit type values → i < cell_count type.size → kind_of (cell_at values i) ≡ type.base
cell_fits type values i fit below =
    All-get_or (λ v. kind_of v ≡ type.base) values i (Number (pos 0)) (rw fit.count below) fit.kinds

-- an index that was tested is below the length
pub checked_below : (v : Value) (length i : ℕ) → checked_index v length ≡ Yields i → i < length
checked_below v length i h = go (number_in v) h
  where
    at : (n : ℕ) (test : Bool) → nat_lt n length ≡ test
        → ◌≡◌ {A = Evaluated ℕ} (if test then Yields n else Raises BOUNDS) (Yields i) → i < length
    at n true e h =
        let same : n ≡ i = cc in
        grind (arith, nat_tests)
    at n false e h = cc

    go : (z : ℤ) → ◌≡◌ {A = Evaluated ℕ} (if in_range z length then Yields (nat_abs z) else Raises BOUNDS) (Yields i) → i < length
    go (pos n) h = at n (nat_lt n length) refl h
    go (negsuc n) h = cc

-- the right operand of a connective where the left one does not decide
right_gives : (base : BaseType) (test : Bool) (v : Value) (right : Evaluated Value)
    → kind_of v ≡ base → GivesBase base right → GivesBase base (if test then Yields v else right)
right_gives base true v right left h = left
right_gives base false v right left h = h

connective_gives : (base : BaseType) (connective : Connective) (left right : Evaluated Value) → Boolean ≡ base
    → GivesBase Boolean left → GivesBase Boolean right
    → GivesBase base (then_with left (λ v. if decides connective v then Yields v else right))
connective_gives base connective (Yields v) right same h k =
    right_gives base (decides connective v) v right (h ∙ same) (gives_at Boolean base right same k)
connective_gives base connective (Raises exception) right same h k = tt

module _ (program : Program) (procedure : ProcedureEntry) (s : SourceState) (state : StateFits program procedure s) where
  scalar_read : (base : BaseType) (x : Variable) → scalar_by (variable_type program procedure x) (same_base base) ≡ true
      → kind_of (cell_at (cells s x) 0) ≡ base
  scalar_read base x h = go (variable_type program procedure x) refl h
    where
      go : (found : Option VariableType) → variable_type program procedure x ≡ found → scalar_by found (same_base base) ≡ true
          → kind_of (cell_at (cells s x) 0) ≡ base
      go None e h = cc
      go (Some type) e h =
          let parts : (is_none type.size ≡ true) × (same_base base type.base ≡ true) = and_parts (is_none type.size) _ h in
          cell_fits type (cells s x) 0 (state.fits x type e) (one_cell type.size parts.0) ∙ sym (same_base_is base type.base parts.1)
        where
          one_cell : (size : Option ℕ) → is_none size ≡ true → 0 < cell_count size
          one_cell None h = omega arith
          one_cell (Some length) h = cc

  element_read : (base : BaseType) (array : Variable) (length : ℕ) (i : ℕ)
      → array_by (variable_type program procedure array) length (same_base base) ≡ true → i < length
      → kind_of (cell_at (cells s array) i) ≡ base
  element_read base array length i h below = go (variable_type program procedure array) refl h
    where
      go : (found : Option VariableType) → variable_type program procedure array ≡ found
          → array_by found length (same_base base) ≡ true → kind_of (cell_at (cells s array) i) ≡ base
      go None e h = cc
      go (Some type) e h =
          let parts : (has_length type.size length ≡ true) × (same_base base type.base ≡ true) = and_parts (has_length type.size length) _ h in
          cell_fits type (cells s array) i (state.fits array type e) (all_cells type.size parts.0)
          ∙ sym (same_base_is base type.base parts.1)
        where
          all_cells : (size : Option ℕ) → has_length size length ≡ true → i < cell_count size
          all_cells None h = cc
          all_cells (Some size) h = rw (eqb-true size length h) below

  -- the value of a well-formed expression has its base type
  pub value_fits : (base : BaseType) (e : Expression) → has_base program procedure base e ≡ true → GivesBase base (value_of s e)
  value_fits base (Integer n) h = same_base_is Int base (and_parts (same_base Int base) _ h).0
  value_fits base (Logical b) h = same_base_is Boolean base h
  value_fits base (Read x) h = scalar_read base x h
  value_fits base (Element array length index) h =
      let parts : (array_by (variable_type program procedure array) length (same_base base) ≡ true)
      × (has_base program procedure Int index ≡ true) =
      and_parts (array_by (variable_type program procedure array) length (same_base base)) _ h in
      then_gives base (value_of s index) _ (λ v _.
      then_gives base (checked_index v length) _ (λ i e'.
      element_read base array length i parts.0 (checked_below v length i e')))
  value_fits base (Unary prefix e) h =
      let parts : (same_base (prefix_base prefix) base ≡ true) × (has_base program procedure (prefix_base prefix) e ≡ true) =
      and_parts (same_base (prefix_base prefix) base) _ h in
      then_gives base (value_of s e) _ (λ v _. prefix_keeps prefix v ∙ same_base_is (prefix_base prefix) base parts.0)
  value_fits base (Binary operator d e) h =
      let same : same_base (result_base operator) base ≡ true =
      (and_parts (same_base (result_base operator) base) _ (and_parts (same_base (result_base operator) base && _) _ h).0).0 in
      then_gives base (value_of s d) _ (λ v _.
      then_gives base (value_of s e) _ (λ w _.
      gives_at (result_base operator) base _ (same_base_is (result_base operator) base same) (operator_gives operator v w)))
  value_fits base (Short connective d e) h =
      let outer : (same_base Boolean base && has_base program procedure Boolean d ≡ true) × (has_base program procedure Boolean e ≡ true) =
      and_parts (same_base Boolean base && has_base program procedure Boolean d) _ h in
      let inner : (same_base Boolean base ≡ true) × (has_base program procedure Boolean d ≡ true) =
      and_parts (same_base Boolean base) _ outer.0 in
      let is : Boolean ≡ base = same_base_is Boolean base inner.0 in
      connective_gives base connective (value_of s d) (value_of s e) is (value_fits Boolean d inner.1) (value_fits Boolean e outer.1)

-- the values of arguments, where they have them, fit the parameters
abbrev pub GivesMatch : List SlotEntry → Evaluated (List Value) → Type 0
GivesMatch parameters (Yields values) = ArgumentsFit parameters values
GivesMatch parameters (Raises exception) = Unit {0}

more_match : (parameter : SlotEntry) (parameters : List SlotEntry) (first : Evaluated Value) (rest : Evaluated (List Value))
    → GivesBase parameter.base first → GivesMatch parameters rest
    → GivesMatch (parameter ∷ parameters) (then_with first (λ v. then_with rest (λ vs. Yields (v ∷ vs))))
more_match parameter parameters (Yields v) (Yields vs) h k = (h, k)
more_match parameter parameters (Yields v) (Raises exception) h k = tt
more_match parameter parameters (Raises exception) rest h k = tt

pub values_match : (program : Program) (procedure : ProcedureEntry) (s : SourceState) → StateFits program procedure s
    → (parameters : List SlotEntry) (arguments : List Expression) → arguments_match program procedure parameters arguments ≡ true
    → GivesMatch parameters (values_of s arguments)
values_match program procedure s state [] [] h = tt
values_match program procedure s state [] (e ∷ rest) h = cc
values_match program procedure s state (parameter ∷ parameters) [] h = cc
values_match program procedure s state (parameter ∷ parameters) (e ∷ rest) h =
    let parts : (has_base program procedure parameter.base e ≡ true) × (arguments_match program procedure parameters rest ≡ true) =
    and_parts (has_base program procedure parameter.base e) _ h in
    more_match parameter parameters (value_of s e) (values_of s rest) (value_fits program procedure s state parameter.base e parts.0)
    (values_match program procedure s state parameters rest parts.1)
