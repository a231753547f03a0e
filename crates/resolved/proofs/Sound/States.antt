-- States that fit stay so when a variable changes, and a call begins in one.
use Rattle.std.proofs.Common.{◌≡◌, refl, sym, ◌∙◌, ap, subst, ℕ, zero, suc, List, [], ◌∷◌, length, Bool, true, false, map, take, set, length-set}
use Rattle.std.proofs.lemmas.List.{length-replicate, length-map}
use Rattle.std.specs.Prelude.{Option, Some, None, is_none, if◌then◌else◌, ◌==◌, slice_get}
use Rattle.std.specs.List.{list_all}
use Rattle.std.proofs.lemmas.Bool.{eqb-true, and_parts}
use Rattle.std.proofs.lemmas.List.Elements.{All-nil, All-cons, All-set, All-map, All-replicate, All-weaker}
use Rattle.common.specs.declared.base_type.BaseType.{BaseType}
use Rattle.common.specs.declared.base_type.BaseType.TheVariants.{Int, Boolean}
use Rattle.common.specs.declared.value.Value.{Value}
use Rattle.resolved.specs.declared.expression.Variable.{Variable}
use Rattle.resolved.specs.declared.expression.Variable.TheVariants.{Global, Local}
use Rattle.resolved.specs.Program.{Program, ProcedureEntry, SlotEntry}
use Rattle.common.specs.Values.{kind_of, zero_of}
use Rattle.resolved.specs.SourceState.{SourceState, cells, with_cells, assigned, stored, cleared}
use Rattle.resolved.specs.Meaning.{entering, cells_of, first_cells_of_slots}
use Rattle.resolved.specs.WellFormed.{VariableType, variable_type, slot_type, cell_count, parameter_fits, parameters_of}
use Rattle.resolved.specs.Kinds.{CellsFit, StateFits, ArgumentsFit}

-- a state with the same variables
pub same_variables : (program : Program) (procedure : ProcedureEntry) (s t : SourceState) → ((x : Variable) → cells t x ≡ cells s x)
    → StateFits program procedure s → StateFits program procedure t
same_variables program procedure s t same state = record {
  fits = λ x type e. subst (CellsFit type) (sym (same x)) (state.fits x type e);
}

either_cells : (type : VariableType) (test : Bool) (yes_cells no_cells : List Value)
    → (test ≡ true → CellsFit type yes_cells) → (test ≡ false → CellsFit type no_cells)
    → CellsFit type (if test then yes_cells else no_cells)
either_cells type true yes_cells no_cells h k = h refl
either_cells type false yes_cells no_cells h k = k refl

one_cell_fits : (type : VariableType) (v : Value) → is_none type.size ≡ true → kind_of v ≡ type.base → CellsFit type (v ∷ [])
one_cell_fits type v h e = record { count = one type.size h; kinds = All-cons (λ w. kind_of w ≡ type.base) v [] e (All-nil (λ w. kind_of w ≡ type.base)) }
  where
    one : (size : Option ℕ) → is_none size ≡ true → 1 ≡ cell_count size
    one None h = refl
    one (Some length) h = cc

zero_base : (base : BaseType) → kind_of (zero_of base) ≡ base
zero_base Int = refl
zero_base Boolean = refl

pub some_same : {A : Type 0} {x y : A} → ◌≡◌ {A = Option A} (Some x) (Some y) → x ≡ y
some_same h = cc

module _ (program : Program) (procedure : ProcedureEntry) where
  pub with_cells_fits : (s : SourceState) (x : Variable) (values : List Value) → StateFits program procedure s
      → ((type : VariableType) → variable_type program procedure x ≡ Some type → CellsFit type values)
      → StateFits program procedure (with_cells s x values)
  with_cells_fits s (Global n) values state new = record { fits = go }
    where
      go : (y : Variable) (type : VariableType) → variable_type program procedure y ≡ Some type
          → CellsFit type (cells (with_cells s (Global n) values) y)
      go (Global m) type e =
          either_cells type (m == n) values (s.globals m)
          (λ h. new type (subst (λ i. variable_type program procedure (Global i) ≡ Some type) (eqb-true m n h) e))
          (λ h. state.fits (Global m) type e)
      go (Local m) type e = state.fits (Local m) type e
  with_cells_fits s (Local n) values state new = record { fits = go }
    where
      go : (y : Variable) (type : VariableType) → variable_type program procedure y ≡ Some type
          → CellsFit type (cells (with_cells s (Local n) values) y)
      go (Global m) type e = state.fits (Global m) type e
      go (Local m) type e =
          either_cells type (m == n) values (s.locals m)
          (λ h. new type (subst (λ i. variable_type program procedure (Local i) ≡ Some type) (eqb-true m n h) e))
          (λ h. state.fits (Local m) type e)

  pub assigned_fits : (s : SourceState) (x : Variable) (v : Value) → StateFits program procedure s
      → ((type : VariableType) → variable_type program procedure x ≡ Some type → (is_none type.size ≡ true) × (kind_of v ≡ type.base))
      → StateFits program procedure (assigned s x v)
  assigned_fits s x v state h =
      with_cells_fits s x (v ∷ []) state (λ type e. one_cell_fits type v (h type e).0 (h type e).1)

  pub stored_fits : (s : SourceState) (array : Variable) (i : ℕ) (v : Value) → StateFits program procedure s
      → ((type : VariableType) → variable_type program procedure array ≡ Some type → kind_of v ≡ type.base)
      → StateFits program procedure (stored s array i v)
  stored_fits s array i v state h =
      with_cells_fits s array (set (cells s array) i v) state (λ type e.
      let fit : CellsFit type (cells s array) = state.fits array type e in
      record {
        count = length-set (cells s array) i v ∙ fit.count;
        kinds = All-set (λ w. kind_of w ≡ type.base) (cells s array) i v (h type e) fit.kinds;
      })

  pub cleared_fits : (s : SourceState) (slot : ℕ) → StateFits program procedure s → StateFits program procedure (cleared s slot)
  cleared_fits s slot state =
      with_cells_fits s (Local slot) (map (λ v. zero_of (kind_of v)) (s.locals slot)) state (λ type e.
      let fit : CellsFit type (s.locals slot) = state.fits (Local slot) type e in
      record {
        count = length-map (s.locals slot) (λ v. zero_of (kind_of v)) ∙ fit.count;
        kinds = All-map (λ w. kind_of w ≡ type.base) (λ v. zero_of (kind_of v)) (s.locals slot)
            (All-weaker (λ w. kind_of w ≡ type.base) (λ w. kind_of (zero_of (kind_of w)) ≡ type.base) (λ v h. zero_base (kind_of v) ∙ h) (s.locals slot) fit.kinds);
      })

-- cells that all hold one value
pub cells_of_fit : (base : BaseType) (size : Option ℕ) (v : Value) → kind_of v ≡ base
    → CellsFit (record { base = base; size = size }) (cells_of size v)
cells_of_fit base None v e = record { count = refl; kinds = All-cons (λ w. kind_of w ≡ base) v [] e (All-nil (λ w. kind_of w ≡ base)) }
cells_of_fit base (Some length) v e = record { count = length-replicate length v; kinds = All-replicate (λ w. kind_of w ≡ base) length v e }

-- an argument and its parameter
argument_matches : (m : ℕ) (slots : List SlotEntry) (values : List Value) (n : ℕ) (slot : SlotEntry) (v : Value)
    → ArgumentsFit (take m slots) values → list_all parameter_fits (take m slots) ≡ true
    → slice_get slots n ≡ Some slot → slice_get values n ≡ Some v → (is_none slot.size ≡ true) × (kind_of v ≡ slot.base)
argument_matches zero slots [] n slot v matches fit e e' = cc
argument_matches zero slots (w ∷ values) n slot v matches fit e e' = absurd matches
argument_matches (suc m) [] values n slot v matches fit e e' = cc
argument_matches (suc m) (parameter ∷ slots) [] n slot v matches fit e e' = absurd matches
argument_matches (suc m) (parameter ∷ slots) (w ∷ values) zero slot v matches fit e e' =
    let scalar : is_none parameter.size ≡ true = (and_parts (is_none parameter.size) _ (and_parts (parameter_fits parameter) _ fit).0).0 in
    let same_slot : parameter ≡ slot = cc in
    let same_value : w ≡ v = cc in
    let P : SlotEntry → Type 0 = λ entry. (is_none entry.size ≡ true) × (kind_of v ≡ entry.base) in
    subst P same_slot (scalar, ap kind_of (sym same_value) ∙ matches.0)
argument_matches (suc m) (parameter ∷ slots) (w ∷ values) (suc n) slot v matches fit e e' =
    argument_matches m slots values n slot v matches.1 (and_parts (parameter_fits parameter) _ fit).1 e e'

-- a call begins in a state that fits its procedure
pub entering_fits : (program : Program) (caller callee : ProcedureEntry) (s : SourceState) (values : List Value)
    → StateFits program caller s → ArgumentsFit (parameters_of callee) values → list_all parameter_fits (parameters_of callee) ≡ true
    → StateFits program callee (entering callee values s)
entering_fits program caller callee s values state matches fit = record { fits = go }
  where
    slot_fits : (slot : Option SlotEntry) (argument : Option Value) (n : ℕ) (type : VariableType)
        → slice_get callee.slots n ≡ slot → slice_get values n ≡ argument → slot_type slot ≡ Some type
        → CellsFit type (first_cells_of_slots slot argument)
    slot_fits None argument n type e e' h = cc
    slot_fits (Some slot) None n type e e' h =
        let same : record { base = slot.base; size = slot.size } ≡ type = some_same h in
        subst (λ t. CellsFit t (cells_of slot.size (zero_of slot.base))) same
        (cells_of_fit slot.base slot.size (zero_of slot.base) (zero_base slot.base))
    slot_fits (Some slot) (Some v) n type e e' h =
        let same : record { base = slot.base; size = slot.size } ≡ type = some_same h in
        let parts : (is_none slot.size ≡ true) × (kind_of v ≡ slot.base) =
        argument_matches callee.parameters callee.slots values n slot v matches fit e e' in
        subst (λ t. CellsFit t (v ∷ [])) same
        (one_cell_fits (record { base = slot.base; size = slot.size }) v parts.0 parts.1)

    go : (x : Variable) (type : VariableType) → variable_type program callee x ≡ Some type
        → CellsFit type (cells (entering callee values s) x)
    go (Global n) type e = state.fits (Global n) type e
    go (Local n) type e = slot_fits (slice_get callee.slots n) (slice_get values n) n type refl refl e

-- what a caller finds again: its own slots, and the globals of the callee
pub back_fits : (program : Program) (caller callee : ProcedureEntry) (s t : SourceState)
    → StateFits program caller s → StateFits program callee t → StateFits program caller (record t { locals = s.locals })
back_fits program caller callee s t before after_call = record { fits = go }
  where
    go : (x : Variable) (type : VariableType) → variable_type program caller x ≡ Some type
        → CellsFit type (cells (record t { locals = s.locals }) x)
    go (Global n) type e = after_call.fits (Global n) type e
    go (Local n) type e = before.fits (Local n) type e
