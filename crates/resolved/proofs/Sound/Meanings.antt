-- The meaning keeps the types.
use Rattle.common.specs.Functions.{updated}
use Rattle.std.proofs.Common.{◌≡◌, refl, sym, ◌∙◌, ap, subst, ℕ, zero, suc, List, [], ◌∷◌, length, Bool, true, false, ◌&&◌}
use Rattle.std.proofs.lemmas.Bool.{and_parts, false≢true}
use Rattle.std.specs.Prelude.{Option, Some, None, is_none, if◌then◌else◌, ◌==◌, slice_get, ℤ}
use Rattle.common.specs.declared.base_type.BaseType.{BaseType}
use Rattle.common.specs.declared.base_type.BaseType.TheVariants.{Int, Boolean}
use Rattle.common.specs.declared.value.Value.{Value}
use Rattle.common.specs.declared.value.Value.TheVariants.{Int as Number}
use Rattle.resolved.specs.declared.expression.Variable.{Variable}
use Rattle.resolved.specs.declared.expression.Variable.TheVariants.{Global, Local}
use Rattle.resolved.specs.declared.statement.Exit.{Exit}
use Rattle.resolved.specs.declared.statement.Exit.TheVariants.{Normal, Return, Break, Continue, Throw}
use Rattle.common.specs.declared.direction.Direction.TheVariants.{Input}
use Rattle.resolved.specs.Tree.{Expression, Statement, Placed, Assign, Clear, Store, Receive, Send, Call, If, While, Leave, ReturnWith, Try, Nested, Block, Empty, Then, Handlers, NoMore, Catch}
use Rattle.resolved.specs.Program.{Program, ProcedureEntry, ResultEntry, SlotEntry}
use Rattle.common.specs.Values.{kind_of, truth_in}
use Rattle.resolved.specs.Value.{Evaluated, Yields, Raises, checked_index}
use Rattle.resolved.specs.SourceState.{SourceState, cells, assigned, stored, value_of, values_of}
use Rattle.resolved.specs.Meaning.{Outcome, Ended, Stopped, Calls, normally, after, evaluated, looped, fuel, caught, received, given_to, sending, leaving, returned_to, entering, calls_with, statement_meaning, block_meaning, handlers_meaning}
use Rattle.resolved.specs.WellFormed.{VariableType, variable_type, scalar_by, array_by, has_length, has_base, has_result, same_base, target_by, statement_fits, block_fits, handlers_fit, channel_is, is_exception, call_matches, arguments_match, parameters_of, well_formed}
use Rattle.resolved.specs.Kinds.{StateFits, GivesBase, OutcomeFits, MeaningKeepsTypes, ValuesHaveTheirTypes, ArgumentsFit}
use Rattle.resolved.proofs.WellFormedParts.{ProcedureParts, procedure_there, procedure_at_is}
use Rattle.resolved.proofs.Sound.Values.{same_base_is, same_base_itself, value_fits, values_match, GivesMatch}
use Rattle.resolved.proofs.Sound.States.{some_same, same_variables, assigned_fits, stored_fits, cleared_fits, entering_fits, back_fits}

-- two base types that both are that of a result
one_result : (result : Option ResultEntry) (a b : BaseType) → has_result result (same_base a) ≡ true → has_result result (same_base b) ≡ true
    → a ≡ b
one_result None a b h k = cc
one_result (Some entry) a b h k = same_base_is a entry.base h ∙ sym (same_base_is b entry.base k)

-- ---- the combinators, at any frame and any end at which a value may stand
module _ (program : Program) (procedure : ProcedureEntry) (place : Exit) (result : Option ResultEntry) where
  abbrev Fits : Outcome → Type 0
  Fits outcome = OutcomeFits program procedure place result outcome

  ended_fits : (exit : Exit) (s : SourceState) → StateFits program procedure s → OutcomeFits program procedure place result (Ended exit None s)
  ended_fits exit s state = record { state = state; returned = tt }

  after_fits : (outcome : Outcome) (next : SourceState → Outcome) → OutcomeFits program procedure place result outcome
      → ((s : SourceState) → StateFits program procedure s → OutcomeFits program procedure place result (next s))
      → OutcomeFits program procedure place result (after outcome next)
  after_fits (Ended Normal returned s) next h k = k s h.state
  after_fits (Ended Return returned s) next h k = h
  after_fits (Ended Break returned s) next h k = h
  after_fits (Ended Continue returned s) next h k = h
  after_fits (Ended (Throw exception) returned s) next h k = h
  after_fits (Stopped stop s) next h k = h

  evaluated_fits : {A : Type 0} (first : Evaluated A) (s : SourceState) (next : A → Outcome) → StateFits program procedure s
      → ((v : A) → first ≡ Yields v → OutcomeFits program procedure place result (next v))
      → OutcomeFits program procedure place result (evaluated first s next)
  evaluated_fits (Yields v) s next state h = h v refl
  evaluated_fits (Raises exception) s next state h = ended_fits (Throw exception) s state

  looped_fits : (outcome : Outcome) (again : SourceState → Outcome) → OutcomeFits program procedure place result outcome
      → ((s : SourceState) → StateFits program procedure s → OutcomeFits program procedure place result (again s))
      → OutcomeFits program procedure place result (looped outcome again)
  looped_fits (Ended Normal returned s) again h k = k s h.state
  looped_fits (Ended Return returned s) again h k = h
  looped_fits (Ended Break returned s) again h k = ended_fits Normal s h.state
  looped_fits (Ended Continue returned s) again h k = k s h.state
  looped_fits (Ended (Throw exception) returned s) again h k = h
  looped_fits (Stopped stop s) again h k = h

  either_fits : (test : Bool) (first second : Outcome) → OutcomeFits program procedure place result first
      → OutcomeFits program procedure place result second → OutcomeFits program procedure place result (if test then first else second)
  either_fits true first second h k = h
  either_fits false first second h k = k

  fuel_fits : (k : ℕ) (condition : SourceState → Evaluated Value) (body : SourceState → Outcome)
      → ((s : SourceState) → StateFits program procedure s → OutcomeFits program procedure place result (body s))
      → (s : SourceState) → StateFits program procedure s → OutcomeFits program procedure place result (fuel k condition body s)
  fuel_fits zero condition body h s state =
      evaluated_fits (condition s) s _ state (λ v _.
      either_fits (truth_in v) _ _ (record { state = state; returned = tt }) (ended_fits Normal s state))
  fuel_fits (suc k) condition body h s state =
      evaluated_fits (condition s) s _ state (λ v _.
      either_fits (truth_in v) _ _ (looped_fits (body s) _ (h s state) (fuel_fits k condition body h)) (ended_fits Normal s state))

  caught_fits : (outcome : Outcome) (handle : ℕ → SourceState → Outcome) → OutcomeFits program procedure place result outcome
      → ((exception : ℕ) (s : SourceState) → StateFits program procedure s → OutcomeFits program procedure place result (handle exception s))
      → OutcomeFits program procedure place result (caught outcome handle)
  caught_fits (Ended Normal returned s) handle h k = h
  caught_fits (Ended Return returned s) handle h k = h
  caught_fits (Ended Break returned s) handle h k = h
  caught_fits (Ended Continue returned s) handle h k = h
  caught_fits (Ended (Throw exception) returned s) handle h k = k exception s h.state
  caught_fits (Stopped stop s) handle h k = h

-- ---- targets
-- a scalar found by its type
scalar_found : (test : BaseType → Bool) (found : Option VariableType) (type : VariableType) → scalar_by found test ≡ true → found ≡ Some type
    → (is_none type.size ≡ true) × (test type.base ≡ true)
scalar_found test None type h e = cc
scalar_found test (Some found) type h e =
    let same : found ≡ type = some_same e in
    let P : VariableType → Type 0 = λ t. (is_none t.size ≡ true) × (test t.base ≡ true) in
    let parts : (is_none found.size ≡ true) × (test found.base ≡ true) = and_parts (is_none found.size) _ h in
    subst P same parts

array_found : (length : ℕ) (test : BaseType → Bool) (found : Option VariableType) (type : VariableType)
    → array_by found length test ≡ true → found ≡ Some type → test type.base ≡ true
array_found length test None type h e = cc
array_found length test (Some found) type h e =
    let same : found ≡ type = some_same e in
    subst (λ t. test t.base ≡ true) same (and_parts (has_length found.size length) _ h).1

module _ (program : Program) (procedure : ProcedureEntry) where
  kept_fits : (target : Option Variable) (v : Value) (s : SourceState) → StateFits program procedure s
      → target_by program procedure target (same_base (kind_of v)) ≡ true → StateFits program procedure (given_to target (Some v) s)
  kept_fits None v s state h = state
  kept_fits (Some x) v s state h =
      assigned_fits program procedure s x v state (λ type e.
      let parts : (is_none type.size ≡ true) × (same_base (kind_of v) type.base ≡ true) =
      scalar_found (same_base (kind_of v)) (variable_type program procedure x) type h e in
      (parts.0, same_base_is (kind_of v) type.base parts.1))

  received_fits : (numbers : List ℤ) (channel : ℕ) (target : Option Variable) (s : SourceState) → StateFits program procedure s
      → target_by program procedure target (same_base Int) ≡ true
      → (place : Exit) (result : Option ResultEntry) → OutcomeFits program procedure place result (received numbers channel target s)
  received_fits [] channel target s state h place result = record { state = state; returned = tt }
  received_fits (z ∷ rest) channel target s state h place result = record {
    state = kept_fits target (Number z) (record s { inputs = updated s.inputs channel rest })
        (same_variables program procedure s (record s { inputs = updated s.inputs channel rest }) same state) h;
    returned = tt;
  }
    where
      same : (x : Variable) → cells (record s { inputs = updated s.inputs channel rest }) x ≡ cells s x
      same (Global n) = refl
      same (Local n) = refl

  sending_fits : (channel : ℕ) (v : Value) (s : SourceState) → StateFits program procedure s → StateFits program procedure (sending channel v s)
  sending_fits channel v s state = same_variables program procedure s (sending channel v s) same state
    where
      same : (x : Variable) → cells (sending channel v s) x ≡ cells s x
      same (Global n) = refl
      same (Local n) = refl

  -- a value of the callee goes to its target
  returned_to_fits : (callee : Option ResultEntry) (target : Option Variable) (outcome : Outcome)
      → OutcomeFits program procedure Normal callee outcome
      → target_by program procedure target (λ base. has_result callee (same_base base)) ≡ true
      → (result : Option ResultEntry) → OutcomeFits program procedure Return result (returned_to target outcome)
  returned_to_fits callee (Some x) (Ended Normal (Some v) s) h k result = record {
    state = assigned_fits program procedure s x v h.state (λ type e.
        let parts : (is_none type.size ≡ true) × (has_result callee (same_base type.base) ≡ true) =
        scalar_found (λ base. has_result callee (same_base base)) (variable_type program procedure x) type k e in
        (parts.0, one_result callee (kind_of v) type.base h.returned parts.1));
    returned = tt;
  }
  returned_to_fits callee (Some x) (Ended Normal None s) h k result = record { state = h.state; returned = tt }
  returned_to_fits callee None (Ended Normal returned s) h k result = record { state = h.state; returned = tt }
  returned_to_fits callee None (Ended Return None s) h k result = record { state = h.state; returned = tt }
  returned_to_fits callee (Some x) (Ended Return None s) h k result = record { state = h.state; returned = tt }
  returned_to_fits callee target (Ended Return (Some v) s) h k result = absurd (false≢true h.returned)
  returned_to_fits callee target (Ended Break None s) h k result = record { state = h.state; returned = tt }
  returned_to_fits callee target (Ended Break (Some v) s) h k result = absurd (false≢true h.returned)
  returned_to_fits callee target (Ended Continue None s) h k result = record { state = h.state; returned = tt }
  returned_to_fits callee target (Ended Continue (Some v) s) h k result = absurd (false≢true h.returned)
  returned_to_fits callee target (Ended (Throw exception) None s) h k result = record { state = h.state; returned = tt }
  returned_to_fits callee target (Ended (Throw exception) (Some v) s) h k result = absurd (false≢true h.returned)
  returned_to_fits callee target (Stopped stop s) h k result = record { state = h.state; returned = tt }

-- ---- the tree
pub base_given : (base : BaseType) (result : Evaluated Value) (v : Value) → result ≡ Yields v → GivesBase base result → kind_of v ≡ base
base_given base (Yields w) v e h = ap kind_of (sym (same_value w v e)) ∙ h
  where
    same_value : (w v : Value) → ◌≡◌ {A = Evaluated Value} (Yields w) (Yields v) → w ≡ v
    same_value w v e = cc
base_given base (Raises exception) v e h = cc

match_given : (parameters : List SlotEntry) (result : Evaluated (List Value)) (values : List Value) → result ≡ Yields values
    → GivesMatch parameters result → ArgumentsFit parameters values
match_given parameters (Yields others) values e h = subst (ArgumentsFit parameters) (same_values others values e) h
  where
    same_values : (others values : List Value) → ◌≡◌ {A = Evaluated (List Value)} (Yields others) (Yields values) → others ≡ values
    same_values others values e = cc
match_given parameters (Raises exception) values e h = cc

-- calls that keep the types: with arguments for a procedure's parameters they come to a state that fits the caller, and to a value of
-- the procedure's base type
abbrev pub CallsKeep : Program → Calls → Type 0
CallsKeep program calls = (caller : ProcedureEntry) (f : ℕ) (callee : ProcedureEntry) → slice_get program.procedures f ≡ Some callee
    → (values : List Value) → ArgumentsFit (parameters_of callee) values → (s : SourceState) → StateFits program caller s
    → OutcomeFits program caller Normal callee.result (calls f values s)

module _ (program : Program) (procedure : ProcedureEntry) (calls : Calls) (keep : CallsKeep program calls) (k : ℕ) where
  assign_keeps : (x : Variable) (e : Expression) (s : SourceState) → StateFits program procedure s
      → scalar_by (variable_type program procedure x) (λ base. has_base program procedure base e) ≡ true
      → OutcomeFits program procedure Return procedure.result (evaluated (value_of s e) s (λ v. normally (assigned s x v)))
  assign_keeps x e s state h =
      evaluated_fits program procedure Return procedure.result (value_of s e) s _ state (λ v given. record {
        state = assigned_fits program procedure s x v state (λ type found.
            let parts : (is_none type.size ≡ true) × (has_base program procedure type.base e ≡ true) =
            scalar_found (λ base. has_base program procedure base e) (variable_type program procedure x) type h found in
            (parts.0, base_given type.base (value_of s e) v given (value_fits program procedure s state type.base e parts.1)));
        returned = tt;
      })

  store_keeps : (array : Variable) (length : ℕ) (index e : Expression) (s : SourceState) → StateFits program procedure s
      → array_by (variable_type program procedure array) length (λ base. has_base program procedure base e) ≡ true
      → OutcomeFits program procedure Return procedure.result
      (evaluated (value_of s index) s (λ v.
      evaluated (value_of s e) s (λ w.
      evaluated (checked_index v length) s (λ i.
      normally (stored s array i w)))))
  store_keeps array length index e s state h =
      evaluated_fits program procedure Return procedure.result (value_of s index) s _ state (λ v _.
      evaluated_fits program procedure Return procedure.result (value_of s e) s _ state (λ w given.
      evaluated_fits program procedure Return procedure.result (checked_index v length) s _ state (λ i _. record {
        state = stored_fits program procedure s array i w state (λ type found.
            base_given type.base (value_of s e) w given (value_fits program procedure s state type.base e
            (array_found length (λ base. has_base program procedure base e) (variable_type program procedure array) type h found)));
        returned = tt;
      })))

  call_keeps : (f : ℕ) (callee : Option ProcedureEntry) (arguments : List Expression) (target : Option Variable) (s : SourceState)
      → StateFits program procedure s → slice_get program.procedures f ≡ callee → call_matches program procedure callee arguments target ≡ true
      → OutcomeFits program procedure Return procedure.result
      (evaluated (values_of s arguments) s (λ values. returned_to target (calls f values s)))
  call_keeps f None arguments target s state found h = cc
  call_keeps f (Some callee) arguments target s state found h =
      let parts : (arguments_match program procedure (parameters_of callee) arguments ≡ true)
      × (target_by program procedure target (λ base. has_result callee.result (same_base base)) ≡ true) =
      and_parts (arguments_match program procedure (parameters_of callee) arguments) _ h in
      evaluated_fits program procedure Return procedure.result (values_of s arguments) s _ state (λ values given.
      returned_to_fits program procedure callee.result target (calls f values s)
      (keep procedure f callee found values
      (match_given (parameters_of callee) (values_of s arguments) values given
      (values_match program procedure s state (parameters_of callee) arguments parts.0)) s state)
      parts.1 procedure.result)

  return_keeps : (result : Option ResultEntry) (e : Expression) (s : SourceState) → StateFits program procedure s
      → has_result result (λ base. has_base program procedure base e) ≡ true
      → OutcomeFits program procedure Return result (evaluated (value_of s e) s (λ v. Ended Return (Some v) s))
  return_keeps None e s state h = cc
  return_keeps (Some entry) e s state h =
      evaluated_fits program procedure Return (Some entry) (value_of s e) s _ state (λ v given. record {
        state = state;
        returned = ap (λ base. same_base base entry.base)
            (base_given entry.base (value_of s e) v given (value_fits program procedure s state entry.base e h))
            ∙ same_base_itself entry.base;
      })

  mutual
    pub statement_keeps : (statement : Statement) (s : SourceState) → StateFits program procedure s
        → statement_fits program procedure statement ≡ true
        → OutcomeFits program procedure Return procedure.result (statement_meaning calls k statement s)
    statement_keeps (Placed at (Assign x e)) s state h = assign_keeps x e s state h
    statement_keeps (Placed at (Clear slot)) s state h = record { state = cleared_fits program procedure s slot state; returned = tt }
    statement_keeps (Placed at (Store array length index e)) s state h =
        store_keeps array length index e s state
        (and_parts (array_by (variable_type program procedure array) length (λ base. has_base program procedure base e)) _ h).0
    statement_keeps (Placed at (Receive channel target)) s state h =
        received_fits program procedure (s.inputs channel) channel target s state
        (and_parts (channel_is (slice_get program.channels channel) Input) _ h).1 Return procedure.result
    statement_keeps (Placed at (Send channel e)) s state h =
        evaluated_fits program procedure Return procedure.result (value_of s e) s _ state (λ v _.
        record { state = sending_fits program procedure channel v s state; returned = tt })
    statement_keeps (Placed at (Call f arguments target)) s state h =
        call_keeps f (slice_get program.procedures f) arguments target s state refl h
    statement_keeps (Placed at (If e then_block else_block)) s state h =
        let parts : (has_base program procedure Boolean e && block_fits program procedure then_block ≡ true)
        × (block_fits program procedure else_block ≡ true) =
        and_parts (has_base program procedure Boolean e && block_fits program procedure then_block) _ h in
        evaluated_fits program procedure Return procedure.result (value_of s e) s _ state (λ v _.
        either_fits program procedure Return procedure.result (truth_in v) _ _
        (block_keeps then_block s state (and_parts (has_base program procedure Boolean e) _ parts.0).1)
        (block_keeps else_block s state parts.1))
    statement_keeps (Placed at (While loop e body)) s state h =
        fuel_fits program procedure Return procedure.result k (λ t. value_of t e) (block_meaning calls k body)
        (λ t fit. block_keeps body t fit (and_parts (has_base program procedure Boolean e) _ h).1) s state
    statement_keeps (Placed at (Leave exit)) s state h = record { state = state; returned = tt }
    statement_keeps (Placed at (ReturnWith None)) s state h = record { state = state; returned = tt }
    statement_keeps (Placed at (ReturnWith (Some e))) s state h = return_keeps procedure.result e s state h
    statement_keeps (Placed at (Try block handlers)) s state h =
        let parts : (block_fits program procedure block ≡ true) × (handlers_fit program procedure handlers ≡ true) =
        and_parts (block_fits program procedure block) _ h in
        caught_fits program procedure Return procedure.result (block_meaning calls k block s) _ (block_keeps block s state parts.0)
        (λ exception t fit. handlers_keep handlers exception t fit parts.1)
    statement_keeps (Placed at (Nested block)) s state h = block_keeps block s state h

    pub block_keeps : (block : Block) (s : SourceState) → StateFits program procedure s → block_fits program procedure block ≡ true
        → OutcomeFits program procedure Return procedure.result (block_meaning calls k block s)
    block_keeps Empty s state h = record { state = state; returned = tt }
    block_keeps (Then statement rest) s state h =
        let parts : (statement_fits program procedure statement ≡ true) × (block_fits program procedure rest ≡ true) =
        and_parts (statement_fits program procedure statement) _ h in
        after_fits program procedure Return procedure.result (statement_meaning calls k statement s) (block_meaning calls k rest)
        (statement_keeps statement s state parts.0) (λ t fit. block_keeps rest t fit parts.1)

    pub handlers_keep : (handlers : Handlers) (exception : ℕ) (s : SourceState) → StateFits program procedure s
        → handlers_fit program procedure handlers ≡ true
        → OutcomeFits program procedure Return procedure.result (handlers_meaning calls k handlers exception s)
    handlers_keep NoMore exception s state h = record { state = state; returned = tt }
    handlers_keep (Catch at handled body rest) exception s state h =
        let parts : (is_exception program handled && block_fits program procedure body ≡ true) × (handlers_fit program procedure rest ≡ true) =
        and_parts (is_exception program handled && block_fits program procedure body) _ h in
        either_fits program procedure Return procedure.result (exception == handled) _ _
        (block_keeps body s state (and_parts (is_exception program handled) _ parts.0).1)
        (handlers_keep rest exception s state parts.1)

-- ---- calls
leaving_fits : (program : Program) (caller callee : ProcedureEntry) (s : SourceState) (outcome : Outcome) → StateFits program caller s
    → OutcomeFits program callee Return callee.result outcome
    → OutcomeFits program caller Normal callee.result (leaving (λ t. record t { locals = s.locals }) outcome)
leaving_fits program caller callee s (Ended Normal None t) state h =
    record { state = back_fits program caller callee s t state h.state; returned = tt }
leaving_fits program caller callee s (Ended Normal (Some v) t) state h = absurd (false≢true h.returned)
leaving_fits program caller callee s (Ended Return None t) state h =
    record { state = back_fits program caller callee s t state h.state; returned = tt }
leaving_fits program caller callee s (Ended Return (Some v) t) state h =
    record { state = back_fits program caller callee s t state h.state; returned = h.returned }
leaving_fits program caller callee s (Ended Break None t) state h =
    record { state = back_fits program caller callee s t state h.state; returned = tt }
leaving_fits program caller callee s (Ended Break (Some v) t) state h = absurd (false≢true h.returned)
leaving_fits program caller callee s (Ended Continue None t) state h =
    record { state = back_fits program caller callee s t state h.state; returned = tt }
leaving_fits program caller callee s (Ended Continue (Some v) t) state h = absurd (false≢true h.returned)
leaving_fits program caller callee s (Ended (Throw exception) None t) state h =
    record { state = back_fits program caller callee s t state h.state; returned = tt }
leaving_fits program caller callee s (Ended (Throw exception) (Some v) t) state h = absurd (false≢true h.returned)
leaving_fits program caller callee s (Stopped stop t) state h =
    record { state = back_fits program caller callee s t state h.state; returned = tt }

pub calls_keep : (program : Program) → well_formed program ≡ true → (k frames : ℕ) → CallsKeep program (calls_with program k frames)
calls_keep program h k zero caller f callee found values matches s state = record { state = state; returned = tt }
calls_keep program h k (suc frames) caller f callee found values matches s state =
    let parts : ProcedureParts program callee = procedure_there program h f callee found in
    let P : ProcedureEntry → Type 0 = λ there. OutcomeFits program caller Normal callee.result
    (leaving (λ t. record t { locals = s.locals })
    (block_meaning (calls_with program k frames) k there.body (entering there values s))) in
    subst P (sym (procedure_at_is program f callee found))
    (leaving_fits program caller callee s _ state
    (block_keeps program callee (calls_with program k frames) (calls_keep program h k frames) k callee.body (entering callee values s)
    (entering_fits program caller callee s values state matches parts.parameters_written) parts.body_fits))

pub meaning_keeps_types : MeaningKeepsTypes
meaning_keeps_types program h procedure block fit frames k s state =
    block_keeps program procedure (calls_with program k frames) (calls_keep program h k frames) k block s state fit

pub values_have_their_types : ValuesHaveTheirTypes
values_have_their_types program procedure base e h s state = value_fits program procedure s state base e h
