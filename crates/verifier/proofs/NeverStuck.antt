-- A module that is not refused is never stuck.
use Rattle.std.proofs.Common.{◌≡◌, inl, inr, ℕ, zero, suc, ◌==◌, Bool, true, false, if◌then◌else◌, List, [], ◌∷◌, map, slice_get, Option, Some, None, refl, sym, ap, ◌∙◌, subst}
use Rattle.std.specs.Prelude.{ℤ, nat_lt, is_none, is_some}
use Rattle.std.proofs.lemmas.Bool.{and_parts}
use Rattle.modules.proofs.Tabled.{step-is}
use Rattle.modules.specs.Code.{instruction_at}
use Rattle.modules.specs.Contents.{ProcedureContents, ModuleContents}
use Rattle.modules.specs.Machine as machine
use Rattle.modules.specs.Transitions as transitions
use Rattle.modules.specs.Machine.{State, Machine, Running, machine_code, cells_at, with_cells_at, first_state, first_slots, step, exec, after_steps}
use Rattle.modules.specs.Transitions.{declared_at, act}
use Rattle.modules.specs.MachineParts.{code_of, slots_of, slots_in, acts}
use Rattle.modules.specs.FormatParts.{may_start}
use Rattle.common.specs.Values.{kind_of}
use Rattle.modules.specs.Values.{kind_of_slot}
use Rattle.modules.specs.declared.instruction.Instruction.{Instruction}
use Rattle.modules.specs.declared.instruction.Storage.{Storage}
use Rattle.modules.specs.declared.instruction.Storage.TheVariants.{Local, Global}
use Rattle.modules.specs.declared.instruction.Instruction.TheVariants.{Push, PushBoolean, Pop, Load, Store, LoadElement, StoreElement, Clear, Operate, Jump, JumpIfFalse, Call, Return, ReturnValue, Receive, Send, Throw}
use Rattle.common.specs.declared.base_type.BaseType.{BaseType}
use Rattle.common.specs.declared.value.Value.{Value as Cell}
use Rattle.common.specs.declared.value.Value.TheVariants as cell
use Rattle.modules.specs.declared.declaration.Slot.{Slot}
use Rattle.verifier.specs.Refusals.{IsNotRefused}
use Rattle.verifier.specs.Fixed.{instruction_refusal}
use Rattle.verifier.specs.Flow.{Edge, next, jumps, caught, Flow, starts, grows, Effect, Leaves, Misses, and_then, effect}
use Rattle.verifier.specs.SignatureParts.{nowhere}
use Rattle.verifier.specs.Signatures.{declared_in, is_array, is_input, is_output, is_scalar, slot_kind}
use Rattle.verifier.specs.Safety.{IsNeverStuck}
use Rattle.verifier.specs.SignatureParts.{HasTransition}
use Rattle.verifier.specs.Boundaries.{IsBoundary, KeepsBoundaries}
use Rattle.verifier.specs.declared.fault.CodeRefusalKind.TheVariants.{SlotOrIndex}
use Rattle.verifier.proofs.Stuck.{not_stuck}
use Rattle.verifier.proofs.Bounds.{IsBounded}
use Rattle.verifier.proofs.Calls.{get_header, calls_good, returns_good, gives_back_good}
use Rattle.verifier.proofs.FixedRefusals.{all_right, boundaries, right_of_unless}
use Rattle.verifier.proofs.Holds.{AllOf, Holds, holds_changed, holds_empty, holds_globals}
use Rattle.verifier.proofs.Laws.{IsInFlow, start_in_flow, changed_cases, flow_finds, flow_stays}
use Rattle.verifier.proofs.Transitions.{loads_good, stores_good, loads_element_good, stores_element_good, clears_good, operates_good, drops_good, branches_good, sends_good, receives_good}
use Rattle.verifier.proofs.Runs.{outermost, Stands, Good, GoodState, runs, over, leaves_same, flows, next_good, jump_good, raised_good}

unpushed : (e : Effect) → and_then e (λ rest. Leaves rest) ≡ e
unpushed (Leaves kinds) = refl
unpushed (Misses wrong) = refl

scalar_there : (o : Option Slot) (cells : List Cell) → ((slot : Slot) → o ≡ Some slot → AllOf (kind_of_slot slot) cells) → is_scalar o ≡ true → AllOf (slot_kind o) cells
scalar_there None cells h e = absurd (let no : false ≡ true = e in cc)
scalar_there (Some slot) cells h e = h slot refl

array_there : (o : Option Slot) (cells : List Cell) → ((slot : Slot) → o ≡ Some slot → AllOf (kind_of_slot slot) cells) → is_array o ≡ true → AllOf (slot_kind o) cells
array_there None cells h e = absurd (let no : false ≡ true = e in cc)
array_there (Some slot) cells h e = h slot refl

procedure_there : (o : Option ProcedureContents) → is_some o ≡ true → (p : ProcedureContents) × (o ≡ Some p)
procedure_there None e = absurd (let no : false ≡ true = e in cc)
procedure_there (Some p) e = (p, refl)

module _ (m : ModuleContents) (free : IsNotRefused m) (p : ProcedureContents) (s : State) (i : Instruction) (st : Stands m p s i (map kind_of s.frame.operands)) where
  declared_here : (storage : Storage) (k : ℕ) → declared_at (machine_code m) s storage k ≡ declared_in m p storage k
  declared_here Local k = ap (λ o. slice_get (slots_of o) k) (get_header m.procedures s.frame.procedure p st.there)
  declared_here Global k = refl

  cells_here : (storage : Storage) (k : ℕ) (slot : Slot) → declared_in m p storage k ≡ Some slot → AllOf (kind_of_slot slot) (cells_at s storage k)
  cells_here Local k slot is = st.slots k slot is
  cells_here Global k slot is = st.globals k slot is

  changed_stands : (storage : Storage) (k : ℕ) (cells : List Cell) → AllOf (slot_kind (declared_in m p storage k)) cells → Stands m p (with_cells_at s storage k cells) i (map kind_of s.frame.operands)
  changed_stands Local k cells all = record {
    there = st.there;
    instruction = st.instruction;
    flow = st.flow;
    slots = holds_changed p.slots s.frame.slots k cells st.slots all;
    globals = st.globals;
    callers = st.callers;
  }
  changed_stands Global k cells all = record {
    there = st.there;
    instruction = st.instruction;
    flow = st.flow;
    slots = st.slots;
    globals = holds_changed (machine_code m).globals s.globals k cells st.globals all;
    callers = st.callers;
  }

-- an instruction that is not refused acts where its operands are there
act_good : (m : ModuleContents) → IsNotRefused m → (p : ProcedureContents) (s : State) (i : Instruction) (after : List BaseType) → Stands m p s i (map kind_of s.frame.operands) → instruction_refusal m p i ≡ None → effect m p i (map kind_of s.frame.operands) ≡ Leaves after → Good m (act (machine_code m) i s)
act_good m free p s (Push n) after st d e = next_good m free p s (Push n) _ after (cell.Int n ∷ s.frame.operands) st e refl (leaves_same _ after e)
act_good m free p s (PushBoolean b) after st d e = next_good m free p s (PushBoolean b) _ after (cell.Bool b ∷ s.frame.operands) st e refl (leaves_same _ after e)
act_good m free p s Pop after st d e = drops_good m free p Pop s s.frame.operands after st e refl (sym (unpushed _) ∙ e)
act_good m free p s (Load storage k) after st d e =
    let here = declared_in m p storage k in
    let scalar = right_of_unless (is_scalar here) SlotOrIndex d in
    subst (λ o. Good m (transitions.loads (machine_code m) s o (cells_at s storage k))) (sym (declared_here m free p s (Load storage k) st storage k))
    (loads_good m free p (Load storage k) s _ after here (cells_at s storage k) st refl e refl scalar (scalar_there here (cells_at s storage k) (cells_here m free p s (Load storage k) st storage k) scalar) (sym (leaves_same _ after e)))
act_good m free p s (Store storage k) after st d e =
    let here = declared_in m p storage k in
    subst (λ o. Good m (transitions.stores (machine_code m) s o (with_cells_at s storage k) s.frame.operands)) (sym (declared_here m free p s (Store storage k) st storage k))
    (stores_good m free p (Store storage k) s (with_cells_at s storage k) here s.frame.operands after st (changed_stands m free p s (Store storage k) st storage k) e refl (right_of_unless (is_scalar here) SlotOrIndex d) (sym (unpushed _) ∙ e))
act_good m free p s (LoadElement storage k) after st d e =
    let here = declared_in m p storage k in
    let array = right_of_unless (is_array here) SlotOrIndex d in
    subst (λ o. Good m (transitions.loads_element (machine_code m) s o (cells_at s storage k) s.frame.operands)) (sym (declared_here m free p s (LoadElement storage k) st storage k))
    (loads_element_good m free p (LoadElement storage k) s here (cells_at s storage k) s.frame.operands after st e refl array (array_there here (cells_at s storage k) (cells_here m free p s (LoadElement storage k) st storage k) array) e)
act_good m free p s (StoreElement storage k) after st d e =
    let here = declared_in m p storage k in
    let array = right_of_unless (is_array here) SlotOrIndex d in
    subst (λ o. Good m (transitions.stores_element (machine_code m) s o (with_cells_at s storage k) (cells_at s storage k) s.frame.operands)) (sym (declared_here m free p s (StoreElement storage k) st storage k))
    (stores_element_good m free p (StoreElement storage k) s (with_cells_at s storage k) here (cells_at s storage k) s.frame.operands after st (changed_stands m free p s (StoreElement storage k) st storage k) e refl array (array_there here (cells_at s storage k) (cells_here m free p s (StoreElement storage k) st storage k) array) (sym (unpushed _) ∙ e))
act_good m free p s (Clear k) after st d e =
    subst (λ o. Good m (transitions.clears (machine_code m) s k o)) (sym (declared_here m free p s (Clear k) st Local k))
    (clears_good m free p (Clear k) s k (slice_get p.slots k) after st (changed_stands m free p s (Clear k) st Local k) e refl (right_of_unless (is_array (slice_get p.slots k)) SlotOrIndex d) (leaves_same _ after e))
act_good m free p s (Operate operator) after st d e = operates_good m free p (Operate operator) s operator s.frame.operands after st e refl e
act_good m free p s (Jump target) after st d e = jump_good m free p s (Jump target) _ after s.frame.operands target st e refl (leaves_same _ after e)
act_good m free p s (JumpIfFalse target) after st d e = branches_good m free p (JumpIfFalse target) s target s.frame.operands after st e refl refl (sym (unpushed _) ∙ e)
act_good m free p s (Call number) after st d e =
    let callee = procedure_there (slice_get m.procedures number) (right_of_unless (is_some (slice_get m.procedures number)) SlotOrIndex d) in
    calls_good m free p s number callee.0 after st callee.1 e
act_good m free p s Return after st d e = returns_good m free p s _ after st e
act_good m free p s ReturnValue after st d e = gives_back_good m free p s after st e
act_good m free p s (Receive channel) after st d e =
    receives_good m free p (Receive channel) s channel (slice_get (machine_code m).directions channel) after st e refl (right_of_unless (is_input (slice_get (machine_code m).directions channel)) SlotOrIndex d) (sym (leaves_same _ after e))
act_good m free p s (Send channel) after st d e =
    sends_good m free p (Send channel) s channel (slice_get (machine_code m).directions channel) s.frame.operands after st e refl (right_of_unless (is_output (slice_get (machine_code m).directions channel)) SlotOrIndex d) (sym (unpushed _) ∙ e)
act_good m free p s (Throw exception) after st d e =
    subst (λ (b : Bool). Good m (if b then machine.raised (machine_code m) s exception else machine.stuck s)) (sym (right_of_unless (nat_lt exception (machine_code m).exceptions) SlotOrIndex d))
    (raised_good m free p s (Throw exception) _ exception st)

-- ---- where control goes

edge_boundary : (m : ModuleContents) (p : ProcedureContents) → KeepsBoundaries p → (at : ℕ) (kinds : List BaseType) (to : ℕ) (after : List BaseType) → Edge m p at kinds to after → IsBoundary p to
edge_boundary m p boundaries at kinds _ _ (next i to after is e goes to_is) = subst (IsBoundary p) (sym to_is) (boundaries.next at i is)
edge_boundary m p boundaries at kinds _ _ (jumps i to after is e target) = inr (boundaries.jumps at i to is target)
edge_boundary m p boundaries at kinds _ _ (caught i h is there low high) = boundaries.caught h there

flow_boundary : (m : ModuleContents) (p : ProcedureContents) → KeepsBoundaries p → (table : ℕ → Option (List BaseType)) → Flow m p table → (at : ℕ) (kinds : List BaseType) → table at ≡ Some kinds → IsBoundary p at
flow_boundary m p boundaries _ starts at kinds e =
    elim (changed_cases nowhere 0 [] at kinds e) [
      | inl h ↦ subst (IsBoundary p) (sym h.0) boundaries.first
      | inr h ↦ absurd (let no : ◌≡◌ {A = Option (List BaseType)} None (Some kinds) = h in cc)
    ]
flow_boundary m p boundaries _ (grows table from before to after f has edge none) at kinds e =
    elim (changed_cases table to after at kinds e) [
      | inl h ↦ subst (IsBoundary p) (sym h.0) (edge_boundary m p boundaries from before to after edge)
      | inr h ↦ flow_boundary m p boundaries table f at kinds h
    ]

-- ---- steps

module _ (m : ModuleContents) (free : IsNotRefused m) where
  instruction_good : (s : State) (g : GoodState m s) (i : Instruction) → instruction_at g.procedure.code s.frame.position ≡ Some i → Good m (act (machine_code m) i s)
  instruction_good s g i is = split (effect m g.procedure i (map kind_of s.frame.operands)) refl
    where
      split : (e : Effect) → effect m g.procedure i (map kind_of s.frame.operands) ≡ e → Good m (act (machine_code m) i s)
      split (Misses wrong) e = absurd (flow_finds m g.procedure (flows m free s.frame.procedure g.procedure g.there) s.frame.position (map kind_of s.frame.operands) i wrong g.flow is e)
      split (Leaves after) e =
          act_good m free g.procedure s i after
          (record { there = g.there; instruction = is; flow = g.flow; slots = g.slots; globals = g.globals; callers = g.callers })
          ((all_right m free.fixed s.frame.procedure g.procedure g.there).instructions s.frame.position i is) e

  state_good : (s : State) → GoodState m s → Good m (step (machine_code m) (Running s))
  state_good s g =
      let p = g.procedure in
      let at = s.frame.position in
      let boundary = flow_boundary m p (boundaries m p (all_right m free.fixed s.frame.procedure p g.there)) g.flow.table g.flow.flow at (map kind_of s.frame.operands) g.flow.has in
      let fetched : instruction_at (code_of (slice_get m.procedures s.frame.procedure)) at ≡ instruction_at p.code at = ap (λ o. instruction_at (code_of o) at) g.there in
      subst (Good m) (sym (step-is (machine_code m) s))
      (elim boundary [
        | inl ends ↦ absurd (flow_stays m p (flows m free s.frame.procedure p g.there) (map kind_of s.frame.operands) (subst (λ (n : ℕ). IsInFlow m p n (map kind_of s.frame.operands)) ends g.flow))
        | inr found ↦ subst (λ o. Good m (acts (machine_code m) s o)) (sym (fetched ∙ found.1)) (instruction_good s g found.0 found.1)
      ])

  step_good : (machine : Machine) → Good m machine → Good m (step (machine_code m) machine)
  step_good _ (runs s g) = state_good s g
  step_good _ (over ending sent) = over ending sent

  exec_good : (n : ℕ) (machine : Machine) → Good m machine → Good m (exec (machine_code m) n machine)
  exec_good zero machine good = good
  exec_good (suc n) machine good = exec_good n (step (machine_code m) machine) (step_good machine good)

good_transition : (m : ModuleContents) (machine : Machine) → Good m machine → HasTransition machine
good_transition m _ (runs s g) = tt
good_transition m _ (over ending sent) = tt

-- ---- the start

main_there : (o : Option ProcedureContents) → may_start o ≡ true → (p : ProcedureContents) × ((o ≡ Some p) × (p.returned ≡ None))
main_there None e = absurd (let no : false ≡ true = e in cc)
main_there (Some p) e = (p, (refl, none p.returned (and_parts (p.parameters == 0) (is_none p.returned) e).1))
  where
    none : (o : Option BaseType) → is_none o ≡ true → o ≡ None
    none None e = refl
    none (Some q) e = absurd (let no : false ≡ true = e in cc)

pub good_after : (m : ModuleContents) → IsBounded m → IsNotRefused m → (world : ℕ → List ℤ) (n : ℕ) → Good m (after_steps m world n)
good_after m bounded free world n =
    let main = main_there (slice_get m.procedures m.main) bounded.starts in
    let p = main.0 in
    let first : Good m (Running (first_state m world)) = runs _ (record {
      procedure = p;
      there = main.1.0;
      flow = start_in_flow m p;
      slots = subst (λ o. Holds p.slots (first_slots (slots_in o) [])) (sym main.1.0) (holds_empty p.slots);
      globals = holds_globals m.globals;
      callers = outermost p main.1.1;
    }) in
    exec_good m free n (Running (first_state m world)) first

pub never_stuck : (m : ModuleContents) → IsBounded m → IsNotRefused m → IsNeverStuck m
never_stuck m bounded free = λ world n. not_stuck (after_steps m world n) (good_transition m (after_steps m world n) (good_after m bounded free world n))
