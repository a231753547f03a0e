-- A program whose code is laid out differently takes the same steps: each step commutes with the renaming of positions.
use Rattle.std.proofs.Common.{◌≡◌, ℕ, zero, suc, ◌+◌, ◌∙◌, refl, sym, ap, subst, Bool, true, false, cond, List, [], ◌∷◌, length, map, Option, Some, None, ltb}
use Rattle.std.specs.Option.{option_map}
use Rattle.std.proofs.lemmas.List.{length-map}
use Rattle.modules.proofs.Tabled.{step-is}
use Rattle.modules.proofs.Alike.{act-alike, with_sent, with_memory}
use Rattle.modules.specs.declared.instruction.Instruction.{Instruction}
use Rattle.common.specs.declared.value.Value.{Value as Cell}
use Rattle.modules.specs.declared.declaration.Slot.{Slot}
use Rattle.modules.specs.Machine.{Frame, Caller, State, Machine, Running, Ended, Stuck, Deep, MachineCode, goes_on, goes_to, unwound, raised, new_frame, step, exec}
use Rattle.modules.specs.Transitions.{handled, enters, act}
use Rattle.modules.specs.MachineParts.{leaves, leaves_value, acts}
use Rattle.modules.specs.Targets.{renamed_instruction}
use Rattle.layout.specs.SameRuns.{renamed_frame, renamed_caller, renamed_state, renamed}
use Rattle.common.specs.declared.limits.TheConstants.{MAX_FRAMES}

-- a program; other functions that fetch, go on and find a handler; and a renaming of the program's positions that fits to them
pub record Relaid : Type 0 where
  pub program : MachineCode
  pub fetch : ℕ → ℕ → Option Instruction
  pub next : ℕ → ℕ → ℕ
  pub find : ℕ → ℕ → ℕ → Option ℕ
  pub rename : ℕ → ℕ → ℕ
  pub start : (procedure : ℕ) → rename procedure 0 ≡ 0
  pub fetched : (procedure position : ℕ) → fetch procedure (rename procedure position) ≡ option_map (renamed_instruction (rename procedure)) (program.fetch procedure position)
  pub goes_next : (procedure position : ℕ) (instruction : Instruction) → program.fetch procedure position ≡ Some instruction → next procedure (rename procedure position) ≡ rename procedure (program.next procedure position)
  pub finds : (procedure position exception : ℕ) → find procedure (rename procedure position) exception ≡ option_map (rename procedure) (program.find procedure position exception)

-- the program with the other functions
abbrev pub relaid : Relaid → MachineCode
relaid l = record l.program { fetch = l.fetch; next = l.next; find = l.find }

abbrev moved : Relaid → State → State
moved l s = renamed_state l.rename s

abbrev all : Relaid → List Caller → List Caller
all l callers = map (renamed_caller l.rename) callers

-- where a state goes on is renamed
abbrev GoesOn : Relaid → State → Type 0
GoesOn l s = l.next s.frame.procedure (l.rename s.frame.procedure s.frame.position) ≡ l.rename s.frame.procedure (l.program.next s.frame.procedure s.frame.position)

-- two machines, the one renamed
abbrev Same : Relaid → Machine → Machine → Type 0
Same l after before = after ≡ renamed l.rename before

-- ---- the ways in which a transition ends

on : (l : Relaid) (s : State) → GoesOn l s → (operands : List Cell) → Same l (goes_on (relaid l) (moved l s) operands) (goes_on l.program s operands)
on l s h operands = ap (λ (position : ℕ). goes_to (moved l s) operands position) h

either : (l : Relaid) (b : Bool) (after before other_after other_before : Machine) → Same l after before → Same l other_after other_before → Same l (cond b after other_after) (cond b before other_before)
either l true after before other_after other_before h k = h
either l false after before other_after other_before h k = k

handled-same : (l : Relaid) (s : State) (frame : Frame) (callers : List Caller) (target : Option ℕ) (after before : Machine) → Same l after before → Same l (handled (moved l s) (renamed_frame l.rename frame) (all l callers) (option_map (l.rename frame.procedure) target) after) (handled s frame callers target before)
handled-same l s frame callers None after before h = h
handled-same l s frame callers (Some target) after before h = refl

unwound-same : (l : Relaid) (s : State) (exception : ℕ) (callers : List Caller) → Same l (unwound (relaid l) (moved l s) exception (all l callers)) (unwound l.program s exception callers)
unwound-same l s exception [] = refl
unwound-same l s exception (caller ∷ callers) =
    ap (λ (target : Option ℕ). handled (moved l s) (renamed_frame l.rename caller.frame) (all l callers) target (unwound (relaid l) (moved l s) exception (all l callers))) (l.finds caller.frame.procedure caller.frame.position exception)
    ∙ handled-same l s caller.frame callers (l.program.find caller.frame.procedure caller.frame.position exception) (unwound (relaid l) (moved l s) exception (all l callers)) (unwound l.program s exception callers) (unwound-same l s exception callers)

raised-same : (l : Relaid) (s : State) (exception : ℕ) → Same l (raised (relaid l) (moved l s) exception) (raised l.program s exception)
raised-same l s exception =
    ap (λ (target : Option ℕ). handled (moved l s) (renamed_frame l.rename s.frame) (all l s.callers) target (unwound (relaid l) (moved l s) exception (all l s.callers))) (l.finds s.frame.procedure s.frame.position exception)
    ∙ handled-same l s s.frame s.callers (l.program.find s.frame.procedure s.frame.position exception) (unwound (relaid l) (moved l s) exception (all l s.callers)) (unwound l.program s exception s.callers) (unwound-same l s exception s.callers)

enters-same : (l : Relaid) (s : State) → GoesOn l s → (procedure : ℕ) (slots : List Slot) (taken : Option (List Cell × List Cell)) → Same l (enters (relaid l) (moved l s) procedure slots taken) (enters l.program s procedure slots taken)
enters-same l s h procedure slots None = refl
enters-same l s h procedure slots (Some (arguments, operands)) =
    let entered : ℕ → ℕ → Machine = λ position resume. Running (record (moved l s) {
      frame = record (new_frame procedure slots arguments) { position = position };
      callers = record { frame = record (renamed_frame l.rename s.frame) { operands = operands }; resume = resume } ∷ all l s.callers;
    }) in
    let resume : ℕ = l.next s.frame.procedure (l.rename s.frame.procedure s.frame.position) in
    ap (λ (count : ℕ). cond (ltb (count + 1) MAX_FRAMES) (entered 0 resume) (Ended Deep s.sent)) (length-map s.callers (renamed_caller l.rename))
    ∙ either l (ltb (length s.callers + 1) MAX_FRAMES) _ _ _ _ (λ i. entered (sym (l.start procedure) i) (h i)) refl

leaves-same : (l : Relaid) (s : State) (callers : List Caller) → Same l (leaves (moved l s) (all l callers)) (leaves s callers)
leaves-same l s [] = refl
leaves-same l s (caller ∷ callers) = refl

leaves_value-same : (l : Relaid) (s : State) (x : Cell) (callers : List Caller) → Same l (leaves_value (moved l s) x (all l callers)) (leaves_value s x callers)
leaves_value-same l s x [] = refl
leaves_value-same l s x (caller ∷ callers) = refl

-- ---- the table

act-same : (l : Relaid) (instruction : Instruction) (s : State) → GoesOn l s → Same l (act (relaid l) (renamed_instruction (l.rename s.frame.procedure) instruction) (moved l s)) (act l.program instruction s)
act-same l instruction s h =
    act-alike l.program l.fetch l.next l.find s (l.rename s.frame.procedure s.frame.position) (all l s.callers) (l.rename s.frame.procedure) (λ i. Same l)
    (record {
      nowhere = λ i. refl;
      raises = λ i. raised-same l s;
      on = λ i globals slots rest operands fits. on l (with_memory s globals slots rest) h operands;
      to = λ i operands target few. refl;
      sends = λ channel n operands. on l (with_sent s channel n) h operands;
      calls = enters-same l s h;
      returns = leaves-same l s s.callers;
      gives = λ x. leaves_value-same l s x s.callers;
    })
    instruction

acts-same : (l : Relaid) (s : State) (fetched : Option Instruction) → l.program.fetch s.frame.procedure s.frame.position ≡ fetched → Same l (acts (relaid l) (moved l s) (option_map (renamed_instruction (l.rename s.frame.procedure)) fetched)) (acts l.program s fetched)
acts-same l s None e = refl
acts-same l s (Some instruction) e = act-same l instruction s (l.goes_next s.frame.procedure s.frame.position instruction e)

step-same : (l : Relaid) (m : Machine) → Same l (step (relaid l) (renamed l.rename m)) (step l.program m)
step-same l (Running s) =
    subst (Same l (step (relaid l) (Running (moved l s)))) (sym (step-is l.program s))
    (step-is (relaid l) (moved l s)
    ∙ ap (λ (fetched : Option Instruction). acts (relaid l) (moved l s) fetched) (l.fetched s.frame.procedure s.frame.position)
    ∙ acts-same l s (l.program.fetch s.frame.procedure s.frame.position) refl)
step-same l (Ended ending sent) = refl
step-same l (Stuck sent) = refl

-- so does each number of steps
pub exec-same : (l : Relaid) (n : ℕ) (m : Machine) → exec (relaid l) n (renamed l.rename m) ≡ renamed l.rename (exec l.program n m)
exec-same l zero m = refl
exec-same l (suc n) m =
    ap (λ (after : Machine). exec (relaid l) n after) (step-same l m) ∙ exec-same l n (step l.program m)
