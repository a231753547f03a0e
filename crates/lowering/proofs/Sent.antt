-- What a machine has sent stays sent: one step of any instruction adds to it at most.
use Rattle.std.proofs.Common.{ℕ, zero, suc, Bool, true, false, List, [], ◌∷◌, length, nat_lt, ◌+◌, Option, Some, None, refl, sym, subst}
use Rattle.std.specs.Prelude.{if◌then◌else◌}
use Rattle.labels.specs.Sent.{IsPrefix}
use Rattle.labels.proofs.Prefixes.{prefix-itself, prefix-through}
use Rattle.modules.proofs.Tabled.{step-is}
use Rattle.modules.proofs.Alike.{act-alike}
use Rattle.modules.specs.declared.instruction.Instruction.{Instruction}
use Rattle.modules.specs.declared.declaration.Slot.{Slot}
use Rattle.common.specs.declared.value.Value.{Value as Cell}
use Rattle.modules.specs.Machine.{Frame, Caller, State, Machine, Running, Ended, Stuck, sent_of, MachineCode, unwound, raised, step, exec}
use Rattle.modules.specs.Transitions.{handled, enters, act}
use Rattle.modules.specs.MachineParts.{leaves, leaves_value, acts}
use Rattle.common.specs.declared.limits.TheConstants.{MAX_FRAMES}

-- what was sent before a state is a prefix of what a machine has sent
abbrev Kept : State → Machine → Type 0
Kept s machine = IsPrefix s.sent (sent_of machine)

same : (s : State) → IsPrefix s.sent s.sent
same s = prefix-itself s.sent

choice-keeps : (s : State) (b : Bool) (x y : Machine) → Kept s x → Kept s y → Kept s (if b then x else y)
choice-keeps s true x y h i = h
choice-keeps s false x y h i = i

-- ---- exceptions

handled-keeps : (s : State) (frame : Frame) (callers : List Caller) (position : Option ℕ) (otherwise : Machine) → Kept s otherwise → Kept s (handled s frame callers position otherwise)
handled-keeps s frame callers None otherwise h = h
handled-keeps s frame callers (Some target) otherwise h = same s

unwound-keeps : (p : MachineCode) (s : State) (exception : ℕ) (callers : List Caller) → Kept s (unwound p s exception callers)
unwound-keeps p s exception [] = same s
unwound-keeps p s exception (caller ∷ callers) =
    handled-keeps s caller.frame callers (p.find caller.frame.procedure caller.frame.position exception) (unwound p s exception callers) (unwound-keeps p s exception callers)

raised-keeps : (p : MachineCode) (s : State) (exception : ℕ) → Kept s (raised p s exception)
raised-keeps p s exception =
    handled-keeps s s.frame s.callers (p.find s.frame.procedure s.frame.position exception) (unwound p s exception s.callers) (unwound-keeps p s exception s.callers)

-- ---- calls and returns

enters-keeps : (p : MachineCode) (s : State) (procedure : ℕ) (slots : List Slot) (o : Option (List Cell × List Cell)) → Kept s (enters p s procedure slots o)
enters-keeps p s procedure slots None = same s
enters-keeps p s procedure slots (Some (arguments, operands)) = choice-keeps s (nat_lt (length s.callers + 1) MAX_FRAMES) _ _ (same s) (same s)

leaves-keeps : (s : State) (callers : List Caller) → Kept s (leaves s callers)
leaves-keeps s [] = same s
leaves-keeps s (caller ∷ callers) = same s

leaves_value-keeps : (s : State) (x : Cell) (callers : List Caller) → Kept s (leaves_value s x callers)
leaves_value-keeps s x [] = same s
leaves_value-keeps s x (caller ∷ callers) = same s

-- ---- steps

act-keeps : (p : MachineCode) (i : Instruction) (s : State) → Kept s (act p i s)
act-keeps p i s =
    act-alike p p.fetch p.next p.find s s.frame.position s.callers (λ target. target) (λ i (after before : Machine). Kept s before)
    (record {
      nowhere = λ i. same s;
      raises = λ i. raised-keeps p s;
      on = λ i globals slots rest operands fits. same s;
      to = λ i operands target few. same s;
      sends = λ channel n operands. (record { channel = channel; number = n } ∷ [], refl);
      calls = enters-keeps p s;
      returns = leaves-keeps s s.callers;
      gives = λ x. leaves_value-keeps s x s.callers;
    })
    i

acts-keeps : (p : MachineCode) (s : State) (o : Option Instruction) → Kept s (acts p s o)
acts-keeps p s None = same s
acts-keeps p s (Some i) = act-keeps p i s

pub step-keeps : (p : MachineCode) (machine : Machine) → IsPrefix (sent_of machine) (sent_of (step p machine))
step-keeps p (Running s) = subst (Kept s) (sym (step-is p s)) (acts-keeps p s (p.fetch s.frame.procedure s.frame.position))
step-keeps p (Ended ending sent) = prefix-itself sent
step-keeps p (Stuck sent) = prefix-itself sent

pub exec-keeps : (p : MachineCode) (n : ℕ) (machine : Machine) → IsPrefix (sent_of machine) (sent_of (exec p n machine))
exec-keeps p zero machine = prefix-itself (sent_of machine)
exec-keeps p (suc n) machine =
    prefix-through (sent_of machine) (sent_of (step p machine)) (sent_of (exec p n (step p machine))) (step-keeps p machine) (exec-keeps p n (step p machine))
