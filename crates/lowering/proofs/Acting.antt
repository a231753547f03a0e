-- What an instruction does is the same in two programs that differ in what they fetch alone.
use Rattle.std.proofs.Common.{◌≡◌, ℕ, refl, ap, ◌∙◌, sym, List, [], ◌∷◌, Option, Some, None}
use Rattle.modules.proofs.Alike.{act-alike}
use Rattle.modules.specs.Machine.{Caller, State, Machine, MachineCode, raised, unwound}
use Rattle.modules.specs.Transitions.{act, enters, handled}
use Rattle.modules.specs.Targets.{renamed_instruction}
use Rattle.modules.specs.declared.instruction.Instruction.{Instruction}
use Rattle.modules.specs.declared.instruction.Instruction.TheVariants.{Jump, JumpIfFalse}
use Rattle.modules.specs.declared.declaration.Slot.{Slot}
use Rattle.common.specs.declared.value.Value.{Value as Cell}

same_targets : (i : Instruction) → renamed_instruction (λ target. target) i ≡ i
same_targets (Jump target) = refl
same_targets (JumpIfFalse target) = refl
same_targets i = refl

module _ (p : MachineCode) (fetch : ℕ → ℕ → Option Instruction) where
  abbrev q : MachineCode
  q = record p { fetch = fetch }

  unwound-same : (s : State) (exception : ℕ) (callers : List Caller) → unwound q s exception callers ≡ unwound p s exception callers
  unwound-same s exception [] = refl
  unwound-same s exception (caller ∷ callers) =
      ap (handled s caller.frame callers (p.find caller.frame.procedure caller.frame.position exception)) (unwound-same s exception callers)

  raised-same : (s : State) (exception : ℕ) → raised q s exception ≡ raised p s exception
  raised-same s exception = ap (handled s s.frame s.callers (p.find s.frame.procedure s.frame.position exception)) (unwound-same s exception s.callers)

  enters-same : (s : State) (procedure : ℕ) (slots : List Slot) (taken : Option (List Cell × List Cell)) → enters q s procedure slots taken ≡ enters p s procedure slots taken
  enters-same s procedure slots None = refl
  enters-same s procedure slots (Some (arguments, operands)) = refl

  pub act-same : (i : Instruction) (s : State) → act q i s ≡ act p i s
  act-same i s =
      sym (ap (λ (j : Instruction). act q j s) (same_targets i))
      ∙ act-alike p fetch p.next p.find s s.frame.position s.callers (λ target. target) (λ i (after before : Machine). after ≡ before)
      (record {
        nowhere = λ i. refl;
        raises = λ i. raised-same s;
        on = λ i globals slots rest operands fits. refl;
        to = λ i operands target few. refl;
        sends = λ channel n operands. refl;
        calls = enters-same s;
        returns = refl;
        gives = λ x. refl;
      })
      i
