-- The module file is coherent: its two laws hold.
use Rattle.std.proofs.Common.{map, ◌≡◌, ℕ, zero, suc, ◌+◌, ◌^◌, ◌<◌, Bool, true, false, ◌||◌, cond, ltb, eqb, List, [], ◌∷◌, length, Option, Some, None, refl, sym, ap, subst, ◌∙◌, arith, inl, inr, ◌⊎◌, lit<}
use Rattle.std.specs.Int.{w32, cast_signed, cast_unsigned, from_be_bytes, to_be_bytes}
use Rattle.std.specs.List.{AllByRecursion, position_or_len, slice_get}
use Rattle.std.specs.Option.{option_eq}
use Rattle.std.proofs.lemmas.Bool.{ltb-true, eqb-true}
use Rattle.std.proofs.lemmas.Int.{of_z-to_z}
use Rattle.std.proofs.lemmas.Nat.{be_bytes_4}
use Rattle.modules.specs.declared.instruction.Instruction.{Instruction}
use Rattle.modules.specs.declared.instruction.Instruction.TheVariants.{PushBoolean, Pop, Return, ReturnValue, Operate}
use Rattle.modules.specs.declared.instruction.MachineOperator.{MachineOperator}
use Rattle.modules.specs.declared.version.Version.{Version}
use Rattle.modules.specs.declared.version.Version.TheVariants.{One, Two}
use Rattle.common.specs.declared.base_type.BaseType.{BaseType}
use Rattle.common.specs.declared.base_type.BaseType.TheVariants as kind
use Rattle.common.specs.contracts.base_type.BaseTypePartialEq.TheImpl.{eq-value as same_kind}
use Rattle.common.specs.declared.direction.Direction.{Direction}
use Rattle.common.specs.declared.direction.Direction.TheVariants.{Input, Output}
use Rattle.common.specs.contracts.direction.DirectionPartialEq.TheImpl.{eq-value as same_direction}
use Rattle.modules.specs.declared.declaration.Slot.{Slot}
use Rattle.modules.specs.declared.declaration.Slot.TheVariants as slot
use Rattle.modules.specs.Contents.{ProcedureContents}
use Rattle.modules.specs.Code.{width_of}
use Rattle.modules.specs.ByteFormat.{Fits}
use Rattle.modules.specs.declared.opcode.Operand.{Operand}
use Rattle.modules.specs.declared.opcode.Operand.TheVariants.{Absent, Int, Boolean, Number as Numbered}
use Rattle.modules.specs.Opcodes.{entry_of, opcode_of, operand_of, operand_width, numbered, operators, plain, with_opcode, instruction_of, examples, has_instruction, width_in, width_after, instructions}
use Rattle.modules.specs.Format.{name_after, number_below, hierarchy, direction, policy, label, channel_after, variable_kind, slot_beside, first_value, global_of, global_fields, global_after, slot_fields, slots, returned, handler, procedure, main, declared, version_number, version, module_file}
use Rattle.modules.specs.FormatParts.{principals, pair_after, exceptions, channels, globals, procedures, program, contents}
use Rattle.modules.proofs.Spelling.{found-has}
use Rattle.bytecode.proofs.Steps.{IsBytes}
use Rattle.bytecode.proofs.Coherent.{IsLawful, Coherent}

-- ---- instructions

-- an instruction has the opcode and the operand
abbrev Has : ℕ → List ℕ → Instruction → Type 0
Has byte operand x = (opcode_of x ≡ byte) × (operand_of x ≡ operand)

with_operand : (byte : ℕ) (operand : List ℕ) (all : List Instruction) (x : Instruction) → AllByRecursion (λ y. operand_of y ≡ operand) all → with_opcode byte all ≡ Some x → Has byte operand x
with_operand byte operand all x have e =
    let f = found-has (λ y. eqb (opcode_of y) byte) (λ y. operand_of y ≡ operand) all x have e in
    (eqb-true _ _ f.0, f.1)

flagged_has : (byte b : ℕ) (x : Instruction) (zero_is one_is : Bool) → eqb b 0 ≡ zero_is → eqb b 1 ≡ one_is
    → with_opcode byte (cond zero_is (PushBoolean false ∷ []) (cond one_is (PushBoolean true ∷ []) [])) ≡ Some x → Has byte (b ∷ []) x
flagged_has byte b x true one_is z o e = with_operand byte (b ∷ []) (PushBoolean false ∷ []) x (ap (λ (n : ℕ). n ∷ []) (sym (eqb-true _ _ z)), tt) e
flagged_has byte b x false true z o e = with_operand byte (b ∷ []) (PushBoolean true ∷ []) x (ap (λ (n : ℕ). n ∷ []) (sym (eqb-true _ _ o)), tt) e
flagged_has byte b x false false z o e = absurd cc

four_has : (byte : ℕ) (operand : List ℕ) (x : Instruction) → length operand ≡ 4 → IsBytes operand → with_opcode byte (numbered (from_be_bytes w32 operand)) ≡ Some x → Has byte operand x
four_has byte operand x len fits e =
    let n = from_be_bytes w32 operand in
    let small : n < 2 ^ 32 = omega (arith, fits.below 0, fits.below 1, fits.below 2, fits.below 3) in
    let here : to_be_bytes w32 n ≡ operand = be_bytes_4 operand n len fits.below refl in
    let int : to_be_bytes w32 (cast_unsigned w32 (cast_signed w32 n)) ≡ operand = ap (to_be_bytes w32) (of_z-to_z w32 n small) ∙ here in
    with_operand byte operand (numbered n) x (int, (here, (here, (here, (here, (here, (here, (here, (here, (here, (here, (here, (here, (here, (here, (here, tt)))))))))))))))) e

-- what holds of the instructions without an operand
have_plain : (P : Instruction → Type 0) → P Pop → P Return → P ReturnValue → ((operator : MachineOperator) → P (Operate operator)) → AllByRecursion P plain
have_plain P pop return value each = (pop, (return, (value, along operators)))
  where
    along : (all : List MachineOperator) → AllByRecursion P (map Operate all)
    along [] = tt
    along (operator ∷ all) = (each operator, along all)

spelled_by : (byte : ℕ) (operand : List ℕ) (x : Instruction) → IsBytes operand → (length operand ≡ 0) ⊎ ((length operand ≡ 1) ⊎ (length operand ≡ 4)) → instruction_of byte operand ≡ Some x → Has byte operand x
spelled_by byte [] x fits size e = with_operand byte [] plain x (have_plain (λ y. operand_of y ≡ []) refl refl refl (λ operator. refl)) e
spelled_by byte (b ∷ []) x fits size e = flagged_has byte b x (eqb b 0) (eqb b 1) refl refl e
spelled_by byte (a ∷ b ∷ []) x fits size e = absurd (elim size [ inl h ↦ omega arith | inr more ↦ elim more [ inl h ↦ omega arith | inr h ↦ omega arith ] ])
spelled_by byte (a ∷ b ∷ c ∷ []) x fits size e = absurd (elim size [ inl h ↦ omega arith | inr more ↦ elim more [ inl h ↦ omega arith | inr h ↦ omega arith ] ])
spelled_by byte (a ∷ b ∷ c ∷ d ∷ []) x fits size e = four_has byte (a ∷ b ∷ c ∷ d ∷ []) x refl fits e
spelled_by byte (a ∷ b ∷ c ∷ d ∷ f ∷ rest) x fits size e = absurd (elim size [ inl h ↦ omega arith | inr more ↦ elim more [ inl h ↦ omega arith | inr h ↦ omega arith ] ])

-- and it is as wide as they are
abbrev IsWide : ℕ → Instruction → Type 0
IsWide width x = width_of x ≡ width

with_width : (byte width : ℕ) (all : List Instruction) (x : Instruction) → AllByRecursion (IsWide width) all → with_opcode byte all ≡ Some x → width_of x ≡ width
with_width byte width all x have e = (found-has (λ y. eqb (opcode_of y) byte) (IsWide width) all x have e).1

flagged_width : (byte : ℕ) (x : Instruction) (zero_is one_is : Bool) → with_opcode byte (cond zero_is (PushBoolean false ∷ []) (cond one_is (PushBoolean true ∷ []) [])) ≡ Some x → width_of x ≡ 2
flagged_width byte x true one_is e = with_width byte 2 (PushBoolean false ∷ []) x (refl, tt) e
flagged_width byte x false true e = with_width byte 2 (PushBoolean true ∷ []) x (refl, tt) e
flagged_width byte x false false e = absurd cc

pub width_by : (byte : ℕ) (operand : List ℕ) (x : Instruction) → (length operand ≡ 0) ⊎ ((length operand ≡ 1) ⊎ (length operand ≡ 4)) → instruction_of byte operand ≡ Some x → width_of x ≡ 1 + length operand
width_by byte [] x size e = with_width byte 1 plain x (have_plain (IsWide 1) refl refl refl (λ operator. refl)) e
width_by byte (b ∷ []) x size e = flagged_width byte x (eqb b 0) (eqb b 1) e
width_by byte (a ∷ b ∷ []) x size e = absurd (elim size [ inl h ↦ omega arith | inr more ↦ elim more [ inl h ↦ omega arith | inr h ↦ omega arith ] ])
width_by byte (a ∷ b ∷ c ∷ []) x size e = absurd (elim size [ inl h ↦ omega arith | inr more ↦ elim more [ inl h ↦ omega arith | inr h ↦ omega arith ] ])
width_by byte (a ∷ b ∷ c ∷ d ∷ []) x size e = with_width byte 5 (numbered (from_be_bytes w32 (a ∷ b ∷ c ∷ d ∷ []))) x (refl, (refl, (refl, (refl, (refl, (refl, (refl, (refl, (refl, (refl, (refl, (refl, (refl, (refl, (refl, (refl, tt)))))))))))))))) e
width_by byte (a ∷ b ∷ c ∷ d ∷ f ∷ rest) x size e = absurd (elim size [ inl h ↦ omega arith | inr more ↦ elim more [ inl h ↦ omega arith | inr h ↦ omega arith ] ])

-- an opcode that is followed by a number is so in each version
pub numbered_width : (version : Version) (byte n : ℕ) (x : Instruction) → with_opcode byte (numbered n) ≡ Some x → width_after version byte ≡ Some 4
numbered_width version byte n x e =
    let f = found-has (λ y. eqb (opcode_of y) byte) (λ y. width_after version (opcode_of y) ≡ Some 4) (numbered n) x (refl, (refl, (refl, (refl, (refl, (refl, (refl, (refl, (refl, (refl, (refl, (refl, (refl, (refl, (refl, (refl, tt)))))))))))))))) e in
    subst (λ (b : ℕ). width_after version b ≡ Some 4) (eqb-true _ _ f.0) f.1

-- an opcode that no operand follows is so in each version that has its instruction
pub plain_width : (version : Version) (byte : ℕ) (x : Instruction) → with_opcode byte plain ≡ Some x → has_instruction version x ≡ true → width_after version byte ≡ Some 0
plain_width version byte x e has =
    let f = found-has (λ y. eqb (opcode_of y) byte) (λ y. width_after version (opcode_of y) ≡ cond (has_instruction version y) (Some 0) None) plain x (refl, (refl, (refl, (refl, (refl, (refl, (refl, (refl, (refl, (refl, (refl, (refl, (refl, (refl, (refl, (refl, (refl, (refl, (refl, (refl, (refl, (refl, (refl, (refl, tt)))))))))))))))))))))))) e in
    subst (λ (b : ℕ). width_after version b ≡ Some 0) (eqb-true _ _ f.0) (f.1 ∙ ap (λ (b : Bool). cond b (Some 0) None) has)

three_widths : (operand : Operand) (n : ℕ) → operand_width operand ≡ n → (n ≡ 0) ⊎ ((n ≡ 1) ⊎ (n ≡ 4))
three_widths Absent n e = inl (sym e)
three_widths (Boolean b) n e = inr (inl (sym e))
three_widths (Int z) n e = inr (inr (sym e))
three_widths (Numbered k) n e = inr (inr (sym e))

width_if : (has : Bool) (x : Instruction) (n : ℕ) → cond has (Some (operand_width (entry_of x).operand)) None ≡ Some n → operand_width (entry_of x).operand ≡ n
width_if true x n e = cc
width_if false x n e = absurd cc

width_found : (version : Version) (example : Option Instruction) (n : ℕ) → width_in version example ≡ Some n → (n ≡ 0) ⊎ ((n ≡ 1) ⊎ (n ≡ 4))
width_found version None n e = absurd cc
width_found version (Some x) n e = three_widths (entry_of x).operand n (width_if (has_instruction version x) x n e)

pub one_width : (version : Version) (byte n : ℕ) → width_after version byte ≡ Some n → (n ≡ 0) ⊎ ((n ≡ 1) ⊎ (n ≡ 4))
one_width version byte n e = width_found version (with_opcode byte examples) n e

pub instructions-lawful : (version : Version) → IsLawful (instructions version)
unfolding instructions
instructions-lawful version = record {
  opcode = λ byte operand x fits width e. (spelled_by byte operand x fits (one_width version byte (length operand) width) e).0;
  operand = λ byte operand x fits width e. (spelled_by byte operand x fits (one_width version byte (length operand) width) e).1;
}

-- ---- the module file

byte_back : (n : ℕ) → ltb n 2 ≡ true → (n ≡ 0) ⊎ (n ≡ 1)
byte_back zero e = inl refl
byte_back (suc zero) e = inr refl
byte_back (suc (suc n)) e = absurd (omega (arith, ltb-true _ _ e))

-- a byte that numbers one of a list is the number of that one's place
direction-numbered : (number : ℕ) (x : Direction) → slice_get (Input ∷ Output ∷ []) number ≡ Some x → position_or_len (same_direction.it x) (Input ∷ Output ∷ []) ≡ number
direction-numbered zero x e = let same : Input ≡ x = cc in subst (λ (d : Direction). position_or_len (same_direction.it d) (Input ∷ Output ∷ []) ≡ 0) same refl
direction-numbered (suc zero) x e = let same : Output ≡ x = cc in subst (λ (d : Direction). position_or_len (same_direction.it d) (Input ∷ Output ∷ []) ≡ 1) same refl
direction-numbered (suc (suc n)) x e = absurd cc

kind-numbered : (number : ℕ) (x : BaseType) → slice_get (kind.Int ∷ kind.Boolean ∷ []) number ≡ Some x → position_or_len (same_kind.it x) (kind.Int ∷ kind.Boolean ∷ []) ≡ number
kind-numbered zero x e = let same : kind.Int ≡ x = cc in subst (λ (k : BaseType). position_or_len (same_kind.it k) (kind.Int ∷ kind.Boolean ∷ []) ≡ 0) same refl
kind-numbered (suc zero) x e = let same : kind.Boolean ≡ x = cc in subst (λ (k : BaseType). position_or_len (same_kind.it k) (kind.Int ∷ kind.Boolean ∷ []) ≡ 1) same refl
kind-numbered (suc (suc n)) x e = absurd cc

abbrev results : List (Option BaseType)
results = None ∷ Some kind.Int ∷ Some kind.Boolean ∷ []

result-numbered : (number : ℕ) (x : Option BaseType) → slice_get results number ≡ Some x → position_or_len (option_eq same_kind.it x) results ≡ number
result-numbered zero x e = let same : None ≡ x = cc in subst (λ (r : Option BaseType). position_or_len (option_eq same_kind.it r) results ≡ 0) same refl
result-numbered (suc zero) x e = let same : Some kind.Int ≡ x = cc in subst (λ (r : Option BaseType). position_or_len (option_eq same_kind.it r) results ≡ 1) same refl
result-numbered (suc (suc zero)) x e = let same : Some kind.Boolean ≡ x = cc in subst (λ (r : Option BaseType). position_or_len (option_eq same_kind.it r) results ≡ 2) same refl
result-numbered (suc (suc (suc n))) x e = absurd cc

pub name_after-coherent : (taken : List ℕ → Bool) (before : List (List ℕ)) → Coherent (name_after taken before)
unfolding name_after
name_after-coherent taken before = tt

pub number_below-coherent : (count : ℕ) → Coherent (number_below count)
unfolding number_below
number_below-coherent count = tt

pub principals-coherent : Coherent principals
unfolding principals
principals-coherent = name_after-coherent _

pub pair_after-coherent : (count : ℕ) (before : List (ℕ × ℕ)) → Coherent (pair_after count before)
unfolding pair_after
pair_after-coherent count before = (number_below-coherent count, λ _. number_below-coherent count)

pub hierarchy-coherent : Coherent hierarchy
unfolding hierarchy principals pair_after
hierarchy-coherent = ((principals-coherent, λ names before. pair_after-coherent (length names) before), λ fields fits. refl)

pub exceptions-coherent : Coherent exceptions
unfolding exceptions
exceptions-coherent = name_after-coherent _

pub label-coherent : (count : ℕ) → Coherent (label count)
unfolding label policy
label-coherent count = λ before. ((number_below-coherent count, λ owner readers. number_below-coherent count), λ fields fits. refl)

pub channels-coherent : (count : ℕ) (declared : List (List ℕ)) → Coherent (channels count declared)
unfolding channels channel_after direction
channels-coherent count declared = λ before. ((direction-numbered, λ _. (name_after-coherent _ _, λ _. label-coherent count)), λ fields fits. refl)

first_value-coherent : (declared : Slot) → Coherent (first_value declared)
first_value-coherent (slot.Scalar kind.Int) = tt
first_value-coherent (slot.Scalar kind.Boolean) = tt
first_value-coherent (slot.Array kind size) = tt

boolean-back : (n : ℕ) → ltb n 2 ≡ true → cond (eqb n 1) 1 0 ≡ n
boolean-back n e = elim (byte_back n e) [ inl h ↦ rw h refl | inr h ↦ rw h refl ]

abbrev global_fields_are : Slot → ℕ → Slot × ℕ
global_fields_are declared first = (declared, first)

global-back : (declared : Slot) (first : ℕ) → Fits (first_value declared) first → global_fields (global_of (declared, first)) ≡ (declared, first)
global-back (slot.Scalar kind.Int) first fits = ap (global_fields_are (slot.Scalar kind.Int)) (of_z-to_z w32 first fits)
global-back (slot.Scalar kind.Boolean) first fits = ap (global_fields_are (slot.Scalar kind.Boolean)) (boolean-back first fits.1)
global-back (slot.Array kind size) first fits = ap (global_fields_are (slot.Array kind size)) (sym fits)

abbrev slot_fields_are : BaseType → ℕ → BaseType × ℕ
slot_fields_are kind size = (kind, size)

slot-back : (kind : BaseType) (size : ℕ) (b : Bool) → eqb size 0 ≡ b → slot_fields (cond b (slot.Scalar kind) (slot.Array kind size)) ≡ (kind, size)
slot-back kind size true h = ap (slot_fields_are kind) (sym (eqb-true size 0 h))
slot-back kind size false h = refl

slot_beside-coherent : (cells : ℕ) (test : ℕ → Bool) → Coherent (slot_beside cells test)
unfolding slot_beside variable_kind
slot_beside-coherent cells test = ((kind-numbered, λ kind. tt), λ fields fits. slot-back fields.0 fields.1 (eqb fields.1 0) refl)

pub globals-coherent : Coherent globals
unfolding globals global_after
globals-coherent = λ before. ((slot_beside-coherent _ _, first_value-coherent), λ fields fits. global-back fields.0 fields.1 fits.1)

pub slots-coherent : (count : ℕ) → Coherent (slots count)
unfolding slots
slots-coherent count = λ before. slot_beside-coherent _ _

pub procedures-coherent : (version : Version) → Coherent (procedures version)
unfolding procedures procedure returned handler
procedures-coherent version = λ before. ((result-numbered, λ _. (tt, λ count. (slots-coherent count, λ _. (instructions-lawful version, λ _ before. ((tt, λ _. (tt, λ _. (tt, λ _. tt))), λ fields fits. refl))))), λ fields fits. refl)

main-coherent : (all : List ProcedureContents) → Coherent (main all)
unfolding main
main-coherent all = tt

pub declared-coherent : (count : ℕ) → Coherent (declared count)
unfolding declared exceptions channels
declared-coherent count = (exceptions-coherent, channels-coherent count)

pub program-coherent : (version : Version) → Coherent (program version)
unfolding program
program-coherent version = (globals-coherent, λ _. (procedures-coherent version, main-coherent))

version_back : (n : ℕ) (one two : Bool) → eqb n 1 ≡ one → eqb n 2 ≡ two → (one || two) ≡ true → version_number (cond one One Two) ≡ n
version_back n true two a b h = sym (eqb-true n 1 a)
version_back n false true a b h = sym (eqb-true n 2 b)
version_back n false false a b h = absurd cc

version-coherent : Coherent version
unfolding version
version-coherent = (tt, λ n fits. version_back n (eqb n 1) (eqb n 2) refl refl fits.1)

contents-coherent : (version : Version) → Coherent (contents version)
unfolding contents
contents-coherent version = (hierarchy-coherent, λ h. (declared-coherent (length h.names), λ _. program-coherent version))

pub module_file-coherent : Coherent module_file
unfolding module_file contents program globals procedures
module_file-coherent = (lit< tt, ((version-coherent, contents-coherent), λ fields fits. refl))
