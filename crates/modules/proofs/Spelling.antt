-- Each instruction that a version has and whose operand fits has a spelling there, which is as long as the instruction is wide.
use Rattle.std.proofs.Common.{◌≡◌, ◌⊎◌, inl, inr, ℕ, ◌^◌, ◌<◌, ℤ, Bool, true, false, cond, eqb, List, [], ◌∷◌, ◌++◌, length, Option, None, Some, refl, sym, ap, subst, ◌∙◌, arith, length-append, lit<}
use Rattle.std.specs.Prelude.{◌||◌, FitsSigned, IsTrue, nat_lt}
use Rattle.std.specs.Int.{w32, cast_signed, cast_unsigned, to_be_bytes, from_be_bytes}
use Rattle.std.specs.List.{find, AllByRecursion}
use Rattle.std.proofs.lemmas.List.Elements.{All-nil, All-cons}
use Rattle.std.proofs.lemmas.Int.{to_z-of_z}
use Rattle.std.proofs.lemmas.Nat.{from_be_bytes-to_be_bytes_4}
use Rattle.std.proofs.Math.Facts.{Fits-of_z, Fits-of_lt, Fits-lt-pow, sfits_to_z}
use Rattle.common.specs.declared.operator.Arithmetic.TheVariants.{Bits}
use Rattle.common.specs.declared.operator.BitOperator.TheVariants.{BitAnd}
use Rattle.common.specs.declared.operator.Comparison.TheVariants.{Ordered, Matched}
use Rattle.common.specs.declared.operator.Order.TheVariants.{LessThan}
use Rattle.common.specs.declared.operator.Sameness.TheVariants.{Same}
use Rattle.modules.specs.declared.instruction.MachineOperator.TheVariants.{Compute, Compare, Match}
use Rattle.modules.specs.declared.instruction.Storage.TheVariants.{Local}
use Rattle.modules.specs.declared.instruction.Instruction.{Instruction}
use Rattle.modules.specs.declared.instruction.Instruction.TheVariants.{Push, PushBoolean, Load, Store, LoadElement, StoreElement, Operate}
use Rattle.modules.specs.Code.{width_of, code_length}
use Rattle.modules.specs.ByteFormat.{IsCoded, spelled_instruction, spelled_code}
use Rattle.modules.specs.Opcodes.{HasCodeOf, HasSpelling, OperandFits, code_bytes, has_instruction, instruction_bytes, instruction_of, instructions, numbered, opcode_of, operand_bytes, operand_width, plain, entry_of, width_after, width_in, with_opcode}
use Rattle.modules.specs.Versions.{exists_in, since_of}
use Rattle.modules.specs.declared.opcode.Operand.{Operand}
use Rattle.modules.specs.declared.opcode.Operand.TheVariants.{Absent, Boolean, Int, Number}
use Rattle.modules.specs.contracts.version.VersionPartialEq.TheImpl.{eq-value as same_version}
use Rattle.modules.specs.declared.version.Version.{Version}
use Rattle.modules.specs.declared.version.Version.TheVariants.{One, Two}

-- ---- widths

operand-width : (operand : Operand) → length (operand_bytes operand) ≡ operand_width operand
operand-width Absent = refl
operand-width (Int n) = refl
operand-width (Boolean b) = refl
operand-width (Number n) = refl

pub spelled-width : (version : Version) (x : Instruction) → length (spelled_instruction (instructions version) x) ≡ width_of x
unfolding instructions
spelled-width version x = omega (arith, operand-width (entry_of x).operand)

pub bytes-length : (code : List Instruction) → length (code_bytes code) ≡ code_length code
bytes-length [] = refl
bytes-length (x ∷ xs) =
    length-append (instruction_bytes x) (code_bytes xs) ∙ omega (arith, operand-width (entry_of x).operand, bytes-length xs)

-- as readers of a version tell it, code has the same bytes
pub code-bytes : (version : Version) (code : List Instruction) → spelled_code (instructions version) code ≡ code_bytes code
unfolding instructions
code-bytes version [] = refl
code-bytes version (x ∷ xs) = ap (λ (bytes : List ℕ). instruction_bytes x ++ bytes) (code-bytes version xs)

-- ---- spellings

number-back : (n : ℕ) → n < 2 ^ 32 → from_be_bytes w32 (to_be_bytes w32 n) ≡ n
number-back n small = from_be_bytes-to_be_bytes_4 n small

int-back : (n : ℤ) → FitsSigned w32 n → cast_signed w32 (from_be_bytes w32 (to_be_bytes w32 (cast_unsigned w32 n))) ≡ n
int-back n fits =
    let small : cast_unsigned w32 n < 2 ^ 32 = Fits-lt-pow (Fits-of_z fits) in
    ap (cast_signed w32) (number-back (cast_unsigned w32 n) small) ∙ to_z-of_z w32 n fits

-- what is spelled by the opcode of an instruction, and by the bytes of an operand or by the number that stands there, is that one
abbrev SpellsIt : Instruction → Operand → Type 0
SpellsIt x Absent = with_opcode (opcode_of x) plain ≡ Some x
SpellsIt x (Int n) = (number : ℕ) → cast_signed w32 number ≡ n → with_opcode (opcode_of x) (numbered number) ≡ Some x
SpellsIt x (Boolean b) = instruction_of (opcode_of x) (operand_bytes (Boolean b)) ≡ Some x
SpellsIt x (Number n) = with_opcode (opcode_of x) (numbered n) ≡ Some x

spells_it : (x : Instruction) → SpellsIt x (entry_of x).operand
spells_it (Push n) = λ number same. ap (λ i. Some (Push i)) same
spells_it (PushBoolean true) = refl
spells_it (PushBoolean false) = refl
spells_it (Load Local slot) = refl
spells_it (Store Local slot) = refl
spells_it (LoadElement Local slot) = refl
spells_it (StoreElement Local slot) = refl
spells_it (Operate (Compute (Bits BitAnd))) = refl
spells_it (Operate (Compare (Ordered LessThan))) = refl
spells_it (Operate (Compare (Matched Same))) = refl
spells_it (Operate (Match Same)) = refl
spells_it x = refl

itself : (x : Instruction) (operand : Operand) → SpellsIt x operand → OperandFits operand → instruction_of (opcode_of x) (operand_bytes operand) ≡ Some x
itself x Absent spells fits = spells
itself x (Int n) spells fits = spells (from_be_bytes w32 (to_be_bytes w32 (cast_unsigned w32 n))) (int-back n fits)
itself x (Boolean b) spells fits = spells
itself x (Number n) spells fits = ap (λ k. with_opcode (opcode_of x) (numbered k)) (number-back n fits) ∙ spells

-- ---- widths in a version

small : (x : Instruction) → opcode_of x < 256
small (Load Local slot) = lit< tt
small (Store Local slot) = lit< tt
small (LoadElement Local slot) = lit< tt
small (StoreElement Local slot) = lit< tt
small (Operate (Compute (Bits BitAnd))) = lit< tt
small (Operate (Compare (Ordered LessThan))) = lit< tt
small (Operate (Compare (Matched Same))) = lit< tt
small (Operate (Match Same)) = lit< tt
small x = lit< tt

-- a version knows the opcodes of the instructions that it has
known : (version : Version) (x : Instruction) → width_after version (opcode_of x) ≡ width_in version (Some x)
known version (PushBoolean b) = refl
known version (Load Local slot) = refl
known version (Store Local slot) = refl
known version (LoadElement Local slot) = refl
known version (StoreElement Local slot) = refl
known version (Operate (Compute (Bits BitAnd))) = refl
known version (Operate (Compare (Ordered LessThan))) = refl
known version (Operate (Compare (Matched Same))) = refl
known version (Operate (Match Same)) = refl
known version x = refl

pub is_spelled : (version : Version) (x : Instruction) → IsTrue (has_instruction version x) → OperandFits (entry_of x).operand → IsCoded (instructions version) x
unfolding instructions
is_spelled version x has fits = record {
  byte = small x;
  width =
      known version x ∙ ap (λ (b : Bool). cond b (Some (operand_width (entry_of x).operand)) None) has
      ∙ ap Some (sym (operand-width (entry_of x).operand));
  itself = itself x (entry_of x).operand (spells_it x) fits;
}

-- ---- versions

-- a version has what exists since it or an earlier one
pub since_has : (version : Version) (x : Instruction) → exists_in (since_of x) version ≡ has_instruction version x
since_has version x = by version (nat_lt (entry_of x).byte 0x28)
  where
    by : (version : Version) (early : Bool) → exists_in (cond early One Two) version ≡ (early || same_version.it version Two)
    by One true = refl
    by One false = refl
    by Two true = refl
    by Two false = refl

some_if : (has : Bool) (width found : ℕ) → cond has (Some width) None ≡ Some found → IsTrue has
some_if true width found e = refl
some_if false width found e = absurd cc

-- an instruction that has a spelling in a version is one that the version has
pub has_spelled : (version : Version) (x : Instruction) → IsCoded (instructions version) x → IsTrue (has_instruction version x)
unfolding instructions
has_spelled version x coded =
    some_if (has_instruction version x) (operand_width (entry_of x).operand) _ (sym (known version x) ∙ coded.width)

-- ---- operands that fit

chosen : {X : Type 0} (b : Bool) (y x : X) (other : Option X) → cond b (Some y) other ≡ Some x → ((b ≡ true) × (y ≡ x)) ⊎ (other ≡ Some x)
chosen true y x other e = inl (refl, cc)
chosen false y x other e = inr e

-- what was found passes the test, and has what all have
pub found-has : {X : Type 0} (p : X → Bool) (P : X → Type 0) (xs : List X) (x : X) → AllByRecursion P xs → find p xs ≡ Some x → (p x ≡ true) × P x
found-has p P [] x all e = absurd cc
found-has {X} p P (y ∷ ys) x all e =
    elim (chosen (p y) y x (find p ys) e) [
      | inl here ↦ subst (λ (z : X). (p z ≡ true) × P z) here.1 (here.0, all.0)
      | inr later ↦ found-has p P ys x all.1 later
    ]

-- of the instructions with a number that fits, the one of an opcode has an operand that fits
numbered_fits : (byte number : ℕ) (x : Instruction) → number < 2 ^ 32 → with_opcode byte (numbered number) ≡ Some x → OperandFits (entry_of x).operand
numbered_fits byte number x small e =
    (found-has (λ y. eqb (opcode_of y) byte) (λ y. OperandFits (entry_of y).operand) (numbered number) x
    (sfits_to_z (Fits-of_lt small), (small, (small, (small, (small, (small, (small, (small, (small, (small, (small, (small, (small, (small, (small, (small, tt)))))))))))))))) e).1

operand_fits : (x : Instruction) (operand : Operand) → (entry_of x).operand ≡ operand → instruction_of (opcode_of x) (operand_bytes operand) ≡ Some x → OperandFits operand
operand_fits x Absent same e = tt
operand_fits x (Int n) same e =
    subst OperandFits same (numbered_fits (opcode_of x) (from_be_bytes w32 (to_be_bytes w32 (cast_unsigned w32 n))) x (omega arith) e)
operand_fits x (Boolean b) same e = tt
operand_fits x (Number n) same e =
    subst OperandFits same (numbered_fits (opcode_of x) (from_be_bytes w32 (to_be_bytes w32 n)) x (omega arith) e)

-- what a version spells is what its opcode and its operand spell again
pub fits_spelled : (version : Version) (x : Instruction) → IsCoded (instructions version) x → HasSpelling version x
unfolding instructions
fits_spelled version x coded = (has_spelled version x coded, operand_fits x (entry_of x).operand refl coded.itself)

-- ---- code

pub all_coded : (version : Version) (code : List Instruction) → AllByRecursion (HasSpelling version) code → AllByRecursion (IsCoded (instructions version)) code
all_coded version [] h = tt
all_coded version (x ∷ code) h = (is_spelled version x h.0.0 h.0.1, all_coded version code h.1)

pub all_spelled : (version : Version) (code : List Instruction) → AllByRecursion (IsCoded (instructions version)) code → AllByRecursion (HasSpelling version) code
all_spelled version [] coded = tt
all_spelled version (x ∷ code) coded = (fits_spelled version x coded.0, all_spelled version code coded.1)

pub all_have : (version : Version) (code : List Instruction) → AllByRecursion (HasSpelling version) code → HasCodeOf version code
all_have version [] h = All-nil _
all_have version (x ∷ code) h = All-cons (λ i. IsTrue (has_instruction version i)) x code h.0.0 (all_have version code h.1)
