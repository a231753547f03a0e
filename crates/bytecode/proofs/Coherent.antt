-- What the two laws need of a format: a value has the number of its place, fields are what a value was made of, and an instruction that was read has the opcode and
-- the operand that it was read from.
use Rattle.std.proofs.Common.{◌≡◌, ℕ, ◌^◌, ◌<◌, List, length, Some}
use Rattle.std.specs.List.{position_or_len, slice_get}
use Rattle.modules.specs.Opcodes.{Coding, instructions}
use Rattle.modules.specs.ByteFormat.{ByteFormat, OneOf, Number, Text, Nothing, Marked, Checked, Then, Counted, Code, Named, Fits}
use Rattle.bytecode.proofs.Steps.{IsBytes}

pub record IsLawful {A : Type 0} (coding : Coding A) : Type 0 where
  pub opcode : (byte : ℕ) (operand : List ℕ) (x : A) → IsBytes operand → coding.operand_width byte ≡ Some (length operand) → coding.instruction byte operand ≡ Some x → coding.opcode x ≡ byte
  pub operand : (byte : ℕ) (operand : List ℕ) (x : A) → IsBytes operand → coding.operand_width byte ≡ Some (length operand) → coding.instruction byte operand ≡ Some x → coding.operand x ≡ operand

abbrev pub Coherent : {A : Type 0} → ByteFormat A → Type 0
Coherent (OneOf {A} same values) = (number : ℕ) (x : A) → slice_get values number ≡ Some x → position_or_len (same x) values ≡ number
Coherent Number = Unit {0}
Coherent Text = Unit {0}
Coherent (Nothing a) = Unit {0}
Coherent (Marked kind n form) = (n < 2 ^ 32) × Coherent form
Coherent (Checked kind test form) = Coherent form
Coherent (Then {A} first second) = Coherent first × ((a : A) → Coherent (second a))
Coherent (Counted {A} test one) = (before : List A) → Coherent (one before)
Coherent (Code version) = IsLawful (instructions version)
Coherent (Named {A} make fields form) = Coherent form × ((a : A) → Fits form a → fields (make a) ≡ a)
