-- Operands of four bytes, as they stand in a file.
use Rattle.std.proofs.Common.{◌≡◌, ℕ, ◌≤◌, List, length, Bool, Option, arith, false, cond, refl}
use Rattle.std.specs.Int.{w32, from_be_bytes}
use Rattle.std.proofs.lemmas.Bool.{ne_eqb}
use Rattle.byteorder.specs.Endian.{big_number}
use Rattle.modules.specs.declared.instruction.Instruction.{Instruction}
use Rattle.modules.specs.Opcodes.{instruction_of, with_opcode, numbered}

-- the number in four bytes or more, as they stand
pub big_number-four : (bytes : List ℕ) → big_number 4 bytes ≡ from_be_bytes w32 bytes
big_number-four bytes = omega arith

third : (a b : Bool) (x y z : Option Instruction) → a ≡ false → b ≡ false → cond a x (cond b y z) ≡ z
third a b x y z p q = rw (p, q) refl

pub numbered_operand : (byte : ℕ) (operand : List ℕ) → 2 ≤ length operand → instruction_of byte operand ≡ with_opcode byte (numbered (from_be_bytes w32 operand))
numbered_operand byte operand long =
    third _ _ _ _ _ (ne_eqb (length operand) 0 (λ e. omega arith)) (ne_eqb (length operand) 1 (λ e. omega arith))
