-- Private: the table of offsets of a procedure's code, which its instructions and handlers are laid out by.
-- Source: our own.
use Rattle.std.specs.Prelude.{◌≡◌, ℕ, ◌+◌, ◌≤◌, List, length, slice_index}
use Rattle.modules.specs.declared.instruction.Instruction.{Instruction}
use Rattle.layout.specs.Offsets.{offset}

-- numbers are the offsets of the positions of code and of its end
pub record IsTableOf (code : List Instruction) (table : List ℕ) : Type 0 where
  pub size : length table ≡ length code + 1
  pub entries : (position : ℕ) → position ≤ length code → slice_index table position ≡ offset code position
