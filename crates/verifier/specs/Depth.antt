-- How many operands there may be in a frame of a procedure.
-- Source: our own; the greatest depth of operands that a class file of the Java virtual machine has for a method, found and not written.
use Rattle.std.specs.Prelude.{◌≡◌, ℕ, ℤ, ◌≤◌, List, length, slice_get, Option, Some}
use Rattle.std.specs.List.{Contains}
use Rattle.modules.specs.Contents.{ProcedureContents, ModuleContents}
use Rattle.modules.specs.Code.{instruction_at}
use Rattle.modules.specs.Machine.{Caller, Frame, Machine, Running, Ended, Stuck, after_steps}
use Rattle.modules.specs.declared.instruction.Instruction.{Instruction}
use Rattle.common.specs.declared.base_type.BaseType.{BaseType}
use Rattle.verifier.specs.Flow.{Flow, Leaves, effect}

-- the kinds of operands that an instruction finds or leaves, by the tables that the flow may give
pub data IsMet (m : ModuleContents) (procedure : ProcedureContents) : List BaseType → Type 0 where
  found : (table : ℕ → Option (List BaseType)) (at : ℕ) (kinds : List BaseType) → Flow m procedure table → table at ≡ Some kinds → IsMet m procedure kinds
  left : (table : ℕ → Option (List BaseType)) (at : ℕ) (kinds : List BaseType) (i : Instruction) (after : List BaseType) → Flow m procedure table → table at ≡ Some kinds → instruction_at procedure.code at ≡ Some i → effect m procedure i kinds ≡ Leaves after → IsMet m procedure after

-- the greatest number of operands that an instruction finds or leaves
pub record IsGreatestDepth (m : ModuleContents) (procedure : ProcedureContents) (depth : ℕ) : Type 0 where
  pub bounds : (kinds : List BaseType) → IsMet m procedure kinds → length kinds ≤ depth
  pub met : (kinds : List BaseType) × (IsMet m procedure kinds × (length kinds ≡ depth))

-- a frame does not have more
abbrev pub IsWithinDepth : ModuleContents → Frame → Type 0
IsWithinDepth m frame =
    (procedure : ProcedureContents) (depth : ℕ) → slice_get m.procedures frame.procedure ≡ Some procedure
    → IsGreatestDepth m procedure depth → length frame.operands ≤ depth

-- no open frame has more: neither the one that runs nor one that waits at a call
abbrev pub FramesAreWithin : ModuleContents → Machine → Type 0
FramesAreWithin m (Running s) = IsWithinDepth m s.frame × ((c : Caller) → Contains s.callers c → IsWithinDepth m c.frame)
FramesAreWithin m (Ended ending sent) = Unit {0}
FramesAreWithin m (Stuck sent) = Unit {0}

-- on every world and after any number of steps
abbrev pub IsNeverDeeper : ModuleContents → Type 0
IsNeverDeeper m = (world : ℕ → List ℤ) (n : ℕ) → FramesAreWithin m (after_steps m world n)
