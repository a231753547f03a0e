-- What is known of a module that was verified, and of each procedure that was looked at.
-- Source: our own.
use Rattle.std.specs.Prelude.{◌≡◌, ℕ, List, ◌++◌, length, slice_get, slice_index_or, Option, Some, None}
use Rattle.modules.specs.Contents.{ProcedureContents, ModuleContents}
use Rattle.verifier.specs.Depth.{IsGreatestDepth}
use Rattle.verifier.specs.Refusals.{IsNotRefused}
use Rattle.verifier.specs.Fixed.{instruction_refusals, handler_refusals}
use Rattle.verifier.specs.Flow.{FlowsWell, IsRefusedForOperands}
use Rattle.verifier.specs.Index.{indexes_of}
use Rattle.verifier.specs.Safety.{IsNeverStuck}
use Rattle.verifier.specs.Positions.{positioned}
use Rattle.verifier.specs.declared.positions.Code.{Code}
use Rattle.modules.specs.declared.instruction.Instruction.{Instruction}
use Rattle.verifier.specs.declared.fault.CodeRefusal.{CodeRefusal}

pub record IsVerified (m : ModuleContents) : Type 0 where
  pub not_refused : IsNotRefused m
  pub never_stuck : IsNeverStuck m

-- the code of a procedure, with positions as targets, among that of all, and the greatest number of its operands
pub record IsVerifiedCode (m : ModuleContents) (p : ProcedureContents) (placed : List Instruction) (code : Code) : Type 0 where
  pub before : List Instruction
  pub after : List Instruction
  pub there : placed ≡ before ++ positioned p.code ++ after
  pub start : code.start ≡ length before
  pub depth : IsGreatestDepth m p code.greatest_depth

-- the same beside what is known of the code of each procedure, and its index
pub record HasCodes (m : ModuleContents) (placed : List Instruction) (codes : List Code) (indexes : List (List (Option ℕ))) : Type 0 where
  pub verified : IsVerified m
  pub many : length codes ≡ length m.procedures
  pub codes_are : (k : ℕ) (p : ProcedureContents) (d : Code) → slice_get m.procedures k ≡ Some p → IsVerifiedCode m p placed (slice_index_or codes k d)
  pub indexes_are : indexes ≡ indexes_of m

-- the fixed refusals of a procedure with a number: instructions by offset, then handlers in order
abbrev pub own_refusals : ModuleContents → ℕ → ProcedureContents → List CodeRefusal
own_refusals m number procedure =
    instruction_refusals m number procedure 0 procedure.code ++ handler_refusals m number procedure procedure.handlers

-- a refusal of a procedure with a number for its flow
pub record IsOperandRefusalOf (m : ModuleContents) (number : ℕ) (p : ProcedureContents) (refusal : CodeRefusal) : Type 0 where
  pub procedure : refusal.procedure ≡ number
  pub kind : IsRefusedForOperands m p refusal.offset refusal.kind

-- no refusal of the flow was found before or in this procedure, which has so many operands at most
pub record FlowsOn (m : ModuleContents) (p : ProcedureContents) (found : Option CodeRefusal) (depth : ℕ) : Type 0 where
  pub none_before : found ≡ None
  pub flow : FlowsWell m p
  pub greatest : IsGreatestDepth m p depth
