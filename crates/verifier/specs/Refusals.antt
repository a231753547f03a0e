-- What a module's code is refused for: the refusals that an instruction or a handler has by itself, and those of the flow of
-- operands; and which of them a verifier reports.
-- Source: our own; the rules are those of a bytecode verifier, as that of the Java virtual machine.
use Rattle.std.specs.Prelude.{◌≡◌, List, [], ◌∷◌, slice_get, Some}
use Rattle.modules.specs.Contents.{ProcedureContents, ModuleContents}
use Rattle.verifier.specs.Fixed.{fixed_refusals}
use Rattle.verifier.specs.Flow.{IsRefusedForOperands}
use Rattle.verifier.specs.declared.fault.CodeRefusal.{CodeRefusal}

-- a refusal for the flow of operands
pub record IsOperandRefusal (m : ModuleContents) (refusal : CodeRefusal) : Type 0 where
  pub procedure : ProcedureContents
  pub there : slice_get m.procedures refusal.procedure ≡ Some procedure
  pub kind : IsRefusedForOperands m procedure refusal.offset refusal.kind

-- a refusal that may be reported: the first fixed one, or one of the flow where there is no fixed one
abbrev pub IsCodeRefusalAfter : ModuleContents → (fixed : List CodeRefusal) → CodeRefusal → Type 0
IsCodeRefusalAfter m [] refusal = IsOperandRefusal m refusal
IsCodeRefusalAfter m (first ∷ more) refusal = refusal ≡ first

abbrev pub IsCodeRefusal : ModuleContents → CodeRefusal → Type 0
IsCodeRefusal m refusal = IsCodeRefusalAfter m (fixed_refusals m) refusal

-- a module whose code is not refused: there is no refusal of it
pub record IsNotRefused (m : ModuleContents) : Type 0 where
  pub fixed : fixed_refusals m ≡ []
  pub flow : (refusal : CodeRefusal) → IsOperandRefusal m refusal → ⊥
