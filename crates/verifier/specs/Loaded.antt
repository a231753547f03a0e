-- Which bytes are loaded: they spell a module whose code is not refused; and why others are not.
-- Source: our own.
use Rattle.std.specs.Prelude.{◌≡◌, ℕ, List, Some}
use Rattle.modules.specs.Contents.{ModuleContents}
use Rattle.modules.specs.ByteFormat.{Spells}
use Rattle.modules.specs.Format.{module_file}
use Rattle.bytecode.specs.Decoded.{first_refusal}
use Rattle.verifier.specs.Refusals.{IsNotRefused, IsCodeRefusal}
use Rattle.verifier.specs.declared.loading.LoadRefusal.{LoadRefusal}
use Rattle.verifier.specs.declared.loading.LoadRefusal.TheVariants.{Bytes, Code}

-- the bytes spell this module and no other, and its code is not refused
pub record IsLoaded (bytes : List ℕ) (m : ModuleContents) : Type 0 where
  pub spelled : Spells module_file m bytes
  pub only : (other : ModuleContents) → Spells module_file other bytes → m ≡ other
  pub not_refused : IsNotRefused m

-- the first refusal of the bytes; or else, of the one module that they spell, a refusal of its code
abbrev pub CannotLoad : (bytes : List ℕ) → LoadRefusal → Type 0
CannotLoad bytes (Bytes refusal) = first_refusal bytes ≡ Some refusal
CannotLoad bytes (Code refusal) = (m : ModuleContents) × Spells module_file m bytes × IsCodeRefusal m refusal
