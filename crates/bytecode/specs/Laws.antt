-- What the definition of reading implies for all bytes: no list of them is left without an answer.
-- Source: our own.
use Rattle.std.specs.Prelude.{◌≡◌, ◌⊎◌, ℕ, ◌<◌, List, Some, All}
use Rattle.modules.specs.Contents.{ModuleContents}
use Rattle.modules.specs.ByteFormat.{Spells}
use Rattle.modules.specs.Format.{module_file}
use Rattle.bytecode.specs.Decoded.{first_refusal}
use Rattle.common.specs.declared.refusal.RefusalAt.{RefusalAt}
use Rattle.modules.specs.declared.fault.FormatRefusalKind.{FormatRefusalKind}

-- each list of bytes spells a module, or has a first refusal
abbrev pub BytesAreSpelledOrRefused : Type 0
BytesAreSpelledOrRefused =
    (bytes : List ℕ) → All (λ byte. byte < 256) bytes
    → ((m : ModuleContents) × Spells module_file m bytes) ⊎ ((refusal : RefusalAt FormatRefusalKind) × (first_refusal bytes ≡ Some refusal))
