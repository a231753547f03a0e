-- What the files of a check or a build hold, and what the bytes that a build leaves are to them.
-- Source: our own.
use Rattle.std.specs.Prelude.{ℕ, List, [], Option, String, option_map, slice_get}
use Rattle.std.specs.Option.{option_map_or}
use Rattle.std.specs.String.{string_bytes}
use Rattle.std.specs.declared.alloc.Global.{Global}
use Rattle.std.specs.declared.vec.Vec.{Vec}
use Rattle.resolved.specs.Program.{Program}
use Rattle.acceptance.specs.Accepted.{StandFor}
use Rattle.compiler.specs.Compiled.{IsCompiled}

-- the bytes of one of the files that were read
abbrev pub bytes_at : List (Vec ℕ Global) → ℕ → List ℕ
bytes_at files index = option_map_or (λ (file : Vec ℕ Global). file.items) (slice_get files index) []

-- a file that was read: its path and its bytes
pub record NamedText : Type 0 where
  pub path : List ℕ
  pub bytes : List ℕ

-- one of the files that were read, by its path
abbrev pub text_at : String Global → List (Vec ℕ Global) → ℕ → NamedText
text_at path files index = record { path = string_bytes path; bytes = bytes_at files index }

-- the bytes of a file that may be left out
abbrev pub bytes_of : Option NamedText → Option (List ℕ)
bytes_of file = option_map (λ text. text.bytes) file

-- the same of two files: the hierarchy text, and after it the source
abbrev pub IsBuilt : List (Vec ℕ Global) → List ℕ → Type 0
IsBuilt files code = IsCompiled (bytes_at files 0) (bytes_at files 1) code

-- two texts are accepted: they stand for a program
abbrev pub AreAccepted : (hierarchy source : List ℕ) → Type 0
AreAccepted hierarchy source = (program : Program) × StandFor hierarchy source program

abbrev pub HoldsProgram : List (Vec ℕ Global) → Type 0
HoldsProgram files = AreAccepted (bytes_at files 0) (bytes_at files 1)
