-- What bytes are refused for.
-- Source: our own.
use Rattle.std.specs.Prelude.{ℕ, ◌-◌, List, length, Option, Some, None, Result, Ok, Err}
use Rattle.modules.specs.ByteFormat.{read_all}
use Rattle.modules.specs.Format.{module_file}
use Rattle.modules.specs.declared.fault.ReadRefusal.{ReadRefusal}
use Rattle.common.specs.declared.refusal.RefusalAt.{RefusalAt}
use Rattle.modules.specs.declared.fault.FormatRefusalKind.{FormatRefusalKind}

-- a refusal at its byte, counted from the start, if reading met one
abbrev pub refusal_of : {A : Type 0} → List ℕ → Result A ReadRefusal → Option (RefusalAt FormatRefusalKind)
refusal_of bytes (Ok x) = None
refusal_of bytes (Err stop) = Some (record { kind = stop.kind; at = length bytes - stop.left })

-- the first refusal of bytes as a module file, in reading order
abbrev pub first_refusal : List ℕ → Option (RefusalAt FormatRefusalKind)
first_refusal bytes = refusal_of bytes (read_all module_file bytes)
