-- What a refusal reports: the first of the faults of a program's exits.
-- Source: our own.
use Rattle.std.specs.Prelude.{◌≡◌, List, Some, slice_get}
use Rattle.common.specs.declared.refusal.RefusalAt.{RefusalAt}
use Rattle.resolved.specs.declared.fault.ExitRefusalKind.{ExitRefusalKind}

-- a refusal that is the first of these faults
abbrev pub IsFirstEndFault : List (RefusalAt ExitRefusalKind) → RefusalAt ExitRefusalKind → Type 0
IsFirstEndFault faults refusal = slice_get faults 0 ≡ Some refusal
