-- What a source of bytes gives, and the text that is read from it.
-- Source: our own.
use Rattle.std.specs.Prelude.{◌≡◌, ℕ, ◌+◌, List, Bool, true, false, Option, IfSome, Result, Ok, Err, take}
use Rattle.std.specs.Io.KnownBytes.{Consumes}
use Rattle.common.specs.declared.limits.TheConstants.{MAX_TEXT}

-- whether a read failed; one that gives no byte tells the end, and is none
abbrev pub is_fault : {E : Type 0} → Result ℕ E → Bool
is_fault (Ok count) = false
is_fault (Err fault) = true

-- the text is all that was left, or the first bytes of it: one more than a text may have, so that who reads it sees that it is too long
abbrev pub IsTextOf : Option (List ℕ) → List ℕ → Type 0
IsTextOf left text = IfSome left (λ bytes. text ≡ take (MAX_TEXT + 1) bytes)

-- the source gave some bytes, and has the rest of them left
abbrev pub GivesSome : Option (List ℕ) → Option (List ℕ) → Type 0
GivesSome old new = (front : List ℕ) × Consumes old new front
