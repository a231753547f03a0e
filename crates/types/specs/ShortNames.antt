-- Private: the numbers by which short names are looked up.
-- Source: our own.
use Rattle.std.specs.Prelude.{ℕ, ◌+◌, ◌*◌, ◌&&◌, Bool, List, [], ◌∷◌, length, Option, Some, None, nat_le, nat_lt, if◌then◌else◌}
use Rattle.std.specs.List.{list_all}
use Rattle.types.specs.declared.scope.TheConstants.{MOST_SHORT}

-- the bytes of a name as the digits of a number, the first one last, after a 1
abbrev pub digits : List ℕ → ℕ
digits [] = 1
digits (byte ∷ bytes) = digits bytes * 256 + byte

abbrev pub are_bytes : List ℕ → Bool
are_bytes name = list_all (λ byte. nat_lt byte 256) name

-- the number of a name, if it is short
abbrev pub number_of : List ℕ → Option ℕ
number_of name = if nat_le (length name) MOST_SHORT && are_bytes name then Some (digits name) else None
