-- What a hierarchy keeps its names in, and a table of bits for the relation that it is asked for. Our own.
use Rattle.std.specs.Prelude.{String, string_bytes, map, ℕ, suc, zero, ◌/◌, ◌%◌, List, [], ◌∷◌, Bool, false, ◌&&◌, ◌||◌, ◌==◌, slice_index}
use Rattle.std.specs.Int.{bit_at}
use Rattle.std.specs.List.{list_any}
use Rattle.std.specs.HashSet.{HashSet}
use Rattle.std.specs.declared.alloc.Global.{Global}
use Rattle.principals.specs.declared.principal_set.PrincipalSet.{PrincipalSet}

-- the bytes of a table's names, in their order
abbrev pub names_of : {S : Type 0} → HashSet (String Global) S → List (List ℕ)
names_of table = map (λ name. string_bytes name) table.keys

-- whether the bit of a number is set in a row
abbrev pub has : PrincipalSet → ℕ → Bool
has row number = bit_at (slice_index row.words (number / 64)) (number % 64) == 1

-- whether the bit of b is set in row a
abbrev pub related : List PrincipalSet → ℕ → ℕ → Bool
related [] a b = false
related (row ∷ rows) zero b = has row b
related (row ∷ rows) (suc a) b = related rows a b

-- what is written: b is a itself, or (a, b) is one of the pairs
abbrev pub is_written : List (ℕ × ℕ) → ℕ → ℕ → Bool
is_written pairs a b = a == b || list_any (λ pair. pair.0 == a && pair.1 == b) pairs

-- whether there is a path from a to b by steps of a relation, through numbers below a limit alone
abbrev pub has_path_below : ℕ → (ℕ → ℕ → Bool) → ℕ → ℕ → Bool
has_path_below zero step a b = step a b
has_path_below (suc k) step a b = has_path_below k step a b || (has_path_below k step a k && has_path_below k step k b)
