-- The exceptions that procedures declare, and those that expressions can raise, as sets: only which exceptions there are counts, and not how often each is named.
-- Source: our own.
use Rattle.std.specs.Prelude.{◌≡◌, ℕ, List, [], ◌∷◌, ◌++◌, Bool, ◌==◌, if◌then◌else◌, map}
use Rattle.std.specs.List.{list_any}
use Rattle.resolved.specs.declared.tables.Thrown.{Thrown}
use Rattle.path_map.specs.declared.raises.Raises.{Raises}

-- whether an exception is among these
abbrev pub is_one_of : List ℕ → ℕ → Bool
is_one_of exceptions exception = list_any (λ other. exception == other) exceptions

-- the exceptions that are declared
abbrev pub exceptions_of : List Thrown → List ℕ
exceptions_of throws = map (λ (thrown : Thrown). thrown.exception) throws

-- the exceptions of an expression that can raise `Arith` or not, and `Bounds` or not
abbrev pub raised_list : (arith bounds : Bool) → List ℕ
raised_list arith bounds = (if arith then 0 ∷ [] else []) ++ (if bounds then 1 ∷ [] else [])

-- an expression raises these: two sets that are the same
abbrev pub AreRaised : Raises → List ℕ → Type 0
AreRaised found exceptions = (exception : ℕ) →
    is_one_of (raised_list found.arith found.bounds) exception ≡ is_one_of exceptions exception
