-- The names of the exceptions that every program has.
-- Source: our own.
use Rattle.std.specs.Prelude.{ℕ, List, [], ◌∷◌}
use Rattle.common.specs.declared.exceptions.TheConstants.{ARITH_NAME, BOUNDS_NAME, END_NAME}

-- in the order of their numbers
abbrev pub built_in_names : List (List ℕ)
built_in_names = ARITH_NAME.now ∷ BOUNDS_NAME.now ∷ END_NAME.now ∷ []
