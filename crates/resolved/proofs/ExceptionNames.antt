-- The names of exceptions.
use Rattle.std.proofs.Common.{◌≡◌, ℕ, suc, List, ◌++◌, ap}
use Rattle.std.specs.Prelude.{slice_get}
use Rattle.common.specs.Exceptions.{built_in_names}

-- after the names that every program has stand the declared ones
pub declared_name : (declared : List (List ℕ)) (exception k : ℕ) → exception ≡ suc (suc (suc k))
    → slice_get (built_in_names ++ declared) exception ≡ slice_get declared k
declared_name declared exception k is = ap (slice_get (built_in_names ++ declared)) is
