-- Sets of exceptions, and the summary of such a set.
-- Source: our own.
use Rattle.std.specs.Prelude.{◌≡◌, ◌≢◌, ℕ, List, Bool, true, false, ◌||◌, Option, Some, None, ⊤}
use Rattle.resolved.specs.declared.statement.Exit.{Exit}
use Rattle.resolved.specs.declared.statement.Exit.TheVariants.{Throw}
use Rattle.resolved.specs.Exits.{has_exit}
use Rattle.path_map.specs.declared.exits.Raised.{Raised}
use Rattle.path_map.specs.declared.members.ExceptionSet.{ExceptionSet}
use Rattle.path_map.specs.Exceptions.{is_one_of}
use Rattle.path_map.specs.Kept.{kept_has}
use Rattle.path_map.specs.declared.exits.Raised.TheVariants.{Nothing, One, Several}

-- whether an exception is in a set
abbrev pub members : ExceptionSet → ℕ → Bool
members set exception = kept_has set.kept exception

-- two exceptions of a set
pub record HasTwo (set : ℕ → Bool) : Type 0 where
  pub first : ℕ
  pub second : ℕ
  pub has_first : set first ≡ true
  pub has_second : set second ≡ true
  pub differ : first ≢ second

-- the only one of a set
pub record HasOnly (set : ℕ → Bool) (exception : ℕ) : Type 0 where
  pub has : set exception ≡ true
  pub only : (other : ℕ) → set other ≡ true → other ≡ exception

-- the summary of a set
abbrev pub IsSummaryOf : (ℕ → Bool) → Raised → Type 0
IsSummaryOf set Nothing = (exception : ℕ) → set exception ≡ false
IsSummaryOf set (One exception) = HasOnly set exception
IsSummaryOf set Several = HasTwo set

-- an exception of a set that is not declared
pub record HasUndeclared (set : ℕ → Bool) (declared : List ℕ) : Type 0 where
  pub exception : ℕ
  pub has : set exception ≡ true
  pub none : is_one_of declared exception ≡ false

-- whether all exceptions of a set are declared
abbrev pub AreDeclared : (ℕ → Bool) → (declared : List ℕ) → Bool → Type 0
AreDeclared set declared true = (exception : ℕ) → set exception ≡ true → is_one_of declared exception ≡ true
AreDeclared set declared false = HasUndeclared set declared

-- a set to which those of another one were added
pub record IsSum (old added new : ℕ → Bool) : Type 0 where
  pub has : (exception : ℕ) → new exception ≡ (old exception || added exception)

-- the same set with a bound, where there is one
pub record IsCopy (old : ExceptionSet) (bound : ℕ) (new : ExceptionSet) : Type 0 where
  pub bound_is : new.bound ≡ bound
  pub same : (exception : ℕ) → members new exception ≡ members old exception

abbrev pub MayBeCopy : ExceptionSet → (bound : ℕ) → Option ExceptionSet → Type 0
MayBeCopy old bound None = ⊤
MayBeCopy old bound (Some new) = IsCopy old bound new

-- the exceptions among exits, as a set
abbrev pub throws : List Exit → ℕ → Bool
throws ends exception = has_exit ends (Throw exception)
