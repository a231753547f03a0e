-- The exceptions of rows that are kept by the rows before them.
-- Source: our own.
use Rattle.std.specs.Prelude.{◌≡◌, ℕ, List, [], ◌∷◌, ◌++◌, Bool, not, filter, if◌then◌else◌, slice_index_or, Option, Some, None, ⊤, ◌==◌, ◌||◌}
use Rattle.path_map.specs.declared.members.ExceptionSet.{ExceptionSet}
use Rattle.path_map.specs.declared.keeping.KeptRow.{KeptRow}
use Rattle.path_map.specs.declared.keeping.KeptForm.{KeptForm}
use Rattle.path_map.specs.declared.keeping.KeptForm.TheVariants.{Whole, Both, Changed}
use Rattle.path_map.specs.Exceptions.{is_one_of}
use Rattle.path_map.specs.Listed.{listed}
use Rattle.path_map.specs.Sets.{members}

-- the same exceptions but for one, which is there where it was not
abbrev pub changed : ℕ → List ℕ → List ℕ
changed exception list = if is_one_of list exception then filter (λ other. not (other == exception)) list else exception ∷ list

abbrev pub changed_has : ℕ → (ℕ → Bool) → ℕ → Bool
changed_has exception has other = if other == exception then not (has other) else has other

-- the exceptions of a row, by those of the rows before it
abbrev pub form_list : List (List ℕ) → KeptForm → List ℕ
form_list lists (Whole set) = listed set
form_list lists (Both one other) = slice_index_or lists one [] ++ slice_index_or lists other []
form_list lists (Changed base exception) = changed exception (slice_index_or lists base [])

-- the exceptions of each row, after those of some others
abbrev pub lists_after : List (List ℕ) → List KeptRow → List (List ℕ)
lists_after lists [] = lists
lists_after lists (row ∷ rows) = lists_after (lists ++ form_list lists row.form ∷ []) rows

-- the exceptions of the row with a number
abbrev pub row_at : List KeptRow → (row : ℕ) → List ℕ
row_at rows row = slice_index_or (lists_after [] rows) row []

-- a set with a bound and these exceptions
pub record IsSetOf (has : ℕ → Bool) (bound : ℕ) (set : ExceptionSet) : Type 0 where
  pub bound_is : set.bound ≡ bound
  pub same : (exception : ℕ) → members set exception ≡ has exception

-- the same, where there is one
abbrev pub MayBeRow : List KeptRow → (row bound : ℕ) → Option ExceptionSet → Type 0
MayBeRow rows row bound None = ⊤
MayBeRow rows row bound (Some set) = IsSetOf (is_one_of (row_at rows row)) bound set

-- one that has the exceptions of two, where there are two
abbrev pub MayBeBoth : (one other : Option ExceptionSet) → Option ExceptionSet → Type 0
MayBeBoth one other None = ⊤
MayBeBoth None other (Some set) = ⊥
MayBeBoth (Some one) None (Some set) = ⊥
MayBeBoth (Some one) (Some other) (Some set) = IsSetOf (λ exception. members one exception || members other exception) one.bound set

-- one in which an exception is where it was not, where there is one
abbrev pub MayBeChanged : Option ExceptionSet → ℕ → Option ExceptionSet → Type 0
MayBeChanged base exception None = ⊤
MayBeChanged None exception (Some set) = ⊥
MayBeChanged (Some base) exception (Some set) = IsSetOf (changed_has exception (members base)) base.bound set
