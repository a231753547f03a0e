-- Rows of bits that stand on other ones: what each row is, and what is asked of how it is kept.
-- Source: our own.
use Rattle.std.specs.Prelude.{◌≡◌, ◌<◌, ℕ, zero, suc, List, [], ◌∷◌, length, set, Bool, true, Option, Some, None, slice_index_or, All}
use Rattle.solver.specs.declared.sharing.RowForm.{RowForm}
use Rattle.solver.specs.declared.sharing.RowForm.TheVariants.{Whole, Beyond}
use Rattle.solver.specs.declared.sharing.Kept.{Kept}

-- a row with some numbers more
abbrev pub with_numbers : List Bool → List ℕ → List Bool
with_numbers row [] = row
with_numbers row (n ∷ ns) = with_numbers (set row n true) ns

-- the row that a form stands for, by the rows of the others
abbrev pub form_bits : (bits : ℕ → List Bool) → RowForm → List Bool
form_bits bits (Whole row) = row
form_bits bits (Beyond base more) = with_numbers (bits base) more.items

abbrev pub nothing_kept : Kept
nothing_kept = record { steps = 0; form = Whole [] }

abbrev pub kept_at : List Kept → ℕ → Kept
kept_at kept k = slice_index_or kept k nothing_kept

-- the row with a number, which stands on this many others
abbrev pub bits_after : List Kept → (steps k : ℕ) → List Bool
bits_after kept zero k = form_bits (λ base. []) (kept_at kept k).form
bits_after kept (suc steps) k = form_bits (bits_after kept steps) (kept_at kept k).form

abbrev pub bits_of : List Kept → (k : ℕ) → List Bool
bits_of kept k = bits_after kept (kept_at kept k).steps k

-- a row beyond another one: that is there, and stands on one row less
pub record IsBeyond (kept : List Kept) (steps base : ℕ) (more : List ℕ) : Type 0 where
  pub there : base < length kept
  pub steps_is : steps ≡ suc (kept_at kept base).steps
  pub inside : All (λ n. n < length (bits_of kept base)) more

abbrev pub IsForm : List Kept → (steps : ℕ) → RowForm → Type 0
IsForm kept steps (Whole row) = Unit {0}
IsForm kept steps (Beyond base more) = IsBeyond kept steps base more.items

abbrev pub AreForms : List Kept → Type 0
AreForms kept = (k : ℕ) → k < length kept → IsForm kept (kept_at kept k).steps (kept_at kept k).form

-- rows by number, and for each unknown the number of its row
pub record AreShared (kept : List Kept) (of : List ℕ) : Type 0 where
  pub forms : AreForms kept
  pub two : 1 < length kept
  pub inside : All (λ k. k < length kept) of

-- how one more row is kept
pub record IsKeptAs (all : List Kept) (row : List Bool) (kept : Kept) : Type 0 where
  pub fits : IsForm all kept.steps kept.form
  pub is : form_bits (bits_of all) kept.form ≡ row

-- the same, where there is one
abbrev pub MayBeKeptAs : (all : List Kept) → (row : List Bool) → Option Kept → Type 0
MayBeKeptAs all row None = Unit {0}
MayBeKeptAs all row (Some kept) = IsKeptAs all row kept
