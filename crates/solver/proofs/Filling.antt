-- Rows of bits: reading one, and after one was replaced.
use Rattle.std.proofs.Common.{◌≡◌, refl, ap, ℕ, zero, suc, ◌<◌, ◌≤◌, length, set, get_or, List, [], ◌∷◌, ◌++◌, Bool, false, arith, ◌≢◌}
use Rattle.labels.specs.Row.{has}
use Rattle.solver.specs.Rows.{has_at}

-- ---- reading rows
pub has_at-read : (rows : List (List Bool)) (u n : ℕ) (d : List Bool) → u < length rows → has (get_or rows u d) n ≡ has_at rows u n
has_at-read [] u n d h = absurd (omega (arith, h))
has_at-read (row ∷ rows) zero n d h = refl
has_at-read (row ∷ rows) (suc u) n d h = has_at-read rows u n d (omega (arith, h))

pub has_at-same : (rows : List (List Bool)) (u n : ℕ) (row : List Bool) → u < length rows → has_at (set rows u row) u n ≡ has row n
has_at-same [] u n row h = absurd (omega (arith, h))
has_at-same (r ∷ rows) zero n row h = refl
has_at-same (r ∷ rows) (suc u) n row h = has_at-same rows u n row (omega (arith, h))

pub has_at-other : (rows : List (List Bool)) (u w n : ℕ) (row : List Bool) → w ≢ u → has_at (set rows u row) w n ≡ has_at rows w n
has_at-other [] u w n row ne = refl
has_at-other (r ∷ rows) zero zero n row ne = absurd (ne refl)
has_at-other (r ∷ rows) zero (suc w) n row ne = refl
has_at-other (r ∷ rows) (suc u) zero n row ne = refl
has_at-other (r ∷ rows) (suc u) (suc w) n row ne = has_at-other rows u w n row (λ e. ne (ap suc e))

pub has_at-more : (rows : List (List Bool)) (row : List Bool) → ((n : ℕ) → has row n ≡ false) → ((u n : ℕ) → has_at rows u n ≡ false) →
    (u n : ℕ) → has_at (rows ++ row ∷ []) u n ≡ false
has_at-more [] row none each zero n = none n
has_at-more [] row none each (suc u) n = refl
has_at-more (r ∷ rows) row none each zero n = each zero n
has_at-more (r ∷ rows) row none each (suc u) n = has_at-more rows row none (λ u n. each (suc u) n) u n

pub has_at-beyond : (rows : List (List Bool)) (u n : ℕ) → length rows ≤ u → has_at rows u n ≡ false
has_at-beyond [] u n h = refl
has_at-beyond (row ∷ rows) zero n h = absurd (omega (arith, h))
has_at-beyond (row ∷ rows) (suc u) n h = has_at-beyond rows u n (omega (arith, h))
