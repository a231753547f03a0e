-- How sets are kept: a row in place of what was there.
use Rattle.std.proofs.Common.{◌≡◌, sym, ap, ◌∙◌, ℕ, ◌<◌, List, [], Bool, true, false, ◌||◌, length, set, replicate, arith}
use Rattle.std.specs.Prelude.{◌==◌}
use Rattle.std.proofs.lemmas.List.{length-replicate, length-set}
use Rattle.labels.specs.Row.{has, union}
use Rattle.path_map.specs.declared.members.SetForm.{SetForm}
use Rattle.path_map.specs.declared.members.SetForm.TheVariants.{Empty, Single, Many}
use Rattle.path_map.specs.Kept.{IsSetInside}
use Rattle.path_map.proofs.Rows.{has-none, has-set, has-union, length-union}

kept-row : SetForm → List Bool
kept-row Empty = []
kept-row (Single only) = []
kept-row (Many row) = row

pub row-inside : (bound : ℕ) (row : List Bool) → length row ≡ bound → IsSetInside bound (Many row)
unfolding kept-row
row-inside bound row same = (
  λ only is. absurd (cc),
  λ other is. ap length (sym (ap kept-row is)) ∙ same,
)

-- a new row that is joined with another
module _ (n : ℕ) (new row joined : List Bool) (is : new ≡ replicate n false) (count : length row ≡ n) (union_is : joined ≡ union new row) where
  new-length : length new ≡ n
  new-length = ap length is ∙ length-replicate n false

  pub fresh-length : length joined ≡ n
  fresh-length = ap length union_is ∙ (length-union new row (new-length ∙ sym count) ∙ new-length)

  pub fresh-has : (e : ℕ) → has joined e ≡ has row e
  fresh-has e =
      ap (λ list. has list e) union_is ∙ (has-union new row (new-length ∙ sym count) e
      ∙ ap (λ b. b || has row e) (ap (λ list. has list e) is ∙ has-none n e))

-- the same with one number
module _ (n only : ℕ) (new single row joined : List Bool) (is : new ≡ replicate n false) (below : only < n) (count : length row ≡ n)
    (set_is : single ≡ set new only true) (union_is : joined ≡ union single row) where
  single-new : length new ≡ n
  single-new = ap length is ∙ length-replicate n false

  single-count : length single ≡ n
  single-count = ap length set_is ∙ (length-set new only true ∙ single-new)

  pub single-length : length joined ≡ n
  single-length = ap length union_is ∙ (length-union single row (single-count ∙ sym count) ∙ single-count)

  pub single-has : (e : ℕ) → has joined e ≡ ((e == only) || has row e)
  single-has e =
      ap (λ list. has list e) union_is ∙ (has-union single row (single-count ∙ sym count) e
      ∙ ap (λ b. b || has row e) (ap (λ list. has list e) set_is ∙ (has-set new only e (omega (arith, below, single-new))
      ∙ ap (λ b. b || (e == only)) (ap (λ list. has list e) is ∙ has-none n e))))
