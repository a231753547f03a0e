-- Rows that stand on other ones: what they are after one more was added.
use Rattle.std.proofs.Common.{◌≡◌, refl, sym, ap, ◌∙◌, subst, ℕ, zero, suc, ◌<◌, ◌≤◌, length, set, get_or, List, [], ◌∷◌, ◌++◌, map, Bool, true, false, arith, replicate, All, ⊎_elim, ◌||◌, Option, Some, None}
use Rattle.std.specs.Prelude.{Contains, IsTrue}
use Rattle.std.proofs.lemmas.Bool.{cases_lt}
use Rattle.std.proofs.lemmas.List.{get_or_append_left, get_or_push, length-set, length_push}
use Rattle.labels.specs.Row.{has, union}
use Rattle.solver.specs.Rows.{AreSized, atom_has, has_at, left_has}
use Rattle.solver.specs.Sharing.{AreForms, IsForm, bits_after, bits_of, form_bits, kept_at, nothing_kept, with_numbers}
use Rattle.solver.specs.declared.sharing.RowForm.{RowForm}
use Rattle.solver.specs.declared.sharing.RowForm.TheVariants.{Whole, Beyond}
use Rattle.solver.specs.Work.{IsGrown, IsMore, MayBeMore}
use Rattle.solver.specs.declared.constraints.Atom.{Atom}
use Rattle.solver.specs.declared.constraints.Atom.TheVariants.{Unknown}
use Rattle.solver.specs.declared.sharing.Kept.{Kept}
use Rattle.solver.proofs.Bits.{grown-members, same-members, size}
use Rattle.solver.proofs.Solved.{list_any-has}

pub none-long : (row : List Bool) → length row ≡ 0 → row ≡ []
none-long [] e = refl
none-long (b ∷ row) e = absurd (omega (arith, e))

pub union-none : (row : List Bool) → union (replicate (length row) false) row ≡ row
union-none [] = refl
union-none (b ∷ row) = ap (λ (r : List Bool). b ∷ r) (union-none row)

pub with-length : (row : List Bool) (ns : List ℕ) → length (with_numbers row ns) ≡ length row
with-length row [] = refl
with-length row (n ∷ ns) = with-length (set row n true) ns ∙ length-set row n true

pub with-more : (row : List Bool) (ns : List ℕ) (n : ℕ) → with_numbers row (ns ++ n ∷ []) ≡ set (with_numbers row ns) n true
with-more row [] n = refl
with-more row (m ∷ ns) n = with-more (set row m true) ns n

-- ---- rows by the numbers of others
pub map-read : (f : ℕ → List Bool) (of : List ℕ) (u d : ℕ) → u < length of → get_or (map f of) u [] ≡ f (get_or of u d)
map-read f [] u d h = absurd (omega (arith, h))
map-read f (k ∷ of) zero d h = refl
map-read f (k ∷ of) (suc u) d h = map-read f of u d (omega (arith, h))

pub map-beyond : (f : ℕ → List Bool) (of : List ℕ) (u : ℕ) → length of ≤ u → get_or (map f of) u [] ≡ []
map-beyond f [] u h = refl
map-beyond f (k ∷ of) zero h = absurd (omega (arith, h))
map-beyond f (k ∷ of) (suc u) h = map-beyond f of u (omega (arith, h))

pub map-none : (f : ℕ → List Bool) (n : ℕ) → f 0 ≡ [] → map f (replicate n 0) ≡ replicate n []
map-none f zero e = refl
map-none f (suc n) e = rw (e, map-none f n e) refl

pub bits-first : (none one two : List Kept) (row : List Bool) (last : Kept) → none ≡ [] → one ≡ none ++ record { steps = 0; form = Whole row } ∷ [] → two ≡ one ++ last ∷ [] → bits_of two 0 ≡ row
bits-first none one two row last e first second =
    ap (λ (kept : List Kept). bits_of kept 0) (second ∙ ap (λ (kept : List Kept). kept ++ last ∷ []) (first ∙ ap (λ (kept : List Kept). kept ++ record { steps = 0; form = Whole row } ∷ []) e))

pub has_at-row : (rows : List (List Bool)) (u n : ℕ) → has (get_or rows u []) n ≡ has_at rows u n
has_at-row [] u n = refl
has_at-row (row ∷ rows) zero n = refl
has_at-row (row ∷ rows) (suc u) n = has_at-row rows u n

pub has_at-none : (count u n : ℕ) → has_at (replicate count []) u n ≡ false
has_at-none zero u n = refl
has_at-none (suc count) zero n = refl
has_at-none (suc count) (suc u) n = has_at-none count u n

-- ---- the row with a number, by the form in which it is kept
pub form-at : (kept : List Kept) → AreForms kept → (k : ℕ) → k < length kept → (form : RowForm) → (kept_at kept k).form ≡ form → IsForm kept (kept_at kept k).steps form
form-at kept forms k h form e = subst (IsForm kept (kept_at kept k).steps) e (forms k h)

after-form : (kept : List Kept) (k steps : ℕ) (form : RowForm) → IsForm kept steps form → (kept_at kept k).form ≡ form → bits_after kept steps k ≡ form_bits (bits_of kept) form
after-form kept k zero (Whole row) fits e = ap (form_bits (λ base. [])) e
after-form kept k zero (Beyond base more) fits e = absurd (omega (arith, fits.steps_is))
after-form kept k (suc steps) (Whole row) fits e = ap (form_bits (bits_after kept steps)) e
after-form kept k (suc steps) (Beyond base more) fits e =
    let fewer : steps ≡ (kept_at kept base).steps = omega (arith, fits.steps_is) in
    ap (form_bits (bits_after kept steps)) e ∙ ap (λ n. with_numbers (bits_after kept n base) more.items) fewer

pub bits-form : (kept : List Kept) → AreForms kept → (k : ℕ) → k < length kept → (form : RowForm) → (kept_at kept k).form ≡ form → bits_of kept k ≡ form_bits (bits_of kept) form
bits-form kept forms k h form e = after-form kept k (kept_at kept k).steps form (form-at kept forms k h form e) e

pub whole-bits : (kept : List Kept) (k : ℕ) (row : List Bool) → (kept_at kept k).form ≡ Whole row → bits_of kept k ≡ row
whole-bits kept k row e = after-form kept k (kept_at kept k).steps (Whole row) tt e

-- a row that is kept whole is that of its unknown
pub whole-row : (kept : List Kept) (of : List ℕ) (rows : List (List Bool)) (unknown number : ℕ) (own : List Bool) → AreForms kept →
    unknown < length of → number ≡ get_or of unknown number → number < length kept → (kept_at kept number).form ≡ Whole own →
    map (bits_of kept) of ≡ rows → own ≡ get_or rows unknown []
whole-row kept of rows unknown number own forms there at inside form view =
    sym (bits-form kept forms number inside (Whole own) form) ∙ (ap (bits_of kept) at ∙ (sym (map-read (bits_of kept) of unknown number there)
    ∙ ap (λ (found : List (List Bool)). get_or found unknown []) view))

-- ---- what a left side brings to the row of an unknown
module _ (rows : List (List Bool)) (count u : ℕ) (left : List Atom) where
  pub more-of : (all : List Bool) (found : Option (List Bool)) → length all ≡ count → ((n : ℕ) → has all n ≡ left_has rows left n) →
      IsGrown (get_or rows u []) all found → MayBeMore rows count u left found
  more-of all None sized is includes = λ n held. sym (has_at-row rows u n) ∙ includes n (is n ∙ held)
  more-of all (Some row) sized is grown = record {
    short = let short = grown.short in omega (arith, short, sized);
    members = λ n. grown-members (get_or rows u []) all row grown n ∙ ap (λ b. has (get_or rows u []) n || b) (is n);
    larger = grown.larger;
  }

  pub none-more : (found : Option (List Bool)) → MayBeMore rows count u left found → ((row : List Bool) → found ≡ Some row → ⊥) → MayBeMore rows count u left None
  none-more None all never = all
  none-more (Some row) more never = absurd (never row refl)

  -- the row of an unknown of the left side comes to one that has none
  pub more-from : (from : ℕ) (row : List Bool) → from < length rows → get_or rows from [] ≡ row → Contains left (Unknown from) → get_or rows u [] ≡ [] → 0 < size row →
      ((n : ℕ) → IsTrue (left_has rows left n) → IsTrue (has row n)) → AreSized count rows → IsMore rows count u left row
  more-from from row inside is part none some covers sized = record {
    short = subst (λ (r : List Bool). length r ≤ count) is (sized from [] inside);
    members = λ n. same-members (has row n) (left_has rows left n)
        (λ held. list_any-has (atom_has rows n) left (Unknown from) part (sym (has_at-row rows from n) ∙ (ap (λ (r : List Bool). has r n) is ∙ held)))
        (covers n)
        ∙ ap (λ (r : List Bool). has r n || left_has rows left n) (sym none);
    larger = subst (λ (r : List Bool). size r < size row) (sym none) some;
  }

pub more-still : (rows rows' : List (List Bool)) → rows' ≡ rows → (count u : ℕ) (left : List Atom) (all : List Bool) (found : Option (List Bool)) → length all ≡ count →
    ((n : ℕ) → has all n ≡ left_has rows' left n) → IsGrown (get_or rows' u []) all found → MayBeMore rows count u left found
more-still rows rows' same count u left all found sized is grown = subst (λ (r : List (List Bool)). MayBeMore r count u left found) same (more-of rows' count u left all found sized is grown)

-- ---- one more row
pub form-by : (kept : List Kept) (one other : ℕ → List Bool) (steps : ℕ) (form : RowForm) → IsForm kept steps form →
    ((base : ℕ) → base < length kept → one base ≡ other base) → form_bits one form ≡ form_bits other form
form-by kept one other steps (Whole row) fits same = refl
form-by kept one other steps (Beyond base more) fits same = ap (λ (r : List Bool). with_numbers r more.items) (same base fits.there)

module _ (kept : List Kept) (forms : AreForms kept) (last : Kept) where
  abbrev more_kept : List Kept
  more_kept = kept ++ last ∷ []

  pub kept-same : (k : ℕ) → k < length kept → kept_at more_kept k ≡ kept_at kept k
  kept-same k h = get_or_append_left kept (last ∷ []) nothing_kept k h

  pub kept-last : kept_at more_kept (length kept) ≡ last
  kept-last = get_or_push kept last nothing_kept (length kept) refl

  after-same : (steps k : ℕ) → k < length kept → bits_after more_kept steps k ≡ bits_after kept steps k
  after-same zero k h = ap (λ (x : Kept). form_bits (λ base. []) x.form) (kept-same k h)
  after-same (suc steps) k h =
      ap (λ (x : Kept). form_bits (bits_after more_kept steps) x.form) (kept-same k h)
      ∙ form-by kept (bits_after more_kept steps) (bits_after kept steps) (kept_at kept k).steps (kept_at kept k).form (forms k h) (λ base lt. after-same steps base lt)

  pub bits-same : (k : ℕ) → k < length kept → bits_of more_kept k ≡ bits_of kept k
  bits-same k h = ap (λ (x : Kept). bits_after more_kept x.steps k) (kept-same k h) ∙ after-same (kept_at kept k).steps k h

  last-after : (steps : ℕ) (form : RowForm) → IsForm kept steps form → last.form ≡ form → bits_after more_kept steps (length kept) ≡ form_bits (bits_of kept) form
  last-after zero (Whole row) fits e = ap (λ (x : Kept). form_bits (λ base. []) x.form) kept-last ∙ ap (form_bits (λ base. [])) e
  last-after zero (Beyond base more) fits e = absurd (omega (arith, fits.steps_is))
  last-after (suc steps) (Whole row) fits e = ap (λ (x : Kept). form_bits (bits_after more_kept steps) x.form) kept-last ∙ ap (form_bits (bits_after more_kept steps)) e
  last-after (suc steps) (Beyond base more) fits e =
      let fewer : steps ≡ (kept_at kept base).steps = omega (arith, fits.steps_is) in
      ap (λ (x : Kept). form_bits (bits_after more_kept steps) x.form) kept-last
      ∙ (ap (form_bits (bits_after more_kept steps)) e
      ∙ ap (λ (r : List Bool). with_numbers r more.items) (after-same steps base fits.there ∙ ap (λ n. bits_after kept n base) fewer))

  pub bits-last : IsForm kept last.steps last.form → bits_of more_kept (length kept) ≡ form_bits (bits_of kept) last.form
  bits-last fits = ap (λ (x : Kept). bits_after more_kept x.steps (length kept)) kept-last ∙ last-after last.steps last.form fits refl

  form-more : (steps : ℕ) (form : RowForm) → IsForm kept steps form → IsForm more_kept steps form
  form-more steps (Whole row) fits = fits
  form-more steps (Beyond base more) fits =
      let there = fits.there in
      record {
        there = omega (arith, there, length_push kept last);
        steps_is = fits.steps_is ∙ ap (λ (x : Kept). suc x.steps) (sym (kept-same base there));
        inside = subst (λ (r : List Bool). All (λ n. n < length r) more.items) (sym (bits-same base there)) fits.inside;
      }

  pub forms-more : IsForm kept last.steps last.form → AreForms more_kept
  forms-more fits k h =
      ⊎_elim (λ (lt : k < length kept). subst (λ (x : Kept). IsForm more_kept x.steps x.form) (sym (kept-same k lt)) (form-more (kept_at kept k).steps (kept_at kept k).form (forms k lt)))
      (λ (ge : length kept ≤ k). let is : length kept ≡ k = omega (arith, h, ge, length_push kept last) in
      subst (λ n. IsForm more_kept (kept_at more_kept n).steps (kept_at more_kept n).form) is
      (subst (λ (x : Kept). IsForm more_kept x.steps x.form) (sym kept-last) (form-more last.steps last.form fits)))
      (cases_lt k (length kept))

  map-same : (of : List ℕ) → All (λ k. k < length kept) of → map (bits_of more_kept) of ≡ map (bits_of kept) of
  map-same [] all = refl
  map-same (k ∷ of) all = rw (bits-same k (all 0 0 (omega arith)), map-same of (λ i d h. all (suc i) d (omega (arith, h)))) refl

  pub map-put : (of : List ℕ) → All (λ k. k < length kept) of → (u : ℕ) (row : List Bool) → bits_of more_kept (length kept) ≡ row →
      map (bits_of more_kept) (set of u (length kept)) ≡ set (map (bits_of kept) of) u row
  map-put [] all u row e = refl
  map-put (k ∷ of) all zero row e = rw (e, map-same of (λ i d h. all (suc i) d (omega (arith, h)))) refl
  map-put (k ∷ of) all (suc u) row e = rw (bits-same k (all 0 0 (omega arith)), map-put of (λ i d h. all (suc i) d (omega (arith, h))) u row e) refl

  pub inside-put : (of : List ℕ) → All (λ k. k < length kept) of → (u : ℕ) → All (λ k. k < length more_kept) (set of u (length kept))
  inside-put [] all u i d h = absurd (omega (arith, h))
  inside-put (k ∷ of) all zero zero d h = omega (arith, length_push kept last)
  inside-put (k ∷ of) all zero (suc i) d h = let lt = all (suc i) d (omega (arith, h)) in omega (arith, lt, length_push kept last)
  inside-put (k ∷ of) all (suc u) zero d h = let lt = all 0 d (omega arith) in omega (arith, lt, length_push kept last)
  inside-put (k ∷ of) all (suc u) (suc i) d h = inside-put of (λ i d h. all (suc i) d (omega (arith, h))) u i d (omega (arith, h))
