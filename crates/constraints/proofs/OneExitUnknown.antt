-- Exceptions that have one exit unknown at all of some calls.
use Rattle.std.proofs.Common.{◌≡◌, refl, sym, subst, ℕ, ◌+◌, ◌<◌, ◌≤◌, List, [], ◌∷◌, ◌++◌, Bool, true, false, length, get_or, arith, ◌⊎◌, inl, inr, ⊎_elim}
use Rattle.std.specs.Prelude.{Contains, if◌then◌else◌, nat_lt}
use Rattle.std.proofs.lemmas.Bool.{ltb-true, ltb-false}
use Rattle.std.proofs.lemmas.List.Elements.{Contains-append_cases, Contains-append_left, Contains-append_right}
use Rattle.common.proofs.Elements.{none_in_nil, Contains-cons_cases, Contains-first}
use Rattle.common.proofs.Cases.{by_test}
use Rattle.constraints.specs.declared.rows.ThrownLabel.{ThrownLabel}

-- exceptions that were parted, up to one of them
pub record IsParted (one : ThrownLabel → Type 0) (open' fixed varied : List ThrownLabel) (i : ℕ) : Type 0 where
  pub fixed_is : (x : ThrownLabel) → Contains fixed x → one x
  pub all : (k : ℕ) (d : ThrownLabel) → k < i → Contains fixed (get_or open' k d) ⊎ Contains varied (get_or open' k d)
  pub fixed_of : (x : ThrownLabel) → Contains fixed x → Contains open' x
  pub varied_of : (x : ThrownLabel) → Contains varied x → Contains open' x

last-of : (xs : List ThrownLabel) (x y : ThrownLabel) → Contains (xs ++ x ∷ []) y → Contains xs y ⊎ (x ≡ y)
last-of xs x y h = ⊎_elim (λ k. inl k) (λ k. ⊎_elim (λ same. inr same) (λ none. absurd (none_in_nil y none)) (Contains-cons_cases x [] y k)) (Contains-append_cases xs (x ∷ []) y h)

pub parted-next : (one : ThrownLabel → Type 0) (open' fixed varied fixed' varied' : List ThrownLabel) (i : ℕ) (x : ThrownLabel) (is : Bool)
    → i < length open' → ((d : ThrownLabel) → get_or open' i d ≡ x) → (is ≡ true → one x)
    → fixed' ≡ (if is then fixed ++ x ∷ [] else fixed) → varied' ≡ (if is then varied else varied ++ x ∷ [])
    → IsParted one open' fixed varied i → IsParted one open' fixed' varied' (i + 1)
parted-next one open' fixed varied fixed' varied' i x is inside at holds fixed_is varied_is before = go is holds fixed_is varied_is
  where
    there : Contains open' x
    there = (i, inside, at x)

    next : (more fewer : List ThrownLabel) → ((y : ThrownLabel) → Contains fixed y ⊎ Contains varied y → Contains more y ⊎ Contains fewer y) → Contains more x ⊎ Contains fewer x
        → (k : ℕ) (d : ThrownLabel) → k < i + 1 → Contains more (get_or open' k d) ⊎ Contains fewer (get_or open' k d)
    next more fewer keeps has k d below = by_test (nat_lt k i)
        (λ e. keeps (get_or open' k d) (before.all k d (ltb-true k i e)))
        (λ e. let least : i ≤ k = ltb-false k i e in let same : i ≡ k = omega (arith, least, below) in
        subst (λ n. Contains more (get_or open' n d) ⊎ Contains fewer (get_or open' n d)) same
        (subst (λ y. Contains more y ⊎ Contains fewer y) (sym (at d)) has))

    go : (is : Bool) → (is ≡ true → one x) → fixed' ≡ (if is then fixed ++ x ∷ [] else fixed) → varied' ≡ (if is then varied else varied ++ x ∷ []) → IsParted one open' fixed' varied' (i + 1)
    go true holds f v = record {
      fixed_is = λ y h. ⊎_elim (λ k. before.fixed_is y k) (λ same. subst one same (holds refl)) (last-of fixed x y (subst (λ list. Contains list y) f h));
      all = next fixed' varied' (λ y h. ⊎_elim (λ k. inl (subst (λ list. Contains list y) (sym f) (Contains-append_left fixed (x ∷ []) y k))) (λ k. inr (subst (λ list. Contains list y) (sym v) k)) h)
          (inl (subst (λ list. Contains list x) (sym f) (Contains-append_right fixed (x ∷ []) x (Contains-first x []))));
      fixed_of = λ y h. ⊎_elim (λ k. before.fixed_of y k) (λ same. subst (λ z. Contains open' z) same there) (last-of fixed x y (subst (λ list. Contains list y) f h));
      varied_of = λ y h. before.varied_of y (subst (λ list. Contains list y) v h);
    }
    go false holds f v = record {
      fixed_is = λ y h. before.fixed_is y (subst (λ list. Contains list y) f h);
      all = next fixed' varied' (λ y h. ⊎_elim (λ k. inl (subst (λ list. Contains list y) (sym f) k)) (λ k. inr (subst (λ list. Contains list y) (sym v) (Contains-append_left varied (x ∷ []) y k))) h)
          (inr (subst (λ list. Contains list x) (sym v) (Contains-append_right varied (x ∷ []) x (Contains-first x []))));
      fixed_of = λ y h. before.fixed_of y (subst (λ list. Contains list y) f h);
      varied_of = λ y h. ⊎_elim (λ k. before.varied_of y k) (λ same. subst (λ z. Contains open' z) same there) (last-of varied x y (subst (λ list. Contains list y) v h));
    }

pub parted-all : (one : ThrownLabel → Type 0) (open' fixed varied : List ThrownLabel) (i : ℕ) → length open' ≤ i → IsParted one open' fixed varied i
    → (x : ThrownLabel) → Contains open' x → Contains fixed x ⊎ Contains varied x
parted-all one open' fixed varied i all parted x (k, inside, is) =
    subst (λ y. Contains fixed y ⊎ Contains varied y) is (parted.all k x (omega (arith, inside, all)))
