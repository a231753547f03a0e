-- The binary search for the last entry at or before a site.
use Rattle.std.proofs.Common.{◌≡◌, ℕ, zero, suc, ◌<◌, ◌≤◌, Bool, true, false, not, List, [], ◌∷◌, length, get_or, Option, None, refl, sym, ap, ◌∙◌, arith}
use Rattle.std.specs.List.{AllWithin}
use Rattle.std.specs.List.Sorted.{IsPartitionedBy}
use Rattle.handlers.specs.Targets.{is_before, target_from, IsAscending}
use Rattle.handlers.specs.declared.entries.ThrowSite.{ThrowSite}
use Rattle.handlers.specs.declared.entries.TableEntry.{TableEntry}
use Rattle.handlers.proofs.Order.{before_later}

-- the target after this many entries
abbrev pub target_after : Option ℕ → List TableEntry → ℕ → Option ℕ
target_after target entries zero = target
target_after target [] (suc k) = target
target_after target (entry ∷ entries) (suc k) = target_after entry.target entries k

flipped_true : (b : Bool) → not b ≡ true → b ≡ false
flipped_true true h = absurd (let no : false ≡ true = h in cc)
flipped_true false h = refl

flipped_false : (b : Bool) → not b ≡ false → b ≡ true
flipped_false true h = refl
flipped_false false h = absurd (let no : true ≡ false = h in cc)

module _ (site : ThrowSite) where
  -- a site that stands before a entry stands before all that follow
  before_all : (entry : TableEntry) (entries : List TableEntry) → IsAscending (entry ∷ entries) → is_before site entry.site ≡ true → (j : ℕ) (d : TableEntry) → j < length (entry ∷ entries) → is_before site (get_or (entry ∷ entries) j d).site ≡ true
  before_all entry entries ascends h zero d below = h
  before_all entry [] ascends h (suc j) d below = absurd (omega arith)
  before_all entry (next ∷ entries) ascends h (suc j) d below =
      before_all next entries ascends.1 (before_later site entry.site next.site h ascends.0) j d (omega arith)

  parted_first : (test : Bool) (entry : TableEntry) (entries : List TableEntry) → IsAscending (entry ∷ entries) → (j : ℕ) (d : TableEntry) → j < length (entry ∷ entries) → not (is_before site (get_or (entry ∷ entries) j d).site) ≡ true → is_before site entry.site ≡ test → not test ≡ true
  parted_first false entry entries ascends j d below there h = refl
  parted_first true entry entries ascends j d below there h =
      let all = before_all entry entries ascends h j d below in
      let none = flipped_true (is_before site (get_or (entry ∷ entries) j d).site) there in
      absurd (cc)

  pub parted : (entries : List TableEntry) → IsAscending entries → IsPartitionedBy (λ entry. not (is_before site entry.site)) entries
  parted [] ascends i j d least below there = absurd (omega arith)
  parted (entry ∷ entries) ascends zero j d least below there = parted_first (is_before site entry.site) entry entries ascends j d below there refl
  parted (entry ∷ entries) ascends (suc i) zero d least below there = absurd (omega arith)
  parted (entry ∷ entries) ascends (suc i) (suc j) d least below there = parted entries ascends.1 i j d (omega arith) (omega arith) there

  -- the entries up to an index do not stand after the site, and the others do
  pub found_at : (target : Option ℕ) (entries : List TableEntry) (k : ℕ) → AllWithin (λ entry. not (is_before site entry.site) ≡ true) entries 0 k → AllWithin (λ entry. not (is_before site entry.site) ≡ false) entries k (length entries)
      → target_from target entries site ≡ target_after target entries k
  found_at target [] zero front back = refl
  found_at target [] (suc k) front back = refl
  found_at target (entry ∷ entries) zero front back =
      let after : is_before site entry.site ≡ true = flipped_false (is_before site entry.site) (back 0 entry (omega arith) (omega arith)) in
      rw after refl
  found_at target (entry ∷ entries) (suc k) front back =
      let here : is_before site entry.site ≡ false = flipped_true (is_before site entry.site) (front 0 entry (omega arith) (omega arith)) in
      rw here (found_at entry.target entries k (λ i d least below. front (suc i) d (omega arith) (omega arith)) (λ i d least below. back (suc i) d (omega arith) (omega arith)))

target_after-suc : (target : Option ℕ) (entries : List TableEntry) (k : ℕ) (d : TableEntry) → k < length entries → target_after target entries (suc k) ≡ (get_or entries k d).target
target_after-suc target [] k d below = absurd (omega arith)
target_after-suc target (s ∷ entries) zero d below = refl
target_after-suc target (s ∷ entries) (suc k) d below = target_after-suc s.target entries k d (omega arith)

module _ (site : ThrowSite) (entries : List TableEntry) (k : ℕ) (front : AllWithin (λ entry. not (is_before site entry.site) ≡ true) entries 0 k) (back : AllWithin (λ entry. not (is_before site entry.site) ≡ false) entries k (length entries)) where
  -- no entry stands at or before the site
  pub found_none : k ≡ 0 → None ≡ target_from None entries site
  found_none none = sym (found_at site None entries k front back ∙ ap (target_after None entries) none)

  -- the last entry that does
  pub found_last : (last : ℕ) → k ≡ suc last → k ≤ length entries → (d : TableEntry) → (get_or entries last d).target ≡ target_from None entries site
  found_last last is within d =
      let below : last < length entries = omega arith in
      sym (found_at site None entries k front back ∙ ap (target_after None entries) is ∙ target_after-suc None entries last d below)
