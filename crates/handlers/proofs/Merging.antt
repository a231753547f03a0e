-- A merge of two lists of entries, one entry after another.
use Rattle.std.proofs.Common.{◌≡◌, ℕ, zero, suc, ◌+◌, ◌<◌, ◌≤◌, Bool, true, false, if◌then◌else◌, List, [], ◌∷◌, ◌++◌, length, drop, slice_get, Option, Some, None, refl, sym, ap, subst, ◌∙◌, add-one, arith}
use Rattle.std.specs.Option.{option_or}
use Rattle.std.proofs.lemmas.List.{append-nil}
use Rattle.std.proofs.lemmas.Option.{slice_get_within}
use Rattle.handlers.specs.Targets.{is_before, target_from, IsNotAfter, IsAscending, next_of}
use Rattle.handlers.specs.declared.entries.Next.{Next}
use Rattle.handlers.specs.declared.entries.Next.TheVariants.{First, Second, Neither}
use Rattle.handlers.specs.declared.entries.ThrowSite.{ThrowSite}
use Rattle.handlers.specs.declared.entries.TableEntry.{TableEntry}
use Rattle.handlers.proofs.Order.{before_later, before_once}

-- ---- what is left of a list

pub drop_at : {X : Type 0} (xs : List X) (i : ℕ) (x : X) → slice_get xs i ≡ Some x → drop i xs ≡ x ∷ drop (i + 1) xs
drop_at {X = X} [] i x h = absurd (let no : ◌≡◌ {A = Option X} None (Some x) = h in cc)
drop_at (y ∷ ys) zero x h = let same : y ≡ x = cc in ap (λ z. z ∷ ys) same
drop_at (y ∷ ys) (suc i) x h = rw add-one (rw add-one at (drop_at ys i x h))

pub drop_none : {X : Type 0} (xs : List X) (i : ℕ) → slice_get xs i ≡ None → drop i xs ≡ []
drop_none [] zero h = refl
drop_none [] (suc i) h = refl
drop_none {X = X} (y ∷ ys) zero h = absurd (let no : ◌≡◌ {A = Option X} (Some y) None = h in cc)
drop_none (y ∷ ys) (suc i) h = drop_none ys i h

not_after_at : (site : ThrowSite) (ys : List TableEntry) (j : ℕ) → ((y : TableEntry) → slice_get ys j ≡ Some y → is_before y.site site ≡ false) → IsNotAfter site (drop j ys)
not_after_at site [] zero h = tt
not_after_at site [] (suc j) h = tt
not_after_at site (y ∷ ys) zero h = h y refl
not_after_at site (y ∷ ys) (suc j) h = not_after_at site ys j h

-- ---- which entry is the next one

next_by : (x y : TableEntry) (test : Bool) → is_before y.site x.site ≡ test → (z : TableEntry) → (if test then Second y else First x) ≡ First z → (x ≡ z) × (is_before y.site x.site ≡ false)
next_by x y true is z h = absurd (let no : ◌≡◌ {A = Next} (Second y) (First z) = h in cc)
next_by x y false is z h = (cc, is)

-- a entry of the first list has none of the second before it
pub first_next : (o r : Option TableEntry) (z : TableEntry) → next_of o r ≡ First z → (o ≡ Some z) × ((y : TableEntry) → r ≡ Some y → is_before y.site z.site ≡ false)
first_next None None z h = absurd (let no : ◌≡◌ {A = Next} Neither (First z) = h in cc)
first_next None (Some y) z h = absurd (let no : ◌≡◌ {A = Next} (Second y) (First z) = h in cc)
first_next (Some x) None z h = (let same : x ≡ z = cc in ap Some same, λ y e. absurd (cc))
first_next (Some x) (Some y) z h =
    let by = next_by x y (is_before y.site x.site) refl z h in
    (ap Some by.0, λ w e. let same : y ≡ w = cc in rw (← same, ← by.0) by.1)

second_by : (x y : TableEntry) (test : Bool) → is_before y.site x.site ≡ test → (z : TableEntry) → (if test then Second y else First x) ≡ Second z → (y ≡ z) × (is_before x.site y.site ≡ false)
second_by x y true is z h = (cc, before_once y.site x.site is)
second_by x y false is z h = absurd (let no : ◌≡◌ {A = Next} (First x) (Second z) = h in cc)

-- and a entry of the second list none of the first
pub second_next : (o r : Option TableEntry) (z : TableEntry) → next_of o r ≡ Second z → (r ≡ Some z) × ((x : TableEntry) → o ≡ Some x → is_before x.site z.site ≡ false)
second_next None None z h = absurd (let no : ◌≡◌ {A = Next} Neither (Second z) = h in cc)
second_next None (Some y) z h = (let same : y ≡ z = cc in ap Some same, λ x e. absurd (cc))
second_next (Some x) None z h = absurd (let no : ◌≡◌ {A = Next} (First x) (Second z) = h in cc)
second_next (Some x) (Some y) z h =
    let by = second_by x y (is_before y.site x.site) refl z h in
    (ap Some by.0, λ w e. let same : x ≡ w = cc in rw (← same, ← by.0) by.1)

neither_by : (x y : TableEntry) (test : Bool) → (if test then Second y else First x) ≡ Neither → ⊥
neither_by x y true h = absurd (let no : ◌≡◌ {A = Next} (Second y) Neither = h in cc)
neither_by x y false h = absurd (let no : ◌≡◌ {A = Next} (First x) Neither = h in cc)

-- where no entry is the next one, both lists are at their end
pub neither_next : (o r : Option TableEntry) → next_of o r ≡ Neither → (o ≡ None) × (r ≡ None)
neither_next None None h = (refl, refl)
neither_next None (Some y) h = absurd (let no : ◌≡◌ {A = Next} (Second y) Neither = h in cc)
neither_next (Some x) None h = absurd (let no : ◌≡◌ {A = Next} (First x) Neither = h in cc)
neither_next (Some x) (Some y) h = absurd (neither_by x y (is_before y.site x.site) h)

-- ---- the target, where the last entries are not there yet

-- the target at a site, which is the last one given where no entry stands after it
abbrev pub target_or : Option ℕ → List TableEntry → ThrowSite → Option ℕ → Option ℕ
target_or target [] site rest = rest
target_or target (entry ∷ entries) site rest = if is_before site entry.site then target else target_or entry.target entries site rest

abbrev pub last_target : Option ℕ → List TableEntry → Option ℕ
last_target target [] = target
last_target target (entry ∷ entries) = last_target entry.target entries

pub target_or-last : (target : Option ℕ) (entries : List TableEntry) (site : ThrowSite) → target_or target entries site (last_target target entries) ≡ target_from target entries site
target_or-last target [] site = refl
target_or-last target (entry ∷ entries) site = ap (λ o. if is_before site entry.site then target else o) (target_or-last entry.target entries site)

target_or-push : (target : Option ℕ) (entries : List TableEntry) (entry : TableEntry) (site : ThrowSite) (rest : Option ℕ) → target_or target (entries ++ entry ∷ []) site rest ≡ target_or target entries site (if is_before site entry.site then last_target target entries else rest)
target_or-push target [] entry site rest = refl
target_or-push target (s ∷ entries) entry site rest = ap (λ o. if is_before site s.site then target else o) (target_or-push s.target entries entry site rest)

last_target-push : (target : Option ℕ) (entries : List TableEntry) (entry : TableEntry) → last_target target (entries ++ entry ∷ []) ≡ entry.target
last_target-push target [] entry = refl
last_target-push target (s ∷ entries) entry = last_target-push s.target entries entry

-- a target stays before the first entry
stays : (target : Option ℕ) (entries : List TableEntry) (site other : ThrowSite) → IsNotAfter other entries → is_before site other ≡ true → target_from target entries site ≡ target
stays target [] site other none h = refl
stays target (entry ∷ entries) site other none h = rw (before_later site other entry.site h none) refl

turned_first : (a b : Option ℕ) (x : TableEntry) (xs ys : List TableEntry) (site : ThrowSite) → IsNotAfter x.site ys
    → (if is_before site x.site then option_or a b else option_or (target_from x.target xs site) (target_from b ys site)) ≡ option_or (target_from a (x ∷ xs) site) (target_from b ys site)
turned_first a b x xs ys site none = go (is_before site x.site) refl
  where
    go : (test : Bool) → is_before site x.site ≡ test
        → (if test then option_or a b else option_or (target_from x.target xs site) (target_from b ys site)) ≡ option_or (if test then a else target_from x.target xs site) (target_from b ys site)
    go true h = ap (λ o. option_or a o) (sym (stays b ys site x.site none h))
    go false h = refl

turned_second : (a b : Option ℕ) (y : TableEntry) (xs ys : List TableEntry) (site : ThrowSite) → IsNotAfter y.site xs
    → (if is_before site y.site then option_or a b else option_or (target_from a xs site) (target_from y.target ys site)) ≡ option_or (target_from a xs site) (target_from b (y ∷ ys) site)
turned_second a b y xs ys site none = go (is_before site y.site) refl
  where
    go : (test : Bool) → is_before site y.site ≡ test
        → (if test then option_or a b else option_or (target_from a xs site) (target_from y.target ys site)) ≡ option_or (target_from a xs site) (if test then b else target_from y.target ys site)
    go true h = ap (λ o. option_or o b) (sym (stays a xs site y.site none h))
    go false h = refl

-- ---- the order of what is there and what is left

abbrev pub with_target : TableEntry → Option ℕ → TableEntry
with_target entry target = record { site = entry.site; target = target }

head_stays : (site : ThrowSite) (entries xs ys : List TableEntry) (x : TableEntry) (target : Option ℕ) → IsNotAfter site (entries ++ x ∷ xs) → IsNotAfter site ((entries ++ with_target x target ∷ []) ++ ys)
head_stays site [] xs ys x target h = h
head_stays site (s ∷ entries) xs ys x target h = h

ascends_here : (entries xs : List TableEntry) (x : TableEntry) (target : Option ℕ) → IsAscending (entries ++ x ∷ xs) → IsAscending ((entries ++ with_target x target ∷ []) ++ xs)
ascends_here [] xs x target h = h
ascends_here (s ∷ entries) xs x target h = (head_stays s.site entries xs xs x target h.0, ascends_here entries xs x target h.1)

ascends_there : (entries xs ys : List TableEntry) (x : TableEntry) (target : Option ℕ) → IsAscending (entries ++ x ∷ xs) → IsAscending (entries ++ ys) → IsNotAfter x.site ys → IsAscending ((entries ++ with_target x target ∷ []) ++ ys)
ascends_there [] xs ys x target h k none = (none, k)
ascends_there (s ∷ entries) xs ys x target h k none = (head_stays s.site entries xs ys x target h.0, ascends_there entries xs ys x target h.1 k.1 none)

-- ---- a merge on its way

-- what is there of two lists in one, which stand at these indexes and at these targets
pub record Merged (first second entries : List TableEntry) (i j : ℕ) (a b : Option ℕ) : Type 0 where
  pub first_in_range : i ≤ length first
  pub second_in_range : j ≤ length second
  pub target_is : last_target None entries ≡ option_or a b
  pub targets : (site : ThrowSite) → target_or None entries site (option_or (target_from a (drop i first) site) (target_from b (drop j second) site)) ≡ option_or (target_from None first site) (target_from None second site)
  pub first_ascends : IsAscending (entries ++ drop i first)
  pub second_ascends : IsAscending (entries ++ drop j second)

module _ (first second entries entries' : List TableEntry) (i j : ℕ) (a b : Option ℕ) (merged : Merged first second entries i j a b) (z : TableEntry) where
  pub Merged-first : next_of (slice_get first i) (slice_get second j) ≡ First z → entries' ≡ entries ++ with_target z (option_or z.target b) ∷ [] → Merged first second entries' (i + 1) j z.target b
  Merged-first next pushed =
      let found = first_next (slice_get first i) (slice_get second j) z next in
      let left : drop i first ≡ z ∷ drop (i + 1) first = drop_at first i z found.0 in
      let none : IsNotAfter z.site (drop j second) = not_after_at z.site second j found.1 in
      let there : i < length first = slice_get_within first i z found.0 in
      let ascends : IsAscending (entries ++ z ∷ drop (i + 1) first) = subst (λ (l : List TableEntry). IsAscending (entries ++ l)) left merged.first_ascends in
      record {
        first_in_range = omega arith;
        second_in_range = merged.second_in_range;
        target_is = rw pushed (last_target-push None entries (with_target z (option_or z.target b)));
        targets = λ site.
            let rest = option_or (target_from z.target (drop (i + 1) first) site) (target_from b (drop j second) site) in
            let more : target_or None entries' site rest ≡ target_or None entries site (if is_before site z.site then last_target None entries else rest) =
            ap (λ (l : List TableEntry). target_or None l site rest) pushed ∙ target_or-push None entries (with_target z (option_or z.target b)) site rest in
            let same : (if is_before site z.site then last_target None entries else rest) ≡ option_or (target_from a (drop i first) site) (target_from b (drop j second) site) =
            ap (λ o. if is_before site z.site then o else rest) merged.target_is ∙ turned_first a b z (drop (i + 1) first) (drop j second) site none
            ∙ ap (λ (l : List TableEntry). option_or (target_from a l site) (target_from b (drop j second) site)) (sym left) in
            more ∙ ap (target_or None entries site) same ∙ merged.targets site;
        first_ascends = rw pushed (ascends_here entries (drop (i + 1) first) z (option_or z.target b) ascends);
        second_ascends = rw pushed (ascends_there entries (drop (i + 1) first) (drop j second) z (option_or z.target b) ascends merged.second_ascends none);
      }

  pub Merged-second : next_of (slice_get first i) (slice_get second j) ≡ Second z → entries' ≡ entries ++ with_target z (option_or a z.target) ∷ [] → Merged first second entries' i (j + 1) a z.target
  Merged-second next pushed =
      let found = second_next (slice_get first i) (slice_get second j) z next in
      let left : drop j second ≡ z ∷ drop (j + 1) second = drop_at second j z found.0 in
      let none : IsNotAfter z.site (drop i first) = not_after_at z.site first i found.1 in
      let there : j < length second = slice_get_within second j z found.0 in
      let ascends : IsAscending (entries ++ z ∷ drop (j + 1) second) = subst (λ (l : List TableEntry). IsAscending (entries ++ l)) left merged.second_ascends in
      record {
        first_in_range = merged.first_in_range;
        second_in_range = omega arith;
        target_is = rw pushed (last_target-push None entries (with_target z (option_or a z.target)));
        targets = λ site.
            let rest = option_or (target_from a (drop i first) site) (target_from z.target (drop (j + 1) second) site) in
            let more : target_or None entries' site rest ≡ target_or None entries site (if is_before site z.site then last_target None entries else rest) =
            ap (λ (l : List TableEntry). target_or None l site rest) pushed ∙ target_or-push None entries (with_target z (option_or a z.target)) site rest in
            let same : (if is_before site z.site then last_target None entries else rest) ≡ option_or (target_from a (drop i first) site) (target_from b (drop j second) site) =
            ap (λ o. if is_before site z.site then o else rest) merged.target_is ∙ turned_second a b z (drop i first) (drop (j + 1) second) site none
            ∙ ap (λ (l : List TableEntry). option_or (target_from a (drop i first) site) (target_from b l site)) (sym left) in
            more ∙ ap (target_or None entries site) same ∙ merged.targets site;
        first_ascends = rw pushed (ascends_there entries (drop (j + 1) second) (drop i first) z (option_or a z.target) ascends merged.first_ascends none);
        second_ascends = rw pushed (ascends_here entries (drop (j + 1) second) z (option_or a z.target) ascends);
      }

-- at the end nothing is left
pub Merged-end : (first second entries : List TableEntry) (i j : ℕ) (a b : Option ℕ) → Merged first second entries i j a b → next_of (slice_get first i) (slice_get second j) ≡ Neither
    → IsAscending entries × ((site : ThrowSite) → target_from None entries site ≡ option_or (target_from None first site) (target_from None second site))
Merged-end first second entries i j a b merged next =
    let ended = neither_next (slice_get first i) (slice_get second j) next in
    let no_first : drop i first ≡ [] = drop_none first i ended.0 in
    let no_second : drop j second ≡ [] = drop_none second j ended.1 in (
      subst IsAscending (append-nil entries) (subst (λ (l : List TableEntry). IsAscending (entries ++ l)) no_first merged.first_ascends),
      λ site.
          sym (target_or-last None entries site) ∙ ap (target_or None entries site) merged.target_is
          ∙ ap (λ (l : List TableEntry). target_or None entries site (option_or (target_from a l site) b)) (sym no_first)
          ∙ ap (λ (l : List TableEntry). target_or None entries site (option_or (target_from a (drop i first) site) (target_from b l site))) (sym no_second)
          ∙ merged.targets site,
    )
