-- The table of buckets: what is found after a bucket is set or the map changes, and while a wider table is filled.
use Rattle.std.proofs.Common.{◌≡◌, ℕ, ◌+◌, ◌≤◌, ◌==◌, List, [], ◌∷◌, ◌++◌, length, take, replicate, Bool, true, false, cond, Option, Some, None, Result, Ok, Err, OnOk, OnErr, refl, sym, ◌∙◌, ap, subst, arith}
use Rattle.std.specs.Prelude.{nat_lt, set, not}
use Rattle.std.proofs.lemmas.Bool.{eqb-true, eqb-false, eq-eqb, ltb-true, ltb-false}
use Rattle.std.proofs.lemmas.List.{get_or-set_same, get_or-set_other, get_or_past, get_or-replicate, length-set, length-replicate}
use Rattle.std.proofs.Math.Seq.{take-nil}
use Rattle.std.specs.BTreeMap.{BTreeMap, UpdatesBy, get, is_at}
use Rattle.std.specs.Map.{lookup}
use Rattle.std.specs.Ordering.{nat_cmp, is_eq}
use Rattle.types.specs.declared.scope.Meaning.{Meaning}
use Rattle.types.specs.declared.short_names.Bucket.{Bucket}
use Rattle.types.specs.declared.short_names.Bucket.TheVariants as buckets
use Rattle.types.specs.declared.short_names.TheConstants.{NO_BUCKETS}
use Rattle.types.specs.Buckets.{AreBuckets, Updates, found_by, found_short, keeps, leaves, bucket_at, bucket_of, told_by}
use Rattle.types.specs.Views.{or_else}
use Rattle.types.proofs.ShortNames.{number_ties}

-- ---- numbers that are the same or not

-- by both cases
same_or_other : (n o : ℕ) (P : Bool → Type 0) → (n ≡ o → P true) → ((n ≡ o → ⊥) → P false) → P (n == o)
same_or_other n o P same other = by (n == o) refl
  where
    by : (b : Bool) → (n == o) ≡ b → P b
    by true e = same (eqb-true n o e)
    by false e = other (eqb-false n o e)

-- numbers that differ lie apart in a map
apart_in_map : (n o : ℕ) → (n ≡ o → ⊥) → is_eq (nat_cmp n o) ≡ false
apart_in_map n o apart = by (is_eq (nat_cmp n o)) ((number_ties n o).0)
  where
    by : (b : Bool) → (b ≡ true → n ≡ o) → b ≡ false
    by false same = refl
    by true same = absurd (apart (same refl))

-- a map after a change, at another number and at the one
map_other : (n o : ℕ) (old new : BTreeMap ℕ Meaning) (w : Option Meaning) → UpdatesBy nat_cmp (nat_cmp n) old new w → (n ≡ o → ⊥) → get nat_cmp new o ≡ get nat_cmp old o
map_other n o old new w updates apart = updates.2 o (apart_in_map n o apart)

map_same : (n o : ℕ) (old new : BTreeMap ℕ Meaning) (w : Option Meaning) → UpdatesBy nat_cmp (nat_cmp n) old new w → n ≡ o → get nat_cmp new o ≡ w
map_same n o old new w updates same = ap (get nat_cmp new) (sym same) ∙ updates.1

-- ---- what a bucket knows

-- the map has none of the numbers that lead to a bucket
abbrev pub HasNone : (shift : ℕ) (others : BTreeMap ℕ Meaning) (at : ℕ) → Type 0
HasNone shift others at = (number : ℕ) → bucket_of shift number ≡ at → get nat_cmp others number ≡ None

-- by cases, what holds of a bucket
abbrev pub Knows : (shift : ℕ) (others : BTreeMap ℕ Meaning) (at : ℕ) → Bucket → Type 0
Knows shift others at buckets.Free = HasNone shift others at
Knows shift others at (buckets.Alone kept meaning) = (bucket_of shift kept ≡ at) × HasNone shift others at
Knows shift others at (buckets.First kept meaning) = (bucket_of shift kept ≡ at) × (get nat_cmp others kept ≡ None)
Knows shift others at buckets.Shared = Unit {0}

knows_by : (shift : ℕ) (others : BTreeMap ℕ Meaning) (at : ℕ) (bucket : Bucket) → ((number : ℕ) → keeps bucket number ≡ true → bucket_of shift number ≡ at)
    → ((number : ℕ) → bucket_of shift number ≡ at → leaves bucket number ≡ false → get nat_cmp others number ≡ None) → Knows shift others at bucket
knows_by shift others at buckets.Free kept left = λ number leads. left number leads refl
knows_by shift others at (buckets.Alone one meaning) kept left = (kept one (eq-eqb one one refl), λ number leads. left number leads refl)
knows_by shift others at (buckets.First one meaning) kept left = (kept one (eq-eqb one one refl), left one (kept one (eq-eqb one one refl)) (ap not (eq-eqb one one refl)))
knows_by shift others at buckets.Shared kept left = tt

knows_kept : (shift : ℕ) (others : BTreeMap ℕ Meaning) (at : ℕ) (bucket : Bucket) → Knows shift others at bucket → (number : ℕ) → keeps bucket number ≡ true → bucket_of shift number ≡ at
knows_kept shift others at buckets.Free knows number same = cc
knows_kept shift others at (buckets.Alone kept meaning) knows number same = ap (bucket_of shift) (sym (eqb-true kept number same)) ∙ knows.0
knows_kept shift others at (buckets.First kept meaning) knows number same = ap (bucket_of shift) (sym (eqb-true kept number same)) ∙ knows.0
knows_kept shift others at buckets.Shared knows number same = cc

knows_left : (shift : ℕ) (others : BTreeMap ℕ Meaning) (at : ℕ) (bucket : Bucket) → Knows shift others at bucket → (number : ℕ) → bucket_of shift number ≡ at → leaves bucket number ≡ false
    → get nat_cmp others number ≡ None
knows_left shift others at buckets.Free knows number leads left = knows number leads
knows_left shift others at (buckets.Alone kept meaning) knows number leads left = knows.1 number leads
knows_left shift others at (buckets.First kept meaning) knows number leads left = by (kept == number) refl left
  where
    by : (b : Bool) → (kept == number) ≡ b → not b ≡ false → get nat_cmp others number ≡ None
    by true same _ = ap (get nat_cmp others) (sym (eqb-true kept number same)) ∙ knows.1
    by false _ wrong = cc
knows_left shift others at buckets.Shared knows number leads left = cc

knows_at : (shift : ℕ) (table : List Bucket) (others : BTreeMap ℕ Meaning) → AreBuckets shift table others → (at : ℕ) → Knows shift others at (bucket_at table at)
knows_at shift table others placed at = knows_by shift others at (bucket_at table at) (placed.kept at) (λ number leads left. placed.left number (ap (λ k. leaves (bucket_at table k) number) leads ∙ left))

placed_by : (shift : ℕ) (table : List Bucket) (others : BTreeMap ℕ Meaning) → shift ≤ NO_BUCKETS → ((at : ℕ) → Knows shift others at (bucket_at table at)) → AreBuckets shift table others
placed_by shift table others few knows = record {
  few = few;
  kept = λ at. knows_kept shift others at (bucket_at table at) (knows at);
  left = λ number. knows_left shift others (bucket_of shift number) (bucket_at table (bucket_of shift number)) (knows (bucket_of shift number)) number refl;
}

-- ---- a bucket that is set

-- what holds of the new bucket at its index, of the old ones elsewhere, and of a bucket that is none
set_bucket : (table : List Bucket) (i j : ℕ) (bucket : Bucket) (P : Bucket → Type 0) → (j ≡ i → P bucket) → ((j ≡ i → ⊥) → P (bucket_at table j)) → (bucket_at table i ≡ buckets.Shared → P buckets.Shared)
    → P (bucket_at (set table i bucket) j)
set_bucket table i j bucket P here elsewhere unknown = by (j == i) (nat_lt i (length table)) refl refl
  where
    by : (same inside : Bool) → (j == i) ≡ same → nat_lt i (length table) ≡ inside → P (bucket_at (set table i bucket) j)
    by false inside e f =
        let apart = eqb-false j i e in
        subst P (sym (get_or-set_other table i j bucket buckets.Shared apart)) (elsewhere apart)
    by true true e f =
        let same = eqb-true j i e in
        subst P (ap (bucket_at (set table i bucket)) (sym same)) (subst P (sym (get_or-set_same table i bucket buckets.Shared (ltb-true i (length table) f))) (here same))
    by true false e f =
        let same = eqb-true j i e in
        let past = ltb-false i (length table) f in
        let long = length-set table i bucket in
        subst P (sym (get_or_past (set table i bucket) j buckets.Shared (omega (arith, past, long, same)))) (unknown (get_or_past table i buckets.Shared past))

-- a bucket that is free, or where the number stands alone
abbrev pub IsOwn : Bucket → ℕ → Type 0
IsOwn buckets.Free number = Unit {0}
IsOwn (buckets.Alone kept meaning) number = kept ≡ number
IsOwn (buckets.First kept meaning) number = ⊥
IsOwn buckets.Shared number = ⊥

own_has_none : (shift : ℕ) (others : BTreeMap ℕ Meaning) (at number : ℕ) (bucket : Bucket) → IsOwn bucket number → Knows shift others at bucket → HasNone shift others at
own_has_none shift others at number buckets.Free own is = is
own_has_none shift others at number (buckets.Alone kept meaning) own is = is.1
own_has_none shift others at number (buckets.First kept meaning) own is = absurd own
own_has_none shift others at number buckets.Shared own is = absurd own

-- what an own bucket tells of another number
own_tells : (bucket : Bucket) (number other : ℕ) (others : BTreeMap ℕ Meaning) → IsOwn bucket number → (number ≡ other → ⊥) → found_by bucket other others ≡ None
own_tells buckets.Free number other others own apart = refl
own_tells (buckets.Alone kept meaning) number other others own apart = same_or_other kept other (λ b. cond b (Some meaning) None ≡ None) (λ same. absurd (apart (sym own ∙ same))) (λ _. refl)
own_tells (buckets.First kept meaning) number other others own apart = absurd own
own_tells buckets.Shared number other others own apart = absurd own

own_not_shared : (bucket : Bucket) (number : ℕ) → IsOwn bucket number → bucket ≡ buckets.Shared → ⊥
own_not_shared bucket number own shared = subst (λ p. IsOwn p number) shared own

-- where a bucket tells the same of a number by two maps
found_still : (bucket : Bucket) (number : ℕ) (old new : BTreeMap ℕ Meaning) → get nat_cmp new number ≡ get nat_cmp old number → found_by bucket number new ≡ found_by bucket number old
found_still buckets.Free number old new same = refl
found_still (buckets.Alone kept meaning) number old new same = refl
found_still (buckets.First kept meaning) number old new same = ap (λ x. cond (kept == number) (Some meaning) x) same
found_still buckets.Shared number old new same = same

-- what is found after the bucket of a number is set, and the map has changed at that bucket alone
found_set : (shift n : ℕ) (table : List Bucket) (old new : BTreeMap ℕ Meaning) (now : Option Meaning) (bucket : Bucket)
    → ((o : ℕ) → bucket_of shift o ≡ bucket_of shift n → found_by bucket o new ≡ cond (n == o) now (found_by (bucket_at table (bucket_of shift o)) o old))
    → ((o : ℕ) → (bucket_of shift o ≡ bucket_of shift n → ⊥) → get nat_cmp new o ≡ get nat_cmp old o)
    → (bucket_at table (bucket_of shift n) ≡ buckets.Shared → ⊥)
    → Updates n now (found_short shift table old) (found_short shift (set table (bucket_of shift n) bucket) new)
found_set shift n table old new now bucket here elsewhere known o =
    set_bucket table (bucket_of shift n) (bucket_of shift o) bucket (λ p. found_by p o new ≡ cond (n == o) now (found_by (bucket_at table (bucket_of shift o)) o old))
    (here o)
    (λ apart. found_still (bucket_at table (bucket_of shift o)) o old new (elsewhere o apart)
    ∙ same_or_other n o (λ b. found_by (bucket_at table (bucket_of shift o)) o old ≡ cond b now (found_by (bucket_at table (bucket_of shift o)) o old)) (λ same. absurd (apart (ap (bucket_of shift) (sym same)))) (λ _. refl))
    (λ shared. absurd (known shared))

-- a number takes its own bucket
pub found_alone : (shift n : ℕ) (table : List Bucket) (others : BTreeMap ℕ Meaning) (meaning : Meaning) → IsOwn (bucket_at table (bucket_of shift n)) n
    → Updates n (Some meaning) (found_short shift table others) (found_short shift (set table (bucket_of shift n) (buckets.Alone n meaning)) others)
found_alone shift n table others meaning own =
    found_set shift n table others others (Some meaning) (buckets.Alone n meaning)
    (λ o leads. same_or_other n o (λ b. cond b (Some meaning) None ≡ cond b (Some meaning) (found_by (bucket_at table (bucket_of shift o)) o others))
    (λ _. refl)
    (λ apart. sym (own_tells (bucket_at table (bucket_of shift o)) n o others (subst (λ at. IsOwn (bucket_at table at) n) (sym leads) own) apart)))
    (λ o _. refl)
    (own_not_shared (bucket_at table (bucket_of shift n)) n own)

-- a number gives its own bucket up
pub found_free : (shift n : ℕ) (table : List Bucket) (others : BTreeMap ℕ Meaning) → IsOwn (bucket_at table (bucket_of shift n)) n
    → Updates n None (found_short shift table others) (found_short shift (set table (bucket_of shift n) buckets.Free) others)
found_free shift n table others own =
    found_set shift n table others others None buckets.Free
    (λ o leads. same_or_other n o (λ b. None ≡ cond b None (found_by (bucket_at table (bucket_of shift o)) o others))
    (λ _. refl)
    (λ apart. sym (own_tells (bucket_at table (bucket_of shift o)) n o others (subst (λ at. IsOwn (bucket_at table at) n) (sym leads) own) apart)))
    (λ o _. refl)
    (own_not_shared (bucket_at table (bucket_of shift n)) n own)

-- which buckets are not shared
abbrev pub IsTaken : Bucket → Type 0
IsTaken buckets.Free = ⊥
IsTaken (buckets.Alone kept meaning) = Unit {0}
IsTaken (buckets.First kept meaning) = Unit {0}
IsTaken buckets.Shared = ⊥

taken_not_shared : (bucket taken : Bucket) → IsTaken taken → bucket ≡ taken → bucket ≡ buckets.Shared → ⊥
taken_not_shared bucket taken is same shared = subst IsTaken (sym same ∙ shared) is

-- a number takes the bucket of one that stood there alone, and which the map has from now on
pub found_first : (shift n : ℕ) (table : List Bucket) (old new : BTreeMap ℕ Meaning) (meaning before : Meaning) (kept : ℕ) → AreBuckets shift table old
    → bucket_at table (bucket_of shift n) ≡ buckets.Alone kept before → UpdatesBy nat_cmp (nat_cmp kept) old new (Some before)
    → Updates n (Some meaning) (found_short shift table old) (found_short shift (set table (bucket_of shift n) (buckets.First n meaning)) new)
found_first shift n table old new meaning before kept placed is updates =
    let at = bucket_of shift n in
    let own : (bucket_of shift kept ≡ at) × HasNone shift old at = subst (Knows shift old at) is (knows_at shift table old placed at) in
    found_set shift n table old new (Some meaning) (buckets.First n meaning)
    (λ o leads. ap (λ x. cond (n == o) (Some meaning) x) (there o (own.1 o leads) ∙ ap (λ p. found_by p o old) (sym (ap (bucket_at table) leads ∙ is))))
    (λ o away. map_other kept o old new (Some before) updates (λ same. away (ap (bucket_of shift) (sym same) ∙ own.0)))
    (taken_not_shared (bucket_at table at) (buckets.Alone kept before) tt is)
  where
    there : (o : ℕ) → get nat_cmp old o ≡ None → get nat_cmp new o ≡ cond (kept == o) (Some before) None
    there o none = same_or_other kept o (λ b. get nat_cmp new o ≡ cond b (Some before) None) (λ same. map_same kept o old new (Some before) updates same) (λ apart. map_other kept o old new (Some before) updates apart ∙ none)

-- the number that stands first in its bucket gets another meaning
pub found_again : (shift n : ℕ) (table : List Bucket) (others : BTreeMap ℕ Meaning) (meaning before : Meaning) (kept : ℕ) → bucket_at table (bucket_of shift n) ≡ buckets.First kept before → kept ≡ n
    → Updates n (Some meaning) (found_short shift table others) (found_short shift (set table (bucket_of shift n) (buckets.First n meaning)) others)
found_again shift n table others meaning before kept is same =
    found_set shift n table others others (Some meaning) (buckets.First n meaning)
    (λ o leads. same_or_other n o (λ b. cond b (Some meaning) (get nat_cmp others o) ≡ cond b (Some meaning) (found_by (bucket_at table (bucket_of shift o)) o others))
    (λ _. refl)
    (λ apart. sym (ap (λ p. found_by p o others) (ap (bucket_at table) leads ∙ is) ∙ same_or_other kept o (λ b. cond b (Some before) (get nat_cmp others o) ≡ get nat_cmp others o) (λ e. absurd (apart (sym same ∙ e))) (λ _. refl))))
    (λ o _. refl)
    (taken_not_shared (bucket_at table (bucket_of shift n)) (buckets.First kept before) tt is)

-- and is taken out
pub found_left : (shift n : ℕ) (table : List Bucket) (others : BTreeMap ℕ Meaning) (before : Meaning) (kept : ℕ) → AreBuckets shift table others
    → bucket_at table (bucket_of shift n) ≡ buckets.First kept before → kept ≡ n → Updates n None (found_short shift table others) (found_short shift (set table (bucket_of shift n) buckets.Shared) others)
found_left shift n table others before kept placed is same =
    let at = bucket_of shift n in
    let own : (bucket_of shift kept ≡ at) × (get nat_cmp others kept ≡ None) = subst (Knows shift others at) is (knows_at shift table others placed at) in
    found_set shift n table others others None buckets.Shared
    (λ o leads. same_or_other n o (λ b. get nat_cmp others o ≡ cond b None (found_by (bucket_at table (bucket_of shift o)) o others))
    (λ e. ap (get nat_cmp others) (sym (same ∙ e)) ∙ own.1)
    (λ apart. sym (ap (λ p. found_by p o others) (ap (bucket_at table) leads ∙ is) ∙ same_or_other kept o (λ b. cond b (Some before) (get nat_cmp others o) ≡ get nat_cmp others o) (λ e. absurd (apart (sym same ∙ e))) (λ _. refl))))
    (λ o _. refl)
    (taken_not_shared (bucket_at table at) (buckets.First kept before) tt is)

-- a bucket that leaves a number to the map
abbrev pub IsMapped : Bucket → ℕ → Type 0
IsMapped buckets.Free number = ⊥
IsMapped (buckets.Alone kept meaning) number = ⊥
IsMapped (buckets.First kept meaning) number = kept ≡ number → ⊥
IsMapped buckets.Shared number = Unit {0}

mapped_tells : (bucket : Bucket) (n : ℕ) (others : BTreeMap ℕ Meaning) → IsMapped bucket n → found_by bucket n others ≡ get nat_cmp others n
mapped_tells buckets.Free n others mapped = absurd mapped
mapped_tells (buckets.Alone kept meaning) n others mapped = absurd mapped
mapped_tells (buckets.First kept meaning) n others mapped = same_or_other kept n (λ b. cond b (Some meaning) (get nat_cmp others n) ≡ get nat_cmp others n) (λ e. absurd (mapped e)) (λ _. refl)
mapped_tells buckets.Shared n others mapped = refl

-- the map changes at a number that is left to it
pub found_mapped : (shift n : ℕ) (table : List Bucket) (old new : BTreeMap ℕ Meaning) (now : Option Meaning) → IsMapped (bucket_at table (bucket_of shift n)) n
    → UpdatesBy nat_cmp (nat_cmp n) old new now → Updates n now (found_short shift table old) (found_short shift table new)
found_mapped shift n table old new now mapped updates o =
    same_or_other n o (λ b. found_short shift table new o ≡ cond b now (found_short shift table old o))
    (λ same. ap (found_short shift table new) (sym same) ∙ mapped_tells (bucket_at table (bucket_of shift n)) n new mapped ∙ updates.1)
    (λ apart. found_still (bucket_at table (bucket_of shift o)) o old new (map_other n o old new now updates apart))

-- a number that stands for nothing is taken out
pub found_nothing : (n : ℕ) (found : ℕ → Option Meaning) → found n ≡ None → Updates n None found found
found_nothing n found none o = same_or_other n o (λ b. found o ≡ cond b None (found o)) (λ same. ap found (sym same) ∙ none) (λ _. refl)

-- of a bucket where a number stands alone or first
pub alone_found : (shift n : ℕ) (table : List Bucket) (others : BTreeMap ℕ Meaning) (kept : ℕ) (meaning : Meaning) → bucket_at table (bucket_of shift n) ≡ buckets.Alone kept meaning → kept ≡ n
    → found_short shift table others n ≡ Some meaning
alone_found shift n table others kept meaning is same = ap (λ p. found_by p n others) is ∙ same_or_other kept n (λ b. cond b (Some meaning) None ≡ Some meaning) (λ _. refl) (λ apart. absurd (apart same))

pub first_found : (shift n : ℕ) (table : List Bucket) (others : BTreeMap ℕ Meaning) (kept : ℕ) (meaning : Meaning) → bucket_at table (bucket_of shift n) ≡ buckets.First kept meaning → kept ≡ n
    → found_short shift table others n ≡ Some meaning
first_found shift n table others kept meaning is same = ap (λ p. found_by p n others) is ∙ same_or_other kept n (λ b. cond b (Some meaning) (get nat_cmp others n) ≡ Some meaning) (λ _. refl) (λ apart. absurd (apart same))

-- of a bucket where another number stands alone
pub alone_tells : (shift n : ℕ) (table : List Bucket) (others : BTreeMap ℕ Meaning) (kept : ℕ) (meaning : Meaning) → bucket_at table (bucket_of shift n) ≡ buckets.Alone kept meaning → (kept ≡ n → ⊥)
    → found_short shift table others n ≡ None
alone_tells shift n table others kept meaning is apart = ap (λ p. found_by p n others) is ∙ same_or_other kept n (λ b. cond b (Some meaning) None ≡ None) (λ same. absurd (apart same)) (λ _. refl)

-- of a bucket where another one stands first
pub first_tells : (shift n : ℕ) (table : List Bucket) (others : BTreeMap ℕ Meaning) (kept : ℕ) (meaning : Meaning) → bucket_at table (bucket_of shift n) ≡ buckets.First kept meaning → (kept ≡ n → ⊥)
    → found_short shift table others n ≡ get nat_cmp others n
first_tells shift n table others kept meaning is apart = ap (λ p. found_by p n others) is ∙ same_or_other kept n (λ b. cond b (Some meaning) (get nat_cmp others n) ≡ get nat_cmp others n) (λ same. absurd (apart same)) (λ _. refl)

-- ---- what buckets know after a change

-- a bucket is set to one that knows what it must
buckets_set : (shift at : ℕ) (table : List Bucket) (others : BTreeMap ℕ Meaning) (bucket : Bucket) → AreBuckets shift table others → Knows shift others at bucket → AreBuckets shift (set table at bucket) others
buckets_set shift at table others bucket placed is =
    placed_by shift (set table at bucket) others placed.few (λ j.
    set_bucket table at j bucket (Knows shift others j) (λ same. subst (λ k. Knows shift others k bucket) (sym same) is) (λ _. knows_at shift table others placed j) (λ _. tt))

pub buckets_alone : (shift n : ℕ) (table : List Bucket) (others : BTreeMap ℕ Meaning) (meaning : Meaning) → AreBuckets shift table others → IsOwn (bucket_at table (bucket_of shift n)) n
    → AreBuckets shift (set table (bucket_of shift n) (buckets.Alone n meaning)) others
buckets_alone shift n table others meaning placed own =
    let at = bucket_of shift n in
    buckets_set shift at table others (buckets.Alone n meaning) placed (refl, own_has_none shift others at n (bucket_at table at) own (knows_at shift table others placed at))

pub buckets_free : (shift n : ℕ) (table : List Bucket) (others : BTreeMap ℕ Meaning) → AreBuckets shift table others → IsOwn (bucket_at table (bucket_of shift n)) n
    → AreBuckets shift (set table (bucket_of shift n) buckets.Free) others
buckets_free shift n table others placed own =
    let at = bucket_of shift n in
    buckets_set shift at table others buckets.Free placed (own_has_none shift others at n (bucket_at table at) own (knows_at shift table others placed at))

pub buckets_again : (shift n : ℕ) (table : List Bucket) (others : BTreeMap ℕ Meaning) (meaning before : Meaning) (kept : ℕ) → AreBuckets shift table others
    → bucket_at table (bucket_of shift n) ≡ buckets.First kept before → kept ≡ n → AreBuckets shift (set table (bucket_of shift n) (buckets.First n meaning)) others
buckets_again shift n table others meaning before kept placed is same =
    let at = bucket_of shift n in
    let own : (bucket_of shift kept ≡ at) × (get nat_cmp others kept ≡ None) = subst (Knows shift others at) is (knows_at shift table others placed at) in
    buckets_set shift at table others (buckets.First n meaning) placed (refl, ap (get nat_cmp others) (sym same) ∙ own.1)

pub buckets_shared : (shift at : ℕ) (table : List Bucket) (others : BTreeMap ℕ Meaning) → AreBuckets shift table others → AreBuckets shift (set table at buckets.Shared) others
buckets_shared shift at table others placed = buckets_set shift at table others buckets.Shared placed tt

-- a bucket to which the number does not lead at which the map has changed
still_none : (shift n at : ℕ) (old new : BTreeMap ℕ Meaning) (w : Option Meaning) → UpdatesBy nat_cmp (nat_cmp n) old new w → (at ≡ bucket_of shift n → ⊥) → HasNone shift old at → HasNone shift new at
still_none shift n at old new w updates away none o leads = map_other n o old new w updates (λ same. away (sym leads ∙ ap (bucket_of shift) (sym same))) ∙ none o leads

still : (shift n at : ℕ) (old new : BTreeMap ℕ Meaning) (w : Option Meaning) (bucket : Bucket) → UpdatesBy nat_cmp (nat_cmp n) old new w → (at ≡ bucket_of shift n → ⊥)
    → Knows shift old at bucket → Knows shift new at bucket
still shift n at old new w buckets.Free updates away is = still_none shift n at old new w updates away is
still shift n at old new w (buckets.Alone kept meaning) updates away is = (is.0, still_none shift n at old new w updates away is.1)
still shift n at old new w (buckets.First kept meaning) updates away is = (is.0, map_other n kept old new w updates (λ same. away (sym is.0 ∙ ap (bucket_of shift) (sym same))) ∙ is.1)
still shift n at old new w buckets.Shared updates away is = tt

-- the map changes at a number that is left to it
pub buckets_mapped : (shift n : ℕ) (table : List Bucket) (old new : BTreeMap ℕ Meaning) (w : Option Meaning) → AreBuckets shift table old → IsMapped (bucket_at table (bucket_of shift n)) n
    → UpdatesBy nat_cmp (nat_cmp n) old new w → AreBuckets shift table new
buckets_mapped shift n table old new w placed mapped updates =
    placed_by shift table new placed.few (λ at. each at (at == bucket_of shift n) refl)
  where
    here : (at : ℕ) (bucket : Bucket) → IsMapped bucket n → Knows shift old at bucket → Knows shift new at bucket
    here at buckets.Free mapped is = absurd mapped
    here at (buckets.Alone kept meaning) mapped is = absurd mapped
    here at (buckets.First kept meaning) mapped is = (is.0, map_other n kept old new w updates (λ same. mapped (sym same)) ∙ is.1)
    here at buckets.Shared mapped is = tt

    each : (at : ℕ) (b : Bool) → (at == bucket_of shift n) ≡ b → Knows shift new at (bucket_at table at)
    each at true e = here at (bucket_at table at) (subst (λ k. IsMapped (bucket_at table k) n) (sym (eqb-true at (bucket_of shift n) e)) mapped) (knows_at shift table old placed at)
    each at false e = still shift n at old new w (bucket_at table at) updates (eqb-false at (bucket_of shift n) e) (knows_at shift table old placed at)

-- a number takes the bucket of one that stood there alone, and which the map has from now on
pub buckets_first : (shift n : ℕ) (table : List Bucket) (old new : BTreeMap ℕ Meaning) (meaning before : Meaning) (kept : ℕ) → AreBuckets shift table old
    → bucket_at table (bucket_of shift n) ≡ buckets.Alone kept before → (kept ≡ n → ⊥) → UpdatesBy nat_cmp (nat_cmp kept) old new (Some before)
    → AreBuckets shift (set table (bucket_of shift n) (buckets.First n meaning)) new
buckets_first shift n table old new meaning before kept placed is apart updates =
    let at = bucket_of shift n in
    let own : (bucket_of shift kept ≡ at) × HasNone shift old at = subst (Knows shift old at) is (knows_at shift table old placed at) in
    placed_by shift (set table at (buckets.First n meaning)) new placed.few (λ j.
    set_bucket table at j (buckets.First n meaning) (Knows shift new j)
    (λ same. (sym same, map_other kept n old new (Some before) updates apart ∙ own.1 n refl))
    (λ away. still shift kept j old new (Some before) (bucket_at table j) updates (λ same. away (same ∙ own.0)) (knows_at shift table old placed j))
    (λ _. tt))

-- the map stays as it is
pub buckets_unchanged : (shift : ℕ) (table : List Bucket) (old new : BTreeMap ℕ Meaning) → AreBuckets shift table old → new.entries ≡ old.entries → AreBuckets shift table new
buckets_unchanged shift table old new placed same = record {
  few = placed.few;
  kept = placed.kept;
  left = λ number left. ap (λ entries. lookup (is_at (nat_cmp number)) entries) same ∙ placed.left number left;
}

-- a number that is left to the map is put there, if there is memory
pub buckets_inserted : {T E : Type 0} (shift n : ℕ) (table : List Bucket) (old new : BTreeMap ℕ Meaning) (w : Option Meaning) (inserted : Result T E) → AreBuckets shift table old
    → IsMapped (bucket_at table (bucket_of shift n)) n → OnOk inserted (UpdatesBy nat_cmp (nat_cmp n) old new w) → OnErr inserted (new.entries ≡ old.entries) → AreBuckets shift table new
buckets_inserted shift n table old new w (Ok x) placed mapped updates unchanged = buckets_mapped shift n table old new w placed mapped updates
buckets_inserted shift n table old new w (Err y) placed mapped updates unchanged = buckets_unchanged shift table old new placed unchanged

-- ---- a table in which each bucket is free

map_none : (others : BTreeMap ℕ Meaning) → others.entries ≡ [] → (o : ℕ) → get nat_cmp others o ≡ None
map_none others none o = ap (λ entries. lookup (is_at (nat_cmp o)) entries) none

-- what holds of a free bucket and of one that the table does not have
free_table : (count at : ℕ) (P : Bucket → Type 0) → P buckets.Free → P buckets.Shared → P (bucket_at (replicate count buckets.Free) at)
free_table count at P free shared = inside (nat_lt at count) refl
  where
    inside : (b : Bool) → nat_lt at count ≡ b → P (bucket_at (replicate count buckets.Free) at)
    inside true e = subst P (sym (get_or-replicate count at buckets.Free buckets.Shared (ltb-true at count e))) free
    inside false e =
        let past = ltb-false at count e in
        let long = length-replicate count buckets.Free in
        subst P (sym (get_or_past (replicate count buckets.Free) at buckets.Shared (omega (arith, past, long)))) shared

pub found_at_first : (shift count : ℕ) (table : List Bucket) (others : BTreeMap ℕ Meaning) → table ≡ replicate count buckets.Free → others.entries ≡ [] → (o : ℕ) → found_short shift table others o ≡ None
found_at_first shift count table others free none o =
    subst (λ t. found_short shift t others o ≡ None) (sym free) (free_table count (bucket_of shift o) (λ p. found_by p o others ≡ None) refl (map_none others none o))

-- a table that is filled up from nothing
pub filled_up : (k n : ℕ) (front table : List Bucket) → front ≡ [] → table ≡ take k front ++ replicate n buckets.Free → table ≡ replicate n buckets.Free
filled_up k n front table none filled = filled ∙ ap (λ xs. take k xs ++ replicate n buckets.Free) none ∙ ap (λ xs. xs ++ replicate n buckets.Free) (take-nil k)

-- ---- a wider table

-- what a bucket tells of a number by itself
abbrev pub alone_by : Bucket → ℕ → Option Meaning
alone_by bucket number = told_by bucket number None

-- and what the first k buckets tell
abbrev pub front_tells : (shift : ℕ) (table : List Bucket) (k number : ℕ) → Option Meaning
front_tells shift table k number = cond (nat_lt (bucket_of shift number) k) (alone_by (bucket_at table (bucket_of shift number)) number) None

-- before the first bucket
pub front_none : (shift : ℕ) (table : List Bucket) (o : ℕ) → front_tells shift table 0 o ≡ None
front_none shift table o = by (nat_lt (bucket_of shift o) 0) refl
  where
    by : (b : Bool) → nat_lt (bucket_of shift o) 0 ≡ b → cond b (alone_by (bucket_at table (bucket_of shift o)) o) None ≡ None
    by false e = refl
    by true e = absurd (omega (arith, ltb-true (bucket_of shift o) 0 e))

-- after the last one
pub front_whole : (shift : ℕ) (table : List Bucket) (k o : ℕ) → length table ≤ k → front_tells shift table k o ≡ alone_by (bucket_at table (bucket_of shift o)) o
front_whole shift table k o whole = by (nat_lt (bucket_of shift o) k) refl
  where
    by : (b : Bool) → nat_lt (bucket_of shift o) k ≡ b → cond b (alone_by (bucket_at table (bucket_of shift o)) o) None ≡ alone_by (bucket_at table (bucket_of shift o)) o
    by true e = refl
    by false e =
        let past = ltb-false (bucket_of shift o) k e in
        sym (ap (λ p. alone_by p o) (get_or_past table (bucket_of shift o) buckets.Shared (omega (arith, past, whole))))

-- one bucket more, at which this is told of the number
front_more : (shift : ℕ) (table : List Bucket) (k o : ℕ) (told : Option Meaning) → (bucket_of shift o ≡ k → told ≡ alone_by (bucket_at table k) o) → ((bucket_of shift o ≡ k → ⊥) → told ≡ front_tells shift table k o)
    → told ≡ front_tells shift table (k + 1) o
front_more shift table k o told here elsewhere = by (bucket_of shift o == k) (nat_lt (bucket_of shift o) k) (nat_lt (bucket_of shift o) (k + 1)) refl refl refl
  where
    tells : Option Meaning
    tells = alone_by (bucket_at table (bucket_of shift o)) o

    by : (same before after : Bool) → (bucket_of shift o == k) ≡ same → nat_lt (bucket_of shift o) k ≡ before → nat_lt (bucket_of shift o) (k + 1) ≡ after → told ≡ cond after tells None
    by true before true e f h =
        let same = eqb-true (bucket_of shift o) k e in
        here same ∙ ap (λ at. alone_by (bucket_at table at) o) (sym same)
    by true before false e f h =
        let same = eqb-true (bucket_of shift o) k e in
        absurd (omega (arith, same, ltb-false (bucket_of shift o) (k + 1) h))
    by false true true e f h = elsewhere (eqb-false (bucket_of shift o) k e) ∙ ap (λ b. cond b tells None) f
    by false false false e f h = elsewhere (eqb-false (bucket_of shift o) k e) ∙ ap (λ b. cond b tells None) f
    by false true false e f h = absurd (omega (arith, ltb-true (bucket_of shift o) k f, ltb-false (bucket_of shift o) (k + 1) h))
    by false false true e f h =
        let apart = eqb-false (bucket_of shift o) k e in
        absurd (apart (omega (arith, ltb-false (bucket_of shift o) k f, ltb-true (bucket_of shift o) (k + 1) h)))

not_before : (shift : ℕ) (table : List Bucket) (k o : ℕ) → bucket_of shift o ≡ k → front_tells shift table k o ≡ None
not_before shift table k o same = by (nat_lt (bucket_of shift o) k) refl
  where
    by : (b : Bool) → nat_lt (bucket_of shift o) k ≡ b → cond b (alone_by (bucket_at table (bucket_of shift o)) o) None ≡ None
    by false e = refl
    by true e = absurd (omega (arith, same, ltb-true (bucket_of shift o) k e))

-- a bucket tells nothing of a number that does not lead there
apart_tells : (shift : ℕ) (others : BTreeMap ℕ Meaning) (k o : ℕ) (x : Option Meaning) (bucket : Bucket) → Knows shift others k bucket → (bucket_of shift o ≡ k → ⊥) → told_by bucket o x ≡ x
apart_tells shift others k o x buckets.Free knows away = refl
apart_tells shift others k o x (buckets.Alone kept meaning) knows away = same_or_other kept o (λ b. cond b (Some meaning) x ≡ x) (λ same. absurd (away (ap (bucket_of shift) (sym same) ∙ knows.0))) (λ _. refl)
apart_tells shift others k o x (buckets.First kept meaning) knows away = same_or_other kept o (λ b. cond b (Some meaning) x ≡ x) (λ same. absurd (away (ap (bucket_of shift) (sym same) ∙ knows.0))) (λ _. refl)
apart_tells shift others k o x buckets.Shared knows away = refl

-- what the next bucket tells is put
pub front_next : (shift : ℕ) (table : List Bucket) (others : BTreeMap ℕ Meaning) (k : ℕ) (found after : ℕ → Option Meaning) → AreBuckets shift table others
    → ((o : ℕ) → after o ≡ told_by (bucket_at table k) o (found o)) → ((o : ℕ) → found o ≡ front_tells shift table k o)
    → (o : ℕ) → after o ≡ front_tells shift table (k + 1) o
front_next shift table others k found after placed put told o =
    front_more shift table k o (after o)
    (λ same. put o ∙ ap (told_by (bucket_at table k) o) (told o ∙ not_before shift table k o same))
    (λ away. put o ∙ apart_tells shift others k o (found o) (bucket_at table k) (knows_at shift table others placed k) away ∙ told o)

-- what is found of a number, unless it is still to come from the map
abbrev pub IsSpread : (shift : ℕ) (table : List Bucket) (others : BTreeMap ℕ Meaning) (rest : List (ℕ × Meaning)) (found : ℕ → Option Meaning) → Type 0
IsSpread shift table others rest found = (o : ℕ) → lookup (is_at (nat_cmp o)) rest ≡ None → found o ≡ or_else (get nat_cmp others o) (alone_by (bucket_at table (bucket_of shift o)) o)

pub spread_first : (shift : ℕ) (table : List Bucket) (others : BTreeMap ℕ Meaning) (k : ℕ) (found : ℕ → Option Meaning) → length table ≤ k → ((o : ℕ) → found o ≡ front_tells shift table k o)
    → IsSpread shift table others others.entries found
spread_first shift table others k found whole told o none = told o ∙ front_whole shift table k o whole ∙ ap (λ x. or_else x (alone_by (bucket_at table (bucket_of shift o)) o)) (sym none)

pub spread_next : (shift : ℕ) (table : List Bucket) (others : BTreeMap ℕ Meaning) (next : ℕ × Meaning) (rest : List (ℕ × Meaning)) (found after : ℕ → Option Meaning)
    → IsSpread shift table others (next ∷ rest) found → get nat_cmp others next.0 ≡ Some next.1 → Updates next.0 (Some next.1) found after → IsSpread shift table others rest after
spread_next shift table others next rest found after told has put o none =
    put o ∙ same_or_other next.0 o (λ b. cond b (Some next.1) (found o) ≡ or_else (get nat_cmp others o) (alone_by (bucket_at table (bucket_of shift o)) o))
    (λ same. ap (λ x. or_else x (alone_by (bucket_at table (bucket_of shift o)) o)) (sym has ∙ ap (get nat_cmp others) same))
    (λ apart. told o (ap (λ b. cond b (Some next.1) (lookup (is_at (nat_cmp o)) rest)) (apart_in_map o next.0 (λ same. apart (sym same))) ∙ none))

pub spread_last : (shift : ℕ) (table : List Bucket) (others : BTreeMap ℕ Meaning) (found : ℕ → Option Meaning) → AreBuckets shift table others → IsSpread shift table others [] found
    → (o : ℕ) → found o ≡ found_short shift table others o
spread_last shift table others found placed told o = told o refl ∙ by (bucket_at table (bucket_of shift o)) (knows_at shift table others placed (bucket_of shift o))
  where
    whatever : (x : Option Meaning) → or_else x None ≡ x
    whatever (Some y) = refl
    whatever None = refl

    by : (bucket : Bucket) → Knows shift others (bucket_of shift o) bucket → or_else (get nat_cmp others o) (alone_by bucket o) ≡ found_by bucket o others
    by buckets.Free is = ap (λ x. or_else x None) (is o refl)
    by (buckets.Alone kept meaning) is = ap (λ x. or_else x (cond (kept == o) (Some meaning) None)) (is.1 o refl)
    by (buckets.First kept meaning) is = same_or_other kept o (λ b. or_else (get nat_cmp others o) (cond b (Some meaning) None) ≡ cond b (Some meaning) (get nat_cmp others o))
        (λ same. ap (λ x. or_else x (Some meaning)) (ap (get nat_cmp others) (sym same) ∙ is.1))
        (λ _. whatever (get nat_cmp others o))
    by buckets.Shared is = whatever (get nat_cmp others o)
