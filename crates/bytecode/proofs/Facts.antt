-- What hierarchies, policies and labels that fit the format are.
use Rattle.std.proofs.Common.{◌≡◌, ◌≢◌, ℕ, ◌+◌, ◌-◌, ◌<◌, ◌≤◌, Bool, true, false, not, ◌&&◌, ◌||◌, eqb, List, [], ◌∷◌, ◌++◌, length, get_or, All, Option, Some, Ok, refl, sym, ap, subst, ◌∙◌, append_assoc, length-append, arith, inl, inr, leb-true}
use Rattle.std.specs.Prelude.{bytes_eq, Contains, slice_get}
use Rattle.std.specs.List.{AllByRecursion}
use Rattle.std.specs.List.Sorted.{IsStrictlyIncreasing, IsStrictlySortedBy}
use Rattle.std.specs.Ordering.{is_lt, nat_cmp}
use Rattle.std.specs.declared.cmp.Ordering.{Ordering}
use Rattle.std.specs.declared.cmp.Ordering.TheVariants.{Less, Equal, Greater}
use Rattle.std.proofs.lemmas.Bool.{ltb-true, eq-eqb, cases_lt, not-true}
use Rattle.std.proofs.lemmas.Cmp.{nat_cmp_total}
use Rattle.std.proofs.lemmas.List.{append-nil, get_or_push, get_or_append_left}
use Rattle.std.proofs.lemmas.List.Elements.{All-push, All-from_recursion}
use Rattle.std.proofs.lemmas.List.Quantifiers.{all_pairs_push}
use Rattle.std.proofs.lemmas.Map.Keys.{sorted_from_all_adjacent, IsStrictlyIncreasing-from_sorted}
use Rattle.std.specs.Option.{option_map_or}
use Rattle.std.proofs.lemmas.Option.{slice_get-get_or}
use Rattle.std.proofs.lemmas.Slice.Eq.{bytes_eq-Decides}
use Rattle.std.proofs.lemmas.Str.{IsUtf8-from_is_utf8}
use Rattle.common.specs.declared.fault.OrNoMemory.{OrNoMemory}
use Rattle.common.specs.declared.fault.OrNoMemory.TheVariants.{NoMemory, Refused}
use Rattle.modules.specs.declared.fault.ReadRefusal.{ReadRefusal}
use Rattle.bytecode.proofs.Loop.{ReadingFails}
use Rattle.principals.specs.ActsFor.{PrincipalHierarchy, AllDifferent, AllBelow}
use Rattle.principals.specs.Named.{IsKeptName}
use Rattle.labels.proofs.Ascending.{sorted_nil}
use Rattle.labels.specs.Label.{Label}
use Rattle.labels.specs.Canonical.{policy_cmp, IsCanonicalPolicy}
use Rattle.labels.specs.PolicyOrder.{policy_cmp-total}
use Rattle.modules.specs.ByteFormat.{Fits, FitEach, Counted, Named, Then, read}
use Rattle.bytecode.proofs.Steps.{IsBytes}
use Rattle.bytecode.proofs.Taken.{taken}
use Rattle.bytecode.proofs.Lawful.{number_below-coherent, principals-coherent, pair_after-coherent}
use Rattle.modules.specs.Format.{any, hierarchy, is_above, is_among, name_after, number_below, policy, label}
use Rattle.modules.specs.FormatParts.{principals, pair_after, reader_after, policy_after}

-- ---- along a list, each element after those before it

along : {A : Type 0} (P : List A → A → Type 0) (Q : List A → Type 0) → ((before : List A) (x : A) → Q before → P before x → Q (before ++ x ∷ [])) → (before xs : List A) → Q before → FitEach P before xs → Q (before ++ xs)
along P Q more before [] q fits = subst Q (sym (append-nil before)) q
along P Q more before (x ∷ xs) q fits = subst Q (append_assoc before (x ∷ []) xs) (along P Q more (before ++ x ∷ []) xs (more before x q fits.0) fits.1)

first : (a b : Bool) → (a && b) ≡ true → a ≡ true
first true b h = refl
first false b h = absurd cc

second : (a b : Bool) → (a && b) ≡ true → b ≡ true
second true b h = h
second false b h = absurd cc

neither : (a b : Bool) → (a || b) ≡ false → b ≡ false
neither true b h = absurd cc
neither false b h = h

less : (o : Ordering) → is_lt o ≡ true → o ≡ Less
less Less h = refl
less Equal h = absurd cc
less Greater h = absurd cc

-- ---- ascending lists

-- each element is below the next
abbrev Ascends : {A : Type 0} → (A → A → Ordering) → List A → Type 0
Ascends {A} cmp xs = (k : ℕ) (d : A) → k + 1 < length xs → cmp (get_or xs k d) (get_or xs (k + 1) d) ≡ Less

above_last : {A : Type 0} (cmp : A → A → Ordering) (before : List A) (x d : A) (k : ℕ) → is_above cmp before x ≡ true → k + 1 ≡ length before → cmp (get_or before k d) x ≡ Less
above_last {A} cmp before x d k h last =
    let here : slice_get before (length before - 1) ≡ Some (get_or before k d) = ap (slice_get before) (omega (arith, last)) ∙ slice_get-get_or before k d (omega (arith, last)) in
    less _ (ap (λ (o : Option A). option_map_or (λ y. is_lt (cmp y x)) o true) (sym here) ∙ h)

ascends_more : {A : Type 0} (cmp : A → A → Ordering) (before : List A) (x : A) → Ascends cmp before → is_above cmp before x ≡ true → Ascends cmp (before ++ x ∷ [])
ascends_more cmp before x so_far h k d lt =
    let size : length (before ++ x ∷ []) ≡ length before + 1 = length-append before (x ∷ []) in
    elim (cases_lt (k + 1) (length before)) [
      | inl inside ↦ rw (get_or_append_left before (x ∷ []) d k (omega (arith, inside)), get_or_append_left before (x ∷ []) d (k + 1) inside) (so_far k d inside)
      | inr outside ↦
          let last : k + 1 ≡ length before = omega (arith, size, lt, outside) in
          rw (get_or_append_left before (x ∷ []) d k (omega (arith, last)), get_or_push before x d (k + 1) (sym last)) (above_last cmp before x d k h last)
    ]

-- ---- the hierarchy

not_among : (names : List (List ℕ)) (name : List ℕ) → is_among names name ≡ false → AllByRecursion (λ other. other ≢ name) names
not_among [] name h = tt
not_among (other ∷ names) name h = (differs (bytes_eq other name) refl h, not_among names name (neither _ _ h))
  where
    differs : (b : Bool) → bytes_eq other name ≡ b → (b || is_among names name) ≡ false → other ≢ name
    differs true e h = absurd cc
    differs false e h = λ same. cc (e, (bytes_eq-Decides other name).1 same)

pub principals-few : (names : List (List ℕ)) → Fits principals names → length names ≤ 256
unfolding principals
principals-few names h = leb-true _ _ h.1

pub principals-different : (names : List (List ℕ)) → Fits principals names → AllDifferent names
unfolding principals name_after
principals-different names h =
    along _ AllDifferent (λ before x different fits. all_pairs_push (λ one other. one ≢ other) before x different (All-from_recursion (λ other. other ≢ x) before (not_among before x (neither false _ (not-true _ (second _ _ fits.1))))))
    [] names (λ i j d below inside. absurd (omega arith)) h.2

pub principals-kept : (names : List (List ℕ)) → Fits principals names → All IsKeptName names
unfolding principals name_after
principals-kept names h =
    along _ (All IsKeptName) (λ before x kept fits. All-push IsKeptName before x kept (record {
      named = second _ _ (first _ _ fits.1);
      characters = IsUtf8-from_is_utf8 x (first _ _ (first _ _ fits.1));
      short = omega (arith, fits.0);
    })) [] names (λ k d inside. absurd (omega arith)) h.2

pub pairs-there : (count : ℕ) (pairs : List (ℕ × ℕ)) → FitEach (λ before x. Fits (pair_after count before) x) [] pairs → AllBelow count pairs
unfolding pair_after number_below
pairs-there count pairs h =
    along _ (AllBelow count) (λ before x there fits. All-push (λ (pair : ℕ × ℕ). (pair.0 < count) × (pair.1 < count)) before x there (ltb-true _ _ fits.0.0.1, ltb-true _ _ fits.0.1.1)) [] pairs (λ k d inside. absurd (omega arith)) h

-- ---- labels

pub readers-ascend : (count owner : ℕ) (readers : List ℕ) → FitEach (λ before x. Fits (reader_after count owner before) x) [] readers → IsStrictlyIncreasing readers
unfolding reader_after
readers-ascend count owner readers h =
    let ascends = along _ (Ascends nat_cmp) (λ before x so_far fits. ascends_more nat_cmp before x so_far fits.1) [] readers (λ k d inside. absurd (omega arith)) h in
    IsStrictlyIncreasing-from_sorted readers (sorted_from_all_adjacent nat_cmp_total readers 0 (λ k inside. ascends k 0 inside))

not_owner : (x owner : ℕ) → not (eqb x owner) ≡ true → x ≢ owner
not_owner x owner h =
    let differs : eqb x owner ≡ false = not-true (eqb x owner) h in
    λ same. cc (eq-eqb x owner same, differs)

pub owner-left_out : (count owner : ℕ) (readers : List ℕ) → FitEach (λ before x. Fits (reader_after count owner before) x) [] readers → All (λ reader. reader ≢ owner) readers
unfolding reader_after
owner-left_out count owner readers h =
    along _ (λ (xs : List ℕ). All (λ reader. reader ≢ owner) xs) (λ before x others fits. All-push (λ (reader : ℕ). reader ≢ owner) before x others (not_owner x owner fits.0.1)) [] readers (λ k d inside. absurd (omega arith)) h

pub no_owner : (owner : ℕ) (readers : List ℕ) → All (λ reader. reader ≢ owner) readers → ¬ Contains readers owner
no_owner owner readers h found = h found.0 owner found.1 found.2

pub policies-ascend : (count : ℕ) (policies : Label) → Fits (label count) policies → IsStrictlySortedBy policy_cmp policies
unfolding label policy_after
policies-ascend count [] h = sorted_nil policy_cmp
policies-ascend count (p ∷ policies) h =
    let ascends = along _ (Ascends policy_cmp) (λ before x so_far fits. ascends_more policy_cmp before x so_far fits.1) [] (p ∷ policies) (λ k d inside. absurd (omega arith)) h.2 in
    sorted_from_all_adjacent policy_cmp-total (p ∷ policies) p (λ k inside. ascends k p inside)

pub policies-canonical : (count : ℕ) (policies : Label) → Fits (label count) policies → All IsCanonicalPolicy policies
unfolding label policy policy_after reader_after
policies-canonical count policies h =
    along _ (λ (xs : Label). All IsCanonicalPolicy xs) (λ before x canonical fits. All-push IsCanonicalPolicy before x canonical (record {
      readers_ascend = readers-ascend count x.owner x.readers fits.0.0.1.2;
      owner_left_out = no_owner x.owner x.readers (owner-left_out count x.owner x.readers fits.0.0.1.2);
    })) [] policies (λ k d inside. absurd (omega arith)) h.2

-- ---- what was read

pub readers-read : (count owner : ℕ) (bytes rest : List ℕ) (readers after : List ℕ) → IsBytes bytes → read (number_below count) bytes ≡ Ok (owner, rest) → read (Counted any (reader_after count owner)) rest ≡ Ok (readers, after)
    → IsCanonicalPolicy (record { owner = owner; readers = readers })
unfolding reader_after
readers-read count owner bytes rest readers after fits e f =
    let t = taken (number_below count) (number_below-coherent count) bytes owner rest fits e in
    let u = taken (Counted any (reader_after count owner)) (λ before. number_below-coherent count) rest readers after t.after f in
    record {
      readers_ascend = readers-ascend count owner readers u.fits.2;
      owner_left_out = no_owner owner readers (owner-left_out count owner readers u.fits.2);
    }

-- the names of a hierarchy, which are few and differ, and its pairs, whose principals are there
pub record IsHierarchy (names : List (List ℕ)) (pairs : List (ℕ × ℕ)) : Type 0 where
  pub few : length names ≤ 256
  pub different : AllDifferent names
  pub there : AllBelow (length names) pairs

pub names-read : (bytes : List ℕ) (names : List (List ℕ)) (rest : List ℕ) → IsBytes bytes → read principals bytes ≡ Ok (names, rest) → length names ≤ 256
names-read bytes names rest fits e = principals-few names (taken principals principals-coherent bytes names rest fits e).fits

pub names-kept : (bytes : List ℕ) (names : List (List ℕ)) (rest : List ℕ) → IsBytes bytes → read principals bytes ≡ Ok (names, rest) → All IsKeptName names
names-kept bytes names rest fits e = principals-kept names (taken principals principals-coherent bytes names rest fits e).fits

pub pairs-read : (bytes : List ℕ) (names : List (List ℕ)) (rest : List ℕ) (pairs : List (ℕ × ℕ)) (after : List ℕ) → IsBytes bytes → read principals bytes ≡ Ok (names, rest) → read (Counted any (pair_after (length names))) rest ≡ Ok (pairs, after) → IsHierarchy names pairs
pairs-read bytes names rest pairs after fits e f =
    let t = taken principals principals-coherent bytes names rest fits e in
    let u = taken (Counted any (pair_after (length names))) (λ before. pair_after-coherent (length names) before) rest pairs after t.after f in
    record {
      few = principals-few names t.fits;
      different = principals-different names t.fits;
      there = pairs-there (length names) pairs u.fits.2;
    }

hierarchy-is : hierarchy ≡ Named (λ fields. record { names = fields.0; pairs = fields.1 }) (λ h. (h.names, h.pairs)) (Then principals (λ names. Counted any (pair_after (length names))))
unfolding hierarchy principals pair_after
hierarchy-is = refl

pub hierarchy-read : (bytes : List ℕ) (names : List (List ℕ)) (rest : List ℕ) (pairs : List (ℕ × ℕ)) (after : List ℕ) (h : PrincipalHierarchy) → read principals bytes ≡ Ok (names, rest) → read (Counted any (pair_after (length names))) rest ≡ Ok (pairs, after)
    → h.names ≡ names → h.pairs ≡ pairs → read hierarchy bytes ≡ Ok (h, after)
hierarchy-read bytes names rest pairs after h e f n p =
    let made : read hierarchy bytes ≡ Ok (record { names = names; pairs = pairs }, after) = rw (hierarchy-is, e, f) refl in
    made ∙ (λ i. Ok (record { names = sym n i; pairs = sym p i }, after))

pub hierarchy-fails : (e : OrNoMemory ReadRefusal) (bytes : List ℕ) (names : List (List ℕ)) (rest : List ℕ) → read principals bytes ≡ Ok (names, rest) → ReadingFails e (read (Counted any (pair_after (length names))) rest) → ReadingFails e (read hierarchy bytes)
hierarchy-fails NoMemory bytes names rest e f = tt
hierarchy-fails (Refused stop) bytes names rest e f = rw (hierarchy-is, e, f) refl
