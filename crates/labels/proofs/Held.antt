-- Labels that are held as their texts say: which policies a whole label has, and what stays when one more entry is added.
use Rattle.std.proofs.Common.{◌≡◌, refl, sym, ap, ◌∙◌, subst, ℕ, zero, suc, ◌+◌, ◌<◌, ◌≤◌, ◌^◌, length, set, take, get_or, replicate, List, [], ◌∷◌, ◌++◌, Bool, true, false, nat_eq, map, arith, ◌||◌, ◌↔◌, ◌⊎◌, ⊎_elim, None}
use Rattle.std.specs.Prelude.{All, Contains, IsTrue, if◌then◌else◌, not, ◌==◌}
use Rattle.std.proofs.Math.Seq.{get_or-append_seam}
use Rattle.std.proofs.lemmas.Bool.{cases_lt, eq-eqb, eqb-true, eqb-false, ne_eqb, or_left, or_right, or_cases}
use Rattle.std.proofs.lemmas.Grind.{get_or-set_at}
use Rattle.std.proofs.lemmas.List.{append-nil, get_or-set_other, length-map, length_push, take_more}
use Rattle.std.proofs.lemmas.List.Elements.{All-append, All-contains, All-nil, Contains-append_left, Contains-append_right, Contains-append_cases}
use Rattle.common.proofs.Elements.{none_in_nil, Contains-cons_cases, Contains-later, Contains-first}
use Rattle.principals.specs.ActsFor.{PrincipalHierarchy}
use Rattle.labels.specs.Canonical.{IsCanonicalPolicy, written_label}
use Rattle.labels.specs.Entries.{AreEntries, ArePoliciesGathered, IsHeldAs, IsOnlyName, IsTable, labels_in, made_of, own_at, own_of, policies_in, row_at, row_of, some_made_of, whole}
use Rattle.labels.specs.Label.{Covers, FlowsTo, Label, covers, PolicyFlowsTo, ReaderPolicy}
use Rattle.labels.specs.LabelTable.{Extends, IsLabelTable, label_at, labels_of}
use Rattle.labels.specs.PolicyOrder.{label_eq, policy_cmp-total}
use Rattle.labels.specs.Row.{FirstBeyond, IsFirstBeyond, has}
use Rattle.labels.specs.Sets.{SameSet}
use Rattle.labels.specs.declared.entries.Entry.{Entry}
use Rattle.labels.proofs.Ascending.{SameSet-trans, ascending_set-sorted, ascending_set-unique}
use Rattle.labels.proofs.Elements.{All-from_each, Any-elim, Any-from_some, each_from_All}
use Rattle.labels.proofs.Flow.{FlowsTo-subset}
use Rattle.labels.proofs.Order.{policy_cmp-exact}
use Rattle.labels.proofs.Tests.{covers-decides}
use Rattle.labels.proofs.Written.{SameSet-written, label_eq-decides}

-- ---- sets of policies

pub written-same : (xs ys : List ReaderPolicy) → SameSet xs ys → written_label xs ≡ written_label ys
written-same xs ys same =
    ascending_set-unique policy_cmp-total policy_cmp-exact ys (written_label xs) (ascending_set-sorted policy_cmp-total xs)
    (SameSet-trans (written_label xs) xs ys (SameSet-written xs) same)

chosen-in : (t : Bool) (xs : List ReaderPolicy) (x : ReaderPolicy) → Contains (if t then xs else []) x → IsTrue t × Contains xs x
chosen-in true xs x there = (refl, there)
chosen-in false xs x there = absurd (none_in_nil x there)

chosen-has : (t : Bool) (xs : List ReaderPolicy) (x : ReaderPolicy) → IsTrue t → Contains xs x → Contains (if t then xs else []) x
chosen-has true xs x holds there = there
chosen-has false xs x holds there = absurd (let no : false ≡ true = holds in cc)

-- ---- rows

pub has-beyond : (row : List Bool) (i : ℕ) → length row ≤ i → has row i ≡ false
has-beyond [] i h = refl
has-beyond (b ∷ row) zero h = absurd (omega (arith, h))
has-beyond (b ∷ row) (suc i) h = has-beyond row i (omega (arith, h))

pub has-inside : (row : List Bool) (i : ℕ) → IsTrue (has row i) → i < length row
has-inside row i holds = ⊎_elim (λ (lt : i < length row). lt) (λ (ge : length row ≤ i). absurd (let no : false ≡ true = sym (has-beyond row i ge) ∙ holds in cc)) (cases_lt i (length row))

pub no-row : (es : List Entry) (n : ℕ) → length es ≤ n → row_at es n ≡ []
no-row [] n h = refl
no-row (e ∷ es) zero h = absurd (omega (arith, h))
no-row (e ∷ es) (suc n) h = no-row es n (omega (arith, h))

pub row-short : (es : List Entry) → AreEntries es → (n : ℕ) → length (row_at es n) ≤ length es
row-short es are n = ⊎_elim (λ (lt : n < length es). omega (arith, lt, are.short n)) (λ (ge : length es ≤ n). rw (no-row es n ge) (omega arith)) (cases_lt n (length es))

-- a number in the row of a label is that of an earlier one
pub part-inside : (es : List Entry) (label part : ℕ) (row : List Bool) → AreEntries es → label < length es → row_at es label ≡ row → part < length row → part < length es
part-inside es label part row are inside is h = let short = are.short label in omega (arith, h, inside, short, ap length is)

pub next-fits : (es : List Entry) (part : ℕ) → AreEntries es → part < length es → part + 1 < 2 ^ 64
next-fits es part are inside = omega (arith, are.few, inside)

-- a number in the row of a label is of one that it is made of
pub made-in_row : (es : List Entry) (label part : ℕ) (row : List Bool) → row_at es label ≡ row → IsTrue (has row part) → IsTrue (made_of es label part)
made-in_row es label part row is holds = or_right (part == label) (has (row_at es label) part) (ap (λ r. has r part) is ∙ holds)

pub made-itself : (es : List Entry) (label : ℕ) → IsTrue (made_of es label label)
made-itself es label = or_left (label == label) (has (row_at es label) label) (eq-eqb label label refl)

-- what holds of a label and of all in its row holds of all that it is made of
pub each-made : (P : ℕ → Type 0) (es : List Entry) (label : ℕ) (row : List Bool) → row_at es label ≡ row → P label → ((part : ℕ) → IsTrue (has row part) → P part) →
    (part : ℕ) → IsTrue (made_of es label part) → P part
each-made P es label row is itself each part made =
    ⊎_elim (λ same. subst P (sym (eqb-true part label same)) itself) (λ held. each part (sym (ap (λ r. has r part) is) ∙ held))
    (or_cases (part == label) (has (row_at es label) part) made)

-- what holds of all in a row below a number, and of the next one, holds of all below the one after that
pub each-more : (P : ℕ → Type 0) (row other : List Bool) (from part : ℕ) → IsFirstBeyond row other from part →
    ((n : ℕ) → n < from → IsTrue (has row n) → P n) → ((n : ℕ) → IsTrue (has other n) → P n) → P part → (n : ℕ) → n < part + 1 → IsTrue (has row n) → P n
each-more P row other from part first each among this n lt held =
    ⊎_elim
    (λ (before : n < from). each n before held)
    (λ (on : from ≤ n).
    ⊎_elim
    (λ (between : n < part). among n (first.before n on between held))
    (λ (at : part ≤ n). let is : n ≡ part = omega (arith, lt, at) in subst P (sym is) this)
    (cases_lt n part))
    (cases_lt n from)

pub each-all : (P : ℕ → Type 0) (row other : List Bool) (from : ℕ) → FirstBeyond row other from None →
    ((n : ℕ) → n < from → IsTrue (has row n) → P n) → ((n : ℕ) → IsTrue (has other n) → P n) → (n : ℕ) → IsTrue (has row n) → P n
each-all P row other from none each among n held =
    ⊎_elim (λ (before : n < from). each n before held)
    (λ (on : from ≤ n). among n (none n on (has-inside row n held) held))
    (cases_lt n from)

pub among-none : (P : ℕ → Type 0) (n : ℕ) → IsTrue (has [] n) → P n
among-none P n held = absurd (let no : false ≡ true = held in cc)

-- the entry with a number
pub row-held : (es : List Entry) (n : ℕ) (e : Entry) → n < length es → e ≡ get_or es n e → row_at es n ≡ row_of e
row-held [] n e h is = absurd (omega (arith, h))
row-held (x ∷ es) zero e h is = ap row_of (sym is)
row-held (x ∷ es) (suc n) e h is = row-held es n e (omega (arith, h)) is

pub own-held : (es : List Entry) (n : ℕ) (e : Entry) → n < length es → e ≡ get_or es n e → own_at es n ≡ own_of e
own-held [] n e h is = absurd (omega (arith, h))
own-held (x ∷ es) zero e h is = ap own_of (sym is)
own-held (x ∷ es) (suc n) e h is = own-held es n e (omega (arith, h)) is

pub has-set : (row : List Bool) (i k : ℕ) → i < length row → has (set row i true) k ≡ (k == i || has row k)
has-set row i k h = at (nat_eq k i) refl
  where
    at : (t : Bool) → nat_eq k i ≡ t → has (set row i true) k ≡ (k == i || has row k)
    at true e = rw e (get_or-set_at row i k true false (eqb-true k i e) h)
    at false e = rw e (get_or-set_other row i k true false (eqb-false k i e))

pub has-none : (n k : ℕ) → has (replicate n false) k ≡ false
has-none zero k = refl
has-none (suc n) zero = refl
has-none (suc n) (suc k) = has-none n k

or-round : (a b c : Bool) → ((a || b) || c) ≡ (b || (a || c))
or-round true true c = refl
or-round true false c = refl
or-round false true c = refl
or-round false false c = refl

or-again : (a b c : Bool) → ((a || b) || c) ≡ (a || (b || c))
or-again true b c = refl
or-again false b c = refl

pub or-none : (a : Bool) → (a || false) ≡ a
or-none true = refl
or-none false = refl

-- a label and its row are added, and a label without one
pub parts-added : (es : List Entry) (label part : ℕ) (old more new : List Bool) → label < length old → row_at es label ≡ more →
    has new part ≡ (has (set old label true) part || has more part) → has new part ≡ (has old part || made_of es label part)
parts-added es label part old more new room row is =
    is ∙ (ap (λ t. t || has more part) (has-set old label part room)
    ∙ (or-round (part == label) (has old part) (has more part) ∙ ap (λ r. has old part || (part == label || has r part)) (sym row)))

pub part-added : (es : List Entry) (label part : ℕ) (old : List Bool) → label < length old → row_at es label ≡ [] →
    has (set old label true) part ≡ (has old part || made_of es label part)
part-added es label part old room row =
    parts-added es label part old [] (set old label true) room row (sym (or-none (has (set old label true) part)))

-- one more label
some-last : (es : List Entry) (ns : List ℕ) (n part : ℕ) → some_made_of es (ns ++ n ∷ []) part ≡ (some_made_of es ns part || made_of es n part)
some-last es [] n part = or-none (made_of es n part)
some-last es (m ∷ ns) n part = ap (λ t. made_of es m part || t) (some-last es ns n part) ∙ sym (or-again (made_of es m part) (some_made_of es ns part) (made_of es n part))

pub some-more : (es : List Entry) (ns : List ℕ) (i d part : ℕ) → i < length ns →
    some_made_of es (take (i + 1) ns) part ≡ (some_made_of es (take i ns) part || made_of es (get_or ns i d) part)
some-more es ns i d part h = ap (λ xs. some_made_of es xs part) (take_more ns i d h) ∙ some-last es (take i ns) (get_or ns i d) part

-- one that is not there
pub none-made : (es : List Entry) (label part : ℕ) → length es ≤ label → part < length es → made_of es label part ≡ false
none-made es label part beyond inside =
    let apart : nat_eq part label ≡ false = ne_eqb part label (λ e. omega (arith, e, beyond, inside)) in
    rw (apart, no-row es label beyond) refl

-- ---- the policies of the entries in a row

in-row : (row : List Bool) (from : ℕ) (es : List Entry) (x : ReaderPolicy) → Contains (policies_in row from es) x → (part : ℕ) × IsTrue (has row (from + part)) × Contains (own_at es part) x
in-row row from [] x there = absurd (none_in_nil x there)
in-row row from (e ∷ es) x there =
    ⊎_elim
    (λ here.
    let both = chosen-in (has row from) (own_of e) x here in
    let at : from ≡ from + 0 = omega arith in
    (zero, subst (λ n. IsTrue (has row n)) at both.0, both.1))
    (λ later.
    let found = in-row row (suc from) es x later in
    let at : suc from + found.0 ≡ from + suc found.0 = omega arith in
    (suc found.0, subst (λ n. IsTrue (has row n)) at found.1, found.2))
    (Contains-append_cases (if has row from then own_of e else []) (policies_in row (suc from) es) x there)

row-in : (row : List Bool) (from : ℕ) (es : List Entry) (part : ℕ) (x : ReaderPolicy) → IsTrue (has row (from + part)) → Contains (own_at es part) x → Contains (policies_in row from es) x
row-in row from [] part x holds there = absurd (none_in_nil x there)
row-in row from (e ∷ es) zero x holds there =
    let at : from + 0 ≡ from = omega arith in
    Contains-append_left (if has row from then own_of e else []) (policies_in row (suc from) es) x
    (chosen-has (has row from) (own_of e) x (subst (λ n. IsTrue (has row n)) at holds) there)
row-in row from (e ∷ es) (suc part) x holds there =
    let at : from + suc part ≡ suc from + part = omega arith in
    Contains-append_right (if has row from then own_of e else []) (policies_in row (suc from) es) x
    (row-in row (suc from) es part x (subst (λ n. IsTrue (has row n)) at holds) there)

no-policies : (from : ℕ) (es : List Entry) → policies_in [] from es ≡ []
no-policies from [] = refl
no-policies from (e ∷ es) = no-policies (suc from) es

own-inside : (es : List Entry) (n : ℕ) (x : ReaderPolicy) → Contains (own_at es n) x → n < length es
own-inside [] n x there = absurd (none_in_nil x there)
own-inside (e ∷ es) zero x there = omega arith
own-inside (e ∷ es) (suc n) x there = let rest = own-inside es n x there in omega (arith, rest)

-- ---- whole labels

at-is : (all es : List Entry) (n : ℕ) → label_at (map (whole all) es) n ≡ written_label (own_at es n ++ policies_in (row_at es n) 0 all)
at-is all [] n = sym (ap written_label (no-policies 0 all))
at-is all (e ∷ es) zero = refl
at-is all (e ∷ es) (suc n) = at-is all es n

pub label-is : (es : List Entry) (n : ℕ) → label_at (labels_in es) n ≡ written_label (own_at es n ++ policies_in (row_at es n) 0 es)
label-is es n = at-is es es n

-- a policy is an own one of an entry whose number is among some
abbrev pub HasPart : List Entry → (ℕ → Bool) → ReaderPolicy → Type 0
HasPart es among x = (part : ℕ) × IsTrue (among part) × Contains (own_at es part) x

pub label-parts : (es : List Entry) (n : ℕ) (x : ReaderPolicy) → Contains (label_at (labels_in es) n) x ↔ HasPart es (made_of es n) x
label-parts es n x = (to, from)
  where
    to : Contains (label_at (labels_in es) n) x → HasPart es (made_of es n) x
    to there =
        ⊎_elim
        (λ own. (n, or_left (n == n) (has (row_at es n) n) (eq-eqb n n refl), own))
        (λ row.
        let found = in-row (row_at es n) 0 es x row in
        let at : 0 + found.0 ≡ found.0 = omega arith in
        (found.0, or_right (found.0 == n) (has (row_at es n) found.0) (subst (λ k. IsTrue (has (row_at es n) k)) at found.1), found.2))
        (Contains-append_cases (own_at es n) (policies_in (row_at es n) 0 es) x
        ((SameSet-written (own_at es n ++ policies_in (row_at es n) 0 es) x).0 (subst (λ label. Contains label x) (label-is es n) there)))

    from : HasPart es (made_of es n) x → Contains (label_at (labels_in es) n) x
    from found =
        subst (λ label. Contains label x) (sym (label-is es n))
        ((SameSet-written (own_at es n ++ policies_in (row_at es n) 0 es) x).1
        (⊎_elim
        (λ same. Contains-append_left (own_at es n) (policies_in (row_at es n) 0 es) x (subst (λ k. Contains (own_at es k) x) (eqb-true found.0 n same) found.2))
        (λ row.
        let at : found.0 ≡ 0 + found.0 = omega arith in
        Contains-append_right (own_at es n) (policies_in (row_at es n) 0 es) x
        (row-in (row_at es n) 0 es found.0 x (subst (λ k. IsTrue (has (row_at es n) k)) at row) found.2))
        (or_cases (found.0 == n) (has (row_at es n) found.0) found.1)))

pub labels-parts : (es : List Entry) (ns : List ℕ) (x : ReaderPolicy) → Contains (labels_of (labels_in es) ns) x ↔ HasPart es (some_made_of es ns) x
labels-parts es [] x = (λ there. absurd (none_in_nil x there), λ found. absurd (let no : false ≡ true = found.1 in cc))
labels-parts es (n ∷ ns) x = (
  λ there.
      ⊎_elim
      (λ here. let found = (label-parts es n x).0 here in (found.0, or_left (made_of es n found.0) (some_made_of es ns found.0) found.1, found.2))
      (λ later. let found = (labels-parts es ns x).0 later in (found.0, or_right (made_of es n found.0) (some_made_of es ns found.0) found.1, found.2))
      (Contains-append_cases (label_at (labels_in es) n) (labels_of (labels_in es) ns) x there),
  λ found.
      ⊎_elim
      (λ here. Contains-append_left (label_at (labels_in es) n) (labels_of (labels_in es) ns) x ((label-parts es n x).1 (found.0, here, found.2)))
      (λ later. Contains-append_right (label_at (labels_in es) n) (labels_of (labels_in es) ns) x ((labels-parts es ns x).1 (found.0, later, found.2)))
      (or_cases (made_of es n found.0) (some_made_of es ns found.0) found.1),
)

-- what a label covers is covered by the own policies of one that it is made of
pub covers-parts : (h : PrincipalHierarchy) (es : List Entry) (n : ℕ) (policy : ReaderPolicy) →
    Covers h (label_at (labels_in es) n) policy ↔ ((part : ℕ) × IsTrue (made_of es n part) × Covers h (own_at es part) policy)
covers-parts h es n policy = (
  λ some. Any-elim (λ other. PolicyFlowsTo h policy other) (label_at (labels_in es) n) _ some
      (λ other there flows.
      let found = (label-parts es n other).0 there in
      (found.0, found.1, Any-from_some (λ one. PolicyFlowsTo h policy one) (own_at es found.0) other found.2 flows)),
  λ found. Any-elim (λ other. PolicyFlowsTo h policy other) (own_at es found.0) (Covers h (label_at (labels_in es) n) policy) found.2
      (λ other there flows.
      Any-from_some (λ one. PolicyFlowsTo h policy one) (label_at (labels_in es) n) other ((label-parts es n other).1 (found.0, found.1, there)) flows),
)

-- the test of the own policies of one
pub some-covered : (h : PrincipalHierarchy) (own own' : List ReaderPolicy) (policy : ReaderPolicy) (t : Bool) → own ≡ own' → t ≡ covers h own policy → t ≡ true → Covers h own' policy
some-covered h own own' policy t is test holds = subst (λ xs. Covers h xs policy) is ((covers-decides h own policy).0 (sym test ∙ holds))

pub none-covered : (h : PrincipalHierarchy) (own own' : List ReaderPolicy) (policy : ReaderPolicy) (t : Bool) → own ≡ own' → t ≡ covers h own policy → t ≡ false → ¬ Covers h own' policy
none-covered h own own' policy t is test fails =
    λ some. absurd (let no : false ≡ true = sym fails ∙ (test ∙ (covers-decides h own policy).1 (subst (λ xs. Covers h xs policy) (sym is) some)) in cc)

-- a label flows where the own policies of each that it is made of do
pub flows-parts : (h : PrincipalHierarchy) (es : List Entry) (n : ℕ) (to : Label) →
    FlowsTo h (label_at (labels_in es) n) to ↔ ((part : ℕ) → IsTrue (made_of es n part) → FlowsTo h (own_at es part) to)
flows-parts h es n to = (
  λ flow part made. All-from_each (λ policy. Covers h to policy) (own_at es part)
      (λ policy there. each_from_All (λ one. Covers h to one) (label_at (labels_in es) n) flow policy ((label-parts es n policy).1 (part, made, there))),
  λ each. All-from_each (λ policy. Covers h to policy) (label_at (labels_in es) n)
      (λ policy there.
      let found = (label-parts es n policy).0 there in
      each_from_All (λ one. Covers h to one) (own_at es found.0) (each found.0 found.1) policy found.2),
)

-- and a label that is made of one has its policies
pub made-flows : (h : PrincipalHierarchy) (es : List Entry) (n part : ℕ) → IsTrue (made_of es n part) → FlowsTo h (own_at es part) (label_at (labels_in es) n)
made-flows h es n part made = FlowsTo-subset h (own_at es part) (label_at (labels_in es) n) (λ x there. (label-parts es n x).1 (part, made, there))

-- ---- one more entry

policies-more : (row : List Bool) (from : ℕ) (es : List Entry) (e : Entry) → length row ≤ from + length es → policies_in row from (es ++ e ∷ []) ≡ policies_in row from es
policies-more row from [] e short = rw (has-beyond row from (omega (arith, short))) refl
policies-more row from (x ∷ es) e short = ap (λ rest. (if has row from then own_of x else []) ++ rest) (policies-more row (suc from) es e (omega (arith, short)))

whole-more : (es : List Entry) (e x : Entry) → length (row_of x) ≤ length es → whole (es ++ e ∷ []) x ≡ whole es x
whole-more es e x short = ap (λ rest. written_label (own_of x ++ rest)) (policies-more (row_of x) 0 es e (omega (arith, short)))

map-more : (all : List Entry) (e : Entry) (es : List Entry) → ((n : ℕ) → length (row_at es n) ≤ length all) →
    map (whole (all ++ e ∷ [])) (es ++ e ∷ []) ≡ map (whole all) es ++ whole (all ++ e ∷ []) e ∷ []
map-more all e [] short = refl
map-more all e (x ∷ es) short =
    let first : whole (all ++ e ∷ []) x ≡ whole all x = whole-more all e x (short 0) in
    let rest = map-more all e es (λ n. short (suc n)) in
    rw (first, rest) refl

pub labels-pushed : (es : List Entry) (e : Entry) → AreEntries es → length (row_of e) ≤ length es → labels_in (es ++ e ∷ []) ≡ labels_in es ++ whole es e ∷ []
labels-pushed es e are short =
    map-more es e es (row-short es are) ∙ ap (λ label. labels_in es ++ label ∷ []) (whole-more es e e short)

pushed-short : (es : List Entry) (e : Entry) (k : ℕ) → ((n : ℕ) → length (row_at es n) ≤ k + n) → length (row_of e) ≤ k + length es → (n : ℕ) → length (row_at (es ++ e ∷ []) n) ≤ k + n
pushed-short [] e k short new zero = new
pushed-short [] e k short new (suc n) = omega arith
pushed-short (x ∷ es) e k short new zero = short 0
pushed-short (x ∷ es) e k short new (suc n) =
    let each : (m : ℕ) → length (row_at es m) ≤ suc k + m = λ m. let at = short (suc m) in omega (arith, at) in
    let rest = pushed-short es e (suc k) each (omega (arith, new)) n in
    omega (arith, rest)

pushed-canonical : (es : List Entry) (e : Entry) → ((n : ℕ) → All IsCanonicalPolicy (own_at es n)) → All IsCanonicalPolicy (own_of e) → (n : ℕ) → All IsCanonicalPolicy (own_at (es ++ e ∷ []) n)
pushed-canonical [] e each new zero = new
pushed-canonical [] e each new (suc n) = All-nil IsCanonicalPolicy
pushed-canonical (x ∷ es) e each new zero = each 0
pushed-canonical (x ∷ es) e each new (suc n) = pushed-canonical es e (λ m. each (suc m)) new n

pub entries-pushed : (es : List Entry) (e : Entry) → AreEntries es → length (row_of e) ≤ length es → All IsCanonicalPolicy (own_of e) → length es < 2 ^ 32 → AreEntries (es ++ e ∷ [])
entries-pushed es e are short canonical few = record {
  few = rw length_push (omega (arith, few));
  short = λ n.
      let at = pushed-short es e 0 (λ m. let one = are.short m in omega (arith, one)) (omega (arith, short)) n in
      omega (arith, at);
  canonical = pushed-canonical es e are.canonical canonical;
}

pub length-labels : (es : List Entry) → length (labels_in es) ≡ length es
length-labels es = length-map es (whole es)

-- the first label stays the first
first-stays : (labels : List Label) (label : Label) → 0 < length labels → label_at (labels ++ label ∷ []) 0 ≡ label_at labels 0
first-stays [] label some = absurd (omega (arith, some))
first-stays (x ∷ labels) label some = refl

pub table-pushed : (es : List Entry) (e : Entry) → IsTable es → length (row_of e) ≤ length es → All IsCanonicalPolicy (own_of e) → length es < 2 ^ 32 → IsTable (es ++ e ∷ [])
table-pushed es e table short canonical few = record {
  are = entries-pushed es e table.are short canonical few;
  labels =
      subst IsLabelTable (sym (labels-pushed es e table.are short)) (record {
        some = rw length_push (omega arith);
        least = first-stays (labels_in es) (whole es e) table.labels.some ∙ table.labels.least;
        few = rw (length_push, length-labels es) (omega (arith, few));
      });
}

-- ---- the label that is added

pub labels-has : (labels : List Label) (ns : List ℕ) (x : ReaderPolicy) → Contains (labels_of labels ns) x ↔ ((n : ℕ) × Contains ns n × Contains (label_at labels n) x)
labels-has labels [] x = (λ there. absurd (none_in_nil x there), λ found. absurd (none_in_nil found.0 found.1))
labels-has labels (n ∷ ns) x = (
  λ there.
      ⊎_elim
      (λ here. (n, Contains-first n ns, here))
      (λ later. let found = (labels-has labels ns x).0 later in (found.0, Contains-later n ns found.0 found.1, found.2))
      (Contains-append_cases (label_at labels n) (labels_of labels ns) x there),
  λ found.
      ⊎_elim
      (λ same. Contains-append_left (label_at labels n) (labels_of labels ns) x (subst (λ m. Contains (label_at labels m) x) (sym same) found.2))
      (λ later. Contains-append_right (label_at labels n) (labels_of labels ns) x ((labels-has labels ns x).1 (found.0, later, found.2)))
      (Contains-cons_cases n ns found.0 found.1),
)

pub no-label : (labels : List Label) (n : ℕ) → length labels ≤ n → label_at labels n ≡ []
no-label [] n h = refl
no-label (x ∷ labels) zero h = absurd (omega (arith, h))
no-label (x ∷ labels) (suc n) h = no-label labels n (omega (arith, h))

-- names of the least label and of none add nothing
pub names-same : (labels : List Label) (kept named : List ℕ) → label_at labels 0 ≡ [] →
    ((n : ℕ) → Contains named n → 0 < n → n < length labels → Contains kept n) → ((n : ℕ) → Contains kept n → Contains named n) →
    SameSet (labels_of labels kept) (labels_of labels named)
names-same labels kept named least all only x = (
  λ there. let found = (labels-has labels kept x).0 there in (labels-has labels named x).1 (found.0, only found.0 found.1, found.2),
  λ there.
      let found = (labels-has labels named x).0 there in
      (labels-has labels kept x).1 (found.0, all found.0 found.1 (some found.0 found.2) (inside found.0 found.2), found.2),
)
  where
    some : (n : ℕ) → Contains (label_at labels n) x → 0 < n
    some zero there = absurd (none_in_nil x (subst (λ label. Contains label x) least there))
    some (suc n) there = omega arith

    inside : (n : ℕ) → Contains (label_at labels n) x → n < length labels
    inside n there = ⊎_elim (λ (lt : n < length labels). lt) (λ (ge : length labels ≤ n). absurd (none_in_nil x (subst (λ label. Contains label x) (no-label labels n ge) there))) (cases_lt n (length labels))

-- the own policies and those in a row are what the text says
pub added-is : (es : List Entry) (own own' : List ReaderPolicy) (row : List Bool) (kept named : List ℕ) → own' ≡ written_label own →
    ((part : ℕ) → has row part ≡ some_made_of es kept part) → SameSet (labels_of (labels_in es) kept) (labels_of (labels_in es) named) →
    written_label (own' ++ policies_in row 0 es) ≡ written_label (own ++ labels_of (labels_in es) named)
added-is es own own' row kept named once parts same = written-same (own' ++ policies_in row 0 es) (own ++ labels_of (labels_in es) named) (λ x. (to x, from x))
  where
    to : (x : ReaderPolicy) → Contains (own' ++ policies_in row 0 es) x → Contains (own ++ labels_of (labels_in es) named) x
    to x there =
        ⊎_elim
        (λ mine. Contains-append_left own (labels_of (labels_in es) named) x ((SameSet-written own x).0 (subst (λ list. Contains list x) once mine)))
        (λ theirs.
        let found = in-row row 0 es x theirs in
        let at : 0 + found.0 ≡ found.0 = omega arith in
        let made : IsTrue (some_made_of es kept found.0) = sym (parts found.0) ∙ subst (λ k. IsTrue (has row k)) at found.1 in
        Contains-append_right own (labels_of (labels_in es) named) x ((same x).0 ((labels-parts es kept x).1 (found.0, made, found.2))))
        (Contains-append_cases own' (policies_in row 0 es) x there)

    from : (x : ReaderPolicy) → Contains (own ++ labels_of (labels_in es) named) x → Contains (own' ++ policies_in row 0 es) x
    from x there =
        ⊎_elim
        (λ mine. Contains-append_left own' (policies_in row 0 es) x (subst (λ list. Contains list x) (sym once) ((SameSet-written own x).1 mine)))
        (λ theirs.
        let found = (labels-parts es kept x).0 ((same x).1 theirs) in
        let at : found.0 ≡ 0 + found.0 = omega arith in
        Contains-append_right own' (policies_in row 0 es) x
        (row-in row 0 es found.0 x (subst (λ k. IsTrue (has row k)) at (parts found.0 ∙ found.1)) found.2))
        (Contains-append_cases own (labels_of (labels_in es) named) x there)

-- one name alone, or none, is a label that is there
pub name-is : (es : List Entry) (own : List ReaderPolicy) (kept named : List ℕ) (n : ℕ) → written_label own ≡ [] → label_at (labels_in es) 0 ≡ [] →
    ((kept ≡ []) × (n ≡ 0)) ⊎ (kept ≡ n ∷ []) → SameSet (labels_of (labels_in es) kept) (labels_of (labels_in es) named) →
    label_at (labels_in es) n ≡ written_label (own ++ labels_of (labels_in es) named)
name-is es own kept named n none least one same =
    sym itself ∙ written-same (label_at (labels_in es) n) (own ++ labels_of (labels_in es) named) (λ x. (to x, from x))
  where
    itself : written_label (label_at (labels_in es) n) ≡ label_at (labels_in es) n
    itself =
        let list = own_at es n ++ policies_in (row_at es n) 0 es in
        rw (label-is es n) (written-same (written_label list) list (SameSet-written list))

    kept-is : SameSet (labels_of (labels_in es) kept) (label_at (labels_in es) n)
    kept-is x = ⊎_elim
        (λ empty. (
          λ there. absurd (none_in_nil x (subst (λ ns. Contains (labels_of (labels_in es) ns) x) empty.0 there)),
          λ there. absurd (none_in_nil x (subst (λ label. Contains label x) (ap (label_at (labels_in es)) empty.1 ∙ least) there)),
        ))
        (λ alone. (
          λ there.
              ⊎_elim (λ here. here) (λ later. absurd (none_in_nil x later))
              (Contains-append_cases (label_at (labels_in es) n) [] x (subst (λ ns. Contains (labels_of (labels_in es) ns) x) alone there)),
          λ there. subst (λ ns. Contains (labels_of (labels_in es) ns) x) (sym alone) (Contains-append_left (label_at (labels_in es) n) [] x there),
        ))
        one

    to : (x : ReaderPolicy) → Contains (label_at (labels_in es) n) x → Contains (own ++ labels_of (labels_in es) named) x
    to x there = Contains-append_right own (labels_of (labels_in es) named) x ((same x).0 ((kept-is x).1 there))

    from : (x : ReaderPolicy) → Contains (own ++ labels_of (labels_in es) named) x → Contains (label_at (labels_in es) n) x
    from x there =
        ⊎_elim
        (λ mine. absurd (none_in_nil x (subst (λ list. Contains list x) none ((SameSet-written own x).1 mine))))
        (λ theirs. (kept-is x).0 ((same x).1 theirs))
        (Contains-append_cases own (labels_of (labels_in es) named) x there)

-- ---- policies that are gathered

pub gathered-none : (es : List Entry) (row : List Bool) → ArePoliciesGathered es row 0 []
gathered-none es row = record {
  canonical = All-nil IsCanonicalPolicy;
  has_all = λ part policy lt. absurd (omega (arith, lt));
  only = λ policy there. absurd (none_in_nil policy there);
}

pub gathered-more : (es : List Entry) (row : List Bool) (from part : ℕ) (policies : List ReaderPolicy) → AreEntries es → IsFirstBeyond row [] from part →
    ArePoliciesGathered es row from policies → ArePoliciesGathered es row (part + 1) (policies ++ own_at es part)
gathered-more es row from part policies are first gathered = record {
  canonical = All-append IsCanonicalPolicy policies (own_at es part) gathered.canonical (are.canonical part);
  has_all = λ p policy lt holds there.
      ⊎_elim
      (λ (before : p < from). Contains-append_left policies (own_at es part) policy (gathered.has_all p policy before holds there))
      (λ (on : from ≤ p).
      ⊎_elim
      (λ (between : p < part). absurd (let no : false ≡ true = first.before p on between holds in cc))
      (λ (at : part ≤ p).
      let is : p ≡ part = omega (arith, lt, at) in
      Contains-append_right policies (own_at es part) policy (subst (λ k. Contains (own_at es k) policy) is there))
      (cases_lt p part))
      (cases_lt p from);
  only = λ policy there.
      ⊎_elim
      (λ old. gathered.only policy old)
      (λ new. (part, first.there, new))
      (Contains-append_cases policies (own_at es part) policy there);
}

pub gathered-all : (es : List Entry) (row : List Bool) (from : ℕ) (policies : List ReaderPolicy) → FirstBeyond row [] from None →
    ArePoliciesGathered es row from policies → ArePoliciesGathered es row (length row) policies
gathered-all es row from policies none gathered = record {
  canonical = gathered.canonical;
  has_all = λ p policy lt holds there.
      ⊎_elim
      (λ (before : p < from). gathered.has_all p policy before holds there)
      (λ (on : from ≤ p). absurd (let no : false ≡ true = none p on lt holds in cc))
      (cases_lt p from);
  only = gathered.only;
}

-- the join of the labels with some numbers
pub joined-is : (es : List Entry) (row : List Bool) (ns : List ℕ) (policies : List ReaderPolicy) → length row ≡ length es →
    ((part : ℕ) → part < length es → has row part ≡ some_made_of es ns part) → ArePoliciesGathered es row (length row) policies →
    written_label policies ≡ written_label (labels_of (labels_in es) ns)
joined-is es row ns policies bound parts gathered = written-same policies (labels_of (labels_in es) ns) (λ x. (to x, from x))
  where
    to : (x : ReaderPolicy) → Contains policies x → Contains (labels_of (labels_in es) ns) x
    to x there =
        let found = gathered.only x there in
        let inside : found.0 < length es = subst (λ n. found.0 < n) bound (has-inside row found.0 found.1) in
        (labels-parts es ns x).1 (found.0, sym (parts found.0 inside) ∙ found.1, found.2)

    from : (x : ReaderPolicy) → Contains (labels_of (labels_in es) ns) x → Contains policies x
    from x there =
        let found = (labels-parts es ns x).0 there in
        let inside : found.0 < length es = own-inside es found.0 x found.2 in
        gathered.has_all found.0 x (subst (λ n. found.0 < n) (sym bound) inside) (parts found.0 inside ∙ found.1) found.2

-- ---- a table

first-labels : (e : Entry) → own_of e ≡ [] → row_of e ≡ [] → labels_in (e ∷ []) ≡ [] ∷ []
first-labels e own row = rw (own, row) refl

pub first-table : (e : Entry) → own_of e ≡ [] → row_of e ≡ [] → IsTable (e ∷ [])
first-table e own row = record {
  are = record { few = omega arith; short = short; canonical = canonical };
  labels = subst IsLabelTable (sym (first-labels e own row)) (record { some = omega arith; least = refl; few = omega arith });
}
  where
    short : (n : ℕ) → length (row_at (e ∷ []) n) ≤ n
    short zero = rw row (omega arith)
    short (suc n) = omega arith

    canonical : (n : ℕ) → All IsCanonicalPolicy (own_at (e ∷ []) n)
    canonical zero = rw own (All-nil IsCanonicalPolicy)
    canonical (suc n) = All-nil IsCanonicalPolicy

pub first-is : (e : Entry) (es : List Entry) → es ≡ e ∷ [] → own_of e ≡ [] → row_of e ≡ [] → labels_in es ≡ [] ∷ []
first-is e es is own row = ap labels_in is ∙ first-labels e own row

pub extends-same : (labels : List Label) → Extends labels labels
extends-same labels = record { more = []; after_is = sym (append-nil labels) }

pub extends-pushed : (es es' : List Entry) (e : Entry) → es' ≡ es ++ e ∷ [] → AreEntries es → length (row_of e) ≤ length es → Extends (labels_in es) (labels_in es')
extends-pushed es es' e is are short = record { more = whole es e ∷ []; after_is = ap labels_in is ∙ labels-pushed es e are short }

-- the label of an entry that was found, and of one that was added
pub found-is : (es : List Entry) (own own' : List ReaderPolicy) (row : List Bool) (kept named : List ℕ) (n : ℕ) → IsHeldAs es n own' row → own' ≡ written_label own →
    ((part : ℕ) → has row part ≡ some_made_of es kept part) → SameSet (labels_of (labels_in es) kept) (labels_of (labels_in es) named) →
    label_at (labels_in es) n ≡ written_label (own ++ labels_of (labels_in es) named)
found-is es own own' row kept named n held once parts same =
    label-is es n ∙ (ap (λ list. written_label (list ++ policies_in (row_at es n) 0 es)) held.own_is
    ∙ (ap (λ r. written_label (own' ++ policies_in r 0 es)) held.row_is ∙ added-is es own own' row kept named once parts same))

pub pushed-is : (es es' : List Entry) (e : Entry) (own : List ReaderPolicy) (kept named : List ℕ) (n : ℕ) → es' ≡ es ++ e ∷ [] → AreEntries es → length (row_of e) ≤ length es →
    n ≡ length es → own_of e ≡ written_label own → ((part : ℕ) → has (row_of e) part ≡ some_made_of es kept part) →
    SameSet (labels_of (labels_in es) kept) (labels_of (labels_in es) named) → label_at (labels_in es') n ≡ written_label (own ++ labels_of (labels_in es) named)
pushed-is es es' e own kept named n is are short at once parts same =
    ap (λ list. label_at (labels_in list) n) is ∙ (ap (λ list. label_at list n) (labels-pushed es e are short)
    ∙ (ap (label_at (labels_in es ++ whole es e ∷ [])) (at ∙ sym (length-labels es)) ∙ (get_or-append_seam (labels_in es) (whole es e) [] []
    ∙ added-is es own (own_of e) (row_of e) kept named once parts same)))

-- an entry that a look-up gave
pub held-as : (es : List Entry) (n : ℕ) (e : Entry) (own : List ReaderPolicy) (row : List Bool) → n < length es → e ≡ get_or es n e → own_of e ≡ own → row_of e ≡ row → IsHeldAs es n own row
held-as es n e own row inside is mine theirs = record { inside = inside; own_is = own-held es n e inside is ∙ mine; row_is = row-held es n e inside is ∙ theirs }

-- lists of policies that do not differ
pub same-policies : (xs ys : List ReaderPolicy) (differ : Bool) → differ ≡ not (label_eq xs ys) → differ ≡ false → xs ≡ ys
same-policies xs ys differ test is = (label_eq-decides xs ys).0 (holds (label_eq xs ys) (sym test ∙ is))
  where
    holds : (t : Bool) → not t ≡ false → IsTrue t
    holds true e = refl
    holds false e = absurd (cc)

-- the label with one number alone
pub label-alone : (es : List Entry) (n : ℕ) → written_label (labels_of (labels_in es) (n ∷ [])) ≡ label_at (labels_in es) n
label-alone es n =
    let list = own_at es n ++ policies_in (row_at es n) 0 es in
    let itself : written_label (written_label list) ≡ written_label list = written-same (written_label list) list (SameSet-written list) in
    ap written_label (append-nil (label_at (labels_in es) n)) ∙ (ap written_label (label-is es n) ∙ (itself ∙ sym (label-is es n)))

-- the names that are kept, in a table
pub kept-same : (es : List Entry) (kept named : List ℕ) (count : ℕ) → IsTable es → count ≡ length es →
    ((n : ℕ) → Contains named n → 0 < n → n < count → Contains kept n) → ((n : ℕ) → Contains kept n → Contains named n) →
    SameSet (labels_of (labels_in es) kept) (labels_of (labels_in es) named)
kept-same es kept named count table is all only =
    names-same (labels_in es) kept named table.labels.least (λ n there some inside. all n there some (subst (λ k. n < k) (length-labels es ∙ sym is) inside)) only

pub only-inside : (es : List Entry) (own : List ReaderPolicy) (kept : List ℕ) (n count : ℕ) → IsTable es → count ≡ length es → All (λ number. number < count) kept → IsOnlyName own kept n → n < length es
only-inside es own kept n count table is inside only =
    ⊎_elim
    (λ none. let some = table.labels.some in omega (arith, some, none.1, length-labels es))
    (λ one. subst (λ k. n < k) is (All-contains (λ number. number < count) kept n inside (subst (λ xs. Contains xs n) (sym one) (Contains-first n []))))
    only.1

pub only-is : (es : List Entry) (own own' : List ReaderPolicy) (kept named : List ℕ) (n : ℕ) → own' ≡ written_label own → IsTable es → IsOnlyName own' kept n →
    SameSet (labels_of (labels_in es) kept) (labels_of (labels_in es) named) → label_at (labels_in es) n ≡ written_label (own ++ labels_of (labels_in es) named)
only-is es own own' kept named n once table only same = name-is es own kept named n (sym once ∙ only.0) table.labels.least only.1 same
