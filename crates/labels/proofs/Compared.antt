-- What comparisons keep: rows over the own policies of all entries.
use Rattle.std.proofs.Common.{◌≡◌, refl, sym, ap, ◌∙◌, subst, ℕ, zero, suc, ◌+◌, ◌<◌, ◌≤◌, length, set, get_or, replicate, List, [], ◌∷◌, ◌++◌, Bool, true, false, arith, ◌||◌, ◌&&◌, ⊎_elim, inl, inr, Option, Some, None}
use Rattle.std.specs.Prelude.{Contains, IsTrue, ◌==◌, All}
use Rattle.std.proofs.lemmas.Bool.{cases_lt, eq-eqb, eqb-true, or_cases}
use Rattle.std.proofs.lemmas.List.{get_or_default, get_or_past, length-set}
use Rattle.labels.specs.Comparing.{AllFlow, AreOf, HaveAll, IsLeftSide, IsNoMore, IsOneMore, IsRightSide, KeepEach, slots, start}
use Rattle.labels.specs.Entries.{labels_in, made_of, own_at, own_of, row_at}
use Rattle.principals.specs.ActsFor.{PrincipalHierarchy}
use Rattle.labels.specs.Under.{FirstAbove}
use Rattle.labels.specs.Label.{Covers, ReaderPolicy, flows}
use Rattle.labels.specs.LabelTable.{label_at}
use Rattle.labels.specs.Row.{IncludedBetween, Includes, has}
use Rattle.labels.specs.declared.left_side.LeftSide.{LeftSide}
use Rattle.labels.specs.declared.right_side.CoveredSide.{CoveredSide}
use Rattle.labels.specs.declared.entries.Entry.{Entry}
use Rattle.labels.proofs.Tests.{flows-decides}
use Rattle.labels.proofs.Held.{covers-parts, each-made, flows-parts, has-inside, has-none, has-set, label-parts, made-in_row}

-- a label that is made of another one, and of all in that one's row, has its policies
pub included : (es : List Entry) (to label : ℕ) (row other : List Bool) → row_at es label ≡ row → row_at es to ≡ other → IsTrue (made_of es to label) →
    ((part : ℕ) → IsTrue (has row part) → IsTrue (has other part)) → (x : ReaderPolicy) → Contains (label_at (labels_in es) label) x → Contains (label_at (labels_in es) to) x
included es to label row other row-is other-is made among x there =
    let found = (label-parts es label x).0 there in
    let P = λ (part : ℕ). IsTrue (made_of es to part) in
    (label-parts es to x).1
    (found.0, each-made P es label row row-is made (λ part held. made-in_row es to part other other-is (among part held)) found.0 found.1, found.2)

pub among-all : (row other : List Bool) → IncludedBetween row other 0 (length row) → (part : ℕ) → IsTrue (has row part) → IsTrue (has other part)
among-all row other between part held = between part (omega arith) (has-inside row part held) held

-- ---- where own policies stand
append-left : (xs ys : List ReaderPolicy) (k : ℕ) (d : ReaderPolicy) → k < length xs → get_or (xs ++ ys) k d ≡ get_or xs k d
append-left [] ys k d lt = absurd (omega (arith, lt))
append-left (x ∷ xs) ys zero d lt = refl
append-left (x ∷ xs) ys (suc k) d lt = append-left xs ys k d (omega (arith, lt))

append-right : (xs ys : List ReaderPolicy) (k : ℕ) (d : ReaderPolicy) → get_or (xs ++ ys) (length xs + k) d ≡ get_or ys k d
append-right [] ys k d = let e : 0 + k ≡ k = omega arith in ap (λ j. get_or ys j d) e
append-right (x ∷ xs) ys k d = let e : suc (length xs) + k ≡ suc (length xs + k) = omega arith in ap (λ j. get_or (x ∷ (xs ++ ys)) j d) e ∙ append-right xs ys k d

append-length : (xs ys : List ReaderPolicy) → length (xs ++ ys) ≡ length xs + length ys
append-length [] ys = omega arith
append-length (x ∷ xs) ys = let i = append-length xs ys in omega (arith, i)

pub slot-is : (es : List Entry) (n k : ℕ) (d : ReaderPolicy) → k < length (own_at es n) → get_or (slots es) (start es n + k) d ≡ get_or (own_at es n) k d
slot-is [] n k d lt = absurd (omega (arith, lt))
slot-is (e ∷ es) zero k d lt = let z : 0 + k ≡ k = omega arith in ap (λ j. get_or (own_of e ++ slots es) j d) z ∙ append-left (own_of e) (slots es) k d lt
slot-is (e ∷ es) (suc n) k d lt =
    let z : (length (own_of e) + start es n) + k ≡ length (own_of e) + (start es n + k) = omega arith in
    ap (λ j. get_or (own_of e ++ slots es) j d) z ∙ (append-right (own_of e) (slots es) (start es n + k) d ∙ slot-is es n k d lt)

pub slot-inside : (es : List Entry) (n : ℕ) → n < length es → start es n + length (own_at es n) ≤ length (slots es)
slot-inside [] n lt = absurd (omega (arith, lt))
slot-inside (e ∷ es) zero lt = let l = append-length (own_of e) (slots es) in omega (arith, l)
slot-inside (e ∷ es) (suc n) lt = let l = append-length (own_of e) (slots es) in let i = slot-inside es n (omega (arith, lt)) in omega (arith, l, i)

pub start-next : (es : List Entry) (n : ℕ) → n < length es → start es (suc n) ≡ start es n + length (own_at es n)
start-next [] n lt = absurd (omega (arith, lt))
start-next (e ∷ []) zero lt = omega arith
start-next (e ∷ x ∷ es) zero lt = omega arith
start-next (e ∷ es) (suc n) lt = let i = start-next es n (omega (arith, lt)) in omega (arith, i)

pub start-end : (es : List Entry) → start es (length es) ≡ length (slots es)
start-end [] = refl
start-end (e ∷ es) = let l = append-length (own_of e) (slots es) in let i = start-end es in omega (arith, l, i)

pub start-first : (es : List Entry) → start es 0 ≡ 0
start-first [] = refl
start-first (e ∷ es) = refl

pub starts-more : (es : List Entry) (starts new : List ℕ) (n next : ℕ) → length starts ≡ n → ((m d : ℕ) → m < n → get_or starts m d ≡ start es m) → next ≡ start es n → new ≡ starts ++ next ∷ [] →
    (m d : ℕ) → m < n + 1 → get_or new m d ≡ start es m
starts-more es starts new n next count each is new-is m d lt =
    ap (λ (xs : List ℕ). get_or xs m d) new-is ∙ ⊎_elim
    (λ (less : m < n). before starts m (omega (arith, less, count)) ∙ each m d less)
    (λ (more : n ≤ m). let same : m ≡ length starts = omega (arith, more, lt, count) in ap (λ j. get_or (starts ++ next ∷ []) j d) same ∙ (last starts ∙ (is ∙ ap (start es) (sym count ∙ sym same))))
    (cases_lt m n)
  where
    before : (xs : List ℕ) (i : ℕ) → i < length xs → get_or (xs ++ next ∷ []) i d ≡ get_or xs i d
    before [] i h = absurd (omega (arith, h))
    before (x ∷ xs) zero h = refl
    before (x ∷ xs) (suc i) h = before xs i (omega (arith, h))

    last : (xs : List ℕ) → get_or (xs ++ next ∷ []) (length xs) d ≡ next
    last [] = refl
    last (x ∷ xs) = last xs

-- ---- rows
pub all-none : (es : List Entry) (P : ReaderPolicy → Type 0) (row : List Bool) → row ≡ replicate (length (slots es)) false → HaveAll es P row
all-none es P row e = record {
  count = ap length e ∙ length-none (length (slots es));
  each = λ s d there. absurd (let no : false ≡ true = sym (ap (λ (r : List Bool). has r s) e ∙ has-none (length (slots es)) s) ∙ there in cc);
}
  where
    length-none : (n : ℕ) → length (replicate n false) ≡ n
    length-none zero = refl
    length-none (suc n) = ap suc (length-none n)

pub all-set : (es : List Entry) (P : ReaderPolicy → Type 0) (row new : List Bool) (n k : ℕ) → n < length es → k < length (own_at es n) → new ≡ set row (start es n + k) true →
    ((d : ReaderPolicy) → P (get_or (own_at es n) k d)) → HaveAll es P row → HaveAll es P new
all-set es P row new n k inside lt is holds all =
    let within : start es n + k < length row = omega (arith, slot-inside es n inside, all.count, lt) in
    record {
      count = ap length is ∙ (length-set row (start es n + k) true ∙ all.count);
      each = λ s d there.
          ⊎_elim
          (λ same. subst P (sym (ap (λ j. get_or (slots es) j d) (eqb-true s (start es n + k) same) ∙ slot-is es n k d lt)) (holds d))
          (λ was. all.each s d was)
          (or_cases (s == (start es n + k)) (has row s) (sym (ap (λ (r : List Bool). has r s) is ∙ has-set row (start es n + k) s within) ∙ there));
    }

-- what holds of a policy that was read
pub told-at : (es : List Entry) (P : ReaderPolicy → Type 0) (n k : ℕ) (own : List ReaderPolicy) (policy : ReaderPolicy) → k < length (own_at es n) → own ≡ own_at es n → policy ≡ get_or own k policy → P policy →
    (d : ReaderPolicy) → P (get_or (own_at es n) k d)
told-at es P n k own policy lt is at holds d =
    subst P (at ∙ (ap (λ (xs : List ReaderPolicy). get_or xs k policy) is ∙ get_or_default (own_at es n) k policy d lt)) holds

pub all-weaker : (es : List Entry) (P Q : ReaderPolicy → Type 0) (row : List Bool) → ((x : ReaderPolicy) → P x → Q x) → HaveAll es P row → HaveAll es Q row
all-weaker es P Q row weaker all = record { count = all.count; each = λ s d there. weaker (get_or (slots es) s d) (all.each s d there) }

-- policies that are of a row, or in another one
pub of-same : (es : List Entry) (P : ReaderPolicy → Type 0) (row : List Bool) → AreOf es P row row
of-same es P row = record { count = refl; each = λ s d there. inl there }

pub of-more : (es : List Entry) (P : ReaderPolicy → Type 0) (old row more new : List Bool) → AreOf es P old row → HaveAll es P more → length new ≡ length row → ((i : ℕ) → has new i ≡ (has row i || has more i)) →
    AreOf es P old new
of-more es P old row more new so_far all count is = record {
  count = count ∙ so_far.count;
  each = λ s d there. ⊎_elim (λ was. so_far.each s d was) (λ come. inr (all.each s d come)) (or_cases (has row s) (has more s) (sym (is s) ∙ there));
}

pub of-all : (es : List Entry) (P Q : ReaderPolicy → Type 0) (old new : List Bool) → ((x : ReaderPolicy) → Q x → P x) → HaveAll es P old → AreOf es Q old new → HaveAll es P new
of-all es P Q old new weaker all more = record {
  count = more.count ∙ all.count;
  each = λ s d there. ⊎_elim (λ was. all.each s d was) (λ come. weaker (get_or (slots es) s d) come) (more.each s d there);
}

-- a row that another one is joined into
pub all-joined : (es : List Entry) (P : ReaderPolicy → Type 0) (row more new : List Bool) → row ≡ replicate (length (slots es)) false → HaveAll es P more → length new ≡ length row → ((i : ℕ) → has new i ≡ (has row i || has more i)) →
    HaveAll es P new
all-joined es P row more new none all count is = of-all es P P row new (λ x h. h) (all-none es P row none) (of-more es P row row more new (of-same es P row) all count is)

pub and-both : (a b : Bool) → (a && b) ≡ true → IsTrue a × IsTrue b
and-both true true e = (refl, refl)
and-both true false e = absurd (let no : false ≡ true = e in cc)
and-both false b e = absurd (let no : false ≡ true = e in cc)

-- a label covers what an entry covers that it is made of
pub right-more : (h : PrincipalHierarchy) (es : List Entry) (side : CoveredSide) (to part : ℕ) (new : List Bool) → side.to ≡ to → IsTrue (made_of es to part) → IsRightSide h es side →
    AreOf es (Covers h (own_at es part)) side.covered new → IsRightSide h es (record { to = side.to; covered = new })
right-more h es side to part new is made right more = record {
  inside = right.inside;
  covered_are = of-all es (Covers h (label_at (labels_in es) side.to)) (Covers h (own_at es part)) side.covered new
      (λ x some. (covers-parts h es side.to x).1 (part, subst (λ n. IsTrue (made_of es n part)) (sym is) made, some)) right.covered_are more;
}

pub none-held : {X : Type 0} (row : List Bool) (n k : ℕ) → row ≡ replicate n false → IsTrue (has row k) → X
none-held row n k is held = absurd (let no : false ≡ true = sym (ap (λ (r : List Bool). has r k) is ∙ has-none n k) ∙ held in cc)

pub or-first : (a b : Bool) → IsTrue a → (a || b) ≡ true
or-first true b h = refl
or-first false b h = absurd (let no : false ≡ true = h in cc)

pub or-second : (a b : Bool) → IsTrue b → (a || b) ≡ true
or-second true b h = refl
or-second false b h = h

pub set-is : (row new : List Bool) (i n : ℕ) → i < length row → new ≡ set row i true → has new n ≡ (n == i || has row n)
set-is row new i n within is = ap (λ (r : List Bool). has r n) is ∙ has-set row i n within

pub set-keeps : (row new : List Bool) (i n : ℕ) → i < length row → new ≡ set row i true → IsTrue (has row n) → IsTrue (has new n)
set-keeps row new i n within is held = set-is row new i n within is ∙ or-second (n == i) (has row n) held

pub set-adds : (row new : List Bool) (i : ℕ) → i < length row → new ≡ set row i true → IsTrue (has new i)
set-adds row new i within is = set-is row new i i within is ∙ or-first (i == i) (has row i) (eq-eqb i i refl)

-- where all policies on the left are covered, all labels there flow
pub all-flow : (h : PrincipalHierarchy) (es : List Entry) (left : LeftSide) (right : CoveredSide) (labels : List Bool) (to : ℕ) → IsLeftSide es left → IsRightSide h es right → right.to ≡ to →
    Includes right.covered left.policies → Includes left.labels labels → AllFlow h es labels to
all-flow h es left right labels to l r is covered among label held =
    (flows-parts h es label (label_at (labels_in es) to)).1
    (λ part made k d lt.
    subst (λ n. Covers h (label_at (labels_in es) n) (get_or (own_at es part) k d)) is
    (subst (λ x. Covers h (label_at (labels_in es) right.to) x) (slot-is es part k d lt)
    (r.covered_are.each (start es part + k) d (covered (start es part + k) (l.parts_are part (l.complete label (among label held) part made) k lt)))))

pub flow-first : (h : PrincipalHierarchy) (es : List Entry) (labels : List Bool) (to : ℕ) → AllFlow h es labels to →
    FirstAbove (λ label. flows h (label_at (labels_in es) label) (label_at (labels_in es) to)) labels None
flow-first h es labels to all label held = (flows-decides h (label_at (labels_in es) label) (label_at (labels_in es) to)).1 (all label held)

-- ---- rows that are kept
pub kept-fewer : (Q : ℕ → List Bool → Type 0) (old new : List (Option (List Bool))) → IsNoMore old new → KeepEach Q old → KeepEach Q new
kept-fewer Q old new fewer each n row is = each n row (fewer n row is)

pub kept-more : (Q : ℕ → List Bool → Type 0) (old new : List (Option (List Bool))) (number : ℕ) (row : List Bool) → IsOneMore old number row new → Q number row → KeepEach Q old → KeepEach Q new
kept-more Q old new number row more one each n other is =
    ⊎_elim (λ was. each n other was)
    (λ now. subst (λ r. Q n r) (sym now.1) (subst (λ m. Q m row) (sym now.0) one))
    (more n other is)

pub kept-none : (Q : ℕ → List Bool → Type 0) (kept : List (Option (List Bool))) → All (λ row. row ≡ None) kept → KeepEach Q kept
kept-none Q kept none n row is =
    ⊎_elim (λ (lt : n < length kept). absurd (let no : ◌≡◌ {A = Option (List Bool)} None (Some row) = sym (none n None lt) ∙ is in cc))
    (λ (ge : length kept ≤ n). absurd (let no : ◌≡◌ {A = Option (List Bool)} None (Some row) = sym (get_or_past kept n None ge) ∙ is in cc))
    (cases_lt n (length kept))
