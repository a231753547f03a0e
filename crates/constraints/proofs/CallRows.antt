-- The calls of each procedure in rows.
use Rattle.std.proofs.Common.{◌≡◌, ◌≢◌, refl, sym, ap, ◌∙◌, subst, ℕ, zero, suc, ◌+◌, ◌<◌, ◌≤◌, List, [], ◌∷◌, ◌++◌, length, get_or, set, take, arith, append_assoc, append-nil, ◌⊎◌, inl, inr, ⊎_elim}
use Rattle.std.specs.Prelude.{Contains}
use Rattle.std.specs.declared.vec.Vec.{Vec}
use Rattle.std.specs.Global.{Global}
use Rattle.std.proofs.lemmas.Bool.{cases_eq}
use Rattle.std.proofs.lemmas.List.{length-append, length-set, take_more}
use Rattle.std.proofs.lemmas.List.Elements.{Contains-append_cases, Contains-append_left, Contains-append_right}
use Rattle.common.proofs.Elements.{none_in_nil, Contains-cons_cases, Contains-first}
use Rattle.constraints.specs.Spreading.{AreCallsOf, AreRowsOf, all_calls, calls_at}
use Rattle.constraints.specs.declared.journal.Called.{Called}

-- what stands in a row stands in one of them
at-all : (rows : List (Vec Called Global)) (i : ℕ) (y : Called) → Contains (calls_at rows i) y → Contains (all_calls rows) y
at-all [] i y h = h
at-all (row ∷ rows) zero y h = Contains-append_left row.items (all_calls rows) y h
at-all (row ∷ rows) (suc i) y h = Contains-append_right row.items (all_calls rows) y (at-all rows i y h)

-- one more row
all-append : (rows : List (Vec Called Global)) (row : Vec Called Global) → all_calls (rows ++ row ∷ []) ≡ all_calls rows ++ row.items
all-append [] row = append-nil row.items
all-append (r ∷ rows) row = ap (λ xs. r.items ++ xs) (all-append rows row) ∙ sym (append_assoc r.items (all_calls rows) row.items)

pub all-push : (rows : List (Vec Called Global)) (row : Vec Called Global) → row.items ≡ [] → all_calls rows ≡ [] → all_calls (rows ++ row ∷ []) ≡ []
all-push rows row empty none = all-append rows row ∙ (ap (λ xs. xs ++ row.items) none ∙ empty)

pub rows-made : (rows : List (Vec Called Global)) (count : ℕ) → length rows ≡ count → all_calls rows ≡ [] → AreRowsOf count [] rows
rows-made rows count is none = record {
  count_is = is;
  own_row = λ i y h. absurd (none_in_nil y (subst (λ list. Contains list y) none (at-all rows i y h)));
  only = λ y h. subst (λ list. Contains list y) none h;
  all = λ y h below. absurd (none_in_nil y h);
  no_more = omega (arith, ap length none);
}

-- a row that is set
row-read : (rows : List (Vec Called Global)) (i : ℕ) (d : Vec Called Global) → i < length rows → (get_or rows i d).items ≡ calls_at rows i
row-read [] i d h = absurd (omega (arith, h))
row-read (row ∷ rows) zero d h = refl
row-read (row ∷ rows) (suc i) d h = row-read rows i d (omega (arith, h))

set-same : (rows : List (Vec Called Global)) (i : ℕ) (row : Vec Called Global) → i < length rows → calls_at (set rows i row) i ≡ row.items
set-same [] i row h = absurd (omega (arith, h))
set-same (r ∷ rows) zero row h = refl
set-same (r ∷ rows) (suc i) row h = set-same rows i row (omega (arith, h))

set-other : (rows : List (Vec Called Global)) (i k : ℕ) (row : Vec Called Global) → k ≢ i → calls_at (set rows i row) k ≡ calls_at rows k
set-other [] i k row ne = refl
set-other (r ∷ rows) zero zero row ne = absurd (ne refl)
set-other (r ∷ rows) zero (suc k) row ne = refl
set-other (r ∷ rows) (suc i) zero row ne = refl
set-other (r ∷ rows) (suc i) (suc k) row ne = set-other rows i k row (λ e. ne (ap suc e))

-- where one call was added to a row: what stood in the rows, and that call
set-cases : (rows : List (Vec Called Global)) (i : ℕ) (row : Vec Called Global) (called : Called) → i < length rows → row.items ≡ calls_at rows i ++ called ∷ []
    → (y : Called) → Contains (all_calls (set rows i row)) y → Contains (all_calls rows) y ⊎ (called ≡ y)
set-cases [] i row called below is y h = absurd (omega (arith, below))
set-cases (r ∷ rows) zero row called below is y h =
    ⊎_elim
    (λ k. ⊎_elim (λ old. inl (Contains-append_left r.items (all_calls rows) y old))
    (λ new. ⊎_elim (λ same. inr same) (λ none. absurd (none_in_nil y none)) (Contains-cons_cases called [] y new))
    (Contains-append_cases r.items (called ∷ []) y (subst (λ list. Contains list y) is k)))
    (λ k. inl (Contains-append_right r.items (all_calls rows) y k))
    (Contains-append_cases row.items (all_calls rows) y h)
set-cases (r ∷ rows) (suc i) row called below is y h =
    ⊎_elim (λ k. inl (Contains-append_left r.items (all_calls rows) y k))
    (λ k. ⊎_elim (λ old. inl (Contains-append_right r.items (all_calls rows) y old)) (λ same. inr same) (set-cases rows i row called (omega (arith, below)) is y k))
    (Contains-append_cases r.items (all_calls (set rows i row)) y h)

set-keeps : (rows : List (Vec Called Global)) (i : ℕ) (row : Vec Called Global) (called : Called) → i < length rows → row.items ≡ calls_at rows i ++ called ∷ []
    → (y : Called) → Contains (all_calls rows) y ⊎ (called ≡ y) → Contains (all_calls (set rows i row)) y
set-keeps [] i row called below is y h = absurd (omega (arith, below))
set-keeps (r ∷ rows) zero row called below is y h =
    ⊎_elim
    (λ old. ⊎_elim
    (λ k. Contains-append_left row.items (all_calls rows) y (subst (λ list. Contains list y) (sym is) (Contains-append_left r.items (called ∷ []) y k)))
    (λ k. Contains-append_right row.items (all_calls rows) y k)
    (Contains-append_cases r.items (all_calls rows) y old))
    (λ same. Contains-append_left row.items (all_calls rows) y
    (subst (λ list. Contains list y) (sym is) (Contains-append_right r.items (called ∷ []) y (subst (Contains (called ∷ [])) same (Contains-first called [])))))
    h
set-keeps (r ∷ rows) (suc i) row called below is y h =
    let inner : Contains (all_calls rows) y ⊎ (called ≡ y) → Contains (all_calls (set rows i row)) y = set-keeps rows i row called (omega (arith, below)) is y in
    ⊎_elim
    (λ old. ⊎_elim
    (λ k. Contains-append_left r.items (all_calls (set rows i row)) y k)
    (λ k. Contains-append_right r.items (all_calls (set rows i row)) y (inner (inl k)))
    (Contains-append_cases r.items (all_calls rows) y old))
    (λ same. Contains-append_right r.items (all_calls (set rows i row)) y (inner (inr same)))
    h

set-count : (rows : List (Vec Called Global)) (i : ℕ) (row : Vec Called Global) (called : Called) → i < length rows → row.items ≡ calls_at rows i ++ called ∷ []
    → length (all_calls (set rows i row)) ≡ length (all_calls rows) + 1
set-count [] i row called below is = absurd (omega (arith, below))
set-count (r ∷ rows) zero row called below is =
    let more : length row.items ≡ length r.items + 1 = ap length is ∙ length-append r.items (called ∷ []) in
    omega (arith, more, length-append row.items (all_calls rows), length-append r.items (all_calls rows))
set-count (r ∷ rows) (suc i) row called below is =
    let more : length (all_calls (set rows i row)) ≡ length (all_calls rows) + 1 = set-count rows i row called (omega (arith, below)) is in
    omega (arith, more, length-append r.items (all_calls (set rows i row)), length-append r.items (all_calls rows))

-- a call was added to the row of its procedure
pub row-added : (rows : List (Vec Called Global)) (at : ℕ) (row new : Vec Called Global) (called : Called) (count : ℕ) (calls : List Called)
    → at < length rows → called.callee ≡ at → row ≡ get_or rows at row → new.items ≡ row.items ++ called ∷ []
    → AreRowsOf count calls rows → AreRowsOf count (calls ++ called ∷ []) (set rows at new)
row-added rows at row new called count calls below callee_is found pushed are =
    let is : new.items ≡ calls_at rows at ++ called ∷ [] =
    pushed ∙ ap (λ xs. xs ++ called ∷ []) (ap (λ (v : Vec Called Global). v.items) found ∙ row-read rows at row below) in
    record {
      count_is = length-set rows at new ∙ are.count_is;
      own_row = λ i y h. ⊎_elim
          (λ same.
          let here : Contains (calls_at rows at ++ called ∷ []) y =
          subst (λ list. Contains list y) (ap (calls_at (set rows at new)) same ∙ (set-same rows at new below ∙ is)) h in
          ⊎_elim (λ k. are.own_row at y k ∙ sym same)
          (λ k. ⊎_elim (λ e. ap (λ (c : Called). c.callee) (sym e) ∙ (callee_is ∙ sym same)) (λ none. absurd (none_in_nil y none)) (Contains-cons_cases called [] y k))
          (Contains-append_cases (calls_at rows at) (called ∷ []) y here))
          (λ other. are.own_row i y (subst (λ list. Contains list y) (set-other rows at i new other) h))
          (cases_eq i at);
      only = λ y h. ⊎_elim
          (λ old. Contains-append_left calls (called ∷ []) y (are.only y old))
          (λ same. Contains-append_right calls (called ∷ []) y (subst (Contains (called ∷ [])) same (Contains-first called [])))
          (set-cases rows at new called below is y h);
      all = λ y h inside. set-keeps rows at new called below is y (⊎_elim
          (λ k. inl (are.all y k inside))
          (λ k. ⊎_elim (λ same. inr same) (λ none. absurd (none_in_nil y none)) (Contains-cons_cases called [] y k))
          (Contains-append_cases calls (called ∷ []) y h));
      no_more = omega (arith, set-count rows at new called below is, are.no_more, length-append calls (called ∷ []));
    }

-- or its procedure is none of those
pub row-not-added : (rows : List (Vec Called Global)) (at : ℕ) (called : Called) (count : ℕ) (calls : List Called)
    → length rows ≤ at → called.callee ≡ at → AreRowsOf count calls rows → AreRowsOf count (calls ++ called ∷ []) rows
row-not-added rows at called count calls outside callee_is are = record {
  count_is = are.count_is;
  own_row = are.own_row;
  only = λ y h. Contains-append_left calls (called ∷ []) y (are.only y h);
  all = λ y h inside. ⊎_elim
      (λ k. are.all y k inside)
      (λ k. ⊎_elim
      (λ same. let e : called.callee ≡ y.callee = ap (λ (c : Called). c.callee) same in absurd (omega (arith, e, callee_is, outside, inside, are.count_is)))
      (λ none. absurd (none_in_nil y none)) (Contains-cons_cases called [] y k))
      (Contains-append_cases calls (called ∷ []) y h);
  no_more = omega (arith, are.no_more, length-append calls (called ∷ []));
}

-- the calls of the first rows, and of one more
pub all-next : (rows : List (Vec Called Global)) (i : ℕ) (row : Vec Called Global) → i < length rows → row ≡ get_or rows i row
    → all_calls (take (i + 1) rows) ≡ all_calls (take i rows) ++ row.items
all-next rows i row inside is =
    ap all_calls (take_more rows i row inside) ∙ (all-append (take i rows) (get_or rows i row) ∙ ap (λ (v : Vec Called Global). all_calls (take i rows) ++ v.items) (sym is))

pub calls-more : (rows : List (Vec Called Global)) (i : ℕ) (row : Vec Called Global) (own : List Called) → i < length rows → row ≡ get_or rows i row → own ≡ row.items
    → length (all_calls (take (i + 1) rows)) ≡ length (all_calls (take i rows)) + length own
calls-more rows i row own inside is same =
    ap length (all-next rows i row inside is)
    ∙ (length-append (all_calls (take i rows)) row.items ∙ ap (λ n. length (all_calls (take i rows)) + n) (ap length (sym same)))

-- which are no more than all
pub calls-upto : (rows : List (Vec Called Global)) (n : ℕ) → length (all_calls (take n rows)) ≤ length (all_calls rows)
calls-upto [] zero = omega arith
calls-upto [] (suc n) = omega arith
calls-upto (row ∷ rows) zero = omega arith
calls-upto (row ∷ rows) (suc n) =
    omega (arith, calls-upto rows n, length-append row.items (all_calls (take n rows)), length-append row.items (all_calls rows))

pub row-calls : (rows : List (Vec Called Global)) (i : ℕ) (row : Vec Called Global) (count : ℕ) (calls : List Called) → i < length rows → row ≡ get_or rows i row
    → AreRowsOf count calls rows → AreCallsOf i row.items
row-calls rows i row count calls inside is are =
    subst (AreCallsOf i) (sym (ap (λ (v : Vec Called Global). v.items) is ∙ row-read rows i row inside)) (are.own_row i)
