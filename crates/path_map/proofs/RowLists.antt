-- The exceptions of rows that are kept by the rows before them, and rows that are added.
use Rattle.std.proofs.Common.{◌≡◌, refl, sym, ap, ◌∙◌, ℕ, zero, suc, ◌+◌, ◌<◌, ◌≤◌, List, [], ◌∷◌, ◌++◌, Bool, true, false, not, ◌&&◌, ◌||◌, filter, length, get_or, take, arith}
use Rattle.std.specs.Prelude.{◌==◌, if◌then◌else◌, Option, Some, None}
use Rattle.std.proofs.lemmas.Bool.{eqb-true}
use Rattle.std.proofs.lemmas.List.{get_or_append_left, get_or_past, get_or_push, length_push}
use Rattle.std.proofs.Math.Bool.{and-true, and-false}
use Rattle.path_map.specs.declared.keeping.KeptRow.{KeptRow}
use Rattle.path_map.specs.declared.keeping.KeptForm.{KeptForm}
use Rattle.path_map.specs.declared.keeping.KeptForm.TheVariants.{Whole}
use Rattle.path_map.specs.declared.members.ExceptionSet.{ExceptionSet}
use Rattle.path_map.specs.Entries.{IsRowOfSet, RowsGrow}
use Rattle.path_map.specs.Exceptions.{is_one_of}
use Rattle.path_map.specs.Listed.{listed}
use Rattle.path_map.specs.RowLists.{MayBeBoth, MayBeChanged, MayBeRow, changed, changed_has, form_list, lists_after, row_at}
use Rattle.path_map.specs.Sets.{MayBeCopy, members}
use Rattle.path_map.proofs.Kept.{listed-has}

-- two lists of exceptions
or-more : (a b c : Bool) → (a || (b || c)) ≡ ((a || b) || c)
or-more true b c = refl
or-more false b c = refl

pub both-has : (list other : List ℕ) (e : ℕ) → is_one_of (list ++ other) e ≡ (is_one_of list e || is_one_of other e)
both-has [] other e = refl
both-has (x ∷ list) other e = ap (λ b. (e == x) || b) (both-has list other e) ∙ or-more (e == x) (is_one_of list e) (is_one_of other e)

pub either-first : (found a b all : Bool) → found ≡ true → found ≡ a → all ≡ (a || b) → found ≡ all
either-first found a b all there same is = there ∙ sym (is ∙ ap (λ x. x || b) (sym same ∙ there))

pub either-second : (first found a b all : Bool) → first ≡ false → first ≡ a → found ≡ b → all ≡ (a || b) → found ≡ all
either-second first found a b all missing one same is = same ∙ sym (is ∙ ap (λ x. x || b) (sym one ∙ missing))

-- an exception taken out or added
without-has : (n : ℕ) (list : List ℕ) (e : ℕ) → is_one_of (filter (λ other. not (other == n)) list) e ≡ (is_one_of list e && not (e == n))
without-has n [] e = refl
without-has n (x ∷ list) e = go (x == n) refl (e == x) refl (without-has n list e)
  where
    go : (out : Bool) → (x == n) ≡ out → (same : Bool) → (e == x) ≡ same → is_one_of (filter (λ other. not (other == n)) list) e ≡ (is_one_of list e && not (e == n))
        → is_one_of (filter (λ other. not (other == n)) (x ∷ list)) e ≡ (is_one_of (x ∷ list) e && not (e == n))
    go true f true g rest =
        let is : (e == n) ≡ true = ap (λ m. m == n) (eqb-true e x g) ∙ f in
        rw f (rest ∙ (ap (λ b. is_one_of list e && not b) is ∙ (and-false (is_one_of list e) ∙ sym (ap (λ b. ((e == x) || is_one_of list e) && not b) is ∙ and-false ((e == x) || is_one_of list e)))))
    go true f false g rest = rw (f, g) rest
    go false f true g rest =
        let is : (e == n) ≡ false = ap (λ m. m == n) (eqb-true e x g) ∙ f in
        rw (f, g, is) refl
    go false f false g rest = rw (f, g) rest

pub changed-list : (n : ℕ) (list : List ℕ) (e : ℕ) → is_one_of (changed n list) e ≡ changed_has n (is_one_of list) e
changed-list n list e = go (is_one_of list n) refl (e == n) refl
  where
    go : (there : Bool) → is_one_of list n ≡ there → (same : Bool) → (e == n) ≡ same → is_one_of (changed n list) e ≡ changed_has n (is_one_of list) e
    go true f true g =
        let at : is_one_of list e ≡ true = ap (is_one_of list) (eqb-true e n g) ∙ f in
        rw f (without-has n list e ∙ rw (g, at) refl)
    go true f false g = rw f (without-has n list e ∙ rw g (and-true (is_one_of list e)))
    go false f true g =
        let at : is_one_of list e ≡ false = ap (is_one_of list) (eqb-true e n g) ∙ f in
        rw (f, g, at) refl
    go false f false g = rw (f, g) refl

-- the list of a row
pub lists-length : (lists : List (List ℕ)) (rows : List KeptRow) → length (lists_after lists rows) ≡ length lists + length rows
lists-length lists [] = omega arith
lists-length lists (row ∷ rows) = lists-length (lists ++ form_list lists row.form ∷ []) rows ∙ omega (arith, length_push lists (form_list lists row.form))

lists-more : (lists : List (List ℕ)) (rows : List KeptRow) (row : KeptRow) → lists_after lists (rows ++ row ∷ []) ≡ lists_after lists rows ++ form_list (lists_after lists rows) row.form ∷ []
lists-more lists [] row = refl
lists-more lists (x ∷ rows) row = lists-more (lists ++ form_list lists x.form ∷ []) rows row

lists-same : (lists : List (List ℕ)) (rows : List KeptRow) (k : ℕ) → k < length lists → get_or (lists_after lists rows) k [] ≡ get_or lists k []
lists-same lists [] k there = refl
lists-same lists (row ∷ rows) k there =
    lists-same (lists ++ form_list lists row.form ∷ []) rows k (omega (arith, there, length_push lists (form_list lists row.form)))
    ∙ get_or_append_left lists (form_list lists row.form ∷ []) [] k there

lists-at : (lists : List (List ℕ)) (rows : List KeptRow) (k : ℕ) (none : KeptRow) → k < length rows
    → get_or (lists_after lists rows) (length lists + k) [] ≡ form_list (lists_after lists (take k rows)) (get_or rows k none).form
lists-at lists [] k none there = absurd (omega (arith, there))
lists-at lists (row ∷ rows) zero none there =
    let own : List ℕ = form_list lists row.form in
    let at : length lists + 0 ≡ length lists = omega arith in
    ap (λ n. get_or (lists_after (lists ++ own ∷ []) rows) n []) at
    ∙ (lists-same (lists ++ own ∷ []) rows (length lists) (omega (arith, length_push lists own)) ∙ get_or_push lists own [] (length lists) refl)
lists-at lists (row ∷ rows) (suc k) none there =
    let own : List ℕ = form_list lists row.form in
    let at : length lists + suc k ≡ length (lists ++ own ∷ []) + k = omega (arith, length_push lists own) in
    ap (λ n. get_or (lists_after (lists ++ own ∷ []) rows) n []) at ∙ lists-at (lists ++ own ∷ []) rows k none (omega (arith, there))

pub row-form : (rows : List KeptRow) (k : ℕ) (row : KeptRow) (form : KeptForm) → k < length rows → row ≡ get_or rows k row → row.form ≡ form
    → row_at rows k ≡ form_list (lists_after [] (take k rows)) form
row-form rows k row form there is same =
    let at : length {A = List ℕ} [] + k ≡ k = omega arith in
    ap (λ n. get_or (lists_after [] rows) n []) (sym at) ∙ (lists-at [] rows k row there ∙ ap (form_list (lists_after [] (take k rows))) (ap (λ (x : KeptRow). x.form) (sym is) ∙ same))

pub row-past : (rows : List KeptRow) (k : ℕ) → length rows ≤ k → row_at rows k ≡ []
row-past rows k far = get_or_past (lists_after [] rows) k [] (omega (arith, far, lists-length [] rows))

-- rows that are added
pub grown_none : (rows : List KeptRow) → RowsGrow rows rows
grown_none rows = record { more = omega arith; same = λ row there. refl }

pub grown_more : (rows middle new : List KeptRow) → RowsGrow rows middle → RowsGrow middle new → RowsGrow rows new
grown_more rows middle new first second = record {
  more = omega (arith, first.more, second.more);
  same = λ row there. second.same row (omega (arith, there, first.more)) ∙ first.same row there;
}

pub grown_push : (rows : List KeptRow) (row : KeptRow) → RowsGrow rows (rows ++ row ∷ [])
grown_push rows row = record {
  more = omega (arith, length_push rows row);
  same = λ k there.
      ap (λ lists. get_or lists k []) (lists-more [] rows row)
      ∙ get_or_append_left (lists_after [] rows) (form_list (lists_after [] rows) row.form ∷ []) [] k (omega (arith, there, lists-length [] rows));
}

pub pushed-row : (rows : List KeptRow) (steps : ℕ) (set : ExceptionSet) → IsRowOfSet (members set) (rows ++ (record { steps = steps; form = Whole set }) ∷ []) (length rows)
pushed-row rows steps set =
    let row : KeptRow = record { steps = steps; form = Whole set } in
    record {
      there = omega (arith, length_push rows row);
      same = λ e.
          ap (λ list. is_one_of list e)
          (ap (λ lists. get_or lists (length rows) []) (lists-more [] rows row)
          ∙ get_or_push (lists_after [] rows) (listed set) [] (length rows) (omega (arith, lists-length [] rows)))
          ∙ listed-has set e;
    }

-- sets of the exceptions of rows
pub copied-row : (rows : List KeptRow) (k bound : ℕ) (set : ExceptionSet) (found : Option ExceptionSet) → row_at rows k ≡ listed set → MayBeCopy set bound found → MayBeRow rows k bound found
copied-row rows k bound set None is copy = tt
copied-row rows k bound set (Some new) is copy = record {
  bound_is = copy.bound_is;
  same = λ e. copy.same e ∙ (sym (listed-has set e) ∙ ap (λ list. is_one_of list e) (sym is));
}

pub both-row : (rows before : List KeptRow) (k a b bound : ℕ) (one other found : Option ExceptionSet) → row_at rows k ≡ row_at before a ++ row_at before b
    → MayBeRow before a bound one → MayBeRow before b bound other → MayBeBoth one other found → MayBeRow rows k bound found
both-row rows before k a b bound one other None is first second both = tt
both-row rows before k a b bound None other (Some set) is first second both = absurd both
both-row rows before k a b bound (Some one) None (Some set) is first second both = absurd both
both-row rows before k a b bound (Some one) (Some other) (Some set) is first second both = record {
  bound_is = both.bound_is ∙ first.bound_is;
  same = λ e.
      both.same e
      ∙ (rw (first.same e, second.same e) (sym (both-has (row_at before a) (row_at before b) e))
      ∙ ap (λ list. is_one_of list e) (sym is));
}

pub changed-row : (rows before : List KeptRow) (k a n bound : ℕ) (base found : Option ExceptionSet) → row_at rows k ≡ changed n (row_at before a)
    → MayBeRow before a bound base → MayBeChanged base n found → MayBeRow rows k bound found
changed-row rows before k a n bound base None is first change = tt
changed-row rows before k a n bound None (Some set) is first change = absurd change
changed-row rows before k a n bound (Some base) (Some set) is first change = record {
  bound_is = change.bound_is ∙ first.bound_is;
  same = λ e.
      change.same e
      ∙ (ap (λ b. if e == n then not b else b) (first.same e)
      ∙ (sym (changed-list n (row_at before a) e) ∙ ap (λ list. is_one_of list e) (sym is)));
}
