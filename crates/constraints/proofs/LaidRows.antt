-- Rows of parts that are laid out one after the other, and what they are together with what was taken for them.
use Rattle.std.proofs.Common.{◌≡◌, ◌≢◌, refl, sym, ap, ◌∙◌, subst, ℕ, zero, suc, ◌+◌, ◌*◌, ◌<◌, ◌≤◌, ◌==◌, List, [], ◌∷◌, ◌++◌, drop, length, take, arith, ◌⊎◌, inl, inr, ⊎_elim}
use Rattle.std.specs.Prelude.{Contains, Option, None, Some, if◌then◌else◌}
use Rattle.std.proofs.lemmas.Bool.{cases_eq, eq-eqb, ne_eqb}
use Rattle.std.proofs.lemmas.List.{append_assoc, append-nil, take-append-drop}
use Rattle.std.proofs.lemmas.List.Elements.{Contains-append_cases, Contains-append_left, Contains-append_right}
use Rattle.common.proofs.Elements.{none_in_nil, Contains-cons_cases, Contains-first}
use Rattle.labels.specs.Label.{Label}
use Rattle.resolved.specs.declared.program.Core.{Core}
use Rattle.resolved.specs.CoreOf.{program_of}
use Rattle.gathering.specs.Names.{real_unknowns}
use Rattle.solver.specs.declared.constraints.Atom.{Atom}
use Rattle.solver.specs.declared.constraints.Atom.TheVariants.{Unknown}
use Rattle.constraints.specs.Added.{Stored}
use Rattle.constraints.specs.Laying.{AreLaidSoFar, IsPieceFound, IsFurther, IsMoreLaid, IsOfRow, IsPieceOf, IsRowBegun, LeadsByLeft, by_found}
use Rattle.constraints.specs.Merging.{AreLaidOut, HaveSameFlows, AreSpreadShared, AreSpreadSoFar, AreTaken, ComesOf, Flows, FlowsOn, IsFollowed, IsPartKept, IsLaidOut, Row, itself, parts_at, unknowns_at}
use Rattle.constraints.specs.declared.journal.Called.{Called}
use Rattle.constraints.specs.declared.journal.Journal.{Journal}
use Rattle.constraints.specs.declared.laying.Further.{Further}
use Rattle.constraints.specs.declared.spreading.Made.{Made}
use Rattle.constraints.proofs.PartRows.{first-part, flows-more, parts-inside}

-- ---- among more constraints, and of more flows and unknowns
on-more : (xs ys : List Stored) (part to : Atom) → ((c : Stored) → Contains xs c → Contains ys c) → FlowsOn xs part to → FlowsOn ys part to
on-more xs ys part to more (inl flow) = inl (flows-more xs ys part to more flow)
on-more xs ys part to more (inr by) = inr (by.0, flows-more xs ys part (Unknown by.0) more by.1, flows-more xs ys (Unknown by.0) to more by.2)

comes-more : (Goes Others : Atom → Atom → Type 0) (first next more : ℕ) (stands others : ℕ → List Atom) (part to : Atom) → ((p t : Atom) → Goes p t → Others p t) → next ≤ more
    → ((u : ℕ) → u < next → others u ≡ stands u) → ComesOf Goes first next stands part to → ComesOf Others first more others part to
comes-more Goes Others first next more stands others part to goes most same (inl straight) = inl (goes part to straight)
comes-more Goes Others first next more stands others part to goes most same (inr (inl passed)) = inr (inl (record {
  by = passed.by;
  is = passed.is;
  from_first = passed.from_first;
  below_next = omega (arith, passed.below_next, most);
  some = (passed.some.0, subst (λ list. Contains list passed.some.0) (sym (same passed.by passed.below_next)) passed.some.1);
  each = λ one h. goes one to (passed.each one (subst (λ list. Contains list one) (same passed.by passed.below_next) h));
}))
comes-more Goes Others first next more stands others part to goes most same (inr (inr gathered)) = inr (inr (record {
  by = gathered.by;
  is = gathered.is;
  from_first = gathered.from_first;
  below_next = omega (arith, gathered.below_next, most);
  stands_for = subst (λ list. Contains list part) (sym (same gathered.by gathered.below_next)) gathered.stands_for;
  end = gathered.end;
  goes = goes part gathered.end gathered.goes;
}))

-- the unknowns of a row are parts of it
unknown-part : (rows : List Row) (k : ℕ) (p : Atom) → Contains (unknowns_at rows k) p → Contains (parts_at rows k) p
unknown-part [] k p h = h
unknown-part (row ∷ rows) zero p h = Contains-append_left row.unknowns row.written p h
unknown-part (row ∷ rows) (suc k) p h = unknown-part rows k p h

-- ---- no row
pub laid-nothing : (rows : List Row) (first : ℕ) (old : List Stored) → AreLaidSoFar rows 0 first first [] old old
laid-nothing rows first old = record {
  are = record {
    laid = [];
    laid_is = sym (append-nil old);
    stands = λ u. [];
    least = omega arith;
    goes = λ k below. absurd (omega (arith, below));
    came = λ p to flow. absurd (none_in_nil flow.by flow.among);
    inner = λ c h. absurd (none_in_nil c h);
  };
  held_are = λ further h. absurd (none_in_nil further h);
}

-- ---- one more row
further-more : (first next more : ℕ) (stands others : ℕ → List Atom) (laid all : List Stored) (u : ℕ) (parts : List Atom) → next ≤ more → ((c : Stored) → Contains laid c → Contains all c)
    → ((v : ℕ) → v < next → others v ≡ stands v) → IsFurther first next stands laid u parts → IsFurther first more others all u parts
further-more first next more stands others laid all u parts most among same further = record {
  from_first = further.from_first;
  below_next = omega (arith, most, further.below_next);
  stands_for = same u further.below_next ∙ further.stands_for;
  goes = λ p h. flows-more laid all p (Unknown u) among (further.goes p h);
}

pub row-laid : (rows : List Row) (i first next : ℕ) (held : List Further) (old middle new : List Stored) (unknowns left written : List Atom)
    → parts_at rows i ≡ unknowns ++ written → IsRowBegun rows i first next held old middle unknowns left → IsLaidOut i (left ++ written) middle new
    → AreLaidSoFar rows (i + 1) first next held old new
row-laid rows i first next held old middle new unknowns left written is begun row =
    let before = begun.so_far.are in
    let all : List Stored = before.laid ++ row.laid in
    record {
      are = record {
        laid = all;
        laid_is = row.laid_is ∙ (ap (λ xs. xs ++ row.laid) before.laid_is ∙ append_assoc old before.laid row.laid);
        stands = before.stands;
        least = before.least;
        goes = λ k below p h. ⊎_elim
            (λ (here : k ≡ i). subst (λ j. FlowsOn all p (Unknown j)) (sym here) (row-goes p (subst (λ j. Contains (parts_at rows j) p) here h)))
            (λ (differs : k ≢ i). on-more before.laid all p (Unknown k) (Contains-append_left before.laid row.laid) (before.goes k (omega (arith, below, differs)) p h))
            (cases_eq k i);
        came = λ p to flow. ⊎_elim
            (λ h. before.came p to (record { by = flow.by; among = h; starts = flow.starts; ends = flow.ends }))
            (λ h. row-came p to (row.came p to (record { by = flow.by; among = h; starts = flow.starts; ends = flow.ends })))
            (Contains-append_cases before.laid row.laid flow.by flow.among);
        inner = λ c h. ⊎_elim (before.inner c) (row.inner c) (Contains-append_cases before.laid row.laid c h);
      };
      held_are = λ further h. further-more first next next before.stands before.stands before.laid all further.number further.parts.items (omega arith) (Contains-append_left before.laid row.laid) (λ v below. refl)
          (begun.so_far.held_are further h);
    }
  where
    both : List Stored
    both = begun.so_far.are.laid ++ row.laid

    on-left : (p : Atom) → Contains left p → FlowsOn both p (Unknown i)
    on-left p h = inl (flows-more row.laid both p (Unknown i) (Contains-append_right begun.so_far.are.laid row.laid) (row.goes p (Contains-append_left left written p h)))

    row-goes : (p : Atom) → Contains (parts_at rows i) p → FlowsOn both p (Unknown i)
    row-goes p h = ⊎_elim
        (λ (k : Contains unknowns p). ⊎_elim (on-left p) (λ (by : (u : ℕ) × Contains left (Unknown u) × Flows begun.so_far.are.laid p (Unknown u)). inr (
          by.0,
          flows-more begun.so_far.are.laid both p (Unknown by.0) (Contains-append_left begun.so_far.are.laid row.laid) by.2,
          flows-more row.laid both (Unknown by.0) (Unknown i) (Contains-append_right begun.so_far.are.laid row.laid) (row.goes (Unknown by.0) (Contains-append_left left written (Unknown by.0) by.1)),
        )) (begun.goes p k))
        (λ (k : Contains written p). inl (flows-more row.laid both p (Unknown i) (Contains-append_right begun.so_far.are.laid row.laid) (row.goes p (Contains-append_right left written p k))))
        (Contains-append_cases unknowns written p (subst (λ list. Contains list p) is h))

    row-came : (p to : Atom) → (to ≡ Unknown i) × Contains (left ++ written) p → ComesOf (IsPartKept rows) first next begun.so_far.are.stands p to
    row-came p to came = ⊎_elim
        (λ (k : Contains left p). ⊎_elim
        (λ (kept : Contains (parts_at rows i) p). inl (i, came.0, kept))
        (λ (of : IsOfRow rows i first next begun.so_far.are.stands p). inr (inl (record {
          by = of.by;
          is = of.is;
          from_first = of.from_first;
          below_next = of.below_next;
          some = of.some;
          each = λ one h. (i, came.0, of.each one h);
        })))
        (begun.came p k))
        (λ (k : Contains written p). inl (i, came.0, subst (λ list. Contains list p) (sym is) (Contains-append_right unknowns written p k)))
        (Contains-append_cases left written p came.1)

-- ---- further unknowns for pieces
more-same : (rows : List Row) (k first next : ℕ) (old middle : List Stored) (are : AreLaidOut rows k first next old middle) → IsMoreLaid rows k first next next old middle middle are are
more-same rows k first next old middle are = record { least = omega arith; laid = λ c h. h; stands = λ u below. refl }

pub found-held : (rows : List Row) (k first next : ℕ) (had : List Further) (old middle : List Stored) (before : AreLaidSoFar rows k first next had old middle) (piece : List Atom) (further : Further)
    → Contains had further → further.parts.items ≡ piece → IsPieceFound rows k first next next had had old middle middle before piece (Some further.number)
found-held rows k first next had old middle before piece further there same = record {
  after = before;
  is_more = more-same rows k first next old middle before.are;
  stands_for = λ u is.
      let number : further.number ≡ u = cc in
      subst (λ v. IsFurther first next before.are.stands before.are.laid v piece) number
      (subst (λ list. IsFurther first next before.are.stands before.are.laid further.number list) same (before.held_are further there));
}

pub found-none : (rows : List Row) (k first next : ℕ) (had : List Further) (old middle : List Stored) (before : AreLaidSoFar rows k first next had old middle) (piece : List Atom)
    → IsPieceFound rows k first next next had had old middle middle before piece None
found-none rows k first next had old middle before piece = record {
  after = before;
  is_more = more-same rows k first next old middle before.are;
  stands_for = λ u is. absurd (cc);
}

pub found-new : (rows : List Row) (k first next more : ℕ) (had held : List Further) (old middle new : List Stored) (before : AreLaidSoFar rows k first next had old middle) (piece : List Atom) (further : Further)
    → IsPieceOf rows k piece → more ≡ next + 1 → further.number ≡ next → further.parts.items ≡ piece → IsLaidOut next piece middle new
    → ((one : Further) → Contains held one → Contains had one ⊎ (one ≡ further))
    → IsPieceFound rows k first next more had held old middle new before piece (Some further.number)
found-new rows k first next more had held old middle new before piece further in_row more_is number parts row holds = record {
  after = record {
    are = record {
      laid = both;
      laid_is = row.laid_is ∙ (ap (λ xs. xs ++ row.laid) before.are.laid_is ∙ append_assoc old before.are.laid row.laid);
      stands = stands;
      least = omega (arith, before.are.least, more_is);
      goes = λ j below p h. on-more before.are.laid both p (Unknown j) (Contains-append_left before.are.laid row.laid) (before.are.goes j below p h);
      came = λ p to flow. ⊎_elim
          (λ h. comes-more (IsPartKept rows) (IsPartKept rows) first next more before.are.stands stands p to (λ a b j. j) (omega (arith, more_is)) stands-old
          (before.are.came p to (record { by = flow.by; among = h; starts = flow.starts; ends = flow.ends })))
          (λ h.
          let came = row.came p to (record { by = flow.by; among = h; starts = flow.starts; ends = flow.ends }) in
          inr (inr (record {
            by = next;
            is = came.0;
            from_first = before.are.least;
            below_next = omega (arith, more_is);
            stands_for = subst (λ list. Contains list p) (sym stands-new) came.1;
            end = Unknown k;
            goes = (k, refl, in_row p came.1);
          })))
          (Contains-append_cases before.are.laid row.laid flow.by flow.among);
      inner = λ c h. ⊎_elim (before.are.inner c) (row.inner c) (Contains-append_cases before.are.laid row.laid c h);
    };
    held_are = λ one h. ⊎_elim
        (λ (k : Contains had one). further-more first next more before.are.stands stands before.are.laid both one.number one.parts.items (omega (arith, more_is)) (Contains-append_left before.are.laid row.laid) stands-old
        (before.held_are one k))
        (λ (same : one ≡ further). subst (λ (f : Further). IsFurther first more stands both f.number f.parts.items) (sym same) it)
        (holds one h);
  };
  is_more = record { least = omega (arith, more_is); laid = Contains-append_left before.are.laid row.laid; stands = stands-old };
  stands_for = λ u is.
      let same : further.number ≡ u = cc in
      subst (λ v. IsFurther first more stands both v piece) same (subst (λ list. IsFurther first more stands both further.number list) parts it);
}
  where
    both : List Stored
    both = before.are.laid ++ row.laid

    stands : ℕ → List Atom
    stands u = if u == next then piece else before.are.stands u

    stands-new : stands next ≡ piece
    stands-new = ap (λ b. if b then piece else before.are.stands next) (eq-eqb next next refl)

    stands-old : (u : ℕ) → u < next → stands u ≡ before.are.stands u
    stands-old u below = ap (λ b. if b then piece else before.are.stands u) (ne_eqb u next (λ (e : u ≡ next). omega (arith, below, e)))

    at-next : IsFurther first more stands both next piece
    at-next = record {
      from_first = before.are.least;
      below_next = omega (arith, more_is);
      stands_for = stands-new;
      goes = λ p h. flows-more row.laid both p (Unknown next) (Contains-append_right before.are.laid row.laid) (row.goes p h);
    }

    it : IsFurther first more stands both further.number further.parts.items
    it = subst (λ list. IsFurther first more stands both further.number list) (sym parts) (subst (λ v. IsFurther first more stands both v piece) (sym number) at-next)

-- ---- a row, piece by piece
only-one : (a p : Atom) → Contains (a ∷ []) p → a ≡ p
only-one a p h = ⊎_elim (λ same. same) (λ none. absurd (none_in_nil p none)) (Contains-cons_cases a [] p h)

pub begun-none : (rows : List Row) (k first next : ℕ) (held : List Further) (old middle : List Stored) → AreLaidSoFar rows k first next held old middle → IsRowBegun rows k first next held old middle [] []
begun-none rows k first next held old middle so_far = record {
  so_far = so_far;
  goes = λ p h. absurd (none_in_nil p h);
  came = λ p h. absurd (none_in_nil p h);
}

pub begun-more : (rows : List Row) (k first next more : ℕ) (had held : List Further) (old middle new : List Stored) (done left piece : List Atom) (found : Option ℕ)
    → (begun : IsRowBegun rows k first next had old middle done left) → IsPieceOf rows k piece → 0 < length piece
    → IsPieceFound rows k first next more had held old middle new begun.so_far piece found → IsRowBegun rows k first more held old new (done ++ piece) (left ++ by_found found piece)
begun-more rows k first next more had held old middle new done left piece found begun in_row some is = record {
  so_far = is.after;
  goes = λ p h. ⊎_elim
      (λ (h : Contains done p). ⊎_elim
      (λ (j : Contains left p). inl (Contains-append_left left (by_found found piece) p j))
      (λ (by : (u : ℕ) × Contains left (Unknown u) × Flows begun.so_far.are.laid p (Unknown u)). inr (
        by.0,
        Contains-append_left left (by_found found piece) (Unknown by.0) by.1,
        flows-more begun.so_far.are.laid is.after.are.laid p (Unknown by.0) is.is_more.laid by.2,
      ))
      (begun.goes p h))
      (λ (h : Contains piece p). new-goes found (λ u e. is.stands_for u e) p h)
      (Contains-append_cases done piece p h);
  came = λ p h. ⊎_elim
      (λ (h : Contains left p). ⊎_elim inl
      (λ (of : IsOfRow rows k first next begun.so_far.are.stands p).
      let same : is.after.are.stands of.by ≡ begun.so_far.are.stands of.by = is.is_more.stands of.by of.below_next in
      inr (record {
        by = of.by;
        is = of.is;
        from_first = of.from_first;
        below_next = omega (arith, of.below_next, is.is_more.least);
        some = (of.some.0, subst (λ list. Contains list of.some.0) (sym same) of.some.1);
        each = subst (IsPieceOf rows k) (sym same) of.each;
      }))
      (begun.came p h))
      (new-came found (λ u e. is.stands_for u e) p)
      (Contains-append_cases left (by_found found piece) p h);
}
  where
    new-goes : (o : Option ℕ) → ((u : ℕ) → o ≡ Some u → IsFurther first more is.after.are.stands is.after.are.laid u piece) → (p : Atom) → Contains piece p → LeadsByLeft (left ++ by_found o piece) is.after.are.laid p
    new-goes None none p h = inl (Contains-append_right left piece p h)
    new-goes (Some u) further p h = inr (u, Contains-append_right left (Unknown u ∷ []) (Unknown u) (Contains-first (Unknown u) []), (further u refl).goes p h)

    new-came : (o : Option ℕ) → ((u : ℕ) → o ≡ Some u → IsFurther first more is.after.are.stands is.after.are.laid u piece) → (p : Atom) → Contains (by_found o piece) p
        → Contains (parts_at rows k) p ⊎ IsOfRow rows k first more is.after.are.stands p
    new-came None none p h = inl (in_row p h)
    new-came (Some u) further p h =
        let it = further u refl in
        let one = first-part piece some in
        inr (record {
          by = u;
          is = sym (only-one (Unknown u) p h);
          from_first = it.from_first;
          below_next = it.below_next;
          some = (one.0, subst (λ list. Contains list one.0) (sym it.stands_for) one.1);
          each = subst (IsPieceOf rows k) (sym it.stands_for) in_row;
        })

nil-taken : {X : Type 0} (k : ℕ) → take {A = X} k [] ≡ []
nil-taken zero = refl
nil-taken (suc k) = refl

pub taken-more : {X : Type 0} (xs : List X) (n m : ℕ) → take (n + m) xs ≡ take n xs ++ take m (drop n xs)
taken-more {X = X} [] zero m = let e : 0 + m ≡ m = omega arith in ap (λ k. take {A = X} k []) e
taken-more {X = X} [] (suc n) m = nil-taken {X = X} (suc n + m) ∙ sym (nil-taken {X = X} m)
taken-more (x ∷ xs) zero m = let e : 0 + m ≡ m = omega arith in ap (λ k. take k (x ∷ xs)) e
taken-more (x ∷ xs) (suc n) m = let e : suc n + m ≡ suc (n + m) = omega arith in ap (λ k. take k (x ∷ xs)) e ∙ ap (λ ys. x ∷ ys) (taken-more xs n m)

pub piece-among : (xs piece : List Atom) (n m : ℕ) → piece ≡ take m (drop n xs) → (p : Atom) → Contains piece p → Contains xs p
piece-among xs piece n m is p h =
    subst (λ list. Contains list p) (take-append-drop n xs) (Contains-append_right (take n xs) (drop n xs) p
    (subst (λ list. Contains list p) (take-append-drop m (drop n xs)) (Contains-append_left (take m (drop n xs)) (drop m (drop n xs)) p (subst (λ list. Contains list p) is h))))

-- ---- all of them are those that were taken
kept-flows : (Over : Atom → Atom → Type 0) (spread between : List Stored) (start rows : List Row) (old : List Stored) → ((k : ℕ) → parts_at start k ≡ []) → AreTaken Over spread start rows old between
    → (part to : Atom) → IsPartKept rows part to → Flows spread part to
kept-flows Over spread between start rows old none taken part to kept = ⊎_elim
    (λ had. absurd (none_in_nil part (subst (λ list. Contains list part) (none kept.0) had)))
    (λ (came : Flows spread part (Unknown kept.0)). subst (Flows spread part) (sym kept.1) came)
    (taken.came kept.0 part kept.2)

all-shared : (Over Others : Atom → Atom → Type 0) (others : (a b : Atom) → Over a b → Others a b) (same : (a : Atom) → Others a a) (spread between new : List Stored) (start rows : List Row) (old : List Stored) (first next : ℕ)
    → ((k : ℕ) → parts_at start k ≡ []) → (taken : AreTaken Over spread start rows old between) → (are : AreLaidOut rows (length rows) first next between new)
    → HaveSameFlows Others first next spread (taken.rest ++ are.laid)
all-shared Over Others others same spread between new start rows old first next none taken are =
    let shared : List Stored = taken.rest ++ are.laid in
    record {
      stands = are.stands;
      goes = λ p to flow. ⊎_elim
          (λ (stays : Flows taken.rest p to). record {
            by = p;
            over = same p;
            goes = inl (flows-more taken.rest shared p to (Contains-append_left taken.rest are.laid) stays);
          })
          (λ kept.
          let covered = kept.2 in record {
            by = covered.by;
            over = others p covered.by covered.over;
            goes = subst (FlowsOn shared covered.by) (sym kept.1)
                (on-more are.laid shared covered.by (Unknown kept.0) (Contains-append_right taken.rest are.laid)
                (are.goes kept.0 (parts-inside rows kept.0 covered.by covered.among) covered.by covered.among));
          })
          (taken.goes p to flow);
      came = λ p to flow. ⊎_elim
          (λ h. inl (record { by = flow.by; among = taken.only flow.by h; starts = flow.starts; ends = flow.ends }))
          (λ h. comes-more (IsPartKept rows) (Flows spread) first next next are.stands are.stands p to (kept-flows Over spread between start rows old none taken) (omega arith) (λ u below. refl)
          (are.came p to (record { by = flow.by; among = h; starts = flow.starts; ends = flow.ends })))
          (Contains-append_cases taken.rest are.laid flow.by flow.among);
      inner = λ c h. ⊎_elim (λ k. inl (taken.only c k)) (λ k. inr (are.inner c k)) (Contains-append_cases taken.rest are.laid c h);
    }

pub shared-all : (Over : Atom → Atom → Type 0) (core : Core) (table : List Label) (journal : Journal) (calls : List Called) (start rows : List Row) (wide : ℕ) (old between new : Made)
    → ((a b : Atom) → Over a b → IsFollowed (real_unknowns (program_of core)) old.constraints.items a b)
    → ((k : ℕ) → parts_at start k ≡ []) → length rows ≡ wide → wide ≤ old.number
    → (so_far : AreSpreadSoFar Over core table journal calls start rows old between)
    → AreLaidOut rows wide between.number new.number between.constraints.items new.constraints.items
    → 2 * new.number ≤ 2 * between.number + wide + 1
    → AreSpreadShared core table journal calls old new
shared-all Over core table journal calls start rows wide old between new others none same count so_far all few =
    let laid : AreLaidOut rows (length rows) between.number new.number between.constraints.items new.constraints.items =
    subst (λ n. AreLaidOut rows n between.number new.number between.constraints.items new.constraints.items) (sym same) all in
    record {
      spread = so_far.spread;
      next = between.number;
      least = laid.least;
      few = omega (arith, few, count);
      are_spread = so_far.are_spread;
      shared = so_far.are_taken.rest ++ laid.laid;
      shared_is = laid.laid_is ∙ (ap (λ xs. xs ++ laid.laid) so_far.are_taken.rest_is ∙ append_assoc old.constraints.items so_far.are_taken.rest laid.laid);
      are_shared = all-shared Over (IsFollowed (real_unknowns (program_of core)) old.constraints.items) others (λ a. itself a refl) so_far.spread between.constraints.items new.constraints.items start rows old.constraints.items between.number new.number none so_far.are_taken laid;
    }

-- ---- for the functions that lay rows out
