-- The first of the constraints that are broken, by one part of a left side after another.
use Rattle.std.proofs.Common.{◌≡◌, refl, sym, ◌∙◌, subst, ℕ, zero, suc, ◌<◌, ◌≤◌, ◌+◌, length, get_or, take, List, [], ◌∷◌, Bool, false, arith, ◌⊎◌, inl, inr, ⊎_elim, Option, Some, None, IsTrue, ◌==◌}
use Rattle.std.specs.Prelude.{Contains}
use Rattle.std.proofs.lemmas.Bool.{cases_lt, eq-eqb, eqb-true}
use Rattle.std.proofs.lemmas.List.{take_more}
use Rattle.std.proofs.lemmas.List.Elements.{Contains-append_left, Contains-append_right, Contains-push_cases}
use Rattle.common.proofs.Elements.{none_in_nil, Contains-first}
use Rattle.common.proofs.Cases.{last_cases}
use Rattle.labels.specs.Row.{has}
use Rattle.labels.proofs.Held.{has-inside}
use Rattle.solver.specs.Breaker.{Breaks, BreaksSides, EdgeBreaks, IsBreakerOf, IsFirstBreaker, IsFirstOf, NoneBreaks, PartBreaks, RowBreaks}
use Rattle.solver.specs.EdgeRows.{row_at}
use Rattle.solver.specs.Reach.{AreEdges, LeadsTo, edge, row_of}
use Rattle.solver.specs.Rows.{AreSized, atom_has, has_at}
use Rattle.solver.specs.declared.edges.Edge.{Edge}
use Rattle.solver.specs.declared.edges.Edges.{Edges}
use Rattle.solver.specs.declared.constraints.Atom.{Atom}
use Rattle.solver.specs.declared.constraints.Atom.TheVariants.{Unknown, Written}
use Rattle.solver.specs.declared.constraints.Constraint.{Constraint}
use Rattle.solver.proofs.Comparing.{none-first, slice_get-at, some-first}
use Rattle.solver.proofs.Meaning.{leads-part, part-leads}
use Rattle.solver.proofs.Solved.{list_any-has, list_any-only}
use Rattle.solver.proofs.Standing.{has_at-row}

-- what is broken is so by one of two
pub first-more : (one two both : ℕ → Type 0) (before middle first : ℕ) → ((i : ℕ) → both i → one i ⊎ two i) → ((i : ℕ) → one i → both i) → ((i : ℕ) → two i → both i) →
    IsFirstOf one before middle → IsFirstOf two middle first → IsFirstOf both before first
first-more one two both before middle first split left right a b = record {
  most = let m = a.most in let n = b.most in omega (arith, m, n);
  none = λ i lt breaks. ⊎_elim (λ x. a.none i (let n = b.most in omega (arith, lt, n)) x) (λ y. b.none i lt y) (split i breaks);
  broken = λ lt. ⊎_elim
      (λ less. right first (b.broken less))
      (λ no. let same : middle ≡ first = let n = b.most in omega (arith, n, no) in
      left first (subst one same (a.broken (omega (arith, lt, same)))))
      (cases_lt first middle);
}

-- ---- edge after edge
take-more-only : (edges : List Edge) (i : ℕ) (d e : Edge) → i < length edges → Contains (take (i + 1) edges) e → Contains (take i edges) e ⊎ (get_or edges i d ≡ e)
take-more-only edges i d e h there =
    ⊎_elim inl (λ last. inr last) (Contains-push_cases (take i edges) (get_or edges i d) e (subst (λ es. Contains es e) (take_more edges i d h) there))

pub row-step : (below : ℕ → ℕ → Bool) (row : List Bool) (edges : List Edge) (i : ℕ) (d : Edge) (before middle first : ℕ) → i < length edges →
    IsFirstOf (RowBreaks below row (take i edges)) before middle → IsFirstOf (EdgeBreaks below row (get_or edges i d)) middle first →
    IsFirstOf (RowBreaks below row (take (i + 1) edges)) before first
row-step below row edges i d before middle first h so_far more =
    let last = get_or edges i d in
    let longer = take_more edges i d h in
    first-more (RowBreaks below row (take i edges)) (EdgeBreaks below row last) (RowBreaks below row (take (i + 1) edges)) before middle first
    (λ k breaks. ⊎_elim
    (λ old. inl (record { along = breaks.along; there = old; breaks = breaks.breaks }))
    (λ (is : last ≡ breaks.along). inr (subst (λ (e : Edge). EdgeBreaks below row e k) (sym is) breaks.breaks))
    (take-more-only edges i d breaks.along h breaks.there))
    (λ k breaks. record {
      along = breaks.along;
      there = subst (λ es. Contains es breaks.along) (sym longer) (Contains-append_left (take i edges) (last ∷ []) breaks.along breaks.there);
      breaks = breaks.breaks;
    })
    (λ k breaks. record {
      along = last;
      there = subst (λ es. Contains es last) (sym longer) (Contains-append_right (take i edges) (last ∷ []) last (Contains-first last []));
      breaks = breaks;
    })
    so_far more

-- no edge leads to a written element by a constraint before one
pub none-more : (edges : List Edge) (i : ℕ) (d : Edge) (before : ℕ) → i < length edges →
    ((by to : ℕ) → by < before → Contains (take i edges) (edge by (Written to)) → ⊥) →
    ((by to : ℕ) → by < before → get_or edges i d ≡ edge by (Written to) → ⊥) →
    (by to : ℕ) → by < before → Contains (take (i + 1) edges) (edge by (Written to)) → ⊥
none-more edges i d before h so_far last by to lt there =
    ⊎_elim (so_far by to lt) (last by to lt) (take-more-only edges i d (edge by (Written to)) h there)

-- ---- part after part
module _ (edges : Edges) (below : ℕ → ℕ → Bool) (part : ℕ → Atom) (reaches : (k n : ℕ) → Bool) where
  pub part-step : (k : ℕ) (row : List Bool) (own : List Edge) (before middle first : ℕ) → ((n : ℕ) → has row n ≡ reaches k n) → own ≡ row_of edges (part k) →
      IsFirstOf (PartBreaks edges below part reaches k) before middle → IsFirstOf (RowBreaks below row own) middle first →
      IsFirstOf (PartBreaks edges below part reaches (k + 1)) before first
  part-step k row own before middle first same is so_far more =
      first-more (PartBreaks edges below part reaches k) (RowBreaks below row own) (PartBreaks edges below part reaches (k + 1)) before middle first
      (λ i breaks. ⊎_elim
      (λ less. inl (record { k = breaks.k; inside = less; n = breaks.n; member = breaks.member; to = breaks.to; leads = breaks.leads; fails = breaks.fails }))
      (λ last. inr (record {
        along = edge i (Written breaks.to);
        there = subst (λ es. Contains es (edge i (Written breaks.to))) (sym is) (subst (λ w. LeadsTo edges (part w) i (Written breaks.to)) last breaks.leads);
        breaks = record { to = breaks.to; is = refl; n = breaks.n; member = same breaks.n ∙ subst (λ w. IsTrue (reaches w breaks.n)) last breaks.member; fails = breaks.fails };
      }))
      (last_cases breaks.k k breaks.inside))
      (λ i breaks. more_parts k i breaks)
      (λ i breaks. record {
        k = k;
        inside = omega arith;
        n = breaks.breaks.n;
        member = sym (same breaks.breaks.n) ∙ breaks.breaks.member;
        to = breaks.breaks.to;
        leads = subst (λ e. Contains (row_of edges (part k)) e) breaks.breaks.is (subst (λ es. Contains es breaks.along) is breaks.there);
        fails = breaks.breaks.fails;
      })
      so_far more
    where
      more_parts : (k i : ℕ) → PartBreaks edges below part reaches k i → PartBreaks edges below part reaches (k + 1) i
      more_parts k i breaks = record {
        k = breaks.k;
        inside = let lt = breaks.inside in omega (arith, lt);
        n = breaks.n;
        member = breaks.member;
        to = breaks.to;
        leads = breaks.leads;
        fails = breaks.fails;
      }

  -- no edge from a part leads to a written element by a constraint before one
  pub part-skip : (k : ℕ) (own : List Edge) (before first : ℕ) → own ≡ row_of edges (part k) →
      IsFirstOf (PartBreaks edges below part reaches k) before first → ((by to : ℕ) → by < first → Contains own (edge by (Written to)) → ⊥) →
      IsFirstOf (PartBreaks edges below part reaches (k + 1)) before first
  part-skip k own before first is so_far none = record {
    most = so_far.most;
    none = λ i lt breaks. ⊎_elim
        (λ less. so_far.none i lt (record { k = breaks.k; inside = less; n = breaks.n; member = breaks.member; to = breaks.to; leads = breaks.leads; fails = breaks.fails }))
        (λ last. none i breaks.to lt
        (subst (λ es. Contains es (edge i (Written breaks.to))) (sym is) (subst (λ w. LeadsTo edges (part w) i (Written breaks.to)) last breaks.leads)))
        (last_cases breaks.k k breaks.inside);
    broken = λ lt.
        let breaks = so_far.broken lt in
        record { k = breaks.k; inside = (let less = breaks.inside in omega (arith, less)); n = breaks.n; member = breaks.member; to = breaks.to; leads = breaks.leads; fails = breaks.fails };
  }

-- ---- a constraint is broken exactly where one of its parts breaks it
row_at-inside : (rows : List (List Edge)) (k : ℕ) (e : Edge) → Contains (row_at rows k) e → k < length rows
row_at-inside [] k e there = absurd (none_in_nil e there)
row_at-inside (row ∷ rows) zero e there = omega arith
row_at-inside (row ∷ rows) (suc k) e there = let lt = row_at-inside rows k e there in omega (arith, lt)

module _ {T : Type 0} (below : ℕ → ℕ → Bool) (count : ℕ) (rows : List (List Bool)) (cs : List (Constraint T)) (edges : Edges) (are : AreEdges cs edges) (sized : AreSized count rows)
    (written : length edges.written ≡ count) where
  -- some element breaks the constraint at an index
  abbrev IsBroken : ℕ → Type 0
  IsBroken i = (n : ℕ) × (n < count) × Breaks below rows cs n i

  abbrev BreaksByPart : ℕ → Type 0
  BreaksByPart i = PartBreaks edges below Unknown (has_at rows) (length edges.unknown) i ⊎ PartBreaks edges below Written (λ k n. n == k) (length edges.written) i

  by-part : (n i to : ℕ) (from : Atom) → LeadsTo edges from i (Written to) → IsTrue (atom_has rows n from) → below n to ≡ false → BreaksByPart i
  by-part n i to (Written m) leads member fails =
      let same : n ≡ m = eqb-true n m member in
      let leads' : LeadsTo edges (Written n) i (Written to) = subst (λ k. LeadsTo edges (Written k) i (Written to)) (sym same) leads in
      inr (record {
        k = n;
        inside = row_at-inside edges.written n (edge i (Written to)) leads';
        n = n;
        member = eq-eqb n n refl;
        to = to;
        leads = leads';
        fails = fails;
      })
  by-part n i to (Unknown u) leads member fails =
      inl (record {
        k = u;
        inside = row_at-inside edges.unknown u (edge i (Written to)) leads;
        n = n;
        member = member;
        to = to;
        leads = leads;
        fails = fails;
      })

  split : (i : ℕ) → IsBroken i → BreaksByPart i
  split i broken =
      let breaks = broken.2 in
      let c = breaks.constraint in
      let part = list_any-only (atom_has rows broken.0) c.left.items breaks.sides.member in
      by-part broken.0 i breaks.sides.to part.0 (subst (λ r. LeadsTo edges part.0 i r) breaks.sides.is (part-leads cs edges are i c part.0 breaks.at part.1)) part.2 breaks.sides.fails

  along-breaks : (n i to : ℕ) (from : Atom) → LeadsTo edges from i (Written to) → IsTrue (atom_has rows n from) → below n to ≡ false → Breaks below rows cs n i
  along-breaks n i to from leads member fails =
      let part = leads-part cs edges are from i (Written to) leads in
      record {
        constraint = part.constraint;
        at = part.at;
        sides = record { to = to; is = part.right; member = list_any-has (atom_has rows n) part.constraint.left.items from part.part member; fails = fails };
      }

  unknown-breaks : (i : ℕ) → PartBreaks edges below Unknown (has_at rows) (length edges.unknown) i → IsBroken i
  unknown-breaks i breaks = (
    breaks.n,
    (let lt = has-inside (get_or rows breaks.k []) breaks.n (has_at-row rows breaks.k breaks.n ∙ breaks.member) in
        let short = row-short rows breaks.k sized in omega (arith, lt, short)),
    along-breaks breaks.n i breaks.to (Unknown breaks.k) breaks.leads breaks.member breaks.fails,
  )
    where
      row-short : (rows : List (List Bool)) (u : ℕ) → AreSized count rows → length (get_or rows u []) ≤ count
      row-short [] u sized = omega arith
      row-short (row ∷ rows) zero sized = sized 0 [] (omega arith)
      row-short (row ∷ rows) (suc u) sized = row-short rows u (λ i d lt. sized (suc i) d (omega (arith, lt)))

  written-breaks : (i : ℕ) → PartBreaks edges below Written (λ k n. n == k) (length edges.written) i → IsBroken i
  written-breaks i breaks =
      let same : breaks.n ≡ breaks.k = eqb-true breaks.n breaks.k breaks.member in (
        breaks.n,
        (let lt = breaks.inside in omega (arith, lt, written, same)),
        along-breaks breaks.n i breaks.to (Written breaks.k) breaks.leads breaks.member breaks.fails,
      )

  module _ (middle first : ℕ) (unknowns : IsFirstOf (PartBreaks edges below Unknown (has_at rows) (length edges.unknown)) (length cs) middle)
      (elements : IsFirstOf (PartBreaks edges below Written (λ k n. n == k) (length edges.written)) middle first) where
    all-parts : IsFirstOf IsBroken (length cs) first
    all-parts =
        first-more (PartBreaks edges below Unknown (has_at rows) (length edges.unknown)) (PartBreaks edges below Written (λ k n. n == k) (length edges.written)) IsBroken (length cs) middle first
        split unknown-breaks written-breaks unknowns elements

    none-before : NoneBreaks below count rows cs first
    none-before n i h lt breaks = all-parts.none i lt (n, h, breaks)

    pub no-breaker : length cs ≤ first → IsFirstBreaker below count rows cs None
    no-breaker h = none-first below count rows cs first h none-before

    pub breaker-first : (c : Constraint T) (found : Option ℕ) → first < length cs → c ≡ get_or cs first c → IsBreakerOf below count rows c.left.items c.right found →
        IsFirstBreaker below count rows cs found
    breaker-first c (Some n) h is breaks = some-first below count rows cs first n c h is none-before breaks
    breaker-first c None h is none =
        let broken = all-parts.broken h in
        let breaks = broken.2 in
        let same_c : breaks.constraint ≡ c = sym (slice_get-at cs first breaks.constraint c breaks.at) ∙ sym is in
        absurd (none broken.0 broken.1 (subst (λ (x : Constraint T). BreaksSides below rows x.left.items x.right broken.0) same_c breaks.sides))
