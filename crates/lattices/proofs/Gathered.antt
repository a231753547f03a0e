-- What holds of constraints with inner unknowns holds of those that they stand for: which values fit, which are the least, what
-- reaches an unknown, which is the first that does not hold, and which chain ends there.
use Rattle.std.proofs.Common.{◌≡◌, refl, sym, ap, ◌∙◌, subst, ℕ, Bool, true, false, not, List, [], ◌∷◌, ◌||◌, ◌&&◌, ◌⊎◌, inl, inr, ⊎_elim}
use Rattle.std.specs.Prelude.{IsTrue, IsFalse, Contains, Option, Some, None, if◌then◌else◌}
use Rattle.std.proofs.lemmas.Bool.{or_left, or_right}
use Rattle.common.proofs.Elements.{none_in_nil, Contains-cons_cases, Contains-later, Contains-first}
use Rattle.lattices.specs.Lattice.{Lattice, LatticeLaws}
use Rattle.lattices.specs.Constraints.{Atom, Written, Unknown, Constraint, is_written, value, join_of, holds, FitsAll, FitsUnknowns, IsLeast, first_unmet, Reaches, directly, onward, Linked, ends, goes_on, IsRefusedAt, Occurs, renamed, is_inner, outer, Feeds, itself, through, StandsFor, OneByOne, IsGathered, reported_steps, reported_gathered}
use Rattle.lattices.proofs.Constraints.{each-of, all-from, join_of-above, join_of-least, part-below, unknown-holds, reaching, reaching-only, least_values, least_values-least, join_all-least}
use Rattle.common.proofs.Cases.{by_test}

-- ---- feeding
pub inner-unknown : {U V : Type 0} (inner : U → Bool) (a : Atom U V) → IsTrue (is_inner inner a) → (u : U) × (a ≡ Unknown u)
inner-unknown inner (Written v) e = let i : false ≡ true = e in absurd (cc)
inner-unknown inner (Unknown u) e = (u, refl)

module _ {N U V : Type 0} (inner : U → Bool) where
  pub outer-only : (cs : List (Constraint N U V)) (c : Constraint N U V) → Contains (outer inner cs) c → Contains cs c × IsFalse (is_inner inner c.right)
  outer-only [] c h = absurd (none_in_nil c h)
  outer-only (x ∷ xs) c h = go (is_inner inner x.right) refl h (outer-only xs c)
    where
      go : (b : Bool) → is_inner inner x.right ≡ b → Contains (if b then outer inner xs else (x ∷ outer inner xs)) c →
          (Contains (outer inner xs) c → Contains xs c × IsFalse (is_inner inner c.right)) → Contains (x ∷ xs) c × IsFalse (is_inner inner c.right)
      go true e h next = let found = next h in (Contains-later x xs c found.0, found.1)
      go false e h next = ⊎_elim
          (λ same. (subst (λ y. Contains (x ∷ xs) y) same (Contains-first x xs), subst (λ (y : Constraint N U V). IsFalse (is_inner inner y.right)) same e))
          (λ k. let found = next k in (Contains-later x xs c found.0, found.1))
          (Contains-cons_cases x (outer inner xs) c h)

  pub outer-has : (cs : List (Constraint N U V)) (c : Constraint N U V) → Contains cs c → IsFalse (is_inner inner c.right) → Contains (outer inner cs) c
  outer-has [] c h e = absurd (none_in_nil c h)
  outer-has (x ∷ xs) c h e = go (is_inner inner x.right) refl (λ k. outer-has xs c k e)
    where
      go : (b : Bool) → is_inner inner x.right ≡ b → (Contains xs c → Contains (outer inner xs) c) → Contains (if b then outer inner xs else (x ∷ outer inner xs)) c
      go true f next = ⊎_elim
          (λ same. let i : true ≡ false = sym f ∙ subst (λ (y : Constraint N U V). is_inner inner y.right ≡ false) (sym same) e in absurd (cc))
          next
          (Contains-cons_cases x xs c h)
      go false f next = ⊎_elim
          (λ same. subst (λ y. Contains (x ∷ outer inner xs) y) same (Contains-first x (outer inner xs)))
          (λ k. Contains-later x (outer inner xs) c (next k))
          (Contains-cons_cases x xs c h)

  module _ (cs : List (Constraint N U V)) where
    pub feeds-outer : (from to : Atom U V) → Feeds inner cs from to → IsFalse (is_inner inner from)
    feeds-outer from to (itself _ e same) = e
    feeds-outer from to (through c part _ fed h left is e) = feeds-outer from part fed

    -- what is no inner unknown is fed by itself alone
    pub feeds-alone : (from to : Atom U V) → Feeds inner cs from to → IsFalse (is_inner inner to) → from ≡ to
    feeds-alone from to (itself _ e same) f = same
    feeds-alone from to (through c part _ fed h left is e) f = let i : true ≡ false = sym e ∙ f in absurd (cc)

    -- what feeds some part of a left side stands in that left side, or in one of the constraints
    pub feeds-occurs : (u : U) (to : Atom U V) → Feeds inner cs (Unknown u) to → (Unknown u ≡ to) ⊎ ((c : Constraint N U V) × Contains cs c × Contains c.left (Unknown u))
    feeds-occurs u to (itself _ e same) = inl same
    feeds-occurs u to (through c part _ fed h left is e) =
        inr (⊎_elim (λ same. (c, h, subst (λ x. Contains c.left x) (sym same) left)) (λ found. found) (feeds-occurs u part fed))

    module _ (l : Lattice V) (laws : LatticeLaws l) (w : U → V) where
      abbrev pub FitsInner : Type 0
      FitsInner = (c : Constraint N U V) → Contains cs c → IsTrue (is_inner inner c.right) → IsTrue (holds l w c)

      pub fits-inner : FitsUnknowns l cs w → FitsInner
      fits-inner fits c h e = let found = inner-unknown inner c.right e in unknown-holds l laws cs w fits c found.0 h found.1

      -- what feeds lies below
      pub feeds-below : FitsInner → (from to : Atom U V) → Feeds inner cs from to → IsTrue (l.leq (value w from) (value w to))
      feeds-below fits from to (itself _ e same) = subst (λ x. IsTrue (l.leq (value w from) (value w x))) same (laws.reflexive (value w from))
      feeds-below fits from to (through c part _ fed h left is e) =
          laws.transitive (value w from) (value w part) (value w to) (feeds-below fits from part fed)
          (subst (λ x. IsTrue (l.leq (value w part) (value w x))) is
          (part-below l laws cs w c (fits c h (subst (λ x. IsTrue (is_inner inner x)) (sym is) e)) part left))

      -- the inner unknowns are no more than the join of what feeds them
      abbrev pub IsTight : Type 0
      IsTight = (u : U) → IsTrue (inner u) → Occurs cs u → (v : V) → ((from : Atom U V) → Feeds inner cs from (Unknown u) → IsTrue (l.leq (value w from) v)) → IsTrue (l.leq (w u) v)

      pub part-tight : IsTight → (c : Constraint N U V) → Contains cs c → (part : Atom U V) → Contains c.left part → (v : V) →
          ((from : Atom U V) → Feeds inner cs from part → IsTrue (l.leq (value w from) v)) → IsTrue (l.leq (value w part) v)
      part-tight tight c h (Written x) left v each = each (Written x) (itself (Written x) refl refl)
      part-tight tight c h (Unknown u) left v each =
          by_test (inner u) (λ e. tight u e (c, h, inl left) v each) (λ e. each (Unknown u) (itself (Unknown u) e refl))

-- ---- values for the inner unknowns by those of the others: the least that fit
module _ {U : Type 0} (eq : U → U → Bool) (eq-same : (a b : U) → eq a b ≡ true → a ≡ b) (eq-itself : (a : U) → eq a a ≡ true) where
  module _ {N V : Type 0} (l : Lattice V) (laws : LatticeLaws l) (inner : U → Bool) (cs : List (Constraint N U V)) (w : U → V) where
    -- the constraints with the others at their values
    abbrev fixed : Atom U V → Atom U V
    fixed (Written v) = Written v
    fixed (Unknown u) = if inner u then Unknown u else Written (w u)

    abbrev SameAtom : Atom U V → Atom U V → Type 0
    SameAtom a b = a ≡ b

    abbrev all_fixed : List (Atom U V) → List (Atom U V)
    all_fixed [] = []
    all_fixed (a ∷ rest) = fixed a ∷ all_fixed rest

    abbrev pinned : Constraint N U V → Constraint N U V
    pinned c = record { at = c.at; rule = c.rule; left = all_fixed c.left; target = c.target; right = fixed c.right }

    abbrev all_pinned : List (Constraint N U V) → List (Constraint N U V)
    all_pinned [] = []
    all_pinned (c ∷ rest) = pinned c ∷ all_pinned rest

    abbrev least_inner : U → V
    least_inner u = least_values eq eq-same eq-itself l laws (all_pinned cs) u

    abbrev pub extended : U → V
    extended u = if inner u then least_inner u else w u

    fixed-inner : (a : Atom U V) → IsTrue (is_inner inner a) → fixed a ≡ a
    fixed-inner (Written v) e = refl
    fixed-inner (Unknown u) e = rw e refl

    fixed-unknown : (a : Atom U V) (u : U) → fixed a ≡ Unknown u → (a ≡ Unknown u) × IsTrue (inner u)
    fixed-unknown (Written v) u e = absurd (cc)
    fixed-unknown (Unknown x) u e = go (inner x) refl e
      where
        go : (b : Bool) → inner x ≡ b → (if b then Unknown x else Written (w x)) ≡ Unknown u → SameAtom (Unknown x) (Unknown u) × IsTrue (inner u)
        go true f e = let same : x ≡ u = cc in (e, subst (λ y. IsTrue (inner y)) same f)
        go false f e = absurd (cc)

    fixed-written : (a : Atom U V) (v : V) → fixed a ≡ Written v → IsFalse (is_inner inner a) × (value w a ≡ v)
    fixed-written (Written x) v e = let same : x ≡ v = cc in (refl, same)
    fixed-written (Unknown x) v e = go (inner x) refl e
      where
        go : (b : Bool) → inner x ≡ b → (if b then Unknown x else Written (w x)) ≡ Written v → IsFalse (inner x) × (w x ≡ v)
        go true f e = absurd (cc)
        go false f e = let same : w x ≡ v = cc in (f, same)

    all_fixed-only : (left : List (Atom U V)) (a : Atom U V) → Contains (all_fixed left) a → (b : Atom U V) × Contains left b × (fixed b ≡ a)
    all_fixed-only [] a h = absurd (none_in_nil a h)
    all_fixed-only (x ∷ xs) a h = ⊎_elim
        (λ same. (x, Contains-first x xs, same))
        (λ k. let found = all_fixed-only xs a k in (found.0, Contains-later x xs found.0 found.1, found.2))
        (Contains-cons_cases (fixed x) (all_fixed xs) a h)

    all_pinned-only : (xs : List (Constraint N U V)) (d : Constraint N U V) → Contains (all_pinned xs) d → (c : Constraint N U V) × Contains xs c × (pinned c ≡ d)
    all_pinned-only [] d h = absurd (none_in_nil d h)
    all_pinned-only (x ∷ xs) d h = ⊎_elim
        (λ same. (x, Contains-first x xs, same))
        (λ k. let found = all_pinned-only xs d k in (found.0, Contains-later x xs found.0 found.1, found.2))
        (Contains-cons_cases (pinned x) (all_pinned xs) d h)

    all_pinned-has : (xs : List (Constraint N U V)) (c : Constraint N U V) → Contains xs c → Contains (all_pinned xs) (pinned c)
    all_pinned-has [] c h = absurd (none_in_nil c h)
    all_pinned-has (x ∷ xs) c h = ⊎_elim
        (λ same. subst (λ y. Contains (pinned x ∷ all_pinned xs) (pinned y)) same (Contains-first (pinned x) (all_pinned xs)))
        (λ k. Contains-later (pinned x) (all_pinned xs) (pinned c) (all_pinned-has xs c k))
        (Contains-cons_cases x xs c h)

    value-extended : (a : Atom U V) → value extended a ≡ value least_inner (fixed a)
    value-extended (Written v) = refl
    value-extended (Unknown u) = go (inner u)
      where
        go : (b : Bool) → (if b then least_inner u else w u) ≡ value least_inner (if b then Unknown u else Written (w u))
        go true = refl
        go false = refl

    join_of-extended : (left : List (Atom U V)) → join_of l.join l.least extended left ≡ join_of l.join l.least least_inner (all_fixed left)
    join_of-extended [] = refl
    join_of-extended (a ∷ rest) = rw (value-extended a, join_of-extended rest) refl

    -- at what is no inner unknown they are the others' values
    pub extended-outer : (a : Atom U V) → IsFalse (is_inner inner a) → value extended a ≡ value w a
    extended-outer (Written v) e = refl
    extended-outer (Unknown u) e = rw e refl

    pub extended-fits_inner : FitsInner inner cs l laws extended
    extended-fits_inner c h e =
        let found = inner-unknown inner c.right e in
        let held : IsTrue (holds l least_inner (pinned c)) =
        unknown-holds l laws (all_pinned cs) least_inner (least_values-least eq eq-same eq-itself l laws (all_pinned cs)).fits (pinned c) found.0
        (all_pinned-has cs c h) (fixed-inner c.right e ∙ found.1) in
        subst IsTrue (sym (ap (λ x. l.leq x (value extended c.right)) (join_of-extended c.left) ∙ ap (λ x. l.leq (join_of l.join l.least least_inner (all_fixed c.left)) x) (value-extended c.right))) held

    -- each value that reaches an inner unknown is that of what feeds it
    reached : (v : V) (u : U) → Reaches (all_pinned cs) v u → (from : Atom U V) × Feeds inner cs from (Unknown u) × (value w from ≡ v)
    reached v u (directly d _ h left is) =
        let c = all_pinned-only cs d h in
        let right = fixed-unknown c.0.right u (ap (λ (x : Constraint N U V). x.right) c.2 ∙ is) in
        let part = all_fixed-only c.0.left (Written v) (subst (λ (x : Constraint N U V). Contains x.left (Written v)) (sym c.2) left) in
        let written = fixed-written part.0 v part.2 in
        (part.0, through c.0 part.0 (Unknown u) (itself part.0 written.0 refl) c.1 part.1 right.0 right.1, written.1)
    reached v u (onward d x _ reach h left is) =
        let c = all_pinned-only cs d h in
        let right = fixed-unknown c.0.right u (ap (λ (x : Constraint N U V). x.right) c.2 ∙ is) in
        let part = all_fixed-only c.0.left (Unknown x) (subst (λ (y : Constraint N U V). Contains y.left (Unknown x)) (sym c.2) left) in
        let found = reached v x reach in
        (found.0, through c.0 (Unknown x) (Unknown u) found.1 c.1 (subst (λ y. Contains c.0.left y) (fixed-unknown part.0 x part.2).0 part.1) right.0 right.1, found.2)

    pub extended-below : (u : U) → IsTrue (inner u) → (v : V) → ((from : Atom U V) → Feeds inner cs from (Unknown u) → IsTrue (l.leq (value w from) v)) → IsTrue (l.leq (extended u) v)
    extended-below u e v each = rw e (join_all-least l laws (reaching eq eq-same eq-itself (all_pinned cs) u) v (λ x h.
        let found = reached x u (reaching-only eq eq-same eq-itself (all_pinned cs) x u h) in
        subst (λ y. IsTrue (l.leq y v)) found.2 (each found.0 found.1)))

    pub extended-tight : IsTight inner cs l laws extended
    extended-tight u e occurs v each = extended-below u e v (λ from fed.
        subst (λ y. IsTrue (l.leq y v)) (extended-outer from (feeds-outer inner cs from (Unknown u) fed)) (each from fed))

    -- where the values fit, those that were extended lie below, and fit too
    extended-part : FitsInner inner cs l laws w → (a : Atom U V) → IsTrue (l.leq (value extended a) (value w a))
    extended-part fits (Written v) = laws.reflexive v
    extended-part fits (Unknown u) = by_test (inner u)
        (λ e. extended-below u e (w u) (λ from fed. feeds-below inner cs l laws w fits from (Unknown u) fed))
        (λ e. subst (λ x. IsTrue (l.leq x (w u))) (sym (extended-outer (Unknown u) e)) (laws.reflexive (w u)))

    pub extended-fits : FitsUnknowns l cs w → FitsUnknowns l cs extended
    extended-fits fits = all-from (λ c. is_written c.right || holds l extended c) cs (λ c h. by_right c h c.right refl)
      where
        by_right : (c : Constraint N U V) → Contains cs c → (r : Atom U V) → c.right ≡ r → IsTrue (is_written c.right || holds l extended c)
        by_right c h (Written v) is = or_left (is_written c.right) (holds l extended c) (ap is_written is)
        by_right c h (Unknown u) is = or_right (is_written c.right) (holds l extended c) (by_test (is_inner inner c.right)
            (λ e. extended-fits_inner c h e)
            (λ e. join_of-least l laws extended c.left (value extended c.right) (λ a left.
            laws.transitive (value extended a) (value w a) (value extended c.right) (extended-part (fits-inner inner cs l laws w fits) a)
            (subst (λ x. IsTrue (l.leq (value w a) x)) (sym (extended-outer c.right e))
            (part-below l laws cs w c (unknown-holds l laws cs w fits c u h is) a left)))))

  -- the least values are tight
  pub least-tight : {N V : Type 0} (l : Lattice V) (laws : LatticeLaws l) (inner : U → Bool) (cs : List (Constraint N U V)) (w : U → V) → IsLeast l cs w →
      IsTight inner cs l laws w
  least-tight l laws inner cs w least u e occurs v each =
      laws.transitive (w u) (extended l laws inner cs w u) v
      (least.below (extended l laws inner cs w) (extended-fits l laws inner cs w least.fits) u occurs)
      (extended-below l laws inner cs w u e v each)

-- ---- a constraint and the one that it stands for
pub same-tests : (a b : Bool) → (a ≡ true → b ≡ true) → (b ≡ true → a ≡ true) → a ≡ b
same-tests true b to from = sym (to refl)
same-tests false true to from = from refl
same-tests false false to from = refl

value-renamed : {U W V : Type 0} (number : U → W) (w : W → V) (a : Atom U V) → value w (renamed number a) ≡ value (λ u. w (number u)) a
value-renamed number w (Written v) = refl
value-renamed number w (Unknown u) = refl

written-renamed : {U W V : Type 0} (number : U → W) (a : Atom U V) → is_written (renamed number a) ≡ is_written a
written-renamed number (Written v) = refl
written-renamed number (Unknown u) = refl

abbrev pulled : {U W V : Type 0} → (U → W) → (W → V) → U → V
pulled number w u = w (number u)

-- values that are the same at the unknowns of constraints fit alike
module _ {N U V : Type 0} (l : Lattice V) (ds : List (Constraint N U V)) (u u' : U → V) (same : (x : U) → Occurs ds x → u x ≡ u' x) where
  join_of-alike : (left : List (Atom U V)) → ((a : Atom U V) → Contains left a → value u a ≡ value u' a) → join_of l.join l.least u left ≡ join_of l.join l.least u' left
  join_of-alike [] each = refl
  join_of-alike (a ∷ rest) each = rw (each a (Contains-first a rest), join_of-alike rest (λ b h. each b (Contains-later a rest b h))) refl

  pub holds-alike : (d : Constraint N U V) → Contains ds d → holds l u d ≡ holds l u' d
  holds-alike d h = ap (λ x. l.leq x (value u d.right)) (join_of-alike d.left left) ∙ ap (λ r. l.leq (join_of l.join l.least u' d.left) r) (right d.right refl)
    where
      left : (a : Atom U V) → Contains d.left a → value u a ≡ value u' a
      left (Written v) k = refl
      left (Unknown x) k = same x (d, h, inl k)

      right : (r : Atom U V) → d.right ≡ r → value u r ≡ value u' r
      right (Written v) e = refl
      right (Unknown x) e = same x (d, h, inr e)

  pub fits-alike : FitsAll l ds u → FitsAll l ds u'
  fits-alike fits = all-from (λ d. holds l u' d) ds (λ d h. subst IsTrue (holds-alike d h) (each-of (λ x. holds l u x) ds fits d h))

module _ {N U W V : Type 0} (l : Lattice V) (laws : LatticeLaws l) (number : U → W) (inner : W → Bool) (cs : List (Constraint (Option N) W V)) where
  module _ (w : W → V) (d : Constraint N U V) (c : Constraint (Option N) W V) (is : StandsFor number inner cs d c) where
    right-same : value w c.right ≡ value (pulled number w) d.right
    right-same = ap (value w) is.right_is ∙ value-renamed number w d.right

    pub written-same : is_written c.right ≡ is_written d.right
    written-same = ap is_written is.right_is ∙ written-renamed number d.right

    -- it holds where that one does: down under any values that fit the inner constraints, up under tight ones
    pub holds-down : FitsInner inner cs l laws w → IsTrue (holds l w c) → IsTrue (holds l (pulled number w) d)
    holds-down fits held = join_of-least l laws (pulled number w) d.left (value (pulled number w) d.right) (λ a h.
        let fed = is.left.has a h in
        subst (λ x. IsTrue (l.leq (value (pulled number w) a) x)) right-same
        (subst (λ x. IsTrue (l.leq x (value w c.right))) (value-renamed number w a)
        (laws.transitive (value w (renamed number a)) (value w fed.0) (value w c.right)
        (feeds-below inner cs l laws w fits (renamed number a) fed.0 fed.2)
        (laws.transitive (value w fed.0) (join_of l.join l.least w c.left) (value w c.right) (join_of-above l laws w c.left fed.0 fed.1) held))))

    pub holds-up : Contains cs c → IsTight inner cs l laws w → IsTrue (holds l (pulled number w) d) → IsTrue (holds l w c)
    holds-up there tight held = join_of-least l laws w c.left (value w c.right) (λ part h.
        part-tight inner cs l laws w tight c there part h (value w c.right) (λ from fed.
        let found = is.left.only part from h fed in
        subst (λ x. IsTrue (l.leq x (value w c.right))) (sym (value-renamed number w found.0) ∙ ap (value w) found.2)
        (subst (λ x. IsTrue (l.leq (value (pulled number w) found.0) x)) (sym right-same)
        (laws.transitive (value (pulled number w) found.0) (join_of l.join l.least (pulled number w) d.left) (value (pulled number w) d.right)
        (join_of-above l laws (pulled number w) d.left found.0 found.1) held))))

    pub holds-same : Contains cs c → FitsInner inner cs l laws w → IsTight inner cs l laws w → holds l w c ≡ holds l (pulled number w) d
    holds-same there fits tight = same-tests (holds l w c) (holds l (pulled number w) d) (holds-down fits) (holds-up there tight)

-- ---- one by one
module _ {N U W V : Type 0} (number : U → W) (inner : W → Bool) (among : List (Constraint (Option N) W V)) where
  pub partner-of : (ds : List (Constraint N U V)) (cs : List (Constraint (Option N) W V)) (d : Constraint N U V) → OneByOne number inner among ds cs →
      Contains ds d → (c : Constraint (Option N) W V) × Contains cs c × StandsFor number inner among d c
  partner-of [] cs d one h = absurd (none_in_nil d h)
  partner-of (y ∷ ys) [] d one h = absurd one
  partner-of (y ∷ ys) (x ∷ xs) d one h =
      ⊎_elim
      (λ same. (x, Contains-first x xs, subst (λ z. StandsFor number inner among z x) same one.0))
      (λ k. let found = partner-of ys xs d one.1 k in (found.0, Contains-later x xs found.0 found.1, found.2))
      (Contains-cons_cases y ys d h)

  pub partner-by : (ds : List (Constraint N U V)) (cs : List (Constraint (Option N) W V)) (c : Constraint (Option N) W V) → OneByOne number inner among ds cs →
      Contains cs c → (d : Constraint N U V) × Contains ds d × StandsFor number inner among d c
  partner-by [] [] c one h = absurd (none_in_nil c h)
  partner-by [] (x ∷ xs) c one h = absurd one
  partner-by (y ∷ ys) [] c one h = absurd one
  partner-by (y ∷ ys) (x ∷ xs) c one h =
      ⊎_elim
      (λ same. (y, Contains-first y ys, subst (λ z. StandsFor number inner among y z) same one.0))
      (λ k. let found = partner-by ys xs c one.1 k in (found.0, Contains-later y ys found.0 found.1, found.2))
      (Contains-cons_cases x xs c h)

-- the first unmet one is none of the inner ones
first-outer : {M W V : Type 0} (l : Lattice V) (inner : W → Bool) (w : W → V) (cs : List (Constraint M W V)) → first_unmet l cs w ≡ first_unmet l (outer inner cs) w
first-outer l inner w [] = refl
first-outer {M} {W} {V} l inner w (c ∷ cs) = go (is_inner inner c.right) refl (first-outer l inner w cs)
  where
    go : (b : Bool) → is_inner inner c.right ≡ b → first_unmet l cs w ≡ first_unmet l (outer inner cs) w →
        first_unmet l (c ∷ cs) w ≡ first_unmet l (if b then outer inner cs else (c ∷ outer inner cs)) w
    go true e next = let not_written : is_written c.right ≡ false = ap is_written (inner-unknown inner c.right e).1 in
        ap (λ b. if b && not (holds l w c) then Some c else first_unmet l cs w) not_written ∙ next
    go false e next = ap (λ x. if is_written c.right && not (holds l w c) then Some c else x) next

module _ {N U W V : Type 0} (l : Lattice V) (number : U → W) (inner : W → Bool) (among : List (Constraint (Option N) W V)) (w : W → V) where
  first-along : (ds : List (Constraint N U V)) (cs : List (Constraint (Option N) W V)) (c : Constraint (Option N) W V) → OneByOne number inner among ds cs →
      ((d : Constraint N U V) (x : Constraint (Option N) W V) → Contains cs x → StandsFor number inner among d x →
      (is_written x.right && not (holds l w x)) ≡ (is_written d.right && not (holds l (pulled number w) d))) →
      first_unmet l cs w ≡ Some c → (d : Constraint N U V) × (first_unmet l ds (pulled number w) ≡ Some d) × StandsFor number inner among d c × Contains ds d
  first-along [] [] c one each e = let i : None ≡ Some c = e in absurd (cc)
  first-along [] (x ∷ xs) c one each e = absurd one
  first-along (y ∷ ys) [] c one each e = absurd one
  first-along (y ∷ ys) (x ∷ xs) c one each e =
      go (is_written x.right && not (holds l w x)) refl (each y x (Contains-first x xs) one.0) e
      (first-along ys xs c one.1 (λ d z h. each d z (Contains-later x xs z h)))
    where
      go : (b : Bool) → (is_written x.right && not (holds l w x)) ≡ b → (is_written x.right && not (holds l w x)) ≡ (is_written y.right && not (holds l (pulled number w) y)) →
          first_unmet l (x ∷ xs) w ≡ Some c →
          (first_unmet l xs w ≡ Some c → (d : Constraint N U V) × (first_unmet l ys (pulled number w) ≡ Some d) × StandsFor number inner among d c × Contains ys d) →
          (d : Constraint N U V) × (first_unmet l (y ∷ ys) (pulled number w) ≡ Some d) × StandsFor number inner among d c × Contains (y ∷ ys) d
      go true f same e later =
          let is : Some x ≡ Some c = sym (rw f refl) ∙ e in
          let eq : x ≡ c = cc in
          (y, rw (sym same ∙ f) refl, subst (λ z. StandsFor number inner among y z) eq one.0, Contains-first y ys)
      go false f same e later =
          let found = later (sym (rw f refl) ∙ e) in
          (found.0, rw (sym same ∙ f) found.1, found.2, Contains-later y ys found.0 found.3)

-- ---- what holds across
module _ {N U W V : Type 0} (ds : List (Constraint N U V)) (cs : List (Constraint (Option N) W V)) (gathered : IsGathered ds cs) where
  pub partner : (d : Constraint N U V) → Contains ds d → (c : Constraint (Option N) W V) × Contains cs c × IsFalse (is_inner gathered.inner c.right) × StandsFor gathered.number gathered.inner cs d c
  partner d h =
      let found = partner-of gathered.number gathered.inner cs ds (outer gathered.inner cs) d gathered.one_by_one h in
      let there = outer-only gathered.inner cs found.0 found.1 in
      (found.0, there.0, there.1, found.2)

  pub origin : (c : Constraint (Option N) W V) → Contains cs c → IsFalse (is_inner gathered.inner c.right) → (d : Constraint N U V) × Contains ds d × StandsFor gathered.number gathered.inner cs d c
  origin c h e = partner-by gathered.number gathered.inner cs ds (outer gathered.inner cs) c gathered.one_by_one (outer-has gathered.inner cs c h e)

  -- the number of an unknown that occurs is no inner one, and occurs
  pub number-outer : (u : U) → Occurs ds u → IsFalse (gathered.inner (gathered.number u))
  number-outer u (d, h, inl k) = let c = partner d h in let fed = c.3.left.has (Unknown u) k in
      feeds-outer gathered.inner cs (Unknown (gathered.number u)) fed.0 fed.2
  number-outer u (d, h, inr e) = let c = partner d h in
      subst (λ x. IsFalse (is_inner gathered.inner x)) (c.3.right_is ∙ ap (renamed gathered.number) e) c.2

  pub occurs-there : (u : U) → Occurs ds u → Occurs cs (gathered.number u)
  occurs-there u (d, h, inr e) = let c = partner d h in (c.0, c.1, inr (c.3.right_is ∙ ap (renamed gathered.number) e))
  occurs-there u (d, h, inl k) = let c = partner d h in let fed = c.3.left.has (Unknown u) k in
      ⊎_elim (λ same. (c.0, c.1, inl (subst (λ x. Contains c.0.left x) (sym same) fed.1)))
      (λ found. (found.0, found.1, inl found.2))
      (feeds-occurs gathered.inner cs (gathered.number u) fed.0 fed.2)

  module _ (l : Lattice V) (laws : LatticeLaws l) where
    -- values that fit what was gathered fit, by number, what it was gathered from
    pub fits-down : (w : W → V) → FitsAll l cs w → FitsAll l ds (pulled gathered.number w)
    fits-down w fits = all-from (λ d. holds l (pulled gathered.number w) d) ds (λ d h.
        let c = partner d h in
        holds-down l laws gathered.number gathered.inner cs w d c.0 c.3 (λ x k e. each-of (λ x. holds l w x) cs fits x k) (each-of (λ x. holds l w x) cs fits c.0 c.1))

    pub fits_unknowns-down : (w : W → V) → FitsUnknowns l cs w → FitsUnknowns l ds (pulled gathered.number w)
    fits_unknowns-down w fits = all-from (λ d. is_written d.right || holds l (pulled gathered.number w) d) ds (λ d h. by_right d h d.right refl)
      where
        by_right : (d : Constraint N U V) → Contains ds d → (r : Atom U V) → d.right ≡ r → IsTrue (is_written d.right || holds l (pulled gathered.number w) d)
        by_right d h (Written v) is = or_left (is_written d.right) (holds l (pulled gathered.number w) d) (ap is_written is)
        by_right d h (Unknown u) is = let c = partner d h in
            or_right (is_written d.right) (holds l (pulled gathered.number w) d)
            (holds-down l laws gathered.number gathered.inner cs w d c.0 c.3 (fits-inner gathered.inner cs l laws w fits)
            (unknown-holds l laws cs w fits c.0 (gathered.number u) c.1 (c.3.right_is ∙ ap (renamed gathered.number) is)))

    module _ (eq : W → W → Bool) (eq-same : (a b : W) → eq a b ≡ true → a ≡ b) (eq-itself : (a : W) → eq a a ≡ true) where
      -- values of the others by name, with the least ones for the inner unknowns
      abbrev pub raised : (U → V) → W → V
      raised u x = extended eq eq-same eq-itself l laws gathered.inner cs (λ y. u (gathered.name y)) x

      pub raised-same : (u : U → V) (x : U) → Occurs ds x → u x ≡ raised u (gathered.number x)
      raised-same u x occurs =
          ap u (sym (gathered.named x occurs)) ∙ sym (extended-outer eq eq-same eq-itself l laws gathered.inner cs (λ y. u (gathered.name y)) (Unknown (gathered.number x)) (number-outer x occurs))

      raised-holds : (u : U → V) (c : Constraint (Option N) W V) → Contains cs c →
          ((d : Constraint N U V) → Contains ds d → StandsFor gathered.number gathered.inner cs d c → IsTrue (holds l u d)) → IsTrue (holds l (raised u) c)
      raised-holds u c h each = by_test (is_inner gathered.inner c.right)
          (λ e. extended-fits_inner eq eq-same eq-itself l laws gathered.inner cs (λ y. u (gathered.name y)) c h e)
          (λ e. let d = origin c h e in
          holds-up l laws gathered.number gathered.inner cs (raised u) d.0 c d.2 h
          (extended-tight eq eq-same eq-itself l laws gathered.inner cs (λ y. u (gathered.name y)))
          (subst IsTrue (holds-alike l ds u (pulled gathered.number (raised u)) (raised-same u) d.0 d.1) (each d.0 d.1 d.2)))

      -- values that fit what it was gathered from are, by number, values that fit what was gathered, with some for the inner unknowns
      pub fits-up : (u : U → V) → FitsAll l ds u → (w : W → V) × FitsAll l cs w × ((x : U) → Occurs ds x → u x ≡ w (gathered.number x))
      fits-up u fits = (raised u, all-from (λ c. holds l (raised u) c) cs (λ c h. raised-holds u c h (λ d k is. each-of (λ d. holds l u d) ds fits d k)), raised-same u)

      fits_unknowns-up : (u : U → V) → FitsUnknowns l ds u → FitsUnknowns l cs (raised u)
      fits_unknowns-up u fits = all-from (λ c. is_written c.right || holds l (raised u) c) cs (λ c h. by_right c h c.right refl)
        where
          demanded : (c : Constraint (Option N) W V) (d : Constraint N U V) → Contains ds d → StandsFor gathered.number gathered.inner cs d c → is_written c.right ≡ false → (r : Atom U V) → d.right ≡ r → IsTrue (holds l u d)
          demanded c d k is e (Unknown x) right = unknown-holds l laws ds u fits d x k right
          demanded c d k is e (Written v) right =
              let i : true ≡ false = sym (ap is_written (is.right_is ∙ ap (renamed gathered.number) right)) ∙ e in absurd (cc)

          by_right : (c : Constraint (Option N) W V) → Contains cs c → (r : Atom W V) → c.right ≡ r → IsTrue (is_written c.right || holds l (raised u) c)
          by_right c h (Written v) is = or_left (is_written c.right) (holds l (raised u) c) (ap is_written is)
          by_right c h (Unknown x) is = or_right (is_written c.right) (holds l (raised u) c)
              (raised-holds u c h (λ d k stands. demanded c d k stands (ap is_written is) d.right refl))

      -- the least values of the one are, by number, those of the other
      pub least-same : (w : W → V) → IsLeast l cs w → IsLeast l ds (pulled gathered.number w)
      least-same w least = record {
        fits = fits_unknowns-down w least.fits;
        below = λ others fits u occurs.
            subst (λ x. IsTrue (l.leq (w (gathered.number u)) x)) (sym (raised-same others u occurs))
            (least.below (raised others) (fits_unknowns-up others fits) (gathered.number u) (occurs-there u occurs));
      }

      -- the first that does not hold
      pub first-same : (w : W → V) → IsLeast l cs w → (c : Constraint (Option N) W V) → first_unmet l cs w ≡ Some c →
          (d : Constraint N U V) × (first_unmet l ds (pulled gathered.number w) ≡ Some d) × StandsFor gathered.number gathered.inner cs d c × Contains ds d
      first-same w least c e =
          first-along l gathered.number gathered.inner cs w ds (outer gathered.inner cs) c gathered.one_by_one
          (λ d x h is. rw (
            written-same l laws gathered.number gathered.inner cs w d x is,
            holds-same l laws gathered.number gathered.inner cs w d x is (outer-only gathered.inner cs x h).0 (fits-inner gathered.inner cs l laws w least.fits)
                (least-tight eq eq-same eq-itself l laws gathered.inner cs w least),
          ) refl)
          (sym (first-outer l gathered.inner w cs) ∙ e)

    abbrev OccursAtom : Atom U V → Type 0
    OccursAtom (Written v) = Unit {0}
    OccursAtom (Unknown u) = Occurs ds u

    -- atoms with the same renamed one are the same
    same-atom : (a b : Atom U V) → OccursAtom a → OccursAtom b → renamed gathered.number a ≡ renamed gathered.number b → a ≡ b
    same-atom (Written v) (Written w) h k e = let same : v ≡ w = cc in ap (λ x. Written x) same
    same-atom (Written v) (Unknown u) h k e = absurd (cc)
    same-atom (Unknown u) (Written v) h k e = absurd (cc)
    same-atom (Unknown u) (Unknown x) h k e =
        let same : gathered.number u ≡ gathered.number x = cc in
        ap (λ y. Unknown y) (sym (gathered.named u h) ∙ ap gathered.name same ∙ gathered.named x k)

    occurs-left : (d : Constraint N U V) → Contains ds d → (a : Atom U V) → Contains d.left a → OccursAtom a
    occurs-left d h (Written v) k = tt
    occurs-left d h (Unknown u) k = (d, h, inl k)

    -- what feeds a part of the left side stands in the left side that this one stands for
    fed-by : (d : Constraint N U V) (c : Constraint (Option N) W V) → Contains ds d → StandsFor gathered.number gathered.inner cs d c → (part : Atom W V) → Contains c.left part →
        (a : Atom U V) → OccursAtom a → Feeds gathered.inner cs (renamed gathered.number a) part → Contains d.left a
    fed-by d c h is part left a occurs fed =
        let found = is.left.only part (renamed gathered.number a) left fed in
        subst (λ x. Contains d.left x) (same-atom found.0 a (occurs-left d h found.0 found.1) occurs found.2) found.1

    -- the right side of the one is that of the other
    right-unknown : (d : Constraint N U V) (c : Constraint (Option N) W V) → StandsFor gathered.number gathered.inner cs d c → (y : W) → c.right ≡ Unknown y →
        (u : U) × (d.right ≡ Unknown u) × (gathered.number u ≡ y)
    right-unknown d c is y right = go d.right refl
      where
        go : (r : Atom U V) → d.right ≡ r → (u : U) × (d.right ≡ Unknown u) × (gathered.number u ≡ y)
        go (Written v) e =
            let i : renamed gathered.number (Written v) ≡ Unknown y = sym (ap (renamed gathered.number) e) ∙ sym is.right_is ∙ right in absurd (cc)
        go (Unknown u) e =
            let i : renamed gathered.number (Unknown u) ≡ Unknown y = sym (ap (renamed gathered.number) e) ∙ sym is.right_is ∙ right in
            let same : gathered.number u ≡ y = cc in (u, e, same)

    outer_first : (c : Constraint (Option N) W V) (chain : List (Constraint (Option N) W V)) → IsFalse (is_inner gathered.inner c.right) →
        outer gathered.inner (c ∷ chain) ≡ (c ∷ outer gathered.inner chain)
    outer_first c chain e = rw e refl

    outer_skips : (c : Constraint (Option N) W V) (chain : List (Constraint (Option N) W V)) → IsTrue (is_inner gathered.inner c.right) →
        outer gathered.inner (c ∷ chain) ≡ outer gathered.inner chain
    outer_skips c chain e = rw e refl

    abbrev Along : Atom U V → List (Constraint (Option N) W V) → Constraint N U V → Type 0
    Along a chain d = (there : List (Constraint N U V)) × Linked ds a there d × OneByOne gathered.number gathered.inner cs there (outer gathered.inner chain)

    -- a chain of the one, without its inner steps, is a chain of the other, and ends at whichever the last stands for
    pub linked-same : (b : Atom W V) (chain : List (Constraint (Option N) W V)) (last : Constraint (Option N) W V) → Linked cs b chain last →
        (a : Atom U V) → OccursAtom a → Feeds gathered.inner cs (renamed gathered.number a) b → (d : Constraint N U V) → Contains ds d →
        StandsFor gathered.number gathered.inner cs d last → IsFalse (is_inner gathered.inner last.right) → Along a chain d
    linked-same b chain last (ends _ c h part) a occurs fed d k is e = (
      d ∷ [],
      ends a d k (fed-by d c k is b part a occurs fed),
      subst (λ x. OneByOne gathered.number gathered.inner cs (d ∷ []) x) (sym (outer_first c [] e)) (is, tt),
    )
    linked-same b chain last (goes_on _ c u rest _ h part right more) a occurs fed d k is e =
        by_inner (is_inner gathered.inner c.right) refl (λ x y z. linked-same (Unknown u) rest last more x y z d k is e)
      where
        by_inner : (t : Bool) → is_inner gathered.inner c.right ≡ t →
            ((x : Atom U V) → OccursAtom x → Feeds gathered.inner cs (renamed gathered.number x) (Unknown u) → Along x rest d) → Along a (c ∷ rest) d
        by_inner true f next =
            let found = next a occurs (through c b (Unknown u) fed h part right (subst (λ x. IsTrue (is_inner gathered.inner x)) right f)) in
            (found.0, found.1, subst (λ x. OneByOne gathered.number gathered.inner cs found.0 x) (sym (outer_skips c rest f)) found.2)
        by_inner false f next =
            let first = origin c h f in
            let x = right-unknown first.0 c first.2 u right in
            let found = next (Unknown x.0) (first.0, first.1, inr x.1)
            (itself (Unknown u) (subst (λ y. IsFalse (gathered.inner y)) (sym x.2) (subst (λ y. IsFalse (is_inner gathered.inner y)) right f)) (ap (λ y. Unknown y) x.2)) in (
              first.0 ∷ found.0,
              goes_on a first.0 x.0 found.0 d first.1 (fed-by first.0 c first.1 first.2 b part a occurs fed) x.1 found.1,
              subst (λ y. OneByOne gathered.number gathered.inner cs (first.0 ∷ found.0) y) (sym (outer_first c rest f)) (first.2, found.2),
            )

    module _ (eq : W → W → Bool) (eq-same : (a b : W) → eq a b ≡ true → a ≡ b) (eq-itself : (a : W) → eq a a ≡ true) where
      -- so where the solver refuses, the others are refused too, at the one that its last stands for
      pub refused-same : (from : V) (chain : List (Constraint (Option N) W V)) (last : Constraint (Option N) W V) → IsRefusedAt l cs from chain last →
          (d : Constraint N U V) × (there : List (Constraint N U V)) × IsRefusedAt l ds from there d × StandsFor gathered.number gathered.inner cs d last
          × OneByOne gathered.number gathered.inner cs there (outer gathered.inner chain)
      refused-same from chain last refused =
          let first = first-same eq eq-same eq-itself refused.values refused.least last refused.first in
          let found = linked-same (Written from) chain last refused.chained.linked (Written from) tt (itself (Written from) refl refl) first.0 first.3 first.2
          (ap (is_inner gathered.inner) refused.chained.right_is) in (
            first.0,
            found.0,
            record {
              values = pulled gathered.number refused.values;
              least = least-same eq eq-same eq-itself refused.values refused.least;
              first = first.1;
              chained = record {
                linked = found.1;
                to = refused.chained.to;
                right_is = written-right first.0.right (sym first.2.right_is ∙ refused.chained.right_is);
                not_below = refused.chained.not_below;
              };
            },
            first.2,
            found.2,
          )
        where
          written-right : (r : Atom U V) → renamed gathered.number r ≡ Written refused.chained.to → r ≡ Written refused.chained.to
          written-right (Written v) e = let same : v ≡ refused.chained.to = cc in ap (λ x. Written x) same
          written-right (Unknown u) e = absurd (cc)

    -- what reaches an unknown by the one reaches it by the other
    abbrev Carries : {M X : Type 0} → List (Constraint M X V) → V → Atom X V → Type 0
    Carries xs v (Written x) = x ≡ v
    Carries xs v (Unknown u) = Reaches xs v u

    carried-on : {M X : Type 0} (xs : List (Constraint M X V)) (v : V) (c : Constraint M X V) (a : Atom X V) (u : X) → Contains xs c → Contains c.left a →
        c.right ≡ Unknown u → Carries xs v a → Reaches xs v u
    carried-on xs v c (Written x) u h left right carries = directly c u h (subst (λ y. Contains c.left (Written y)) carries left) right
    carried-on xs v c (Unknown w) u h left right carries = onward c w u carries h left right

    fed-carries : (v : V) (from to : Atom W V) → Feeds gathered.inner cs from to → Carries cs v from → Carries cs v to
    fed-carries v from to (itself _ e same) carries = subst (λ x. Carries cs v x) same carries
    fed-carries v from to (through c part _ fed h left is e) carries =
        let u = inner-unknown gathered.inner to e in
        subst (λ x. Carries cs v x) (sym u.1) (carried-on cs v c part u.0 h left (is ∙ u.1) (fed-carries v from part fed carries))

    by_part : (v : V) (u : U) (d : Constraint N U V) (a : Atom U V) → Contains ds d → Contains d.left a → d.right ≡ Unknown u →
        Carries cs v (renamed gathered.number a) → Reaches cs v (gathered.number u)
    by_part v u d a h left right carries =
        let c = partner d h in
        let fed = c.3.left.has a left in
        carried-on cs v c.0 fed.0 (gathered.number u) c.1 fed.1 (c.3.right_is ∙ ap (renamed gathered.number) right)
        (fed-carries v (renamed gathered.number a) fed.0 fed.2 carries)

    pub reaches-up : (v : V) (u : U) → Reaches ds v u → Reaches cs v (gathered.number u)
    reaches-up v u (directly d _ h left right) = by_part v u d (Written v) h left right refl
    reaches-up v u (onward d w _ reach h left right) = by_part v u d (Unknown w) h left right (reaches-up v w reach)

    abbrev ComesTo : V → Atom W V → Type 0
    ComesTo v part = (a : Atom U V) × OccursAtom a × Carries ds v a × Feeds gathered.inner cs (renamed gathered.number a) part

    comes-on : (v : V) (c : Constraint (Option N) W V) (part : Atom W V) (y : W) → Contains cs c → Contains c.left part → c.right ≡ Unknown y →
        ComesTo v part → ComesTo v (Unknown y)
    comes-on v c part y h left right (a, occurs, carries, fed) = by_inner (is_inner gathered.inner c.right) refl
      where
        by_inner : (t : Bool) → is_inner gathered.inner c.right ≡ t → ComesTo v (Unknown y)
        by_inner true e = (a, occurs, carries, through c part (Unknown y) fed h left right (subst (λ x. IsTrue (is_inner gathered.inner x)) right e))
        by_inner false e =
            let d = origin c h e in
            let x = right-unknown d.0 c d.2 y right in (
              Unknown x.0,
              (d.0, d.1, inr x.1),
              carried-on ds v d.0 a x.0 d.1 (fed-by d.0 c d.1 d.2 part left a occurs fed) x.1 carries,
              itself (Unknown y) (subst (λ z. IsFalse (gathered.inner z)) (sym x.2) (subst (λ z. IsFalse (is_inner gathered.inner z)) right e)) (ap (λ z. Unknown z) x.2),
            )

    pub comes : (v : V) (y : W) → Reaches cs v y → ComesTo v (Unknown y)
    comes v y (directly c _ h left right) = comes-on v c (Written v) y h left right (Written v, tt, refl, itself (Written v) refl refl)
    comes v y (onward c w _ reach h left right) = comes-on v c (Unknown w) y h left right (comes v w reach)

    pub reaches-down : (v : V) (u : U) → Occurs ds u → Reaches cs v (gathered.number u) → Reaches ds v u
    reaches-down v u occurs reach =
        let found = comes v (gathered.number u) reach in
        let same = same-atom found.0 (Unknown u) found.1 occurs
        (feeds-alone gathered.inner cs (renamed gathered.number found.0) (Unknown (gathered.number u)) found.3 (number-outer u occurs)) in
        subst (λ x. Carries ds v x) same found.2

  -- the constraints of a chain are there
  linked-within : {M X V' : Type 0} (xs : List (Constraint M X V')) (a : Atom X V') (chain : List (Constraint M X V')) (last : Constraint M X V') → Linked xs a chain last →
      (c : Constraint M X V') → Contains chain c → Contains xs c
  linked-within xs a chain last (ends _ x h part) c k = ⊎_elim (λ same. subst (λ y. Contains xs y) same h) (λ later. absurd (none_in_nil c later)) (Contains-cons_cases x [] c k)
  linked-within xs a chain last (goes_on _ x u rest _ h part right more) c k =
      ⊎_elim (λ same. subst (λ y. Contains xs y) same h) (λ later. linked-within xs (Unknown u) rest last more c later) (Contains-cons_cases x rest c k)

  -- what is reported of the steps of both chains, by byte, rule and target, is the same
  module _ {T : Type 0} (report : ℕ → ℕ → N → List T) where
    reported-along : (chain : List (Constraint (Option N) W V)) → ((c : Constraint (Option N) W V) → Contains chain c → Contains cs c) → (there : List (Constraint N U V)) →
        OneByOne gathered.number gathered.inner cs there (outer gathered.inner chain) → reported_gathered report chain ≡ reported_steps report there
    reported-along [] within [] one = refl
    reported-along [] within (d ∷ ds') one = absurd one
    reported-along (c ∷ rest) within there one = by_inner (is_inner gathered.inner c.right) refl there one (λ t o. reported-along rest (λ x h. within x (Contains-later c rest x h)) t o)
      where
        by_inner : (b : Bool) → is_inner gathered.inner c.right ≡ b → (there : List (Constraint N U V)) →
            OneByOne gathered.number gathered.inner cs there (if b then outer gathered.inner rest else (c ∷ outer gathered.inner rest)) →
            ((t : List (Constraint N U V)) → OneByOne gathered.number gathered.inner cs t (outer gathered.inner rest) → reported_gathered report rest ≡ reported_steps report t) →
            reported_gathered report (c ∷ rest) ≡ reported_steps report there
        by_inner true e there one next = rw (gathered.no_target c (within c (Contains-first c rest)) e) (next there one)
        by_inner false e [] one next = absurd one
        by_inner false e (d ∷ ds') one next = rw (one.0.at_is, one.0.rule_is, one.0.target_is, next ds' one.1) refl

    pub reported-same : (a : Atom W V) (chain : List (Constraint (Option N) W V)) (last : Constraint (Option N) W V) → Linked cs a chain last → (there : List (Constraint N U V)) →
        OneByOne gathered.number gathered.inner cs there (outer gathered.inner chain) → reported_gathered report chain ≡ reported_steps report there
    reported-same a chain last linked there one = reported-along chain (linked-within cs a chain last linked) there one
