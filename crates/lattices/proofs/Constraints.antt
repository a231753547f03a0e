-- Constraints over a lattice: least values are there and are least, a chain rules out every choice of values, and where the least
-- values do not fit there is a chain.
use Rattle.std.proofs.Common.{append_assoc, ◌≡◌, refl, sym, ap, ◌∙◌, subst, Bool, true, false, not, List, [], ◌∷◌, ◌++◌, ◌||◌, ◌&&◌, ◌⊎◌, inl, inr, ⊎_elim}
use Rattle.std.specs.Prelude.{IsTrue, IsFalse, Contains, Some, None, find, if◌then◌else◌}
use Rattle.std.specs.List.{list_all}
use Rattle.std.proofs.lemmas.Bool.{and_parts, and_from, or_left, or_right, or_cases, not-false, not-true}
use Rattle.std.proofs.lemmas.List.Elements.{Contains-append_cases, Contains-append_left, Contains-append_right}
use Rattle.common.proofs.Elements.{none_in_nil, Contains-cons_cases, Contains-later, Contains-first}
use Rattle.common.proofs.Leading.{IsLeading, leading-cases, leading-itself, leading-one, leading-through}
use Rattle.lattices.specs.Lattice.{Lattice, LatticeLaws}
use Rattle.lattices.specs.Constraints.{Atom, Written, Unknown, Constraint, is_written, value, join_of, holds, FitsAll, FitsUnknowns, IsLeast, first_unmet, Reaches, directly, onward, Linked, ends, goes_on, IsChain, IsRefusedAt, Occurs}

-- ---- tests over lists
pub each-of : {X : Type 0} (test : X → Bool) (xs : List X) → IsTrue (list_all test xs) → (x : X) → Contains xs x → IsTrue (test x)
each-of test [] all x h = absurd (none_in_nil x h)
each-of test (y ∷ ys) all x h =
    let parts = and_parts (test y) (list_all test ys) all in
    ⊎_elim (λ same. subst (λ z. IsTrue (test z)) same parts.0) (λ later. each-of test ys parts.1 x later) (Contains-cons_cases y ys x h)

pub all-from : {X : Type 0} (test : X → Bool) (xs : List X) → ((x : X) → Contains xs x → IsTrue (test x)) → IsTrue (list_all test xs)
all-from test [] each = refl
all-from test (y ∷ ys) each =
    and_from (test y) (list_all test ys) (each y (Contains-first y ys)) (all-from test ys (λ x h. each x (Contains-later y ys x h)))

by_test : {P : Type 0} (b : Bool) → b ≡ b → (b ≡ true → P) → (b ≡ false → P) → P
by_test true e held fails = held refl
by_test false e held fails = fails refl

-- ---- the lattice: the join of a list of values, and a left side
abbrev pub join_all : {V : Type 0} → Lattice V → List V → V
join_all l [] = l.least
join_all l (v ∷ vs) = l.join v (join_all l vs)

module _ {V : Type 0} (l : Lattice V) (laws : LatticeLaws l) where
  pub join_all-above : (vs : List V) (v : V) → Contains vs v → IsTrue (l.leq v (join_all l vs))
  join_all-above [] v h = absurd (none_in_nil v h)
  join_all-above (w ∷ ws) v h =
      ⊎_elim
      (λ same. subst (λ x. IsTrue (l.leq x (join_all l (w ∷ ws)))) same (laws.above_left w (join_all l ws)))
      (λ later. laws.transitive v (join_all l ws) (join_all l (w ∷ ws)) (join_all-above ws v later) (laws.above_right w (join_all l ws)))
      (Contains-cons_cases w ws v h)

  pub join_all-least : (vs : List V) (b : V) → ((v : V) → Contains vs v → IsTrue (l.leq v b)) → IsTrue (l.leq (join_all l vs) b)
  join_all-least [] b each = laws.below_all b
  join_all-least (w ∷ ws) b each =
      laws.least_above w (join_all l ws) b (each w (Contains-first w ws)) (join_all-least ws b (λ v h. each v (Contains-later w ws v h)))

  module _ {U : Type 0} (values : U → V) where
    pub join_of-above : (left : List (Atom U V)) (atom : Atom U V) → Contains left atom → IsTrue (l.leq (value values atom) (join_of l.join l.least values left))
    join_of-above [] atom h = absurd (none_in_nil atom h)
    join_of-above (a ∷ rest) atom h =
        ⊎_elim
        (λ same. subst (λ x. IsTrue (l.leq (value values x) (join_of l.join l.least values (a ∷ rest)))) same (laws.above_left (value values a) (join_of l.join l.least values rest)))
        (λ later. laws.transitive (value values atom) (join_of l.join l.least values rest) (join_of l.join l.least values (a ∷ rest)) (join_of-above rest atom later)
        (laws.above_right (value values a) (join_of l.join l.least values rest)))
        (Contains-cons_cases a rest atom h)

    pub join_of-least : (left : List (Atom U V)) (b : V) → ((atom : Atom U V) → Contains left atom → IsTrue (l.leq (value values atom) b)) →
        IsTrue (l.leq (join_of l.join l.least values left) b)
    join_of-least [] b each = laws.below_all b
    join_of-least (a ∷ rest) b each =
        laws.least_above (value values a) (join_of l.join l.least values rest) b (each a (Contains-first a rest))
        (join_of-least rest b (λ atom h. each atom (Contains-later a rest atom h)))

    -- where a left side is not below, some part of it is not
    pub not_below-part : (left : List (Atom U V)) (b : V) → IsFalse (l.leq (join_of l.join l.least values left) b) →
        (atom : Atom U V) × Contains left atom × IsFalse (l.leq (value values atom) b)
    not_below-part [] b fails = let i : true ≡ false = sym (laws.below_all b) ∙ fails in absurd (cc)
    not_below-part (a ∷ rest) b fails = by_test (l.leq (value values a) b) refl (λ e.
        by_test (l.leq (join_of l.join l.least values rest) b) refl
        (λ f. let i : true ≡ false = sym (laws.least_above (value values a) (join_of l.join l.least values rest) b e f) ∙ fails in absurd (cc))
        (λ f. let found = not_below-part rest b f in (found.0, Contains-later a rest found.0 found.1, found.2)))
        (λ e. (a, Contains-first a rest, e))

  -- the same for a join of values
  pub not_below-one : (vs : List V) (b : V) → IsFalse (l.leq (join_all l vs) b) → (v : V) × Contains vs v × IsFalse (l.leq v b)
  not_below-one [] b fails = let i : true ≡ false = sym (laws.below_all b) ∙ fails in absurd (cc)
  not_below-one (v ∷ rest) b fails = by_test (l.leq v b) refl (λ e.
      by_test (l.leq (join_all l rest) b) refl
      (λ f. let i : true ≡ false = sym (laws.least_above v (join_all l rest) b e f) ∙ fails in absurd (cc))
      (λ f. let found = not_below-one rest b f in (found.0, Contains-later v rest found.0 found.1, found.2)))
      (λ e. (v, Contains-first v rest, e))

-- the join of two left sides, where join is that of lists
pub join_of-append : {U X : Type 0} (values : U → List X) (a b : List (Atom U (List X))) →
    join_of (λ x y. x ++ y) [] values (a ++ b) ≡ join_of (λ x y. x ++ y) [] values a ++ join_of (λ x y. x ++ y) [] values b
join_of-append values [] b = refl
join_of-append values (atom ∷ rest) b =
    ap (λ x. value values atom ++ x) (join_of-append values rest b)
    ∙ sym (append_assoc (value values atom) (join_of (λ x y. x ++ y) [] values rest) (join_of (λ x y. x ++ y) [] values b))

-- ---- what follows for any values
module _ {N U V : Type 0} (l : Lattice V) (laws : LatticeLaws l) (cs : List (Constraint N U V)) where
  -- a part of the left side of a constraint that holds lies below its right side
  pub part-below : (values : U → V) (c : Constraint N U V) → IsTrue (holds l values c) → (atom : Atom U V) → Contains c.left atom →
      IsTrue (l.leq (value values atom) (value values c.right))
  part-below values c held atom h =
      laws.transitive (value values atom) (join_of l.join l.least values c.left) (value values c.right) (join_of-above l laws values c.left atom h) held

  pub unknown-holds : (values : U → V) → FitsUnknowns l cs values → (c : Constraint N U V) (u : U) → Contains cs c →
      c.right ≡ Unknown u → IsTrue (holds l values c)
  unknown-holds values fits c u h is =
      ⊎_elim (λ e. let i : true ≡ false = sym e ∙ ap is_written is in absurd (cc)) (λ e. e)
      (or_cases (is_written c.right) (holds l values c) (each-of (λ c. is_written c.right || holds l values c) cs fits c h))

  -- what reaches an unknown lies below its value
  pub reaches-below : (values : U → V) → FitsUnknowns l cs values → (v : V) (u : U) → Reaches cs v u → IsTrue (l.leq v (values u))
  reaches-below values fits v u (directly c _ h from is) =
      subst (λ r. IsTrue (l.leq v (value values r))) is (part-below values c (unknown-holds values fits c u h is) (Written v) from)
  reaches-below values fits v u (onward c w _ reach h from is) =
      laws.transitive v (values w) (values u) (reaches-below values fits v w reach)
      (subst (λ r. IsTrue (l.leq (values w) (value values r))) is (part-below values c (unknown-holds values fits c u h is) (Unknown w) from))

  -- values that fit all constraints fit those of unknowns
  pub fits-unknowns : (values : U → V) → FitsAll l cs values → FitsUnknowns l cs values
  fits-unknowns values fits = all-from (λ c. is_written c.right || holds l values c) cs
      (λ c h. or_right (is_written c.right) (holds l values c) (each-of (λ c. holds l values c) cs fits c h))

  -- if any values fit, the least do, and lie below them
  pub least-fits : (values : U → V) → IsLeast l cs values → (others : U → V) → FitsAll l cs others → FitsAll l cs values
  least-fits values least others fits = all-from (λ c. holds l values c) cs each
    where
      below : (u : U) → Occurs cs u → IsTrue (l.leq (values u) (others u))
      below = least.below others (fits-unknowns others fits)

      part : (c : Constraint N U V) → Contains cs c → (atom : Atom U V) → Contains c.left atom → IsTrue (l.leq (value values atom) (value others atom))
      part c h (Written v) from = laws.reflexive v
      part c h (Unknown u) from = below u (c, h, inl from)

      by_right : (c : Constraint N U V) (r : Atom U V) → Contains cs c → c.right ≡ r → IsTrue (holds l values c)
      by_right c (Unknown u) h is = unknown-holds values least.fits c u h is
      by_right c (Written v) h is =
          join_of-least l laws values c.left (value values c.right) (λ atom from.
          laws.transitive (value values atom) (value others atom) (value values c.right) (part c h atom from)
          (subst (λ x. IsTrue (l.leq (value others atom) x)) (ap (value others) is ∙ sym (ap (value values) is))
          (part-below others c (each-of (λ c. holds l others c) cs fits c h) atom from)))

      each : (c : Constraint N U V) → Contains cs c → IsTrue (holds l values c)
      each c h = by_right c c.right h refl

  -- a chain rules out every choice of values
  pub linked-below : (values : U → V) → FitsAll l cs values → (from : Atom U V) (chain : List (Constraint N U V)) (last : Constraint N U V) →
      Linked cs from chain last → IsTrue (l.leq (value values from) (value values last.right))
  linked-below values fits from chain last (ends _ c h part) = part-below values c (each-of (λ c. holds l values c) cs fits c h) from part
  linked-below values fits from chain last (goes_on _ c u rest _ h part is more) =
      laws.transitive (value values from) (values u) (value values last.right)
      (subst (λ r. IsTrue (l.leq (value values from) (value values r))) is
      (part-below values c (each-of (λ c. holds l values c) cs fits c h) from part))
      (linked-below values fits (Unknown u) rest last more)

  pub chain-rules_out : (from : V) (chain : List (Constraint N U V)) (last : Constraint N U V) → IsChain l cs from chain last →
      (values : U → V) → FitsAll l cs values → ⊥
  chain-rules_out from chain last is values fits =
      let flow = linked-below values fits (Written from) chain last is.linked in
      let i : true ≡ false = sym (subst (λ r. IsTrue (l.leq from (value values r))) is.right_is flow) ∙ is.not_below in cc

  -- a chain may be led on to by a value that reaches an unknown
  pub linked-from_reaching : (v : V) (u : U) → Reaches cs v u → (chain : List (Constraint N U V)) (last : Constraint N U V) →
      Linked cs (Unknown u) chain last → (longer : List (Constraint N U V)) × Linked cs (Written v) longer last
  linked-from_reaching v u (directly c _ h from is) chain last more = (c ∷ chain, goes_on (Written v) c u chain last h from is more)
  linked-from_reaching v u (onward c w _ reach h from is) chain last more =
      linked-from_reaching v w reach (c ∷ chain) last (goes_on (Unknown w) c u chain last h from is more)

-- what is found is in the list and passes the test, or nothing does
pub found-or : {X : Type 0} (test : X → Bool) (xs : List X) →
    ((x : X) × (find test xs ≡ Some x) × Contains xs x × IsTrue (test x)) ⊎ ((x : X) → Contains xs x → IsFalse (test x))
found-or test [] = inr (λ x h. absurd (none_in_nil x h))
found-or {X} test (y ∷ ys) = go (test y) refl (found-or test ys)
  where
    go : (b : Bool) → test y ≡ b →
        ((x : X) × (find test ys ≡ Some x) × Contains ys x × IsTrue (test x)) ⊎ ((x : X) → Contains ys x → IsFalse (test x)) →
        ((x : X) × (find test (y ∷ ys) ≡ Some x) × Contains (y ∷ ys) x × IsTrue (test x)) ⊎ ((x : X) → Contains (y ∷ ys) x → IsFalse (test x))
    go true e later = inl (y, rw e refl, Contains-first y ys, e)
    go false e (inl found) = inl (found.0, rw e found.1, Contains-later y ys found.0 found.2, found.3)
    go false e (inr none) = inr (λ x h. ⊎_elim (λ same. subst (λ z. IsFalse (test z)) same e) (λ k. none x k) (Contains-cons_cases y ys x h))

pub found-in : {X : Type 0} (test : X → Bool) (xs : List X) (x : X) → find test xs ≡ Some x → Contains xs x
found-in test [] x e = let i : None ≡ Some x = e in absurd (cc)
found-in {X} test (y ∷ ys) x e = go (test y) refl e (found-in test ys x)
  where
    go : (b : Bool) → test y ≡ b → find test (y ∷ ys) ≡ Some x → (find test ys ≡ Some x → Contains ys x) → Contains (y ∷ ys) x
    go true f e later =
        let is : Some y ≡ Some x = sym (rw f refl) ∙ e in let same : y ≡ x = cc in subst (λ z. Contains (y ∷ ys) z) same (Contains-first y ys)
    go false f e later = Contains-later y ys x (later (sym (rw f refl) ∙ e))

-- ---- what reaches what, as a test: along the links between unknowns
module _ {U : Type 0} (eq : U → U → Bool) (eq-same : (a b : U) → eq a b ≡ true → a ≡ b) (eq-itself : (a : U) → eq a a ≡ true) where
  -- along the links after the first, or along these to the first one's left side and from its right side on
  abbrev pub leads : List (U × U) → U → U → Bool
  leads [] a b = eq a b
  leads (link ∷ links) a b = leads links a b || (leads links a link.0 && leads links link.1 b)

  leads-leading : IsLeading leads
  leads-leading = record { itself = eq-itself; alone = eq-same; on = λ link links a b. refl }

  -- each property that is kept along the links is kept along what they lead to
  pub leads-kept : (P : U → Type 0) (links : List (U × U)) → ((a b : U) → Contains links (a, b) → P a → P b) → (a b : U) →
      IsTrue (leads links a b) → P a → P b
  leads-kept P [] kept a b h p = subst P (eq-same a b h) p
  leads-kept P (link ∷ links) kept a b h p =
      let later : (a b : U) → Contains links (a, b) → P a → P b = λ a b k. kept a b (Contains-later link links (a, b) k) in
      ⊎_elim
      (λ k. leads-kept P links later a b k p)
      (λ k. leads-kept P links later link.1 b k.1 (kept link.0 link.1 (Contains-first link links) (leads-kept P links later a link.0 k.0 p)))
      (leading-cases leads leads-leading link links a b h)

  module _ {V : Type 0} where
    -- the links from the unknowns of a left side, and those of constraints
    abbrev links_to : U → List (Atom U V) → List (U × U)
    links_to u [] = []
    links_to u (Written v ∷ rest) = links_to u rest
    links_to u (Unknown w ∷ rest) = (w, u) ∷ links_to u rest

    abbrev links_by : Atom U V → List (Atom U V) → List (U × U)
    links_by (Written v) left = []
    links_by (Unknown u) left = links_to u left

    abbrev links_of : {N : Type 0} → List (Constraint N U V) → List (U × U)
    links_of [] = []
    links_of (c ∷ rest) = links_by c.right c.left ++ links_of rest

    -- the written values of a left side, and those of constraints that lead to an unknown
    abbrev written_in : List (Atom U V) → List V
    written_in [] = []
    written_in (Written v ∷ rest) = v ∷ written_in rest
    written_in (Unknown w ∷ rest) = written_in rest

    abbrev written_by : List (U × U) → U → Atom U V → List (Atom U V) → List V
    written_by links u (Written v) left = []
    written_by links u (Unknown w) left = if leads links w u then written_in left else []

    abbrev written_for : {N : Type 0} → List (U × U) → U → List (Constraint N U V) → List V
    written_for links u [] = []
    written_for links u (c ∷ rest) = written_by links u c.right c.left ++ written_for links u rest

    -- the values that reach an unknown
    abbrev pub reaching : {N : Type 0} → List (Constraint N U V) → U → List V
    reaching cs u = written_for (links_of cs) u cs

    links_to-has : (u w : U) (left : List (Atom U V)) → Contains left (Unknown w) → Contains (links_to u left) (w, u)
    links_to-has u w [] h = absurd (none_in_nil (Unknown w) h)
    links_to-has u w (Written v ∷ rest) h =
        ⊎_elim (λ e. absurd (cc)) (λ k. links_to-has u w rest k) (Contains-cons_cases (Written v) rest (Unknown w) h)
    links_to-has u w (Unknown x ∷ rest) h =
        ⊎_elim
        (λ e. let same : x ≡ w = cc in subst (λ y. Contains ((x, u) ∷ links_to u rest) (y, u)) same (Contains-first (x, u) (links_to u rest)))
        (λ k. Contains-later (x, u) (links_to u rest) (w, u) (links_to-has u w rest k))
        (Contains-cons_cases (Unknown x) rest (Unknown w) h)

    links_to-only : (u : U) (left : List (Atom U V)) (a b : U) → Contains (links_to u left) (a, b) → Contains left (Unknown a) × (u ≡ b)
    links_to-only u [] a b h = absurd (none_in_nil (a, b) h)
    links_to-only u (Written v ∷ rest) a b h =
        let found = links_to-only u rest a b h in (Contains-later (Written v) rest (Unknown a) found.0, found.1)
    links_to-only u (Unknown x ∷ rest) a b h =
        ⊎_elim
        (λ e. let same : x ≡ a = ap (λ (p : U × U). p.0) e in
        (subst (λ y. Contains (Unknown x ∷ rest) (Unknown y)) same (Contains-first (Unknown x) rest), ap (λ (p : U × U). p.1) e))
        (λ k. let found = links_to-only u rest a b k in (Contains-later (Unknown x) rest (Unknown a) found.0, found.1))
        (Contains-cons_cases (x, u) (links_to u rest) (a, b) h)

    links_of-has : {N : Type 0} (cs : List (Constraint N U V)) (c : Constraint N U V) (w u : U) → Contains cs c → Contains c.left (Unknown w) →
        c.right ≡ Unknown u → Contains (links_of cs) (w, u)
    links_of-has [] c w u h from is = absurd (none_in_nil c h)
    links_of-has {N} (d ∷ rest) c w u h from is =
        ⊎_elim
        (λ e. Contains-append_left (links_by d.right d.left) (links_of rest) (w, u)
        (subst (λ (x : Constraint N U V). Contains (links_by x.right x.left) (w, u)) (sym e)
        (subst (λ r. Contains (links_by r c.left) (w, u)) (sym is) (links_to-has u w c.left from))))
        (λ k. Contains-append_right (links_by d.right d.left) (links_of rest) (w, u) (links_of-has rest c w u k from is))
        (Contains-cons_cases d rest c h)

    -- a link is of some constraint
    links_by-only : (r : Atom U V) (left : List (Atom U V)) (a b : U) → Contains (links_by r left) (a, b) →
        Contains left (Unknown a) × (r ≡ Unknown b)
    links_by-only (Written v) left a b h = absurd (none_in_nil (a, b) h)
    links_by-only (Unknown u) left a b h =
        let found = links_to-only u left a b h in (found.0, ap (λ x. Unknown x) found.1)

    links_of-only : {N : Type 0} (cs : List (Constraint N U V)) (a b : U) → Contains (links_of cs) (a, b) →
        (c : Constraint N U V) × Contains cs c × Contains c.left (Unknown a) × (c.right ≡ Unknown b)
    links_of-only [] a b h = absurd (none_in_nil (a, b) h)
    links_of-only (d ∷ rest) a b h =
        ⊎_elim
        (λ k. let found = links_by-only d.right d.left a b k in (d, Contains-first d rest, found.0, found.1))
        (λ k. let found = links_of-only rest a b k in (found.0, Contains-later d rest found.0 found.1, found.2, found.3))
        (Contains-append_cases (links_by d.right d.left) (links_of rest) (a, b) h)

    written_in-has : (left : List (Atom U V)) (v : V) → Contains left (Written v) → Contains (written_in left) v
    written_in-has [] v h = absurd (none_in_nil (Written v) h)
    written_in-has (Unknown x ∷ rest) v h =
        ⊎_elim (λ e. absurd (cc)) (λ k. written_in-has rest v k) (Contains-cons_cases (Unknown x) rest (Written v) h)
    written_in-has (Written w ∷ rest) v h =
        ⊎_elim
        (λ e. let same : w ≡ v = cc in subst (λ y. Contains (w ∷ written_in rest) y) same (Contains-first w (written_in rest)))
        (λ k. Contains-later w (written_in rest) v (written_in-has rest v k))
        (Contains-cons_cases (Written w) rest (Written v) h)

    written_in-only : (left : List (Atom U V)) (v : V) → Contains (written_in left) v → Contains left (Written v)
    written_in-only [] v h = absurd (none_in_nil v h)
    written_in-only (Unknown x ∷ rest) v h = Contains-later (Unknown x) rest (Written v) (written_in-only rest v h)
    written_in-only (Written w ∷ rest) v h =
        ⊎_elim
        (λ e. subst (λ y. Contains (Written w ∷ rest) (Written y)) e (Contains-first (Written w) rest))
        (λ k. Contains-later (Written w) rest (Written v) (written_in-only rest v k))
        (Contains-cons_cases w (written_in rest) v h)

    written_for-has : {N : Type 0} (links : List (U × U)) (u w : U) (cs : List (Constraint N U V)) (c : Constraint N U V) (v : V) → Contains cs c →
        Contains c.left (Written v) → c.right ≡ Unknown w → IsTrue (leads links w u) → Contains (written_for links u cs) v
    written_for-has links u w [] c v h from is lead = absurd (none_in_nil c h)
    written_for-has {N} links u w (d ∷ rest) c v h from is lead =
        ⊎_elim
        (λ e. Contains-append_left (written_by links u d.right d.left) (written_for links u rest) v
        (subst (λ (x : Constraint N U V). Contains (written_by links u x.right x.left) v) (sym e)
        (subst (λ r. Contains (written_by links u r c.left) v) (sym is) (rw lead (written_in-has c.left v from)))))
        (λ k. Contains-append_right (written_by links u d.right d.left) (written_for links u rest) v
        (written_for-has links u w rest c v k from is lead))
        (Contains-cons_cases d rest c h)

    abbrev SameAtom : Atom U V → Atom U V → Type 0
    SameAtom a b = a ≡ b

    written_by-only : (links : List (U × U)) (u : U) (r : Atom U V) (left : List (Atom U V)) (v : V) → Contains (written_by links u r left) v →
        (w : U) × (r ≡ Unknown w) × IsTrue (leads links w u) × Contains left (Written v)
    written_by-only links u (Written x) left v h = absurd (none_in_nil v h)
    written_by-only links u (Unknown w) left v h = go (leads links w u) refl h
      where
        go : (b : Bool) → leads links w u ≡ b → Contains (if b then written_in left else []) v →
            (w' : U) × (SameAtom (Unknown w) (Unknown w')) × IsTrue (leads links w' u) × Contains left (Written v)
        go true e h = (w, refl, e, written_in-only left v h)
        go false e h = absurd (none_in_nil v h)

    written_for-only : {N : Type 0} (links : List (U × U)) (u : U) (cs : List (Constraint N U V)) (v : V) → Contains (written_for links u cs) v →
        (c : Constraint N U V) × Contains cs c × (w : U) × (c.right ≡ Unknown w) × IsTrue (leads links w u) × Contains c.left (Written v)
    written_for-only links u [] v h = absurd (none_in_nil v h)
    written_for-only links u (d ∷ rest) v h =
        ⊎_elim
        (λ k. let found = written_by-only links u d.right d.left v k in (d, Contains-first d rest, found.0, found.1, found.2, found.3))
        (λ k. let found = written_for-only links u rest v k in
        (found.0, Contains-later d rest found.0 found.1, found.2, found.3, found.4, found.5))
        (Contains-append_cases (written_by links u d.right d.left) (written_for links u rest) v h)

    -- they are those that reach it
    pub reaching-has : {N : Type 0} (cs : List (Constraint N U V)) (v : V) (u : U) → Reaches cs v u → Contains (reaching cs u) v
    reaching-has cs v u reach = go u reach u (leading-itself leads leads-leading (links_of cs) u)
      where
        go : (w : U) → Reaches cs v w → (u : U) → IsTrue (leads (links_of cs) w u) → Contains (reaching cs u) v
        go w (directly c _ h from is) u lead = written_for-has (links_of cs) u w cs c v h from is lead
        go w (onward c x _ reach h from is) u lead =
            go x reach u (leading-through leads leads-leading (links_of cs) x w u (leading-one leads leads-leading (links_of cs) x w (links_of-has cs c x w h from is)) lead)

    pub reaching-only : {N : Type 0} (cs : List (Constraint N U V)) (v : V) (u : U) → Contains (reaching cs u) v → Reaches cs v u
    reaching-only cs v u h =
        let found = written_for-only (links_of cs) u cs v h in
        leads-kept (λ x. Reaches cs v x) (links_of cs) (λ a b k reach.
        let link = links_of-only cs a b k in onward link.0 a b reach link.1 link.2 link.3)
        found.2 u found.4 (directly found.0 found.2 found.1 found.5 found.3)

    module _ {N : Type 0} (l : Lattice V) (laws : LatticeLaws l) (cs : List (Constraint N U V)) where
      -- the least values: each is the join of the written values that reach its unknown
      abbrev pub least_values : U → V
      least_values u = join_all l (reaching cs u)

      least_values-fit : FitsUnknowns l cs least_values
      least_values-fit = all-from (λ c. is_written c.right || holds l least_values c) cs (λ c h. by_right c c.right h refl)
        where
          part : (c : Constraint N U V) (u : U) → Contains cs c → c.right ≡ Unknown u → (atom : Atom U V) → Contains c.left atom →
              IsTrue (l.leq (value least_values atom) (least_values u))
          part c u h is (Written v) from = join_all-above l laws (reaching cs u) v (reaching-has cs v u (directly c u h from is))
          part c u h is (Unknown w) from = join_all-least l laws (reaching cs w) (least_values u) (λ v reach.
              join_all-above l laws (reaching cs u) v (reaching-has cs v u (onward c w u (reaching-only cs v w reach) h from is)))

          by_right : (c : Constraint N U V) (r : Atom U V) → Contains cs c → c.right ≡ r → IsTrue (is_written c.right || holds l least_values c)
          by_right c (Written v) h is = or_left (is_written c.right) (holds l least_values c) (ap is_written is)
          by_right c (Unknown u) h is = or_right (is_written c.right) (holds l least_values c)
              (subst (λ r. IsTrue (l.leq (join_of l.join l.least least_values c.left) (value least_values r))) (sym is)
              (join_of-least l laws least_values c.left (least_values u) (part c u h is)))

      -- least values are there
      pub least_values-least : IsLeast l cs least_values
      least_values-least = record {
        fits = least_values-fit;
        below = λ others fits u occurs. join_all-least l laws (reaching cs u) (others u)
            (λ v h. reaches-below l laws cs others fits v u (reaching-only cs v u h));
      }

      -- where a constraint with a written right side does not hold under them, a chain ends there
      pub unmet-chain : (c : Constraint N U V) (to : V) → Contains cs c → c.right ≡ Written to → IsFalse (holds l least_values c) →
          (from : V) × (chain : List (Constraint N U V)) × IsChain l cs from chain c
      unmet-chain c to h is fails =
          let found = not_below-part l laws least_values c.left to (subst (λ r. IsFalse (l.leq (join_of l.join l.least least_values c.left) (value least_values r))) is fails) in
          by_part found.0 found.1 found.2
        where
          by_part : (atom : Atom U V) → Contains c.left atom → IsFalse (l.leq (value least_values atom) to) →
              (from : V) × (chain : List (Constraint N U V)) × IsChain l cs from chain c
          by_part (Written v) part fails = (v, c ∷ [], record { linked = ends (Written v) c h part; to = to; right_is = is; not_below = fails })
          by_part (Unknown u) part fails =
              let found = not_below-one l laws (reaching cs u) to fails in
              let longer = linked-from_reaching l laws cs found.0 u (reaching-only cs found.0 u found.1) (c ∷ []) c (ends (Unknown u) c h part) in
              (found.0, longer.0, record { linked = longer.1; to = to; right_is = is; not_below = found.2 })

      -- some values fit, or the first that the least do not fit has a chain that ends there
      pub fits-or_refused : ((values : U → V) × FitsAll l cs values)
          ⊎ ((from : V) × (chain : List (Constraint N U V)) × (last : Constraint N U V) × IsRefusedAt l cs from chain last)
      fits-or_refused =
          ⊎_elim (λ found. inr (refused found.0 found.1 found.2 found.3)) (λ none. inl (least_values, all-from (λ c. holds l least_values c) cs (λ c h. held c h (none c h))))
          (found-or (λ c. is_written c.right && not (holds l least_values c)) cs)
        where
          refused : (last : Constraint N U V) → first_unmet l cs least_values ≡ Some last → Contains cs last →
              (is_written last.right && not (holds l least_values last)) ≡ true →
              (from : V) × (chain : List (Constraint N U V)) × (c : Constraint N U V) × IsRefusedAt l cs from chain c
          refused last first there e = by_right last.right refl (and_parts (is_written last.right) (not (holds l least_values last)) e)
            where
              by_right : (r : Atom U V) → last.right ≡ r → (is_written last.right ≡ true) × (not (holds l least_values last) ≡ true) →
                  (from : V) × (chain : List (Constraint N U V)) × (c : Constraint N U V) × IsRefusedAt l cs from chain c
              by_right (Unknown u) is parts = let i : false ≡ true = sym (ap is_written is) ∙ parts.0 in absurd (cc)
              by_right (Written to) is parts =
                  let found = unmet-chain last to there is (not-true (holds l least_values last) parts.1) in
                  (found.0, found.1, last, record { values = least_values; least = least_values-least; first = first; chained = found.2 })

          held : (c : Constraint N U V) → Contains cs c → IsFalse (is_written c.right && not (holds l least_values c)) → IsTrue (holds l least_values c)
          held c h e = by_right c.right refl
            where
              by_right : (r : Atom U V) → c.right ≡ r → IsTrue (holds l least_values c)
              by_right (Unknown u) is = unknown-holds l laws cs least_values least_values-fit c u h is
              by_right (Written to) is = not-false (holds l least_values c) (sym (ap (λ r. is_written r && not (holds l least_values c)) is) ∙ e)
