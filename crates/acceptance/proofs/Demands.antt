-- The first demand that cannot be met: a refused program has one, a program has one at most, and a labelled one has none.
use Rattle.std.proofs.Common.{◌≡◌, refl, sym, ap, ◌∙◌, subst, append_assoc, Bool, true, false, not, List, [], ◌∷◌, ◌++◌, ◌&&◌, ◌||◌, ◌↔◌, inl, ⊎_elim}
use Rattle.std.specs.Prelude.{IsTrue, IsFalse, Contains, Some, None, find}
use Rattle.std.proofs.lemmas.Bool.{and_parts, or_right, not-false, not-true}
use Rattle.std.proofs.lemmas.List.Elements.{Contains-append_left, Contains-push}
use Rattle.common.proofs.Elements.{none_in_nil, Contains-cons_cases}
use Rattle.labels.specs.Label.{ReaderPolicy, Label}
use Rattle.labels.specs.LabelLattice.{label_lattice}
use Rattle.labels.proofs.Elements.{All-from_each, each_from_All}
use Rattle.labels.proofs.FlowTests.{IsLattice-flows}
use Rattle.lattices.specs.Constraints.{Atom, Written, Unknown, is_written, holds, value, join_of, FitsUnknowns}
use Rattle.lattices.proofs.Constraints.{all-from, join_of-above, join_of-least, unknown-holds}
use Rattle.resolved.specs.Program.{Program}
use Rattle.resolved.specs.Labelled.{Unwritten, Demand, Holds, Labelled, program_demands}
use Rattle.resolved.specs.Flow.{AreLeast, IsProgramRefused}
use Rattle.resolved.proofs.Demands.{holds-decides}
use Rattle.resolved.proofs.Flow.{labelled-or_refused}
use Rattle.acceptance.specs.Laws.{UnmetDemandsEndChains}
use Rattle.acceptance.specs.Refused.{CanMeet, IsFirstUnmet}

-- ---- lists

-- the first element that passes a test, with what stands before it and after it
record Split {X : Type 0} (test : X → Bool) (xs : List X) (x : X) : Type 0 where
  before : List X
  after : List X
  list_is : xs ≡ before ++ x ∷ after
  fails : (y : X) → Contains before y → IsFalse (test y)
  passes : IsTrue (test x)

split : {X : Type 0} (test : X → Bool) (xs : List X) (x : X) → find test xs ≡ Some x → Split test xs x
split test [] x e = let i : None ≡ Some x = e in absurd (cc)
split {X} test (y ∷ ys) x e = go (test y) refl e (split test ys x)
  where
    go : (b : Bool) → test y ≡ b → find test (y ∷ ys) ≡ Some x → (find test ys ≡ Some x → Split test ys x) → Split test (y ∷ ys) x
    go true f e later =
        let is : Some y ≡ Some x = sym (rw f refl) ∙ e in let same : y ≡ x = cc in
        record {
          before = [];
          after = ys;
          list_is = ap (λ z. z ∷ ys) same;
          fails = λ z h. absurd (none_in_nil z h);
          passes = subst (λ z. IsTrue (test z)) same f;
        }
    go false f e later =
        let s = later (sym (rw f refl) ∙ e) in
        record {
          before = y ∷ s.before;
          after = s.after;
          list_is = ap (λ zs. y ∷ zs) s.list_is;
          fails = λ z h. ⊎_elim (λ same. subst (λ w. IsFalse (test w)) same f) (λ k. s.fails z k) (Contains-cons_cases y s.before z h);
          passes = s.passes;
        }

-- of what fronts of a list can, and all that begins them, there is one element with which they cannot at most
one_first : {X : Type 0} (Can : List X → Type 0) → ((xs more : List X) → Can (xs ++ more) → Can xs) → (xs ys us vs : List X) (x y : X)
    → xs ++ x ∷ us ≡ ys ++ y ∷ vs → Can xs → Can ys → ¬ Can (xs ++ x ∷ []) → ¬ Can (ys ++ y ∷ []) → x ≡ y
one_first Can fewer [] [] us vs x y e can could stops ends = cc
one_first Can fewer [] (b ∷ ys) us vs x y e can could stops ends =
    let head : b ≡ x = cc in absurd (stops (subst (λ z. Can (z ∷ [])) head (fewer (b ∷ []) ys could)))
one_first Can fewer (a ∷ xs) [] us vs x y e can could stops ends =
    let head : a ≡ y = cc in absurd (ends (subst (λ z. Can (z ∷ [])) head (fewer (a ∷ []) xs can)))
one_first Can fewer (a ∷ xs) (b ∷ ys) us vs x y e can could stops ends =
    let head : b ≡ a = cc in let tail : xs ++ x ∷ us ≡ ys ++ y ∷ vs = cc in
    one_first (λ zs. Can (a ∷ zs)) (λ zs more. fewer (a ∷ zs) more) xs ys us vs x y tail can (subst (λ z. Can (z ∷ ys)) head could) stops
    (λ c. ends (subst (λ z. Can (z ∷ ys ++ y ∷ [])) (sym head) c))

-- ---- demands that can be met

-- fewer of them can
fewer : (program : Program) (demands more : List Demand) → CanMeet program (demands ++ more) → CanMeet program demands
fewer program demands more can = record {
  labels = can.labels;
  fit = can.fit;
  meet = All-from_each (Holds program.hierarchy can.labels) demands
      (λ d h. each_from_All (Holds program.hierarchy can.labels) (demands ++ more) can.meet d (Contains-append_left demands more d h));
}

-- labels fit the demands whose right sides are not written where these hold
fits-unwritten : (program : Program) (labels : Unwritten → Label) → FitsUnknowns (label_lattice program.hierarchy) (program_demands program) labels
    ↔ ((d : Demand) (u : Unwritten) → Contains (program_demands program) d → d.right ≡ Unknown u → Holds program.hierarchy labels d)
fits-unwritten program labels = (
  λ fits d u h is.
      (holds-decides program.hierarchy labels d).0
      (unknown-holds (label_lattice program.hierarchy) (IsLattice-flows program.hierarchy) (program_demands program) labels fits d u h is),
  λ each.
      all-from (λ (d : Demand). is_written d.right || holds (label_lattice program.hierarchy) labels d) (program_demands program)
      (λ d h. by_right d d.right refl (λ u is. (holds-decides program.hierarchy labels d).1 (each d u h is))),
)
  where
    by_right : (d : Demand) (r : Atom Unwritten Label) → d.right ≡ r → ((u : Unwritten) → d.right ≡ Unknown u → IsTrue (holds (label_lattice program.hierarchy) labels d)) →
        IsTrue (is_written d.right || holds (label_lattice program.hierarchy) labels d)
    by_right d (Written to) is held = ap (λ r. is_written r || holds (label_lattice program.hierarchy) labels d) is
    by_right d (Unknown u) is held = or_right (is_written d.right) (holds (label_lattice program.hierarchy) labels d) (held u is)

module _ (program : Program) (labels : Unwritten → Label) (least : AreLeast program labels) where
  -- under least labels a demand holds that is not one with a written right side that does not
  met : (d : Demand) → Contains (program_demands program) d → IsFalse (is_written d.right && not (holds (label_lattice program.hierarchy) labels d)) →
      IsTrue (holds (label_lattice program.hierarchy) labels d)
  met d h fails = by_right d.right refl fails
    where
      by_right : (r : Atom Unwritten Label) → d.right ≡ r → IsFalse (is_written d.right && not (holds (label_lattice program.hierarchy) labels d)) →
          IsTrue (holds (label_lattice program.hierarchy) labels d)
      by_right (Unknown u) is e = unknown-holds (label_lattice program.hierarchy) (IsLattice-flows program.hierarchy) (program_demands program) labels least.fits d u h is
      by_right (Written to) is e =
          not-false (holds (label_lattice program.hierarchy) labels d) (sym (ap (λ r. is_written r && not (holds (label_lattice program.hierarchy) labels d)) is) ∙ e)

  -- what other labels that fit meet the least ones meet, if its right side is written
  holds_too : (others : Unwritten → Label) → FitsUnknowns (label_lattice program.hierarchy) (program_demands program) others → (d : Demand) → Contains (program_demands program) d
      → (to : Label) → d.right ≡ Written to → IsTrue (holds (label_lattice program.hierarchy) others d) → IsTrue (holds (label_lattice program.hierarchy) labels d)
  holds_too others fit d there to is held =
      let l = label_lattice program.hierarchy in
      let laws = IsLattice-flows program.hierarchy in
      let below : (atom : Atom Unwritten Label) → Contains d.left atom → IsTrue (l.leq (value labels atom) (value others atom)) = λ atom h. by_atom atom h in
      let left : IsTrue (l.leq (join_of l.join l.least labels d.left) (join_of l.join l.least others d.left)) =
      join_of-least l laws labels d.left (join_of l.join l.least others d.left) (λ atom h.
      laws.transitive (value labels atom) (value others atom) (join_of l.join l.least others d.left) (below atom h) (join_of-above l laws others d.left atom h)) in
      let right : value others d.right ≡ value labels d.right = ap (value others) is ∙ sym (ap (value labels) is) in
      laws.transitive (join_of l.join l.least labels d.left) (join_of l.join l.least others d.left) (value labels d.right) left
      (ap (λ v. l.leq (join_of l.join l.least others d.left) v) (sym right) ∙ held)
    where
      by_atom : (atom : Atom Unwritten Label) → Contains d.left atom → IsTrue ((label_lattice program.hierarchy).leq (value labels atom) (value others atom))
      by_atom (Written v) h = (IsLattice-flows program.hierarchy).reflexive v
      by_atom (Unknown u) h = least.below others fit u (d, there, inl h)

-- the first demand that does not hold under least labels is the first that cannot be met
module _ (program : Program) (policy : ReaderPolicy) (chain : List Demand) (last : Demand) (is : IsProgramRefused program policy chain last) where
  at_last : Split (λ (d : Demand). is_written d.right && not (holds (label_lattice program.hierarchy) is.labels d)) (program_demands program) last
  at_last = split _ (program_demands program) last is.first

  before_last : (d : Demand) → Contains at_last.before d → Contains (program_demands program) d
  before_last d h = subst (λ ds. Contains ds d) (sym at_last.list_is) (Contains-append_left at_last.before (last ∷ at_last.after) d h)

  last_there : Contains (program_demands program) last
  last_there =
      subst (λ ds. Contains ds last) (append_assoc at_last.before (last ∷ []) at_last.after ∙ sym at_last.list_is)
      (Contains-append_left (at_last.before ++ last ∷ []) at_last.after last (Contains-push at_last.before last))

  cannot : CanMeet program (at_last.before ++ last ∷ []) → ⊥
  cannot can = by_right last.right refl (and_parts (is_written last.right) (not (holds (label_lattice program.hierarchy) is.labels last)) at_last.passes)
    where
      held : IsTrue (holds (label_lattice program.hierarchy) can.labels last)
      held = (holds-decides program.hierarchy can.labels last).1
          (each_from_All (Holds program.hierarchy can.labels) (at_last.before ++ last ∷ []) can.meet last (Contains-push at_last.before last))

      by_right : (r : Atom Unwritten Label) → last.right ≡ r → (is_written last.right ≡ true) × (not (holds (label_lattice program.hierarchy) is.labels last) ≡ true) → ⊥
      by_right (Unknown u) e parts = let i : false ≡ true = sym (ap is_written e) ∙ parts.0 in absurd (cc)
      by_right (Written to) e parts =
          let i : true ≡ false = sym (holds_too program is.labels is.least can.labels ((fits-unwritten program can.labels).1 can.fit) last last_there to e held) ∙ not-true _ parts.1 in absurd (cc)

  pub first-unmet : IsFirstUnmet program last
  first-unmet = record {
    before = at_last.before;
    after = at_last.after;
    demands_are = at_last.list_is;
    goes_on = record {
      labels = is.labels;
      fit = (fits-unwritten program is.labels).0 is.least.fits;
      meet = All-from_each (Holds program.hierarchy is.labels) at_last.before
          (λ d h. (holds-decides program.hierarchy is.labels d).0 (met program is.labels is.least d (before_last d h) (at_last.fails d h)));
    };
    stops = cannot;
  }

-- a program has one at most
pub one_last : (program : Program) (last other : Demand) → IsFirstUnmet program last → IsFirstUnmet program other → last ≡ other
one_last program last other a b =
    one_first (CanMeet program) (fewer program) a.before b.before a.after b.after last other (sym a.demands_are ∙ b.demands_are) a.goes_on b.goes_on a.stops b.stops

-- and a labelled one none
pub unmet-not_labelled : (program : Program) (last : Demand) → IsFirstUnmet program last → Labelled program → ⊥
unmet-not_labelled program last unmet labelled =
    unmet.stops (fewer program (unmet.before ++ last ∷ []) unmet.after
    (subst (CanMeet program) (unmet.demands_are ∙ sym (append_assoc unmet.before (last ∷ []) unmet.after)) all))
  where
    all : CanMeet program (program_demands program)
    all = record {
      labels = labelled.0;
      fit = λ d u h is. each_from_All (Holds program.hierarchy labelled.0) (program_demands program) labelled.1 d h;
      meet = labelled.1;
    }

-- so it is the one where the program is refused, with a chain
pub unmet-ends_chain : UnmetDemandsEndChains
unmet-ends_chain program last = (
  λ unmet.
      ⊎_elim
      (λ labelled. absurd (unmet-not_labelled program last unmet labelled))
      (λ refused.
      let same = one_last program refused.2 last (first-unmet program refused.0 refused.1 refused.2 refused.3) unmet in
      (refused.0, refused.1, subst (λ d. IsProgramRefused program refused.0 refused.1 d) same refused.3))
      (labelled-or_refused program),
  λ refused. first-unmet program refused.0 refused.1 last refused.2,
)
