-- Every program is labelled or refused, and not both.
use Rattle.std.proofs.Common.{◌≡◌, refl, sym, ap, ◌∙◌, subst, ℕ, Bool, true, false, not, ◌&&◌, ◌==◌, List, [], ◌∷◌, ◌++◌, ◌⊎◌, inl, inr, ⊎_elim, ◌↔◌, arith}
use Rattle.std.specs.Prelude.{IsTrue, IsFalse, Contains, Some}
use Rattle.std.proofs.lemmas.Bool.{and_parts, not-false, not-true}
use Rattle.principals.specs.ActsFor.{PrincipalHierarchy}
use Rattle.std.proofs.lemmas.List.Elements.{Contains-append_cases}
use Rattle.common.proofs.Elements.{Contains-later, Contains-first, none_in_nil}
use Rattle.labels.specs.Label.{ReaderPolicy, Label, Covers, covers, flows}
use Rattle.lattices.specs.Constraints.{Written, Unknown, Atom, is_written, value, join_of, holds, FitsAll, first_unmet, IsRefusedAt, StandsFor, OneByOne, outer, Linked, ends, renamed, reported_steps, reported_gathered}
use Rattle.labels.specs.LabelLattice.{label_lattice}
use Rattle.lattices.proofs.Constraints.{found-or, least-fits, all-from, least_values, least_values-least, unknown-holds, unmet-chain, chain-rules_out, join_all, reaching, reaching-only, linked-from_reaching}
use Rattle.lattices.proofs.Gathered.{fits-up, fits-down, refused-same, reported-same}
use Rattle.labels.proofs.FlowTests.{IsLattice-flows}
use Rattle.labels.proofs.Tests.{flows-decides, covers-decides}
use Rattle.labels.proofs.Elements.{each_from_All}
use Rattle.resolved.specs.Program.{Program}
use Rattle.resolved.specs.Labelled.{Unwritten, OfLocal, OfLoop, Demand, Labelled, program_demands}
use Rattle.resolved.proofs.Demands.{labelled-fits, labelled-from}
use Rattle.resolved.specs.Flow.{IsFlowChain, IsProgramRefused, AreLeast, Gathered, AreGathered, IsUncovered, reported_step}

pub same_unwritten : Unwritten → Unwritten → Bool
same_unwritten (OfLocal f n) (OfLocal g m) = (f == g) && (n == m)
same_unwritten (OfLoop f n) (OfLoop g m) = (f == g) && (n == m)
same_unwritten (OfLocal f n) (OfLoop g m) = false
same_unwritten (OfLoop f n) (OfLocal g m) = false

pub unwritten-same : (a b : Unwritten) → same_unwritten a b ≡ true → a ≡ b
unfolding same_unwritten
unwritten-same (OfLocal f n) (OfLocal g m) e =
    let parts = and_parts (f == g) (n == m) e in
    let i : f ≡ g = grind (arith, parts.0) in let j : n ≡ m = grind (arith, parts.1) in rw (i, j) refl
unwritten-same (OfLoop f n) (OfLoop g m) e =
    let parts = and_parts (f == g) (n == m) e in
    let i : f ≡ g = grind (arith, parts.0) in let j : n ≡ m = grind (arith, parts.1) in rw (i, j) refl
unwritten-same (OfLocal f n) (OfLoop g m) e = let i : false ≡ true = e in absurd (cc)
unwritten-same (OfLoop f n) (OfLocal g m) e = let i : false ≡ true = e in absurd (cc)

pub unwritten-itself : (a : Unwritten) → same_unwritten a a ≡ true
unfolding same_unwritten
unwritten-itself (OfLocal f n) = grind arith
unwritten-itself (OfLoop f n) = grind arith

-- least labels are there
abbrev pub least_labels : Program → Unwritten → Label
least_labels program u = least_values same_unwritten unwritten-same unwritten-itself (label_lattice program.hierarchy) (IsLattice-flows program.hierarchy) (program_demands program) u

pub labels-least : (program : Program) → AreLeast program (least_labels program)
labels-least program = least_values-least same_unwritten unwritten-same unwritten-itself (label_lattice program.hierarchy) (IsLattice-flows program.hierarchy) (program_demands program)

-- a flow chain rules out every labelling
pub chain-refuses : (program : Program) (policy : ReaderPolicy) (chain : List Demand) (last : Demand) → IsFlowChain program policy chain last →
    Labelled program → ⊥
chain-refuses program policy chain last is labelled =
    chain-rules_out (label_lattice program.hierarchy) (IsLattice-flows program.hierarchy) (program_demands program) is.from chain last
    (record { linked = is.linked; to = is.to; right_is = is.right_is; not_below = not_below (flows program.hierarchy is.from is.to) refl })
    labelled.0 (labelled-fits program labelled)
  where
    not_below : (b : Bool) → flows program.hierarchy is.from is.to ≡ b → b ≡ false
    not_below false e = refl
    not_below true e =
        let covered = each_from_All (λ p. Covers program.hierarchy is.to p) is.from
        ((flows-decides program.hierarchy is.from is.to).0 e) policy is.policy_of in
        let i : true ≡ false = sym ((covers-decides program.hierarchy is.to policy).1 covered) ∙ is.not_covered in absurd (cc)

-- what is not covered fails the test
not-covers : (h : PrincipalHierarchy) (to : Label) (policy : ReaderPolicy) → (¬ Covers h to policy) → IsFalse (covers h to policy)
not-covers h to policy none = go (covers h to policy) refl
  where
    go : (b : Bool) → covers h to policy ≡ b → b ≡ false
    go false e = refl
    go true e = absurd (none ((covers-decides h to policy).0 e))

-- a label that does not flow has a policy that is not covered
uncovered : (h : PrincipalHierarchy) (from to : Label) → flows h from to ≡ false → (policy : ReaderPolicy) × Contains from policy × (¬ Covers h to policy)
uncovered h [] to e = let i : true ≡ false = e in absurd (cc)
uncovered h (policy ∷ rest) to e = go (covers h to policy) refl (uncovered h rest to)
  where
    go : (b : Bool) → covers h to policy ≡ b → (flows h rest to ≡ false → (p : ReaderPolicy) × Contains rest p × (¬ Covers h to p)) →
        (p : ReaderPolicy) × Contains (policy ∷ rest) p × (¬ Covers h to p)
    go false f later = (policy, Contains-first policy rest, λ covered. let i : true ≡ false = sym ((covers-decides h to policy).1 covered) ∙ f in cc)
    go true f later = let found = later (sym (rw f refl) ∙ e) in (found.0, Contains-later policy rest found.0 found.1, found.2)

-- the least labels decide
pub least-decide : (program : Program) (labels : Unwritten → Label) → AreLeast program labels →
    Labelled program ↔ FitsAll (label_lattice program.hierarchy) (program_demands program) labels
least-decide program labels least = (
  λ labelled. least-fits (label_lattice program.hierarchy) (IsLattice-flows program.hierarchy) (program_demands program) labels least
      labelled.0 (labelled-fits program labelled),
  λ fits. labelled-from program labels fits,
)

-- every program is labelled or refused
pub labelled-or_refused : (program : Program) →
    Labelled program ⊎ ((policy : ReaderPolicy) × (chain : List Demand) × (last : Demand) × IsProgramRefused program policy chain last)
labelled-or_refused program =
    ⊎_elim (λ found. inr (refused found.0 found.1 found.2 found.3)) (λ none. inl (labelled none))
    (found-or (λ (d : Demand). is_written d.right && not (holds (label_lattice program.hierarchy) (least_labels program) d)) (program_demands program))
  where
    refused : (last : Demand) → first_unmet (label_lattice program.hierarchy) (program_demands program) (least_labels program) ≡ Some last →
        Contains (program_demands program) last → (is_written last.right && not (holds (label_lattice program.hierarchy) (least_labels program) last)) ≡ true →
        (policy : ReaderPolicy) × (chain : List Demand) × (d : Demand) × IsProgramRefused program policy chain d
    refused last first there e = by_right last.right refl (and_parts (is_written last.right) (not (holds (label_lattice program.hierarchy) (least_labels program) last)) e)
      where
        by_right : (r : Atom Unwritten Label) → last.right ≡ r → (is_written last.right ≡ true) × (not (holds (label_lattice program.hierarchy) (least_labels program) last) ≡ true) →
            (policy : ReaderPolicy) × (chain : List Demand) × (d : Demand) × IsProgramRefused program policy chain d
        by_right (Unknown u) is parts = let i : false ≡ true = sym (ap is_written is) ∙ parts.0 in absurd (cc)
        by_right (Written to) is parts =
            let found = unmet-chain same_unwritten unwritten-same unwritten-itself (label_lattice program.hierarchy) (IsLattice-flows program.hierarchy)
            (program_demands program) last to there is (not-true _ parts.1) in
            let policy = uncovered program.hierarchy found.0 found.2.to found.2.not_below in (
              policy.0,
              found.1,
              last,
              record {
                labels = least_labels program;
                least = labels-least program;
                first = first;
                chained = record {
                  from = found.0;
                  policy_of = policy.1;
                  linked = found.2.linked;
                  to = found.2.to;
                  right_is = found.2.right_is;
                  not_covered = not-covers program.hierarchy found.2.to policy.0 policy.2;
                };
              },
            )

    labelled : ((d : Demand) → Contains (program_demands program) d → IsFalse (is_written d.right && not (holds (label_lattice program.hierarchy) (least_labels program) d))) → Labelled program
    labelled none = labelled-from program (least_labels program)
        (all-from (λ (d : Demand). holds (label_lattice program.hierarchy) (least_labels program) d) (program_demands program) (λ d h. held d h (none d h)))
      where
        held : (d : Demand) → Contains (program_demands program) d → IsFalse (is_written d.right && not (holds (label_lattice program.hierarchy) (least_labels program) d)) →
            IsTrue (holds (label_lattice program.hierarchy) (least_labels program) d)
        held d h none = by_right d.right refl none
          where
            by_right : (r : Atom Unwritten Label) → d.right ≡ r → IsFalse (is_written d.right && not (holds (label_lattice program.hierarchy) (least_labels program) d)) →
                IsTrue (holds (label_lattice program.hierarchy) (least_labels program) d)
            by_right (Unknown u) is e = unknown-holds (label_lattice program.hierarchy) (IsLattice-flows program.hierarchy) (program_demands program) (least_labels program) (labels-least program).fits d u h is
            by_right (Written to) is e = not-false (holds (label_lattice program.hierarchy) (least_labels program) d) (sym (ap (λ r. is_written r && not (holds (label_lattice program.hierarchy) (least_labels program) d)) is) ∙ e)

-- ---- a policy that was reported of the first demand that does not hold is that of a chain
policy-in_all : (l : List Label) (policy : ReaderPolicy) (h : PrincipalHierarchy) → Contains (join_all (label_lattice h) l) policy →
    (label : Label) × Contains l label × Contains label policy
policy-in_all [] policy h there = absurd (none_in_nil policy there)
policy-in_all (label ∷ rest) policy h there =
    ⊎_elim
    (λ k. (label, Contains-first label rest, k))
    (λ k. let found = policy-in_all rest policy h k in (found.0, Contains-later label rest found.0 found.1, found.2))
    (Contains-append_cases label (join_all (label_lattice h) rest) policy there)

policy-in_left : (labels : Unwritten → Label) (left : List (Atom Unwritten Label)) (policy : ReaderPolicy) → Contains (join_of (λ a b. a ++ b) [] labels left) policy →
    (atom : Atom Unwritten Label) × Contains left atom × Contains (value labels atom) policy
policy-in_left labels [] policy there = absurd (none_in_nil policy there)
policy-in_left labels (atom ∷ rest) policy there =
    ⊎_elim
    (λ k. (atom, Contains-first atom rest, k))
    (λ k. let found = policy-in_left labels rest policy k in (found.0, Contains-later atom rest found.0 found.1, found.2))
    (Contains-append_cases (value labels atom) (join_of (λ a b. a ++ b) [] labels rest) policy there)

pub refused-by : (program : Program) (last : Demand) (policy : ReaderPolicy) (to : Label) →
    first_unmet (label_lattice program.hierarchy) (program_demands program) (least_labels program) ≡ Some last → Contains (program_demands program) last →
    last.right ≡ Written to → Contains (join_of (λ a b. a ++ b) [] (least_labels program) last.left) policy → (¬ Covers program.hierarchy to policy) →
    (chain : List Demand) × IsProgramRefused program policy chain last
refused-by program last policy to first there is policy_of uncovered =
    let found = policy-in_left (least_labels program) last.left policy policy_of in by_part found.0 found.1 found.2
  where
    made : (from : Label) (chain : List Demand) → Contains from policy → Linked (program_demands program) (Written from) chain last →
        (chain : List Demand) × IsProgramRefused program policy chain last
    made from chain k linked = (
      chain,
      record {
        labels = least_labels program;
        least = labels-least program;
        first = first;
        chained = record { from = from; policy_of = k; linked = linked; to = to; right_is = is; not_covered = not-covers program.hierarchy to policy uncovered };
      },
    )

    by_part : (atom : Atom Unwritten Label) → Contains last.left atom → Contains (value (least_labels program) atom) policy →
        (chain : List Demand) × IsProgramRefused program policy chain last
    by_part (Written from) part k = made from (last ∷ []) k (ends (Written from) last there part)
    by_part (Unknown u) part k =
        let found = policy-in_all (reaching same_unwritten unwritten-same unwritten-itself (program_demands program) u) policy program.hierarchy k in
        let longer = linked-from_reaching (label_lattice program.hierarchy) (IsLattice-flows program.hierarchy) (program_demands program) found.0 u
        (reaching-only same_unwritten unwritten-same unwritten-itself (program_demands program) found.0 u found.1) (last ∷ []) last (ends (Unknown u) last there part) in
        made found.0 longer.0 found.2 longer.1

-- ---- what was gathered decides
module _ (program : Program) (cs : List Gathered) (gathered : AreGathered program cs) where
  pub gathered-labelled : Labelled program ↔ ((labels : ℕ → Label) × FitsAll (label_lattice program.hierarchy) cs labels)
  gathered-labelled = (
    λ labelled.
        let up = fits-up (program_demands program) cs gathered (label_lattice program.hierarchy) (IsLattice-flows program.hierarchy)
        (λ (a b : ℕ). a == b) (λ a b e. grind (arith, e)) (λ a. grind arith) labelled.0 (labelled-fits program labelled) in
        (up.0, up.1),
    λ found. labelled-from program (λ u. found.0 (gathered.number u))
        (fits-down (program_demands program) cs gathered (label_lattice program.hierarchy) (IsLattice-flows program.hierarchy) found.0 found.1),
  )

  pub gathered-refused : (from : Label) (chain : List Gathered) (last : Gathered) (policy : ReaderPolicy) →
      IsRefusedAt (label_lattice program.hierarchy) cs from chain last → Contains from policy → IsUncovered program.hierarchy last.right policy →
      (there : List Demand) × (d : Demand) × IsProgramRefused program policy there d × StandsFor gathered.number gathered.inner cs d last
      × (reported_gathered reported_step chain ≡ reported_steps reported_step there)
  gathered-refused from chain last policy refused policy_of uncovered =
      let found = refused-same (program_demands program) cs gathered (label_lattice program.hierarchy) (IsLattice-flows program.hierarchy)
      (λ (a b : ℕ). a == b) (λ a b e. grind (arith, e)) (λ a. grind arith) from chain last refused in
      made found.0 found.1 found.2 found.3 found.4
    where
      made : (d : Demand) (there : List Demand) → IsRefusedAt (label_lattice program.hierarchy) (program_demands program) from there d →
          StandsFor gathered.number gathered.inner cs d last → OneByOne gathered.number gathered.inner cs there (outer gathered.inner chain) →
          (there : List Demand) × (d : Demand) × IsProgramRefused program policy there d × StandsFor gathered.number gathered.inner cs d last
          × (reported_gathered reported_step chain ≡ reported_steps reported_step there)
      made d there is stands one = (
        there,
        d,
        record {
          labels = is.values;
          least = is.least;
          first = is.first;
          chained = record {
            from = from;
            policy_of = policy_of;
            linked = is.chained.linked;
            to = is.chained.to;
            right_is = is.chained.right_is;
            not_covered = not-covers program.hierarchy is.chained.to policy (subst (λ (r : Atom ℕ Label). IsUncovered program.hierarchy r policy)
                (stands.right_is ∙ ap (renamed gathered.number) is.chained.right_is) uncovered);
          };
        },
        stands,
        reported-same (program_demands program) cs gathered reported_step (Written from) chain last refused.chained.linked there one,
      )
