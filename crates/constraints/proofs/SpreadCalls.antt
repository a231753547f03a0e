-- What a walk kept, with the flows of the calls that it noted spread over further unknowns, is what is gathered with some flows rerouted.
use Rattle.std.proofs.Common.{◌≡◌, refl, sym, ap, ◌∙◌, subst, ℕ, zero, suc, ◌+◌, ◌-◌, ◌<◌, ◌≤◌, length, List, [], ◌∷◌, ◌++◌, map, Bool, true, false, arith, inl, inr, ⊎_elim}
use Rattle.std.specs.Prelude.{◌⊎◌, Contains, IsTrue, nat_le, nat_lt, if◌then◌else◌}
use Rattle.std.proofs.lemmas.Bool.{le-leb, le-ltb, leb-true, lt-leb, lt-ltb}
use Rattle.std.proofs.lemmas.List.Elements.{Contains-append_cases, Contains-append_right}
use Rattle.common.proofs.Cases.{contained_map, contained_map_only}
use Rattle.common.proofs.Elements.{none_in_nil, Contains-cons_cases, Contains-first, Contains-later}
use Rattle.labels.specs.Label.{Label}
use Rattle.lattices.specs.Constraints as formal
use Rattle.lattices.specs.Constraints.{Unknown, Written, is_inner, outer, renamed}
use Rattle.resolved.specs.declared.program.Core.{Core}
use Rattle.resolved.specs.declared.statement.Exit.TheVariants.{Throw}
use Rattle.resolved.specs.CoreOf.{program_of}
use Rattle.resolved.specs.Flow.{Gathered}
use Rattle.resolved.specs.Program.{Program, ThrownEntry, procedure_at}
use Rattle.gathering.specs.Names.{NamedAtom, NamedConstraint, is_inner_name, named_atoms, numbered, numbered_atom, real_unknowns}
use Rattle.gathering.specs.Rerouted.{Brings, IsAdded, IsRerouted, Leads, LeadsInside, Links, arrived, ended, itself, led, onward, others}
use Rattle.gathering.specs.Walk as walk
use Rattle.gathering.specs.Size.{begins}
use Rattle.gathering.specs.Walk.{call_atoms, gathered_constraints, inner_atom, program_constraints, unknown_count}
use Rattle.gathering.proofs.Begins.{calls-counted}
use Rattle.gathering.proofs.Numbers.{kept, numbers-below}
use Rattle.gathering.proofs.Ranged.{InRange, Ranged}
use Rattle.gathering.proofs.RangedPrograms.{ranged-program}
use Rattle.constraints.specs.Ready.{most_unknowns}
use Rattle.constraints.specs.Journals.{IsRaised, raised_flow, exit_unknown_at}
use Rattle.constraints.specs.Spreading.{Declares, IsJoiningFlow, IsNode, IsSpread, IsSpreadRaise, IsSpreadWhole, StandFrom, StandForThemselves}
use Rattle.constraints.specs.Added.{Stored, wanted_constraint}
use Rattle.constraints.specs.Thinned.{IsOwnOf, ThinnedWhole}
use Rattle.constraints.specs.declared.journal.Called.{Called}
use Rattle.constraints.specs.declared.progress.Progress.{Progress}
use Rattle.constraints.proofs.Small.{program-small}
use Rattle.constraints.proofs.Wanted.{AreNumbered, constraints-numbered, map-inner, numbered-ranged, wanted_of}

abbrev nth : List (List ℕ) → ℕ → List ℕ
nth [] k = []
nth (xs ∷ rest) zero = xs
nth (xs ∷ rest) (suc k) = nth rest k

stand-where : (stands : ℕ → List ℕ) (ms : List (List ℕ)) (n : ℕ) → ((i : ℕ) → stands (n + i) ≡ nth ms i) → StandFrom stands n ms
stand-where stands [] n each = tt
stand-where stands (m ∷ ms) n each =
    let e : n + 0 ≡ n = omega arith in (
      subst (λ k. stands k ≡ m) e (each 0),
      stand-where stands ms (suc n) (λ i. let f : n + suc i ≡ suc n + i = omega arith in subst (λ k. stands k ≡ nth ms i) f (each (suc i))),
    )

not-both : (b : Bool) → b ≡ true → b ≡ false → ⊥
not-both true e f = let i : true ≡ false = f in absurd (cc)
not-both false e f = let i : false ≡ true = e in absurd (cc)

-- a path of added constraints, whose right sides are inner unknowns
leads-inside : {N U V : Type 0} (inner : U → Bool) (base added : List (formal.Constraint N U V)) → ((c : formal.Constraint N U V) → Contains added c → IsTrue (is_inner inner c.right))
    → (from to : formal.Atom U V) → Leads added from to → LeadsInside inner (base ++ added) from to
leads-inside inner base added each from to (arrived _ same) = ended to same
leads-inside inner base added each from to (onward middle _ leads link) =
    led middle to (leads-inside inner base added each from middle leads)
    (record { by = link.by; among = Contains-append_right base added link.by link.among; starts = link.starts; ends = link.ends })
    (subst (λ a. IsTrue (is_inner inner a)) link.ends (each link.by link.among))

module _ (program : Program) where
  -- constraints with numbers
  abbrev inner_number : ℕ → Bool
  inner_number k = nat_le (real_unknowns program) k

  abbrev further : ℕ → Bool
  further k = nat_le (unknown_count program) k

  leads-numbered : (added : List NamedConstraint) (from to : NamedAtom) → Leads added from to → Leads (map (numbered program) added) (numbered_atom program from) (numbered_atom program to)
  leads-numbered added from to (arrived _ same) = arrived (numbered_atom program to) (ap (numbered_atom program) same)
  leads-numbered added from to (onward middle _ leads link) =
      onward (numbered_atom program middle) (numbered_atom program to) (leads-numbered added from middle leads) (record {
        by = numbered program link.by;
        among = contained_map (numbered program) added link.by link.among;
        starts = contained_map (numbered_atom program) link.by.left middle link.starts;
        ends = ap (numbered_atom program) link.ends;
      })

  -- those that are not inner
  outer-numbered : (bound : ℕ) (xs : List NamedConstraint) → ((c : NamedConstraint) → Contains xs c → InRange program bound c.right)
      → outer inner_number (map (numbered program) xs) ≡ map (numbered program) (outer is_inner_name xs)
  outer-numbered bound [] ranged = refl
  outer-numbered bound (x ∷ xs) ranged =
      go (is_inner is_inner_name x.right) (is_inner inner_number (numbered_atom program x.right)) (kept program bound x.right (ranged x (Contains-first x xs)))
      (outer-numbered bound xs (λ c h. ranged c (Contains-later x xs c h)))
    where
      go : (a b : Bool) → b ≡ a → outer inner_number (map (numbered program) xs) ≡ map (numbered program) (outer is_inner_name xs)
          → (if b then outer inner_number (map (numbered program) xs) else (numbered program x ∷ outer inner_number (map (numbered program) xs)))
          ≡ map (numbered program) (if a then outer is_inner_name xs else (x ∷ outer is_inner_name xs))
      go true true e next = next
      go true false e next = let i : false ≡ true = e in absurd (cc)
      go false true e next = let i : true ≡ false = e in absurd (cc)
      go false false e next = ap (λ z. numbered program x ∷ z) next

  -- a number below the count is no further one
  below-old : (a : formal.Atom ℕ Label) → walk.IsUnknownBelow (unknown_count program) a → is_inner further a ≡ false
  below-old (Written v) below = refl
  below-old (Unknown u) below = lt-leb (unknown_count program) u below

module _ (core : Core) (table : List Label) (walked : Progress) (from_number next_number : ℕ) (stored : List Stored)
    (whole : ThinnedWhole core table (program_constraints (program_of core)) walked)
    (spread : IsSpreadWhole core table walked.journal (Declares core) walked.journal.calls.items from_number next_number stored)
    (first : from_number ≡ unknown_count (program_of core)) where
  abbrev program : Program
  program = program_of core

  abbrev real : ℕ
  real = real_unknowns (program_of core)

  abbrev count : ℕ
  count = unknown_count (program_of core)

  abbrev constraints : List NamedConstraint
  constraints = program_constraints (program_of core)

  abbrev calls : List Called
  calls = walked.journal.calls.items

  ranged : Ranged (program_of core) count constraints
  ranged = ranged-program (program_of core) core.well_formed

  -- no call was noted before
  none-before : (called : Called) → Contains whole.start.calls.items called → ⊥
  none-before called h = none_in_nil called (subst (λ list. Contains list called) whole.no_calls h)

  raised-there : (c : NamedConstraint) → IsRaised core walked.journal c → Contains constraints c
  raised-there c raised = ⊎_elim (λ earlier. absurd (none-before earlier.called earlier.among)) (λ there. there) (whole.now.only c raised)

  own-below : (called : Called) → Contains calls called → called.own < count
  own-below called h = ⊎_elim (λ earlier. absurd (none-before called earlier))
      (λ own. (made called own).1)
      (whole.now.owns called h)
    where
      made : (called : Called) → IsOwnOf called constraints → InRange (program_of core) count (inner_atom called.own)
      made called own = subst (InRange (program_of core) count) own.is (ranged own.by own.among).1

  -- what each number stands for
  abbrev stands : ℕ → List ℕ
  stands j = if nat_lt j count then j ∷ [] else nth spread.meanings (j - count)

  stands-old : (j : ℕ) → j < count → stands j ≡ j ∷ []
  stands-old j below = ap (λ b. if b then j ∷ [] else nth spread.meanings (j - count)) (lt-ltb j count below)

  for-themselves : StandForThemselves stands calls
  for-themselves called h = stands-old called.own (own-below called h)

  stand-from : StandFrom stands from_number spread.meanings
  stand-from = subst (λ n. StandFrom stands n spread.meanings) (sym first) (stand-where stands spread.meanings count (λ i.
      let past : nat_lt (count + i) count ≡ false = le-ltb (count + i) count (omega arith) in
      let less : (count + i) - count ≡ i = omega arith in
      ap (λ b. if b then (count + i) ∷ [] else nth spread.meanings ((count + i) - count)) past ∙ ap (nth spread.meanings) less))

  each : (c : NamedConstraint) → Contains spread.added c → IsSpread core walked.journal stands from_number next_number calls c
  each = spread.each stands for-themselves stand-from

  abbrev unknown : ℕ → formal.Atom ℕ Label
  unknown own = Unknown own

  abbrev meanings : ℕ → List (formal.Atom ℕ Label)
  meanings u = map unknown (stands u)

  is-further : (k : ℕ) → count ≤ k → further (program_of core) k ≡ true
  is-further k least = le-leb count k least

  further-only : (k : ℕ) → further (program_of core) k ≡ true → count ≤ k
  further-only k e = leb-true count k e

  same-number : (u k : ℕ) → ◌≡◌ {A = formal.Atom ℕ Label} (Unknown u) (Unknown k) → u ≡ k
  same-number u k e = cc

  -- what a part of a left side that is an unknown brings
  brought : (node : ℕ) (from : formal.Atom ℕ Label) → IsNode from_number next_number calls node
      → Brings (further (program_of core)) meanings (unknown node) from → (own : ℕ) × Contains (stands node) own × (unknown own ≡ from)
  brought node from is (itself f same) =
      let below : node < count = ⊎_elim
      (λ own. subst (λ k. k < count) own.2 (own-below own.0 own.1))
      (λ within. absurd (not-both (further (program_of core) node) (is-further node (subst (λ n. n ≤ node) first within.0)) f)) is in
      (node, subst (λ list. Contains list node) (sym (stands-old node below)) (Contains-first node []), same)
  brought node from is (others u same f stand) =
      let number : u ≡ node = same-number u node (sym same) in
      contained_map_only unknown (stands node) from (subst (λ list. Contains list from) (ap meanings number) stand)

  -- a part that is no further unknown brings itself
  brought-old : (part from : formal.Atom ℕ Label) → is_inner (further (program_of core)) part ≡ false → Brings (further (program_of core)) meanings part from → part ≡ from
  brought-old part from e (itself f same) = same
  brought-old part from e (others u is f stand) = absurd (not-both (further (program_of core) u) f (subst (λ a. is_inner (further (program_of core)) a ≡ false) is e))

  -- ---- each constraint that was added
  join-added : (c : NamedConstraint) → IsJoiningFlow stands from_number next_number calls c
      → IsAdded (inner_number (program_of core)) (further (program_of core)) meanings (gathered_constraints (program_of core)) (numbered (program_of core) c)
  join-added c join =
      let least : count ≤ join.to = subst (λ n. n ≤ join.to) first join.from_first in
      let right : numbered_atom (program_of core) c.right ≡ Unknown join.to = ap (λ (z : NamedConstraint). numbered_atom (program_of core) z.right) join.is in
      record {
        to = join.to;
        right_is = right;
        inner_is = le-leb real join.to (omega (arith, least));
        no_target = ap (λ (z : NamedConstraint). z.target) join.is;
        to_further = λ f part from h brings.
            let named = contained_map_only (numbered_atom (program_of core)) (map inner_atom join.parts) part
            (subst (λ (z : NamedConstraint). Contains (map (numbered_atom (program_of core)) z.left) part) join.is h) in
            let node = contained_map_only inner_atom join.parts named.0 named.1 in
            let is : unknown node.0 ≡ part = ap (numbered_atom (program_of core)) node.2 ∙ named.2 in
            let found = brought node.0 from (join.nodes node.0 node.1) (subst (λ a. Brings (further (program_of core)) meanings a from) (sym is) brings) in
            subst (λ a. Contains (map unknown (stands join.to)) a) found.2 (contained_map unknown (stands join.to) found.0 (join.brings node.0 found.0 node.1 found.1));
        to_old = λ f. absurd (not-both (further (program_of core) join.to) (is-further join.to least) f);
      }

  raise-there : (c : NamedConstraint) (r : IsSpreadRaise core walked.journal stands from_number next_number calls c) (called : Called) → Contains r.of called
      → Contains constraints (raised_flow (program_of core) r.callee called.own r.exception r.exit_unknown)
  raise-there c r called h =
      let callee : called.callee ≡ r.callee = r.of_callee called h in
      let entry = contained_map_only (λ (e : ThrownEntry). e.exception) (procedure_at (program_of core) r.callee).throws r.exception r.declared in
      raised-there (raised_flow (program_of core) r.callee called.own r.exception r.exit_unknown) (record {
        called = called;
        among = r.among called h;
        entry = entry.0;
        declared = subst (λ f. Contains (procedure_at (program_of core) f).throws entry.0) (sym callee) entry.1;
        exit_unknown = r.exit_unknown;
        takes = ap (exit_unknown_at walked.journal called) entry.2 ∙ r.takes called h;
        is = ap (λ f. raised_flow (program_of core) f called.own r.exception r.exit_unknown) (sym callee) ∙ ap (λ x. raised_flow (program_of core) called.callee called.own x r.exit_unknown) (sym entry.2);
      })

  first-of : (of : List Called) → 0 < length of → (called : Called) × Contains of called
  first-of [] some = absurd (omega (arith, some))
  first-of (called ∷ rest) some = (called, Contains-first called rest)

  exit_unknown-below : (c : NamedConstraint) (r : IsSpreadRaise core walked.journal stands from_number next_number calls c) → (real ≤ r.exit_unknown) × (r.exit_unknown < count)
  exit_unknown-below c r =
      let one = first-of r.of r.some in
      (ranged (raised_flow (program_of core) r.callee one.0.own r.exception r.exit_unknown) (raise-there c r one.0 one.1)).1

  raise-added : (c : NamedConstraint) → IsSpreadRaise core walked.journal stands from_number next_number calls c
      → IsAdded (inner_number (program_of core)) (further (program_of core)) meanings (gathered_constraints (program_of core)) (numbered (program_of core) c)
  raise-added c r =
      let label : List NamedAtom = named_atoms (call_atoms (program_of core) r.callee (Throw r.exception)) in
      let right : numbered_atom (program_of core) c.right ≡ Unknown r.exit_unknown = ap (λ (z : NamedConstraint). numbered_atom (program_of core) z.right) r.is in
      let below : r.exit_unknown < count = (exit_unknown-below c r).1 in
      let link : (called : Called) → Contains r.of called → (from : formal.Atom ℕ Label)
      → Contains (map (numbered_atom (program_of core)) (inner_atom called.own ∷ label)) from → Links (gathered_constraints (program_of core)) from (numbered (program_of core) c).right =
      λ called h from starts. record {
        by = numbered (program_of core) (raised_flow (program_of core) r.callee called.own r.exception r.exit_unknown);
        among = contained_map (numbered (program_of core)) constraints (raised_flow (program_of core) r.callee called.own r.exception r.exit_unknown) (raise-there c r called h);
        starts = starts;
        ends = sym right;
      } in
      record {
        to = r.exit_unknown;
        right_is = right;
        inner_is = le-leb real r.exit_unknown (exit_unknown-below c r).0;
        no_target = ap (λ (z : NamedConstraint). z.target) r.is;
        to_further = λ f. let least : count ≤ r.exit_unknown = further-only r.exit_unknown f in absurd (omega (arith, least, below));
        to_old = λ f part from h brings.
            let left : Contains (map (numbered_atom (program_of core)) (inner_atom r.node ∷ label)) part =
            subst (λ (z : NamedConstraint). Contains (map (numbered_atom (program_of core)) z.left) part) r.is h in
            ⊎_elim
            (λ same.
            let found = brought r.node from r.is_node (subst (λ a. Brings (further (program_of core)) meanings a from) (sym same) brings) in
            let called = contained_map_only (λ (k : Called). k.own) r.of found.0 (subst (λ list. Contains list found.0) r.stands_for found.1) in
            link called.0 called.1 from
            (subst (λ a. Contains (map (numbered_atom (program_of core)) (inner_atom called.0.own ∷ label)) a) (ap unknown called.2 ∙ found.2)
            (Contains-first (unknown called.0.own) (map (numbered_atom (program_of core)) label))))
            (λ k.
            let one = first-of r.of r.some in
            let there : Contains (map (numbered_atom (program_of core)) (inner_atom one.0.own ∷ label)) part =
            Contains-later (unknown one.0.own) (map (numbered_atom (program_of core)) label) part k in
            let by : Gathered = numbered (program_of core) (raised_flow (program_of core) r.callee one.0.own r.exception r.exit_unknown) in
            let old_part : is_inner (further (program_of core)) part ≡ false = below-old (program_of core) part
            ((numbers-below (program_of core) core.well_formed by
            (contained_map (numbered (program_of core)) constraints (raised_flow (program_of core) r.callee one.0.own r.exception r.exit_unknown) (raise-there c r one.0 one.1))).0 part there) in
            let same : part ≡ from = brought-old part from old_part brings in
            link one.0 one.1 from (subst (λ a. Contains (map (numbered_atom (program_of core)) (inner_atom one.0.own ∷ label)) a) same there))
            (Contains-cons_cases (unknown r.node) (map (numbered_atom (program_of core)) label) part left);
      }

  -- ---- the whole
  goes : (c : NamedConstraint) → Contains constraints c
      → Contains (map (numbered (program_of core)) whole.now.kept) (numbered (program_of core) c)
      ⊎ ((part : formal.Atom ℕ Label) → Contains (map (numbered_atom (program_of core)) c.left) part
      → Leads (map (numbered (program_of core)) spread.added) part (numbered_atom (program_of core) c.right))
  goes c h = ⊎_elim
      (λ stays. inl (contained_map (numbered (program_of core)) whole.now.kept c stays))
      (λ raised. inr (λ part there.
      let named = contained_map_only (numbered_atom (program_of core)) c.left part there in
      let from : Contains (raised_flow (program_of core) raised.called.callee raised.called.own raised.entry.exception raised.exit_unknown).left named.0 =
      subst (λ (z : NamedConstraint). Contains z.left named.0) raised.is named.1 in
      let leads : Leads spread.added named.0 (inner_atom raised.exit_unknown) =
      spread.leads raised.called raised.among raised.entry.exception
      (contained_map (λ (e : ThrownEntry). e.exception) (procedure_at (program_of core) raised.called.callee).throws raised.entry raised.declared) raised.exit_unknown raised.takes named.0 from in
      let ends : inner_atom raised.exit_unknown ≡ c.right = ap (λ (z : NamedConstraint). z.right) (sym raised.is) in
      subst (λ a. Leads (map (numbered (program_of core)) spread.added) a (numbered_atom (program_of core) c.right)) named.2
      (leads-numbered (program_of core) spread.added named.0 c.right (subst (λ a. Leads spread.added named.0 a) ends leads))))
      (whole.now.rest c h)

  each-added : (c : Gathered) → Contains (map (numbered (program_of core)) spread.added) c
      → IsAdded (inner_number (program_of core)) (further (program_of core)) meanings (gathered_constraints (program_of core)) c
  each-added c h =
      let found = contained_map_only (numbered (program_of core)) spread.added c h in
      subst (IsAdded (inner_number (program_of core)) (further (program_of core)) meanings (gathered_constraints (program_of core))) found.2
      (⊎_elim (join-added found.0) (raise-added found.0) (each found.0 found.1))

  pub calls-rerouted : IsRerouted (λ k. nat_le (real_unknowns (program_of core)) k) (λ k. nat_le (unknown_count (program_of core)) k) (gathered_constraints (program_of core))
      (map (numbered (program_of core)) whole.now.kept) (map (numbered (program_of core)) spread.added)
  calls-rerouted = record {
    stands = meanings;
    inside = λ u f. let least : count ≤ u = leb-true count u f in le-leb real u (omega (arith, least));
    outer_is =
        outer-numbered (program_of core) count whole.now.kept (λ c h. (ranged c (whole.now.stays c h)).1)
        ∙ (ap (map (numbered (program_of core))) whole.now.outer_is ∙ sym (outer-numbered (program_of core) count constraints (λ c h. (ranged c h).1)));
    stays = λ c h.
        let found = contained_map_only (numbered (program_of core)) whole.now.kept c h in
        subst (λ z. Contains (gathered_constraints (program_of core)) z) found.2 (contained_map (numbered (program_of core)) constraints found.0 (whole.now.stays found.0 found.1));
    old_parts = λ c h part there. below-old (program_of core) part ((numbers-below (program_of core) core.well_formed c h).0 part there);
    old_right = λ c h. below-old (program_of core) c.right (numbers-below (program_of core) core.well_formed c h).1;
    goes = λ c h e.
        let found = contained_map_only (numbered (program_of core)) constraints c h in
        subst (λ (z : Gathered). Contains (map (numbered (program_of core)) whole.now.kept) z
        ⊎ ((part : formal.Atom ℕ Label) → Contains z.left part
        → LeadsInside (inner_number (program_of core)) (map (numbered (program_of core)) whole.now.kept ++ map (numbered (program_of core)) spread.added) part z.right)) found.2
        (⊎_elim (λ k. inl k) (λ k. inr (λ part there. leads-inside (inner_number (program_of core)) (map (numbered (program_of core)) whole.now.kept)
        (map (numbered (program_of core)) spread.added) (λ d among. let is = each-added d among in subst (λ a. IsTrue (is_inner (inner_number (program_of core)) a)) (sym is.right_is) is.inner_is)
        part (numbered_atom (program_of core) found.0.right) (k part there))) (goes found.0 found.1));
    each = each-added;
  }

  -- ---- numbers
  node-below : (node : ℕ) → IsNode from_number next_number calls node → node < next_number
  node-below node is = ⊎_elim
      (λ own. let below : node < count = subst (λ k. k < count) own.2 (own-below own.0 own.1) in omega (arith, below, first, spread.number_is))
      (λ within. within.1) is

  atoms-more : (a : formal.Atom ℕ Label) → walk.IsUnknownBelow (unknown_count (program_of core)) a → walk.IsUnknownBelow next_number a
  atoms-more (Written v) below = tt
  atoms-more (Unknown u) below = omega (arith, below, first, spread.number_is)

  abbrev AreBelow : NamedConstraint → Type 0
  AreBelow c = ((a : formal.Atom ℕ Label) → Contains (map (numbered_atom (program_of core)) c.left) a → walk.IsUnknownBelow next_number a)
      × walk.IsUnknownBelow next_number (numbered_atom (program_of core) c.right)

  old-below : (c : NamedConstraint) → Contains constraints c → AreBelow c
  old-below c h =
      let below = numbers-below (program_of core) core.well_formed (numbered (program_of core) c) (contained_map (numbered (program_of core)) constraints c h) in
      (λ a there. atoms-more a (below.0 a there), atoms-more (numbered_atom (program_of core) c.right) below.1)

  join-below : (c : NamedConstraint) → IsJoiningFlow stands from_number next_number calls c → AreBelow c
  join-below c join =
      subst AreBelow (sym join.is) (
        λ a there.
            let named = contained_map_only (numbered_atom (program_of core)) (map inner_atom join.parts) a there in
            let node = contained_map_only inner_atom join.parts named.0 named.1 in
            let below : node.0 < next_number = node-below node.0 (join.nodes node.0 node.1) in
            let within : walk.IsUnknownBelow next_number (unknown node.0) = omega (arith, below) in
            subst (walk.IsUnknownBelow next_number) (ap (numbered_atom (program_of core)) node.2 ∙ named.2) within,
        (let below : join.to < next_number = join.below_next in omega (arith, below)),
      )

  raise-below : (c : NamedConstraint) → IsSpreadRaise core walked.journal stands from_number next_number calls c → AreBelow c
  raise-below c r =
      let label : List NamedAtom = named_atoms (call_atoms (program_of core) r.callee (Throw r.exception)) in
      let one = first-of r.of r.some in
      let like : AreBelow (raised_flow (program_of core) r.callee one.0.own r.exception r.exit_unknown) =
      old-below (raised_flow (program_of core) r.callee one.0.own r.exception r.exit_unknown) (raise-there c r one.0 one.1) in
      subst AreBelow (sym r.is) (
        λ a there. ⊎_elim
            (λ same.
            let below : r.node < next_number = node-below r.node r.is_node in
            let within : walk.IsUnknownBelow next_number (unknown r.node) = omega (arith, below) in
            subst (walk.IsUnknownBelow next_number) same within)
            (λ k. like.0 a (Contains-later (unknown one.0.own) (map (numbered_atom (program_of core)) label) a k))
            (Contains-cons_cases (unknown r.node) (map (numbered_atom (program_of core)) label) a there),
        like.1,
      )

  pub spread-below : walk.AreUnknownsBelow next_number (map (numbered (program_of core)) (whole.now.kept ++ spread.added))
  spread-below c' h =
      let found = contained_map_only (numbered (program_of core)) (whole.now.kept ++ spread.added) c' h in
      subst (λ (z : Gathered). ((a : formal.Atom ℕ Label) → Contains z.left a → walk.IsUnknownBelow next_number a) × walk.IsUnknownBelow next_number z.right) found.2
      (⊎_elim (λ k. old-below found.0 (whole.now.stays found.0 k)) (λ k. ⊎_elim (join-below found.0) (raise-below found.0) (each found.0 k))
      (Contains-append_cases whole.now.kept spread.added found.0 found.1))

  -- the constraints that were kept and added are in range, so that each part is the unknown with its number
  pub ranged-unknowns : (c : NamedConstraint) → Contains (whole.now.kept ++ spread.added) c → AreNumbered (program_of core) c
  ranged-unknowns c h = ⊎_elim (λ k. numbered-ranged (program_of core) count c (ranged c (whole.now.stays c k)))
      (λ k. ⊎_elim
      (λ join. subst (AreNumbered (program_of core)) (sym join.is) (map-inner (program_of core) join.parts, refl))
      (λ raise. subst (AreNumbered (program_of core)) (sym raise.is) (refl, refl)) (each c k))
      (Contains-append_cases whole.now.kept spread.added c h)

  pub all-numbered : map (wanted_constraint (program_of core)) (whole.now.kept ++ spread.added) ≡ map wanted_of (map (numbered (program_of core)) (whole.now.kept ++ spread.added))
  all-numbered = constraints-numbered (program_of core) (whole.now.kept ++ spread.added) ranged-unknowns

  -- and few
  pub spread-least : next_number ≤ unknown_count (program_of core) + begins (program_constraints (program_of core))
  spread-least =
      let none : length whole.start.calls.items ≡ 0 = ap length whole.no_calls in
      omega (arith, spread.number_is, spread.few, whole.now.few, none, first)

-- before they are spread, there are numbers for an unknown of each call
pub calls-fit : (core : Core) (table : List Label) (walked : Progress) → ThinnedWhole core table (program_constraints (program_of core)) walked
    → walked.number ≡ unknown_count (program_of core) → walked.number + length walked.journal.calls.items ≤ most_unknowns
calls-fit core table walked whole first =
    let none : length whole.start.calls.items ≡ 0 = ap length whole.no_calls in
    omega (arith, calls-counted (program_of core) core.well_formed, whole.now.few, none, first, program-small core)
