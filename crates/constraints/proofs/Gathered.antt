-- Stored constraints that stand for what is gathered: they are just that, and their numbers are in range and few.
use Rattle.std.proofs.Common.{◌≡◌, refl, sym, ap, ◌∙◌, subst, ℕ, ◌+◌, ◌*◌, ◌<◌, ◌≤◌, arith, List, [], ◌∷◌, ◌++◌, map, length, ⊎_elim}
use Rattle.std.specs.Prelude.{◌↔◌, Contains, Some, nat_le, slice_get}
use Rattle.std.proofs.lemmas.Bool.{le-leb}
use Rattle.std.proofs.lemmas.List.{map-append}
use Rattle.std.proofs.lemmas.List.Elements.{All-cons, All-nil, Contains-append_cases, Contains-append_left, Contains-append_right}
use Rattle.labels.proofs.Elements.{All-from_each, each_from_All}
use Rattle.common.proofs.Elements.{Contains-first, Contains-later}
use Rattle.std.proofs.lemmas.Option.{get_or_from_slice_get, slice_get_within}
use Rattle.labels.specs.Label.{Label}
use Rattle.lattices.specs.Lattice.{Lattice}
use Rattle.labels.specs.LabelLattice.{label_lattice}
use Rattle.lattices.specs.Constraints as formal
use Rattle.resolved.specs.Flow.{Gathered}
use Rattle.resolved.specs.declared.program.Core.{Core}
use Rattle.resolved.specs.CoreOf.{program_of}
use Rattle.resolved.specs.WellFormed.{program_nodes}
use Rattle.resolved.specs.Labelled.{FitsDemands, Labelling, program_demands, exit_faults}
use Rattle.gathering.specs.Gathered.{AreConstraintsOf, FitsConstraints}
use Rattle.gathering.specs.Names.{numbered, real_unknowns}
use Rattle.gathering.specs.Rerouted.{IsRerouted}
use Rattle.gathering.proofs.Begins.{calls-counted}
use Rattle.gathering.specs.Size.{begins}
use Rattle.gathering.specs.Walk as walk
use Rattle.gathering.specs.Walk.{gathered_constraints, program_constraints, unknown_count}
use Rattle.gathering.proofs.ReroutedPrograms.{constraints-fit, rerouted-constraints}
use Rattle.solver.specs.Links.{AreBelow, InRange, IsBelow}
use Rattle.solver.specs.Constraints.{atom_of, constraint_of}
use Rattle.solver.specs.declared.constraints.Atom.{Atom}
use Rattle.solver.specs.declared.constraints.Atom.TheVariants as stored
use Rattle.solver.specs.Rule.{rule_number}
use Rattle.constraints.specs.LeftSides.{part, left_parts}
use Rattle.constraints.specs.Added.{AreAdded, Stored, stand_for, stands_for, wanted_constraint}
use Rattle.constraints.specs.Merging.{AreSpreadShared, IsFollowed}
use Rattle.constraints.specs.Thinned.{ThinnedWhole}
use Rattle.constraints.specs.declared.progress.Progress.{Progress}
use Rattle.constraints.specs.declared.spreading.Made.{Made}
use Rattle.constraints.proofs.Merged.{FitsIn, fits-more, meant-rerouted, shared-in-range}
use Rattle.constraints.proofs.SpreadCalls.{all-numbered, calls-rerouted, ranged-unknowns, spread-below, spread-least}
use Rattle.constraints.proofs.Wanted.{constraints-numbered, wanted, wanted_of}

module _ (l : Lattice Label) (table : List Label) where
  atom-is : (a : Atom) (b : formal.Atom ℕ Label) → part table a ≡ wanted b → atom_of l table a ≡ b
  atom-is (stored.Written n) (formal.Written label) is =
      let there : slice_get table n ≡ Some label = cc in
      ap (λ found. formal.Written found) (get_or_from_slice_get table n label l.least there)
  atom-is (stored.Unknown u) (formal.Unknown w) is = let same : u ≡ w = cc in ap (λ k. formal.Unknown k) same
  atom-is (stored.Written n) (formal.Unknown w) is = absurd (cc)
  atom-is (stored.Unknown u) (formal.Written label) is = absurd (cc)

  atoms-are : (xs : List Atom) (bs : List (formal.Atom ℕ Label)) → left_parts table xs ≡ map wanted bs → map (atom_of l table) xs ≡ bs
  atoms-are [] [] is = refl
  atoms-are (a ∷ xs) (b ∷ bs) is =
      let head : part table a ≡ wanted b = cc in
      let tail : left_parts table xs ≡ map wanted bs = cc in
      ap (λ x. x ∷ map (atom_of l table) xs) (atom-is a b head) ∙ ap (λ ys. b ∷ ys) (atoms-are xs bs tail)
  atoms-are [] (b ∷ bs) is = absurd (cc)
  atoms-are (a ∷ xs) [] is = absurd (cc)

  constraint-is : (c : Stored) (g : Gathered) → stands_for table c ≡ wanted_of g → constraint_of l table c ≡ g
  constraint-is c g is =
      let at : c.at ≡ g.at = ap (λ x. x.at) is in
      let rule : rule_number c.rule ≡ g.rule = ap (λ x. x.rule) is in
      let left : left_parts table c.left.items ≡ map wanted g.left = ap (λ x. x.left) is in
      let target : c.target ≡ g.target = ap (λ x. x.target) is in
      let right : part table c.right ≡ wanted g.right = ap (λ x. x.right) is in
      rw (at, rule, atoms-are c.left.items g.left left, target, atom-is c.right g.right right) refl

  pub constraints-are : (cs : List Stored) (gs : List Gathered) → stand_for table cs ≡ map wanted_of gs → map (constraint_of l table) cs ≡ gs
  constraints-are [] [] is = refl
  constraints-are (c ∷ cs) (g ∷ gs) is =
      let head : stands_for table c ≡ wanted_of g = cc in
      let tail : stand_for table cs ≡ map wanted_of gs = cc in
      ap (λ x. x ∷ map (constraint_of l table) cs) (constraint-is c g head) ∙ ap (λ xs. g ∷ xs) (constraints-are cs gs tail)
  constraints-are [] (g ∷ gs) is = absurd (cc)
  constraints-are (c ∷ cs) [] is = absurd (cc)

module _ (table : List Label) (count : ℕ) where
  atom-below : (a : Atom) (b : formal.Atom ℕ Label) → part table a ≡ wanted b → walk.IsUnknownBelow count b → IsBelow (length table) count a
  atom-below (stored.Written n) (formal.Written label) is below =
      let there : slice_get table n ≡ Some label = cc in
      slice_get_within table n label there
  atom-below (stored.Unknown u) (formal.Unknown w) is below = let same : w ≡ u = cc in subst (λ k. k < count) same below
  atom-below (stored.Written n) (formal.Unknown w) is below = absurd (cc)
  atom-below (stored.Unknown u) (formal.Written label) is below = absurd (cc)

  atoms-below : (xs : List Atom) (bs : List (formal.Atom ℕ Label)) → left_parts table xs ≡ map wanted bs
      → ((b : formal.Atom ℕ Label) → Contains bs b → walk.IsUnknownBelow count b) → AreBelow (length table) count xs
  atoms-below [] [] is below = All-nil (IsBelow (length table) count)
  atoms-below (a ∷ xs) (b ∷ bs) is below =
      let head : part table a ≡ wanted b = cc in
      let tail : left_parts table xs ≡ map wanted bs = cc in
      All-cons (IsBelow (length table) count) a xs (atom-below a b head (below b (Contains-first _ _))) (atoms-below xs bs tail (λ x there. below x (Contains-later _ _ x there)))
  atoms-below [] (b ∷ bs) is below = absurd (cc)
  atoms-below (a ∷ xs) [] is below = absurd (cc)

  abbrev fits : Stored → Type 0
  fits c = AreBelow (length table) count c.left.items × IsBelow (length table) count c.right

  pub constraints-in-range : (cs : List Stored) (gs : List Gathered) → stand_for table cs ≡ map wanted_of gs → walk.AreUnknownsBelow count gs
      → InRange (length table) count cs
  constraints-in-range [] [] is below = All-nil fits
  constraints-in-range (c ∷ cs) (g ∷ gs) is below =
      let head : stands_for table c ≡ wanted_of g = cc in
      let tail : stand_for table cs ≡ map wanted_of gs = cc in
      let left : left_parts table c.left.items ≡ map wanted g.left = ap (λ x. x.left) head in
      let right : part table c.right ≡ wanted g.right = ap (λ x. x.right) head in
      let here = below g (Contains-first _ _) in
      All-cons fits c cs (atoms-below c.left.items g.left left here.0, atom-below c.right g.right right here.1)
      (constraints-in-range cs gs tail (λ x there. below x (Contains-later _ _ x there)))
  constraints-in-range [] (g ∷ gs) is below = absurd (cc)
  constraints-in-range (c ∷ cs) [] is below = absurd (cc)

-- what a walk kept, and the flows of the calls that it noted, put together by their right sides and by further unknowns
module _ (core : Core) (table : List Label) (walked : Progress) (old new : Made)
    (whole : ThinnedWhole core table (program_constraints (program_of core)) walked)
    (made : AreSpreadShared core table walked.journal walked.journal.calls.items old new)
    (first : old.number ≡ unknown_count (program_of core))
    (same : old.constraints.items ≡ walked.constraints.items) where
  numbered-all : map (wanted_constraint (program_of core)) (whole.now.kept ++ made.are_spread.added) ≡ map wanted_of (map (numbered (program_of core)) (whole.now.kept ++ made.are_spread.added))
  numbered-all = all-numbered core table walked old.number made.next made.spread whole made.are_spread first

  -- before they are put together
  stand-for-all : stand_for table (old.constraints.items ++ made.spread) ≡ map wanted_of (map (numbered (program_of core)) (whole.now.kept ++ made.are_spread.added))
  stand-for-all =
      map-append (stands_for table) old.constraints.items made.spread
      ∙ (ap (λ xs. xs ++ stand_for table made.spread) (subst (AreAdded core table whole.now.kept []) (sym same) whole.now.kept_added)
      ∙ (ap (λ xs. map (wanted_constraint (program_of core)) whole.now.kept ++ xs) made.are_spread.stored_are
      ∙ (sym (map-append (wanted_constraint (program_of core)) whole.now.kept made.are_spread.added) ∙ numbered-all)))

  -- their numbers are below that of the next unknown
  all-spread : (c : Stored) → Contains (old.constraints.items ++ made.spread) c → FitsIn (length table) made.next c
  all-spread =
      each_from_All (FitsIn (length table) made.next) (old.constraints.items ++ made.spread)
      (constraints-in-range table made.next (old.constraints.items ++ made.spread) (map (numbered (program_of core)) (whole.now.kept ++ made.are_spread.added)) stand-for-all
      (spread-below core table walked old.number made.next made.spread whole made.are_spread first))

  pub all-gathered : exit_faults (program_of core) ≡ []
      → AreConstraintsOf (program_of core) (map (constraint_of (label_lattice (program_of core).hierarchy) table) new.constraints.items)
  all-gathered ended =
      let l : Lattice Label = label_lattice (program_of core).hierarchy in
      let base : List Gathered = map (constraint_of l table) old.constraints.items in
      let kept : base ≡ map (numbered (program_of core)) whole.now.kept = kept-are in
      let added : map (constraint_of l table) made.spread ≡ map (numbered (program_of core)) made.are_spread.added = added-are in
      let rerouted : IsRerouted (λ k. nat_le (real_unknowns (program_of core)) k) (λ k. nat_le (unknown_count (program_of core)) k)
      (gathered_constraints (program_of core)) base (map (constraint_of l table) made.spread) =
      rw (kept, added) (calls-rerouted core table walked old.number made.next made.spread whole made.are_spread first) in
      subst (AreConstraintsOf (program_of core))
      (sym (ap (map (constraint_of l table)) made.shared_is ∙ map-append (constraint_of l table) old.constraints.items made.shared))
      (rerouted-constraints (program_of core) core.well_formed ended base (map (constraint_of l table) made.shared)
      (meant-rerouted l table (real_unknowns (program_of core)) (λ k. nat_le (unknown_count (program_of core)) k) (gathered_constraints (program_of core)) old.constraints.items
      made.spread made.shared made.next new.number made.are_shared (λ c h. all-spread c (Contains-append_right old.constraints.items made.spread c h))
      (λ u past. le-leb (unknown_count (program_of core)) u (omega (arith, past, first, made.are_spread.number_is))) rerouted))
    where
      kept-are : map (constraint_of (label_lattice (program_of core).hierarchy) table) old.constraints.items ≡ map (numbered (program_of core)) whole.now.kept
      kept-are =
          constraints-are (label_lattice (program_of core).hierarchy) table old.constraints.items (map (numbered (program_of core)) whole.now.kept)
          (subst (AreAdded core table whole.now.kept []) (sym same) whole.now.kept_added
          ∙ constraints-numbered (program_of core) whole.now.kept
          (λ c h. ranged-unknowns core table walked old.number made.next made.spread whole made.are_spread first c (Contains-append_left whole.now.kept made.are_spread.added c h)))

      added-are : map (constraint_of (label_lattice (program_of core).hierarchy) table) made.spread ≡ map (numbered (program_of core)) made.are_spread.added
      added-are =
          constraints-are (label_lattice (program_of core).hierarchy) table made.spread (map (numbered (program_of core)) made.are_spread.added)
          (made.are_spread.stored_are
          ∙ constraints-numbered (program_of core) made.are_spread.added
          (λ c h. ranged-unknowns core table walked old.number made.next made.spread whole made.are_spread first c (Contains-append_right whole.now.kept made.are_spread.added c h)))

  pub all-fit : exit_faults (program_of core) ≡ [] → (labelling : Labelling)
      → FitsDemands (program_of core).hierarchy labelling (program_demands (program_of core))
      ↔ FitsConstraints (program_of core) (map (constraint_of (label_lattice (program_of core).hierarchy) table) new.constraints.items) labelling
  all-fit ended labelling =
      constraints-fit (program_of core) (map (constraint_of (label_lattice (program_of core).hierarchy) table) new.constraints.items) (all-gathered ended) labelling

  pub all-in-range : InRange (length table) new.number new.constraints.items
  all-in-range =
      subst (InRange (length table) new.number) (sym made.shared_is)
      (All-from_each (FitsIn (length table) new.number) (old.constraints.items ++ made.shared)
      (λ c h. ⊎_elim
      (λ k. fits-more (length table) made.next new.number c made.least (all-spread c (Contains-append_left old.constraints.items made.spread c k)))
      (λ k. shared-in-range (IsFollowed (real_unknowns (program_of core)) old.constraints.items) (length table) made.next new.number made.spread made.shared made.least made.are_shared
      (λ d there. all-spread d (Contains-append_right old.constraints.items made.spread d there)) c k)
      (Contains-append_cases old.constraints.items made.shared c h)))

  -- and few
  pub all-few : new.number ≤ 4 * program_nodes (program_of core)
  all-few =
      let least : made.next ≤ unknown_count (program_of core) + begins (program_constraints (program_of core)) =
      spread-least core table walked old.number made.next made.spread whole made.are_spread first in
      omega (arith, least, made.few, made.are_spread.number_is, first, calls-counted (program_of core) core.well_formed)
