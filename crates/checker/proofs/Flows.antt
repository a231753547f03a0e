-- What a refusal of the solver says of the stored constraints, and of the program from which they were gathered.
use Rattle.std.proofs.Common.{◌≡◌, refl, sym, ap, ◌∙◌, subst, ℕ, zero, suc, ◌<◌, ◌-◌, length, map, List, [], ◌∷◌, ◌++◌, true, false, get_or, arith}
use Rattle.std.specs.Prelude.{Contains, IsFalse, None, Option, Some, flat_map, slice_get, slice_index_or}
use Rattle.std.specs.Global.{Global}
use Rattle.std.specs.declared.vec.Vec.{Vec}
use Rattle.std.proofs.lemmas.List.Elements.{All-contains}
use Rattle.std.proofs.lemmas.Option.{slice_get_read, slice_get_within, same_Some}
use Rattle.principals.specs.ActsFor.{PrincipalHierarchy}
use Rattle.labels.specs.Label.{ReaderPolicy, Label, Covers, flows}
use Rattle.labels.specs.LabelTable.{label_at}
use Rattle.lattices.specs.Lattice.{Lattice}
use Rattle.lattices.specs.Constraints.{Linked, report_some, reported_gathered, reported_steps}
use Rattle.labels.specs.LabelLattice.{label_lattice}
use Rattle.lattices.specs.Constraints as formal
use Rattle.resolved.specs.declared.target.Target.{Target}
use Rattle.resolved.specs.declared.program.Core.{Core}
use Rattle.resolved.specs.CoreOf.{program_of}
use Rattle.resolved.specs.Flow.{AreGathered, IsUncovered, reported_step}
use Rattle.resolved.proofs.Flow.{gathered-refused}
use Rattle.solver.specs.Broken.{written_at}
use Rattle.solver.specs.Links.{AreBelow, InRange, IsBelow}
use Rattle.solver.specs.Constraints.{IsSolveRefusal, Picks, atom_of, constraint_of, constraints_of}
use Rattle.solver.specs.declared.fault.SolveRefusal.{SolveRefusal}
use Rattle.solver.specs.declared.constraints.Atom.{Atom}
use Rattle.solver.specs.declared.constraints.Atom.TheVariants.{Unknown, Written}
use Rattle.solver.specs.declared.constraints.Constraint.{Constraint}
use Rattle.checker.specs.declared.fault.Step.{Step}
use Rattle.checker.specs.Reported.{ReportsFlow, reported_by}
use Rattle.checker.specs.Steps.{report_at, report_of}
use Rattle.common.proofs.Cases.{contained_at, there_map_only}

-- the last of some indices
abbrev pub last_of : List ℕ → ℕ
last_of indices = get_or indices (length indices - 1) 0

-- ---- the last constraint of a chain stands at the last of its indices
pub last-picked : {N U V : Type 0} (cs : List (formal.Constraint N U V)) (from : formal.Atom U V) (chain : List (formal.Constraint N U V)) (last : formal.Constraint N U V) →
    Linked cs from chain last → (indices : List ℕ) → Picks cs indices chain → (0 < length indices) × (slice_get cs (last_of indices) ≡ Some last)
last-picked cs from chain last (formal.ends _ c there part) [] picks = absurd picks
last-picked cs from chain last (formal.ends _ c there part) (i ∷ []) picks = (omega arith, picks.0)
last-picked cs from chain last (formal.ends _ c there part) (i ∷ j ∷ more) picks = absurd picks.1
last-picked cs from chain last (formal.goes_on _ c u rest _ there part is linked) [] picks = absurd picks
last-picked cs from chain last (formal.goes_on _ c u rest _ there part is linked) (i ∷ more) picks =
    let found = last-picked cs (formal.Unknown u) rest last linked more picks.1 in
    (omega (arith, found.0), ap (slice_get cs) (later i more found.0) ∙ found.1)
  where
    later : (i : ℕ) (more : List ℕ) → 0 < length more → last_of (i ∷ more) ≡ last_of more
    later i [] there = let no : 0 < 0 = there in absurd (omega (arith, no))
    later i (j ∷ rest) there =
        let outer : suc (suc (length rest)) - 1 ≡ suc (length rest) = omega arith in
        let inner : suc (length rest) - 1 ≡ length rest = omega arith in
        ap (λ k. get_or (i ∷ j ∷ rest) k 0) outer ∙ ap (λ k. get_or (j ∷ rest) k 0) (sym inner)

-- what is reported of the picked constraints is what is reported of the chain
pub picked-reported : {V : Type 0} (l : Lattice V) (table : List V) (constraints : List (Constraint (Option Target))) (indices : List ℕ)
    (chain : List (formal.Constraint (Option Target) ℕ V)) → Picks (map (constraint_of l table) constraints) indices chain →
    flat_map (report_at constraints) indices ≡ reported_gathered reported_step chain
picked-reported l table constraints [] [] picks = refl
picked-reported l table constraints [] (c ∷ chain) picks = absurd picks
picked-reported l table constraints (i ∷ indices) [] picks = absurd picks
picked-reported {V} l table constraints (i ∷ indices) (c ∷ chain) picks =
    let found = there_map_only (constraint_of l table) constraints i c picks.0 in
    let here : report_at constraints i ≡ report_some reported_step c.at c.rule c.target =
    ap report_of found.1 ∙ ap (λ (d : formal.Constraint (Option Target) ℕ V). report_some reported_step d.at d.rule d.target) found.2 in
    ap (λ steps. steps ++ flat_map (report_at constraints) indices) here
    ∙ ap (λ steps. report_some reported_step c.at c.rule c.target ++ steps) (picked-reported l table constraints indices chain picks.1)

-- a label that does not flow somewhere is one of the table
pub from-inside : (h : PrincipalHierarchy) (table : List Label) (n : ℕ) (to : Label) → IsFalse (flows h (slice_index_or table n []) to) → n < length table
from-inside h [] n to e = let no : true ≡ false = e in absurd (cc)
from-inside h (label ∷ table) zero to e = omega arith
from-inside h (label ∷ table) (suc n) to e = let later = from-inside h table n to e in omega (arith, later)

abbrev written_or : {V : Type 0} → V → formal.Atom ℕ V → V
written_or d (formal.Written v) = v
written_or d (formal.Unknown u) = d

abbrev number_or : Atom → ℕ
number_or (Written n) = n
number_or (Unknown u) = u

written-is : {V : Type 0} (l : Lattice V) (table : List V) (a : Atom) (v : V) → atom_of l table a ≡ formal.Written v → (n : ℕ) × (a ≡ Written n) × (written_at l table n ≡ v)
written-is l table (Written n) v e = (n, refl, ap (written_or v) e)
written-is l table (Unknown u) v e = absurd (cc)

-- the stored constraint at which a refusal ends
pub record EndsAt {T V : Type 0} (l : Lattice V) (table : List V) (stored : List (Constraint T)) (refusal : SolveRefusal) : Type 0 where
  pub some : 0 < length refusal.chain.items
  pub last : Constraint T
  pub at : slice_get stored (last_of refusal.chain.items) ≡ Some last
  pub to : ℕ
  pub right : last.right ≡ Written to
  pub not_below : IsFalse (l.leq (written_at l table refusal.from) (written_at l table to))

pub ends-at : {T V : Type 0} (l : Lattice V) (table : List V) (stored : List (Constraint T)) (refusal : SolveRefusal) → IsSolveRefusal l table stored refusal → EndsAt l table stored refusal
ends-at {T} {V} l table stored refusal is =
    let chained = is.refused.chained in
    let picked = last-picked (constraints_of l table stored) (formal.Written (written_at l table refusal.from)) is.chain is.last chained.linked refusal.chain.items is.picked in
    let found = there_map_only (constraint_of l table) stored (last_of refusal.chain.items) is.last picked.1 in
    let right = written-is l table found.0.right chained.to (ap (λ (c : formal.Constraint T ℕ V). c.right) found.2 ∙ chained.right_is) in
    record {
      some = picked.0;
      last = found.0;
      at = found.1;
      to = right.0;
      right = right.1;
      not_below = subst (λ v. IsFalse (l.leq (written_at l table refusal.from) v)) (sym right.2) chained.not_below;
    }

-- what is read there
module _ {T V : Type 0} (l : Lattice V) (table : List V) (stored : List (Constraint T)) (refusal : SolveRefusal) (is : IsSolveRefusal l table stored refusal) where
  pub index-inside : (chain : List ℕ) (constraints : List (Constraint T)) → chain ≡ refusal.chain.items → constraints ≡ stored →
      (0 < length chain) × (last_of chain < length constraints)
  index-inside chain constraints same all =
      let at = ends-at l table stored refusal is in
      let inside : last_of refusal.chain.items < length stored = slice_get_within stored (last_of refusal.chain.items) at.last at.at in
      let first : length chain ≡ length refusal.chain.items = ap length same in
      let second : length constraints ≡ length stored = ap length all in
      let third : last_of chain ≡ last_of refusal.chain.items = ap last_of same in
      (omega (arith, at.some, first), omega (arith, inside, second, third))

  pub last-read : (chain : List ℕ) (constraints : List (Constraint T)) → chain ≡ refusal.chain.items → constraints ≡ stored →
      (c : Constraint T) → c ≡ get_or constraints (last_of chain) c → slice_get stored (last_of refusal.chain.items) ≡ Some c
  last-read chain constraints same all c read =
      let inside : last_of chain < length constraints = (index-inside chain constraints same all).1 in
      ap (slice_get stored) (ap last_of (sym same))
      ∙ (ap (λ (cs : List (Constraint T)). slice_get cs (last_of chain)) (sym all)
      ∙ slice_get_read constraints (length constraints) (last_of chain) c refl inside read)

  module _ (c : Constraint T) (at : slice_get stored (last_of refusal.chain.items) ≡ Some c) where
    read-is : (ends-at l table stored refusal is).last ≡ c
    read-is = same_Some (ends-at l table stored refusal is).last c (sym (ends-at l table stored refusal is).at ∙ at)

    pub right-written : c.right ≡ Written (ends-at l table stored refusal is).to
    right-written = ap (λ (d : Constraint T). d.right) (sym read-is) ∙ (ends-at l table stored refusal is).right

    pub flow-fails : (to : ℕ) → c.right ≡ Written to → IsFalse (l.leq (written_at l table refusal.from) (written_at l table to))
    flow-fails to right =
        let same : (ends-at l table stored refusal is).to ≡ to = ap number_or (sym right-written ∙ right) in
        subst (λ n. IsFalse (l.leq (written_at l table refusal.from) (written_at l table n))) same (ends-at l table stored refusal is).not_below

-- a written right side of a constraint lies inside the table
pub right-inside : {T V : Type 0} (table : List V) (unknowns : ℕ) (stored : List (Constraint T)) → InRange (length table) unknowns stored →
    (i : ℕ) (c : Constraint T) → slice_get stored i ≡ Some c → (to : ℕ) → c.right ≡ Written to → to < length table
right-inside {T} table unknowns stored range i c at to is =
    subst (IsBelow (length table) unknowns) is
    (All-contains (λ (c : Constraint T). AreBelow (length table) unknowns c.left.items × IsBelow (length table) unknowns c.right)
    stored c range (contained_at stored i c at)).1

-- nothing was found
pub none-found : {A : Type 0} (found : Option A) → ((x : A) → ¬ (found ≡ Some x)) → found ≡ None
none-found None never = refl
none-found (Some x) never = absurd (never x refl)

-- ---- what is reported of a program that is refused
pub flow-reported : (core : Core) (stored : List (Constraint (Option Target))) (refusal : SolveRefusal) →
    AreGathered (program_of core) (constraints_of (label_lattice core.hierarchy) core.labels stored) →
    (is : IsSolveRefusal (label_lattice core.hierarchy) core.labels stored refusal) →
    (c : Constraint (Option Target)) → slice_get stored (last_of refusal.chain.items) ≡ Some c → (to : ℕ) → c.right ≡ Written to →
    (policy : ReaderPolicy) → Contains (label_at core.labels refusal.from) policy → (¬ Covers core.hierarchy (label_at core.labels to) policy) →
    (steps : Vec Step Global) → map reported_by steps.items ≡ flat_map (report_at stored) refusal.chain.items →
    ReportsFlow (record { core = core; at = c.at; policy = policy; steps = steps })
flow-reported core stored refusal gathered is c at to right policy contained uncovered steps are =
    let l = label_lattice core.hierarchy in
    let table = core.labels in
    let cs = constraints_of l table stored in
    let from = written_at l table refusal.from in
    let picked = last-picked cs (formal.Written from) is.chain is.last is.refused.chained.linked refusal.chain.items is.picked in
    let found = there_map_only (constraint_of l table) stored (last_of refusal.chain.items) is.last picked.1 in
    let same : found.0 ≡ c = same_Some found.0 c (sym found.1 ∙ at) in
    let last_is : constraint_of l table c ≡ is.last = ap (constraint_of l table) (sym same) ∙ found.2 in
    let right_is : atom_of l table (Written to) ≡ is.last.right =
    ap (atom_of l table) (sym right) ∙ ap (λ (d : formal.Constraint (Option Target) ℕ Label). d.right) last_is in
    let refused = gathered-refused (program_of core) cs gathered from is.chain is.last policy is.refused contained
    (subst (λ (r : formal.Atom ℕ Label). IsUncovered core.hierarchy r policy) right_is uncovered) in
    record {
      chain = refused.0;
      last = refused.1;
      refused = refused.2;
      at_is = ap (λ (d : formal.Constraint (Option Target) ℕ Label). d.at) last_is ∙ refused.3.at_is;
      steps_are = are ∙ (picked-reported l table stored refusal.chain.items is.chain is.picked ∙ refused.4);
    }
