-- The numbers of unknowns: different ones for different unknowns, first those of locals and loops, then the inner ones.
use Rattle.std.proofs.Common.{◌≡◌, ◌==◌, ◌↔◌, refl, sym, ap, ◌∙◌, subst, ℕ, zero, suc, ◌+◌, ◌-◌, ◌<◌, ◌≤◌, length, true, false, nat_lt, List, [], ◌∷◌, inl, inr, arith}
use Rattle.std.specs.Prelude.{IsTrue, Contains, if◌then◌else◌, nat_le, sum_by, take, slice_index_or}
use Rattle.std.proofs.lemmas.Bool.{lt-ltb, le-ltb, le-leb, lt-leb}
use Rattle.std.proofs.lemmas.List.Sums.{sum_by_more_le}
use Rattle.std.proofs.lemmas.List.Recursion.{is_sum_by}
use Rattle.common.proofs.Cases.{contained_map_only}
use Rattle.labels.specs.Label.{Label}
use Rattle.lattices.specs.Constraints.{Atom, Written, Unknown, renamed, is_inner}
use Rattle.labels.specs.LabelLattice.{label_lattice}
use Rattle.labels.proofs.FlowTests.{IsLattice-flows}
use Rattle.lattices.proofs.Gathered.{fits-alike, fits-down, fits-up}
use Rattle.resolved.specs.Program.{Program, ProcedureEntry, procedure_at}
use Rattle.resolved.specs.Flow.{Gathered, AreGathered}
use Rattle.resolved.specs.Labelled.{FitsDemands, Labelling, Unwritten, OfLocal, OfLoop, program_demands, exit_faults}
use Rattle.resolved.specs.WellFormed.{well_formed}
use Rattle.gathering.specs.Names.{Name, Real, Inner, is_inner_name, NamedAtom, NamedConstraint, own_unknowns, unknowns_before, real_unknowns, unwritten_number, unknown_number, IsUnwrittenOf, numbered, numbered_atom}
use Rattle.gathering.specs.Walk.{program_constraints, gathered_constraints, unknown_count, FitsGathered, IsUnknownBelow, AreUnknownsBelow}
use Rattle.gathering.proofs.Programs.{gathered_by}
use Rattle.gathering.proofs.Faultless.{faultless-gathers}
use Rattle.gathering.proofs.Ranged.{InRange, Ranged}
use Rattle.gathering.proofs.RangedPrograms.{ranged-program}
use Rattle.gathering.proofs.Renaming.{Stands, renamed-gathered, renamed-inner, renamed-number}

-- ---- back from a number
abbrev name_in : ProcedureEntry → (f k : ℕ) → Unwritten
name_in p f k = if nat_lt k (length p.slots) then OfLocal f k else OfLoop f (k - length p.slots)

abbrev name_at : List ProcedureEntry → (f k : ℕ) → Unwritten
name_at [] f k = OfLoop 0 0
name_at (p ∷ ps) f k = if nat_lt k (own_unknowns p) then name_in p f k else name_at ps (suc f) (k - own_unknowns p)

abbrev name_of : Program → ℕ → Name
name_of program k =
    if nat_le (real_unknowns program) k then Inner k else Real (name_at program.procedures 0 k)

abbrev pub total : List ProcedureEntry → ℕ
total [] = 0
total (p ∷ ps) = own_unknowns p + total ps

pub total-sum : (ps : List ProcedureEntry) → total ps ≡ sum_by own_unknowns ps
total-sum ps = is_sum_by total own_unknowns refl (λ x xs. refl) ps

name_at-number : (ps : List ProcedureEntry) (g f k : ℕ) (none : ProcedureEntry) → f < length ps → k < own_unknowns (slice_index_or ps f none) →
    name_at ps g (total (take f ps) + k) ≡ name_in (slice_index_or ps f none) (g + f) k
name_at-number [] g f k none h i = let j : f < 0 = h in absurd (omega (arith, j))
name_at-number (p ∷ ps) g zero k none h i =
    let e : 0 + k ≡ k = omega arith in
    let at : g ≡ g + 0 = omega arith in
    let own : nat_lt k (own_unknowns p) ≡ true = lt-ltb k (own_unknowns p) i in
    let here : name_at (p ∷ ps) g k ≡ name_in p g k = rw own refl in
    ap (name_at (p ∷ ps) g) e ∙ here ∙ ap (λ z. name_in p z k) at
name_at-number (p ∷ ps) g (suc f) k none h i =
    let x : ℕ = total (take f ps) + k in
    let e : (own_unknowns p + total (take f ps)) + k ≡ own_unknowns p + x = omega arith in
    let past : nat_lt (own_unknowns p + x) (own_unknowns p) ≡ false = le-ltb (own_unknowns p + x) (own_unknowns p) (omega arith) in
    let less : (own_unknowns p + x) - own_unknowns p ≡ x = omega arith in
    let at : suc g + f ≡ g + suc f = omega arith in
    let inside : f < length ps = omega (arith, h) in
    let further : name_at (p ∷ ps) g (own_unknowns p + x) ≡ name_at ps (suc g) ((own_unknowns p + x) - own_unknowns p) = rw past refl in
    ap (name_at (p ∷ ps) g) e ∙ further ∙ ap (name_at ps (suc g)) less ∙ name_at-number ps (suc g) f k none inside i ∙ ap (λ z. name_in (slice_index_or ps f none) z k) at

module _ (program : Program) where
  own-returns : (f k : ℕ) → f < length program.procedures → k < own_unknowns (procedure_at program f) →
      name_at program.procedures 0 (unknowns_before program f + k) ≡ name_in (procedure_at program f) f k
  own-returns f k there h =
      let e : 0 + f ≡ f = omega arith in
      ap (λ z. name_at program.procedures 0 (z + k)) (sym (total-sum (take f program.procedures)))
      ∙ name_at-number program.procedures 0 f k _ there h ∙ ap (λ z. name_in (procedure_at program f) z k) e

  unwritten-returns : (u : Unwritten) → IsUnwrittenOf program u → name_at program.procedures 0 (unwritten_number program u) ≡ u
  unwritten-returns (OfLocal f n) h =
      let below : n < length (procedure_at program f).slots = h.1 in
      let own : n < own_unknowns (procedure_at program f) = omega (arith, below) in
      let local : nat_lt n (length (procedure_at program f).slots) ≡ true = lt-ltb n (length (procedure_at program f).slots) below in
      let is : name_in (procedure_at program f) f n ≡ OfLocal f n = rw local refl in
      own-returns f n h.0 own ∙ is
  unwritten-returns (OfLoop f loop) h =
      let slots : ℕ = length (procedure_at program f).slots in
      let below : loop < (procedure_at program f).loops = h.1 in
      let own : slots + loop < own_unknowns (procedure_at program f) = omega (arith, below) in
      let past : nat_lt (slots + loop) slots ≡ false = le-ltb (slots + loop) slots (omega arith) in
      let less : (slots + loop) - slots ≡ loop = omega arith in
      let is : name_in (procedure_at program f) f (slots + loop) ≡ OfLoop f ((slots + loop) - slots) = rw past refl in
      own-returns f (slots + loop) h.0 own ∙ is ∙ ap (OfLoop f) less

  unwritten-below : (u : Unwritten) → IsUnwrittenOf program u → unwritten_number program u < real_unknowns program
  unwritten-below (OfLocal f n) h =
      let below : n < length (procedure_at program f).slots = h.1 in
      let more : unknowns_before program f + own_unknowns (procedure_at program f) ≤ real_unknowns program = sum_by_more_le own_unknowns program.procedures f _ h.0 in
      omega (arith, below, more)
  unwritten-below (OfLoop f loop) h =
      let below : loop < (procedure_at program f).loops = h.1 in
      let more : unknowns_before program f + own_unknowns (procedure_at program f) ≤ real_unknowns program = sum_by_more_le own_unknowns program.procedures f _ h.0 in
      omega (arith, below, more)

  module _ (bound : ℕ) where
    pub kept : (a : NamedAtom) → InRange program bound a → is_inner (λ k. nat_le (real_unknowns program) k) (numbered_atom program a) ≡ is_inner is_inner_name a
    kept (Written v) h = refl
    kept (Unknown (Real u)) h = lt-leb (real_unknowns program) (unwritten_number program u) (unwritten-below u h)
    kept (Unknown (Inner k)) h = le-leb (real_unknowns program) k h.0

    name-returns : (w : Name) → InRange program bound (Unknown w) → name_of program (unknown_number program w) ≡ w
    name-returns (Real u) h =
        let below : nat_le (real_unknowns program) (unwritten_number program u) ≡ false = lt-leb (real_unknowns program) (unwritten_number program u) (unwritten-below u h) in
        let is : name_of program (unwritten_number program u) ≡ Real (name_at program.procedures 0 (unwritten_number program u)) = rw below refl in
        is ∙ ap (λ z. Real z) (unwritten-returns u h)
    name-returns (Inner k) h =
        let past : nat_le (real_unknowns program) k ≡ true = le-leb (real_unknowns program) k h.0 in
        rw past refl

    returns : (a : NamedAtom) → InRange program bound a → renamed (name_of program) (numbered_atom program a) ≡ a
    returns (Written v) h = refl
    returns (Unknown w) h = ap (λ z. Unknown z) (name-returns w h)

    in-range : (cs : List NamedConstraint) → Ranged program bound cs → (a : NamedAtom) → Stands cs a → InRange program bound a
    in-range cs ranged a (c, h, inl k) = (ranged c h).0 a k
    in-range cs ranged a (c, h, inr e) = subst (InRange program bound) e (ranged c h).1

-- a well-formed program without a fault of its exits is gathered, with numbers
pub numbered-gathered : (program : Program) → IsTrue (well_formed program) → exit_faults program ≡ [] → AreGathered program (gathered_constraints program)
numbered-gathered program formed none =
    let bound : ℕ = unknown_count program in
    let ranged : Ranged program bound (program_constraints program) = ranged-program program formed in
    renamed-gathered (program_demands program) (program_constraints program) (gathered_by program (faultless-gathers program none)) (unknown_number program) (name_of program) (λ k. nat_le (real_unknowns program) k)
    (λ a there. kept program bound a (in-range program bound (program_constraints program) ranged a there))
    (λ a there. returns program bound a (in-range program bound (program_constraints program) ranged a there))

-- in which a local and a loop have their own numbers
pub numbered-numbers : (program : Program) (formed : IsTrue (well_formed program)) (none : exit_faults program ≡ []) (u : Unwritten) →
    (numbered-gathered program formed none).number u ≡ unwritten_number program u
unfolding numbered-gathered
numbered-numbers program formed none u =
    let bound : ℕ = unknown_count program in
    let ranged : Ranged program bound (program_constraints program) = ranged-program program formed in
    renamed-number (program_demands program) (program_constraints program) (gathered_by program (faultless-gathers program none)) (unknown_number program) (name_of program) (λ k. nat_le (real_unknowns program) k)
    (λ a there. kept program bound a (in-range program bound (program_constraints program) ranged a there))
    (λ a there. returns program bound a (in-range program bound (program_constraints program) ranged a there)) u

-- and the numbers of inner unknowns follow on theirs
pub numbered-inner : (program : Program) (formed : IsTrue (well_formed program)) (none : exit_faults program ≡ []) →
    (numbered-gathered program formed none).inner ≡ (λ k. nat_le (real_unknowns program) k)
unfolding numbered-gathered
numbered-inner program formed none =
    let bound : ℕ = unknown_count program in
    let ranged : Ranged program bound (program_constraints program) = ranged-program program formed in
    renamed-inner (program_demands program) (program_constraints program) (gathered_by program (faultless-gathers program none)) (unknown_number program) (name_of program) (λ k. nat_le (real_unknowns program) k)
    (λ a there. kept program bound a (in-range program bound (program_constraints program) ranged a there))
    (λ a there. returns program bound a (in-range program bound (program_constraints program) ranged a there))

-- so each labelling meets the demands exactly where it fits what is gathered
pub labellings-fit : (program : Program) → IsTrue (well_formed program) → exit_faults program ≡ [] → (labelling : Labelling) →
    FitsDemands program.hierarchy labelling (program_demands program) ↔ FitsGathered program labelling
labellings-fit program formed none labelling =
    let gathered = numbered-gathered program formed none in
    let numbers = numbered-numbers program formed none in
    let lattice = label_lattice program.hierarchy in
    let laws = IsLattice-flows program.hierarchy in (
      λ fits.
          let up = fits-up (program_demands program) (gathered_constraints program) gathered lattice laws
          (λ (a b : ℕ). a == b) (λ a b e. grind (arith, e)) (λ a. grind arith) labelling fits in
          record { labels = up.0; fits = up.1; chosen_by = λ u there. up.2 u there ∙ ap up.0 (numbers u) },
      λ found. fits-alike lattice (program_demands program) (λ u. found.labels (gathered.number u)) labelling
          (λ u there. ap found.labels (numbers u) ∙ sym (found.chosen_by u there))
          (fits-down (program_demands program) (gathered_constraints program) gathered lattice laws found.labels found.fits),
    )

-- and its unknowns have numbers below their count
number-below : (program : Program) (a : NamedAtom) → InRange program (unknown_count program) a → IsUnknownBelow (unknown_count program) (numbered_atom program a)
number-below program (Written v) h = tt
number-below program (Unknown (Real u)) h = let below : unwritten_number program u < real_unknowns program = unwritten-below program u h in omega (arith, below)
number-below program (Unknown (Inner k)) h = h.1

pub numbers-below : (program : Program) → IsTrue (well_formed program) → AreUnknownsBelow (unknown_count program) (gathered_constraints program)
numbers-below program formed c' h =
    let found = contained_map_only (numbered program) (program_constraints program) c' h in
    let range = ranged-program program formed found.0 found.1 in
    subst (λ (z : Gathered). ((atom : Atom ℕ Label) → Contains z.left atom → IsUnknownBelow (unknown_count program) atom) × IsUnknownBelow (unknown_count program) z.right) found.2
    (λ atom there. part found.0.left atom (contained_map_only (numbered_atom program) found.0.left atom there) range.0, number-below program found.0.right range.1)
  where
    part : (left : List NamedAtom) (atom : Atom ℕ Label) → ((a : NamedAtom) × Contains left a × (numbered_atom program a ≡ atom)) →
        ((a : NamedAtom) → Contains left a → InRange program (unknown_count program) a) → IsUnknownBelow (unknown_count program) atom
    part left atom (a, k, is) each = subst (IsUnknownBelow (unknown_count program)) is (number-below program a (each a k))
