-- Whole programs of which some flows go by further unknowns.
use Rattle.std.proofs.Common.{◌≡◌, sym, ap, ◌∙◌, ℕ, List, [], ◌++◌, ◌==◌, arith, subst}
use Rattle.std.specs.Prelude.{IsTrue, ◌↔◌, nat_le}
use Rattle.labels.specs.LabelLattice.{label_lattice}
use Rattle.labels.proofs.FlowTests.{IsLattice-flows}
use Rattle.lattices.proofs.Gathered.{fits-alike, fits-down, fits-up}
use Rattle.resolved.specs.Flow.{Gathered}
use Rattle.resolved.specs.Labelled.{Labelling, FitsDemands, program_demands, exit_faults}
use Rattle.resolved.specs.Program.{Program}
use Rattle.resolved.specs.WellFormed.{well_formed}
use Rattle.gathering.specs.Gathered.{AreConstraintsOf, FitsConstraints}
use Rattle.gathering.specs.Names.{real_unknowns}
use Rattle.gathering.specs.Rerouted.{IsRerouted}
use Rattle.gathering.specs.Walk.{gathered_constraints, unknown_count}
use Rattle.gathering.proofs.Numbers.{numbered-gathered, numbered-inner, numbered-numbers}
use Rattle.gathering.proofs.Rerouted.{rerouted-gathered, rerouted-number}

-- each labelling meets the demands exactly where it fits constraints that stand for them
pub constraints-fit : (program : Program) (cs : List Gathered) → AreConstraintsOf program cs → (labelling : Labelling) →
    FitsDemands program.hierarchy labelling (program_demands program) ↔ FitsConstraints program cs labelling
constraints-fit program cs are labelling =
    let lattice = label_lattice program.hierarchy in
    let laws = IsLattice-flows program.hierarchy in (
      λ fits.
          let up = fits-up (program_demands program) cs are.gathered lattice laws
          (λ (a b : ℕ). a == b) (λ a b e. grind (arith, e)) (λ a. grind arith) labelling fits in
          record { labels = up.0; fits = up.1; chosen_by = λ u there. up.2 u there ∙ ap up.0 (are.numbered u) },
      λ found. fits-alike lattice (program_demands program) (λ u. found.labels (are.gathered.number u)) labelling
          (λ u there. ap found.labels (are.numbered u) ∙ sym (found.chosen_by u there))
          (fits-down (program_demands program) cs are.gathered lattice laws found.labels found.fits),
    )

module _ (program : Program) (formed : IsTrue (well_formed program)) (none : exit_faults program ≡ []) (base added : List Gathered) where
  abbrev pub IsReroutedProgram : Type 0
  IsReroutedProgram =
      IsRerouted (λ k. nat_le (real_unknowns program) k) (λ k. nat_le (unknown_count program) k) (gathered_constraints program) base added

  whole : IsReroutedProgram → IsRerouted (numbered-gathered program formed none).inner (λ k. nat_le (unknown_count program) k) (gathered_constraints program) base added
  whole rerouted =
      subst (λ inner. IsRerouted inner (λ k. nat_le (unknown_count program) k) (gathered_constraints program) base added) (sym (numbered-inner program formed none)) rerouted

  pub rerouted-constraints : IsReroutedProgram → AreConstraintsOf program (base ++ added)
  rerouted-constraints rerouted = record {
    gathered = rerouted-gathered (program_demands program) (gathered_constraints program) base added (numbered-gathered program formed none)
        (λ k. nat_le (unknown_count program) k) (whole rerouted);
    numbered = λ u. rerouted-number (program_demands program) (gathered_constraints program) base added (numbered-gathered program formed none)
        (λ k. nat_le (unknown_count program) k) (whole rerouted) u ∙ numbered-numbers program formed none u;
  }
