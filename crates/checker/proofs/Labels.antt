-- What the solver's values for the constraints that were gathered from a program are for the program.
use Rattle.std.proofs.Common.{◌≡◌, ℕ, ◌==◌, subst, List, arith}
use Rattle.labels.specs.Label.{Label}
use Rattle.lattices.specs.Constraints.{FitsAll, IsLeast}
use Rattle.labels.specs.LabelLattice.{label_lattice}
use Rattle.labels.proofs.FlowTests.{IsLattice-flows}
use Rattle.lattices.proofs.Gathered.{least-same}
use Rattle.resolved.specs.Program.{Program}
use Rattle.resolved.specs.Flow.{AreGathered, AreLeast, Gathered}
use Rattle.resolved.specs.Labelled.{Labelled, Unwritten, program_demands}
use Rattle.resolved.proofs.Flow.{gathered-labelled}

module _ (program : Program) (cs : List Gathered) (gathered : AreGathered program cs) (values : ℕ → Label) where
  -- values that fit label the program
  pub fitting-labelled : FitsAll (label_lattice program.hierarchy) cs values → Labelled program
  fitting-labelled fits = (gathered-labelled program cs gathered).1 (values, fits)

  -- the least are, by the numbers of the unknowns, the least labels
  pub least-labels : (number : Unwritten → ℕ) → ((u : Unwritten) → gathered.number u ≡ number u) → IsLeast (label_lattice program.hierarchy) cs values →
      AreLeast program (λ u. values (number u))
  least-labels number same least =
      subst (λ (f : Unwritten → ℕ). AreLeast program (λ u. values (f u))) (λ i u. same u i)
      (least-same (program_demands program) cs gathered (label_lattice program.hierarchy) (IsLattice-flows program.hierarchy)
      (λ (a b : ℕ). a == b) (λ a b e. grind (arith, e)) (λ a. grind arith) values least)
