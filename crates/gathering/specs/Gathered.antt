-- What the constraints of a program are: they stand for its demands, in which each label that is not written has its number, and
-- the labellings that fit them are those that make every procedure labelled.
-- Source: our own.
use Rattle.std.specs.Prelude.{◌≡◌, ℕ, List}
use Rattle.labels.specs.Label.{Label}
use Rattle.lattices.specs.Constraints.{FitsAll, Occurs}
use Rattle.labels.specs.LabelLattice.{label_lattice}
use Rattle.resolved.specs.Program.{Program}
use Rattle.resolved.specs.Flow.{Gathered, AreGathered}
use Rattle.resolved.specs.Labelled.{Labelling, Unwritten, program_demands}
use Rattle.gathering.specs.Names.{unwritten_number}

-- constraints that stand for a program's demands one by one and in their order, each with its byte, its rule and its target, and with
-- inner ones between them; each label of a local or a loop is the unknown with its number
pub record AreConstraintsOf (program : Program) (cs : List Gathered) : Type 0 where
  pub gathered : AreGathered program cs
  pub numbered : (u : Unwritten) → gathered.number u ≡ unwritten_number program u

-- a labelling fits constraints, with some labels for their other unknowns
pub record FitsConstraints (program : Program) (cs : List Gathered) (labelling : Labelling) : Type 0 where
  pub labels : ℕ → Label
  pub fits : FitsAll (label_lattice program.hierarchy) cs labels
  pub chosen_by : (u : Unwritten) → Occurs (program_demands program) u → labelling u ≡ labels (unwritten_number program u)
