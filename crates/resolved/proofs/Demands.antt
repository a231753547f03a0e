-- A demand holds where the test of flow says so, and a program is labelled where the tests of all its demands do.
use Rattle.std.proofs.Common.{◌≡◌, refl, ap, subst, List, [], ◌∷◌, ◌++◌, ◌↔◌}
use Rattle.std.specs.Prelude.{All, IsTrue, flat_map}
use Rattle.principals.specs.ActsFor.{PrincipalHierarchy}
use Rattle.labels.specs.Label.{Label, FlowsTo, flows}
use Rattle.labels.specs.LabelLattice.{label_lattice}
use Rattle.labels.proofs.Tests.{flows-decides, list_all-decides}
use Rattle.lattices.specs.Constraints.{value, holds}
use Rattle.resolved.specs.Program.{Program}
use Rattle.resolved.specs.Labelled.{Unwritten, Join, Demand, Holds, Labelled, LabelledByTests, Labelling, FitsDemands, join_under, program_demands}

-- the join of labels has the policies of each
join-is : (labelling : Labelling) (left : Join) → join_under labelling left ≡ flat_map (value labelling) left
join-is labelling [] = refl
join-is labelling (atom ∷ rest) = ap (λ others. value labelling atom ++ others) (join-is labelling rest)

pub holds-decides : (h : PrincipalHierarchy) (labelling : Labelling) (d : Demand) → IsTrue (holds (label_lattice h) labelling d) ↔ Holds h labelling d
holds-decides h labelling d =
    subst (λ (from : Label). IsTrue (flows h (join_under labelling d.left) (value labelling d.right)) ↔ FlowsTo h from (value labelling d.right))
    (join-is labelling d.left) (flows-decides h (join_under labelling d.left) (value labelling d.right))

pub fits-decides : (h : PrincipalHierarchy) (labelling : Labelling) (demands : List Demand) → FitsDemands h labelling demands ↔ All (Holds h labelling) demands
fits-decides h labelling demands =
    list_all-decides (λ d. holds (label_lattice h) labelling d) (Holds h labelling) demands (holds-decides h labelling)

-- what a labelled program demands passes the test
pub labelled-fits : (program : Program) (labelled : Labelled program) → FitsDemands program.hierarchy labelled.0 (program_demands program)
labelled-fits program labelled = (fits-decides program.hierarchy labelled.0 (program_demands program)).1 labelled.1

-- labels for what has no written one make a labelling
pub labelled-from : (program : Program) (labels : Unwritten → Label) → FitsDemands program.hierarchy labels (program_demands program) → Labelled program
labelled-from program labels fits = (labels, (fits-decides program.hierarchy labels (program_demands program)).0 fits)

pub labelled-decides : (program : Program) → LabelledByTests program ↔ Labelled program
labelled-decides program = (λ fits. labelled-from program fits.0 fits.1, λ labelled. (labelled.0, labelled-fits program labelled))
