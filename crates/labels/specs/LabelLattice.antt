-- The labels under a hierarchy as a lattice.
-- Source: the lattice of labels of Myers and Liskov 1997.
use Rattle.std.specs.Prelude.{[], ◌++◌}
use Rattle.principals.specs.ActsFor.{PrincipalHierarchy}
use Rattle.lattices.specs.Lattice.{Lattice}
use Rattle.labels.specs.Label.{Label, flows}

-- ordered by flow; the join of two has the policies of both, and the least has none
abbrev pub label_lattice : PrincipalHierarchy → Lattice Label
label_lattice h = record { leq = flows h; join = λ a b. a ++ b; least = [] }
