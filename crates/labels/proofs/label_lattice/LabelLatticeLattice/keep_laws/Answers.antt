use Rattle.labels.proofs.FlowTests.{IsLattice-flows}
use Rattle.labels.proofs.label_lattice.LabelLatticeLattice.keep_laws.Goals as goal

pub returns : goal.returns
returns c = IsLattice-flows c.args.self.now.hierarchy.now
