use Rattle.labels.proofs.Flow.{IsLattice-flow}
use Rattle.labels.proofs.FlowTests.{IsLattice-flows}
use Rattle.labels.proofs.Joined.{IsLattice-joined, IsLattice-joined_test}
use Rattle.labels.proofs.laws.labels_form_a_lattice.Goals as goal

pub returns-clause-relation : goal.returns-clause-relation
returns-clause-relation c = IsLattice-flow

pub returns-clause-test : goal.returns-clause-test
returns-clause-test c = IsLattice-flows

pub returns-clause-canonical_relation : goal.returns-clause-canonical_relation
returns-clause-canonical_relation c = IsLattice-joined

pub returns-clause-canonical_test : goal.returns-clause-canonical_test
returns-clause-canonical_test c = IsLattice-joined_test
