use Rattle.lattices.proofs.Gathered.{first-same, refused-same, reported-same}
use Rattle.lattices.proofs.constraint_laws.gathered_constraints_are_refused_alike.Goals as goal

pub returns-clause-refused : goal.returns-clause-refused
returns-clause-refused g c = λ same test l laws ds cs gathered from chain last refused.
    refused-same ds cs gathered l laws same test.only_same test.each_itself from chain last refused

pub returns-clause-first : goal.returns-clause-first
returns-clause-first g c = λ same test l laws ds cs gathered values least x first.
    let found = first-same ds cs gathered l laws same test.only_same test.each_itself values least x first in (found.0, found.1, found.2)

pub returns-clause-reported : goal.returns-clause-reported
returns-clause-reported g c = λ report ds cs gathered from chain last linked there one.
    reported-same ds cs gathered report from chain last linked there one
