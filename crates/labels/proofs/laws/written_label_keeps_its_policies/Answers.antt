use Rattle.labels.proofs.Written.{IsCanonicalLabel-written, IsCanonicalLabel-unique, SameSet-joined, SameSet-written}
use Rattle.labels.proofs.laws.written_label_keeps_its_policies.Goals as goal

pub returns-clause-written : goal.returns-clause-written
returns-clause-written c = SameSet-written

pub returns-clause-joined : goal.returns-clause-joined
returns-clause-joined c = SameSet-joined

pub returns-clause-canonical : goal.returns-clause-canonical
returns-clause-canonical c = IsCanonicalLabel-written

pub returns-clause-unique : goal.returns-clause-unique
returns-clause-unique c = IsCanonicalLabel-unique
