use Rattle.labels.proofs.Flow.{MayRead-join, MayRead-join_left, MayRead-join_right, MayRead-least}
use Rattle.labels.proofs.FlowTests.{may_read-join}
use Rattle.labels.proofs.Joined.{MayRead-joined}
use Rattle.labels.proofs.laws.join_is_read_by_readers_of_both.Goals as goal

pub returns-clause-relation : goal.returns-clause-relation
returns-clause-relation c h p a b =
    (λ reads. (MayRead-join_left h p a b reads, MayRead-join_right h p a b reads), λ both. MayRead-join h p a b both.0 both.1)

pub returns-clause-test : goal.returns-clause-test
returns-clause-test c = may_read-join

pub returns-clause-least : goal.returns-clause-least
returns-clause-least c = MayRead-least

pub returns-clause-canonical : goal.returns-clause-canonical
returns-clause-canonical c = MayRead-joined
