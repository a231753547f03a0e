use Rattle.std.proofs.Common.{arith}
use Rattle.host.proofs.Sessions.{next_after}
use Rattle.host.proofs.hosts.next_id.Goals as goal

pub returns-clause-next : goal.returns-clause-next
returns-clause-next c = next_after c.args.id (omega arith) c.checked_add.result c.checked_add.ensures
