use Rattle.bytecode.proofs.Both.{spelled_or_refused}
use Rattle.bytecode.proofs.laws.bytes_are_spelled_or_refused.Goals as goal

pub returns : goal.returns
returns c = spelled_or_refused
