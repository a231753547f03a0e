use Rattle.std.specs.BTreeSet.{contains_text}
use Rattle.bytecode.proofs.NewNames.{exceptions-read}
use Rattle.bytecode.proofs.names.read_exceptions.Goals as goal

pub returns-clause-gives : goal.returns-clause-gives
returns-clause-gives c = rw (exceptions-read (contains_text c.args.taken.now) c.in_ok-count.count c.args.bytes.now c.in_ok-count.rest.now c.requires c.in_ok-count.ensures) c.read_names.ensures.gives
