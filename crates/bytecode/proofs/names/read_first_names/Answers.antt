use Rattle.std.proofs.Common.{false}
use Rattle.std.specs.BTreeSet.{contains_text}
use Rattle.bytecode.proofs.NewNames.{none_taken, same_taken}
use Rattle.bytecode.proofs.names.read_first_names.Goals as goal

pub returns : goal.returns
returns c = rw (same_taken (contains_text c.new-taken.result) (λ _. false) (none_taken c.new-taken.result c.new-taken.ensures.empty) c.args.count c.args.bytes.now) at c.read_names.ensures.gives
