use Rattle.syntax.proofs.Rows.{if_is}
use Rattle.syntax.proofs.tree.Statement.make_if.Goals as goal

pub returns : goal.returns
returns c = if_is c.args.at c.args.condition c.args.accepted
