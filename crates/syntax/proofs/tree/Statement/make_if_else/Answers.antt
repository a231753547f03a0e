use Rattle.syntax.proofs.Rows.{if_else_is}
use Rattle.syntax.proofs.tree.Statement.make_if_else.Goals as goal

pub returns : goal.returns
returns c = if_else_is c.args.at c.args.condition c.args.accepted c.args.otherwise
