use Rattle.syntax.proofs.Rows.{while_is}
use Rattle.syntax.proofs.tree.Statement.make_while.Goals as goal

pub returns : goal.returns
returns c = while_is c.args.at c.args.condition c.args.body
