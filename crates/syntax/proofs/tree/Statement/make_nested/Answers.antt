use Rattle.syntax.proofs.Rows.{nested_is}
use Rattle.syntax.proofs.tree.Statement.make_nested.Goals as goal

pub returns : goal.returns
returns c = nested_is c.args.body
