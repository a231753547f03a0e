use Rattle.syntax.proofs.Rows.{try_is}
use Rattle.syntax.proofs.tree.Statement.make_try.Goals as goal

pub returns : goal.returns
returns c = try_is c.args.at c.args.body c.args.catches
