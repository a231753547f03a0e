use Rattle.std.proofs.Common.{ap, ◌∙◌, length}
use Rattle.labels.proofs.RowBits.{length-union}
use Rattle.tests_model.proofs.rows.join.Goals as goal

pub returns : goal.returns
returns c = ap length c.join_from.ensures.union ∙ length-union c.args.row.now c.args.other.now c.requires
