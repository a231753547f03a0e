use Rattle.std.proofs.Common.{◌∙◌}
use Rattle.path_map.specs.ThrownExits.{has_exception}
use Rattle.path_map.proofs.Kept.{entry-value}
use Rattle.path_map.proofs.table.path_map_of.Goals as goal

pub returns : goal.returns
returns c exit = c.with_raised.ensures.others has_exception exit ∙ entry-value c.args.rows.now c.args.entry exit
