use Rattle.std.proofs.Common.{refl}
use Rattle.constraints.proofs.Tables.{part-least}
use Rattle.constraints.proofs.building.least_part.Goals as goal

pub returns : goal.returns
returns c = part-least c.args.labels.now 0 c.len-count.ensures.some c.len-count.ensures.least refl
