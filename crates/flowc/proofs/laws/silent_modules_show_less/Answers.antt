use Rattle.flowc.proofs.Promises.{silent_show_less}
use Rattle.flowc.proofs.laws.silent_modules_show_less.Goals as goal

pub returns : goal.returns
returns c = silent_show_less
