use Rattle.modules.specs.Format.{module_file}
use Rattle.bytecode.proofs.Inside.{stop_inside}
use Rattle.bytecode.proofs.laws.refusals_stand_inside.Goals as goal

pub returns : goal.returns
returns c = stop_inside module_file
