use Rattle.modules.specs.Format.{module_file}
use Rattle.bytecode.proofs.Both.{one_spelling}
use Rattle.bytecode.proofs.Lawful.{module_file-coherent}
use Rattle.bytecode.proofs.laws.no_spelling_is_a_prefix.Goals as goal

pub returns : goal.returns
returns c = one_spelling module_file module_file-coherent
