use Rattle.modules.proofs.Later.{later_module}
use Rattle.modules.proofs.laws.versions_keep_modules.Goals as goal

pub returns-clause-spelled : goal.returns-clause-spelled
returns-clause-spelled c = later_module
