use Rattle.modules.proofs.Isolated.{isolated-by_views}
use Rattle.modules.proofs.laws.isolated_by_views.Goals as goal

pub returns : goal.returns
returns c = isolated-by_views
