use Rattle.layout.proofs.Offsets.{runs-same}
use Rattle.layout.proofs.laws.layout_keeps_runs.Goals as goal

pub returns : goal.returns
returns c = runs-same
