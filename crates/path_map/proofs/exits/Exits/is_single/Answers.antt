use Rattle.std.proofs.Common.{ap, ◌∙◌}
use Rattle.std.specs.Prelude.{is_some}
use Rattle.path_map.proofs.Single.{one-is}
use Rattle.path_map.proofs.exits.Exits.is_single.Goals as goal

pub returns : goal.returns
returns c = λ ends is. c.is_some.ensures ∙ ap is_some (c.single.ensures ends is) ∙ one-is ends
