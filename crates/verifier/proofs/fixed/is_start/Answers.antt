use Rattle.std.proofs.Common.{◌∙◌}
use Rattle.verifier.proofs.Indices.{begins}
use Rattle.verifier.proofs.fixed.is_start.Goals as goal

pub returns : goal.returns
returns c = c.is_some.ensures ∙ begins c.args.body.now.procedure.now.code c.args.body.now.index.now c.args.offset c.number.result c.requires.index c.number.ensures
