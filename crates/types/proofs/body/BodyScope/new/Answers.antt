use Rattle.types.specs.Views.{found_in, or_else}
use Rattle.types.proofs.body.BodyScope.new.Goals as goal

pub returns-clause-point : goal.returns-clause-point
returns-clause-point c = λ i. record {
  names = λ name. or_else (c.new.ensures i name) (found_in c.args.context.now.top.now.names name);
  slots = c.args.variables.slots;
  loops = 0;
}
