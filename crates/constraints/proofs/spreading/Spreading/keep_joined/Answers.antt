use Rattle.std.proofs.Common.{subst}
use Rattle.gathering.specs.Walk.{inner_constraint}
use Rattle.constraints.specs.Added.{AreAdded}
use Rattle.constraints.proofs.spreading.Spreading.keep_joined.Goals as goal

pub returns-clause-taken : goal.returns-clause-taken
returns-clause-taken c = record {
  own = c.joined.new.made.constraints.items;
  holds = λ atoms left. subst
      (λ xs. AreAdded c.args.self.now.table.now.core.now c.args.self.now.table.now.core.now.labels (inner_constraint atoms c.args.made.now.number) xs c.joined.new.made.constraints.items)
      c.new.ensures.items (c.in_ok-node.ensures.added atoms left);
  are_taken = c.in_ok-take_all.ensures.taken;
}
