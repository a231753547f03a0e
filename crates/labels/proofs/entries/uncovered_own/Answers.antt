use Rattle.std.proofs.Common.{refl, sym, ◌∙◌}
use Rattle.labels.proofs.Held.{made-flows}
use Rattle.labels.proofs.entries.uncovered_own.Goals as goal

pub returns-then-is_made_of-clause-none : goal.returns-then-is_made_of-clause-none
returns-then-is_made_of-clause-none c = (
  λ e. made-flows c.args.hierarchy.now c.args.entries.now c.args.to c.args.part (sym c.is_made_of.ensures ∙ c.if-is_made_of.true),
  λ flow. refl,
)

pub returns-clause-none : goal.returns-clause-none
returns-clause-none c = rw c.own_at.ensures at c.first_uncovered.ensures.none
