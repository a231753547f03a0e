use Rattle.std.proofs.Common.{refl}
use Rattle.labels.proofs.Held.{covers-parts}
use Rattle.labels.proofs.entries.covers.Goals as goal

pub returns-in-Some : goal.returns-in-Some
returns-in-Some c = (
  λ _. (covers-parts c.args.hierarchy.now c.args.entries.now c.args.label c.args.policy.now).1 (c.in-Some.field-0, c.in-Some.ensures.some.0, c.in-Some.ensures.some.1),
  λ _. refl,
)

pub returns-in-None : goal.returns-in-None
returns-in-None c = (λ no. absurd (cc), λ some. absurd (c.covering_part.ensures.none c.in-None.is some))
