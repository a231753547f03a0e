use Rattle.labels.proofs.Held.{covers-parts}
use Rattle.labels.proofs.Present.{present-covers}
use Rattle.labels.specs.Entries.{own_at}
use Rattle.labels.proofs.entries.covering_part.Goals as goal

pub returns-in-Some-clause-some : goal.returns-in-Some-clause-some
returns-in-Some-clause-some c = (
  c.in-Some.ensures.0,
  present-covers c.args.hierarchy.now (own_at c.args.entries.now c.in-Some.part) c.args.policy.now c.in-Some.ensures.1,
)

pub returns-in-None-clause-none : goal.returns-in-None-clause-none
returns-in-None-clause-none c = λ e some.
    let found = (covers-parts c.args.hierarchy.now c.args.entries.now c.args.label c.args.policy.now).0 some in
    c.part_above.ensures.none e found.0 found.1 found.2
