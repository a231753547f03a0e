use Rattle.labels.proofs.Written.{label_eq-decides}
use Rattle.labels.proofs.label_sets.LabelPartialEq.eq.Goals as goal

pub returns-clause-same : goal.returns-clause-same
returns-clause-same c = rw (c.eq.ensures, c.policies.ensures.policies, c.policies-2.ensures.policies) (label_eq-decides c.args.self.now c.args.other.now)
