use Rattle.std.proofs.Common.{◌≡◌, ◌++◌, take}
use Rattle.labels.proofs.joins.append.Given as goal

abbrev pub invariant-loop-policy : goal.invariant-loop-policy
invariant-loop-policy l = l.policies.items ≡ l.initial.policies.items ++ take l.policy-index l.more
