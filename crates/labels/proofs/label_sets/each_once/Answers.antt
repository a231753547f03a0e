use Rattle.std.proofs.lemmas.List.Filters.{dedup_is}
use Rattle.labels.specs.PolicyOrder.{policy_eq}
use Rattle.labels.proofs.Written.{written_label-made}
use Rattle.labels.proofs.label_sets.each_once.Goals as goal

pub returns : goal.returns
returns c =
    written_label-made c.args.policies.items c.sort_unstable.new.self.items c.dedup.new.self.items c.sort_unstable.ensures.permutation c.sort_unstable.ensures.sorted
    (dedup_is policy_eq c.sort_unstable.new.self.items c.dedup.new.self.items c.dedup.ensures.filtered)
