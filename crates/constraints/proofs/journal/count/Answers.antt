use Rattle.std.proofs.Common.{rules}
use Rattle.std.proofs.lemmas.List.Sorted.{IsPartitionPoint-from_clause}
use Rattle.constraints.proofs.Moments.{is_up_to, parted}
use Rattle.constraints.proofs.journal.count.Goals as goal

pub returns-clause-parted : goal.returns-clause-parted
returns-clause-parted c =
    IsPartitionPoint-from_clause (is_up_to c.args.call) _ _ c.partition_point.ensures.partitioned (parted c.args.call c.args.moments.now c.requires) (λ a r q k. search rules)
