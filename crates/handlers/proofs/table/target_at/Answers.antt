use Rattle.std.proofs.Common.{not, suc, ◌≡◌, arith, rules}
use Rattle.std.proofs.lemmas.List.Sorted.{IsPartitionPoint-from_clause}
use Rattle.handlers.specs.Targets.{is_before}
use Rattle.handlers.specs.declared.entries.ThrowSite.{ThrowSite}
use Rattle.handlers.specs.declared.entries.TableEntry.{TableEntry}
use Rattle.handlers.proofs.Searching.{parted, found_none, found_last}
use Rattle.handlers.proofs.table.target_at.Goals as goal

pub returns-in_default : goal.returns-in_default
returns-in_default c =
    let site : ThrowSite = record { exception = c.args.exception; offset = c.args.offset } in
    let parts = IsPartitionPoint-from_clause (λ (entry : TableEntry). not (is_before site entry.site)) _ _ c.partition_point-count.ensures.partitioned (parted site c.args.entries.now c.requires) (λ a r q k. search rules) in
    found_none site c.args.entries.now c.partition_point-count.result parts.0 parts.1 (omega (arith, c.in_default.ensures))

pub returns : goal.returns
returns c =
    let site : ThrowSite = record { exception = c.args.exception; offset = c.args.offset } in
    let parts = IsPartitionPoint-from_clause (λ (entry : TableEntry). not (is_before site entry.site)) _ _ c.partition_point-count.ensures.partitioned (parted site c.args.entries.now c.requires) (λ a r q k. search rules) in
    let is : c.partition_point-count.result ≡ suc c.in-Some.last = omega (arith, c.in-Some.ensures) in
    found_last site c.args.entries.now c.partition_point-count.result parts.0 parts.1 c.in-Some.last is c.partition_point-count.ensures.bound _
