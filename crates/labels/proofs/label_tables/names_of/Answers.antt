use Rattle.std.proofs.Common.{rules}
use Rattle.std.specs.Prelude.{◌==◌}
use Rattle.std.proofs.lemmas.Fn.{filter_same}
use Rattle.std.proofs.lemmas.List.Filters.{dedup_is}
use Rattle.labels.proofs.Names.{names-all, names-inside, names-only}
use Rattle.labels.proofs.label_tables.names_of.Goals as goal

pub returns-clause-inside : goal.returns-clause-inside
returns-clause-inside c =
    names-inside c.args.count c.args.named.items c.sort_unstable.new.self.items c.dedup.new.self.items c.retain.new.self.items c.sort_unstable.ensures.permutation
    (dedup_is ◌==◌ c.sort_unstable.new.self.items c.dedup.new.self.items c.dedup.ensures.filtered)
    (filter_same _ _ _ (λ x b f' k. search rules) _ _ c.retain.ensures.filtered)

pub returns-clause-all : goal.returns-clause-all
returns-clause-all c =
    names-all c.args.count c.args.named.items c.sort_unstable.new.self.items c.dedup.new.self.items c.retain.new.self.items c.sort_unstable.ensures.permutation
    (dedup_is ◌==◌ c.sort_unstable.new.self.items c.dedup.new.self.items c.dedup.ensures.filtered)
    (filter_same _ _ _ (λ x b f' k. search rules) _ _ c.retain.ensures.filtered)

pub returns-clause-only : goal.returns-clause-only
returns-clause-only c =
    names-only c.args.count c.args.named.items c.sort_unstable.new.self.items c.dedup.new.self.items c.retain.new.self.items c.sort_unstable.ensures.permutation
    (dedup_is ◌==◌ c.sort_unstable.new.self.items c.dedup.new.self.items c.dedup.ensures.filtered)
    (filter_same _ _ _ (λ x b f' k. search rules) _ _ c.retain.ensures.filtered)
