use Rattle.std.proofs.Common.{◌≡◌, sym, ◌∙◌, subst, rules}
use Rattle.std.specs.Prelude.{◌==◌}
use Rattle.std.proofs.lemmas.Fn.{filter_same}
use Rattle.std.proofs.lemmas.List.Filters.{dedup_is}
use Rattle.labels.specs.Canonical.{IsCanonicalPolicy, readers_with}
use Rattle.labels.proofs.Written.{readers_with-made, IsCanonicalPolicy-written}
use Rattle.labels.proofs.policies.Policy.written.Goals as goal
use Rattle.labels.proofs.policies.Policy.written.Goals.{After-retain}

canonical : (c : After-retain) → IsCanonicalPolicy (record { owner = c.args.owner; readers = c.retain.new.self.items })
canonical c =
    let kept : c.retain.new.self.items ≡ readers_with c.args.owner c.args.readers.items =
    readers_with-made c.args.owner c.args.readers.items c.sort_unstable.new.self.items c.dedup.new.self.items c.retain.new.self.items
    c.sort_unstable.ensures.permutation c.sort_unstable.ensures.sorted
    (dedup_is ◌==◌ c.sort_unstable.new.self.items c.dedup.new.self.items c.dedup.ensures.filtered)
    (filter_same _ _ _ (λ x b f' k. search rules) _ _ c.retain.ensures.filtered) in
    subst (λ readers. IsCanonicalPolicy (record { owner = c.args.owner; readers = readers })) (sym kept)
    (IsCanonicalPolicy-written c.args.owner c.args.readers.items)

pub of-requires-clause-ascending : goal.of-requires-clause-ascending
of-requires-clause-ascending c = (canonical c).readers_ascend

pub of-requires-clause-owner_left_out : goal.of-requires-clause-owner_left_out
of-requires-clause-owner_left_out c = (canonical c).owner_left_out

pub returns : goal.returns
returns c =
    let kept : c.retain.new.self.items ≡ readers_with c.args.owner c.args.readers.items =
    readers_with-made c.args.owner c.args.readers.items c.sort_unstable.new.self.items c.dedup.new.self.items c.retain.new.self.items
    c.sort_unstable.ensures.permutation c.sort_unstable.ensures.sorted
    (dedup_is ◌==◌ c.sort_unstable.new.self.items c.dedup.new.self.items c.dedup.ensures.filtered)
    (filter_same _ _ _ (λ x b f' k. search rules) _ _ c.retain.ensures.filtered) in
    c.of.ensures ∙ (λ i. record { owner = c.args.owner; readers = kept i })
