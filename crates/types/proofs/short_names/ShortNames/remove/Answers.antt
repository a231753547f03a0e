use Rattle.std.proofs.Common.{None, sym, ap, subst, ◌∙◌}
use Rattle.std.specs.Prelude.{set}
use Rattle.types.specs.declared.short_names.Bucket.TheVariants.{Free, Shared}
use Rattle.types.specs.Buckets.{AreBuckets, Updates, found_short}
use Rattle.types.proofs.Buckets.{IsMapped, IsOwn, alone_tells, found_free, found_left, found_mapped, found_nothing, buckets_free, buckets_mapped, buckets_shared}
use Rattle.types.specs.Buckets.{bucket_of}
use Rattle.types.proofs.short_names.ShortNames.remove.Goals as goal

pub invariant_of-self : goal.invariant_of-self
invariant_of-self c =
    let old = c.args.self.now in
    let n = c.args.number in
    let is = sym c.bucket.ensures ∙ c.in-Alone.is in
    let table = c.set_bucket.ensures ∙ ap (λ at. set old.buckets.items at Free) c.bucket_of-at.ensures in
    record { placed = subst (λ t. AreBuckets old.shift t old.others) (sym table) (buckets_free old.shift n old.buckets.items old.others old.placed (subst (λ p. IsOwn p n) (sym is) c.if-kept-number.true)) }

pub invariant_of-self-then-kept-number-2 : goal.invariant_of-self-then-kept-number-2
invariant_of-self-then-kept-number-2 c =
    let old = c.args.self.now in
    let n = c.args.number in
    let is = sym c.bucket.ensures ∙ c.in-First.is in
    let table = c.set_bucket-then-kept-number-2.ensures ∙ ap (λ at. set old.buckets.items at Shared) c.bucket_of-at.ensures in
    record { placed = subst (λ t. AreBuckets old.shift t old.others) (sym table) (buckets_shared old.shift (bucket_of old.shift n) old.buckets.items old.others old.placed) }

pub invariant_of-self-else-kept-number-2 : goal.invariant_of-self-else-kept-number-2
invariant_of-self-else-kept-number-2 c =
    let old = c.args.self.now in
    let n = c.args.number in
    let is = sym c.bucket.ensures ∙ c.in-First.is in
    record { placed = buckets_mapped old.shift n old.buckets.items old.others c.remove.new.self None old.placed (subst (λ p. IsMapped p n) (sym is) c.if-kept-number-2.false) c.remove.ensures.updates }

pub invariant_of-self-in-Shared : goal.invariant_of-self-in-Shared
invariant_of-self-in-Shared c =
    let old = c.args.self.now in
    let n = c.args.number in
    let is = sym c.bucket.ensures ∙ c.in-Shared.is in
    record { placed = buckets_mapped old.shift n old.buckets.items old.others c.remove-in-Shared.new.self None old.placed (subst (λ p. IsMapped p n) (sym is) tt) c.remove-in-Shared.ensures.updates }

pub returns-then-kept-number : goal.returns-then-kept-number
returns-then-kept-number c =
    let old = c.args.self.now in
    let n = c.args.number in
    let is = sym c.bucket.ensures ∙ c.in-Alone.is in
    let table = c.set_bucket.ensures ∙ ap (λ at. set old.buckets.items at Free) c.bucket_of-at.ensures in
    subst (λ t. Updates n None (found_short old.shift old.buckets.items old.others) (found_short old.shift t old.others)) (sym table) (found_free old.shift n old.buckets.items old.others (subst (λ p. IsOwn p n) (sym is) c.if-kept-number.true))

pub returns-else-kept-number : goal.returns-else-kept-number
returns-else-kept-number c =
    let old = c.args.self.now in
    let n = c.args.number in
    let is = sym c.bucket.ensures ∙ c.in-Alone.is in
    found_nothing n (found_short old.shift old.buckets.items old.others) (alone_tells old.shift n old.buckets.items old.others c.in-Alone.kept c.in-Alone.field-1 is c.if-kept-number.false)

pub returns-then-kept-number-2 : goal.returns-then-kept-number-2
returns-then-kept-number-2 c =
    let old = c.args.self.now in
    let n = c.args.number in
    let is = sym c.bucket.ensures ∙ c.in-First.is in
    let table = c.set_bucket-then-kept-number-2.ensures ∙ ap (λ at. set old.buckets.items at Shared) c.bucket_of-at.ensures in
    subst (λ t. Updates n None (found_short old.shift old.buckets.items old.others) (found_short old.shift t old.others)) (sym table) (found_left old.shift n old.buckets.items old.others c.in-First.field-1 c.in-First.kept old.placed is c.if-kept-number-2.true)

pub returns-else-kept-number-2 : goal.returns-else-kept-number-2
returns-else-kept-number-2 c =
    let old = c.args.self.now in
    let n = c.args.number in
    let is = sym c.bucket.ensures ∙ c.in-First.is in
    found_mapped old.shift n old.buckets.items old.others c.remove.new.self None (subst (λ p. IsMapped p n) (sym is) c.if-kept-number-2.false) c.remove.ensures.updates

pub returns-in-Shared : goal.returns-in-Shared
returns-in-Shared c =
    let old = c.args.self.now in
    let n = c.args.number in
    let is = sym c.bucket.ensures ∙ c.in-Shared.is in
    found_mapped old.shift n old.buckets.items old.others c.remove-in-Shared.new.self None (subst (λ p. IsMapped p n) (sym is) tt) c.remove-in-Shared.ensures.updates
