use Rattle.std.proofs.Common.{Some, sym, ap, subst, ◌∙◌}
use Rattle.std.specs.Prelude.{set}
use Rattle.types.specs.declared.short_names.Bucket.TheVariants.{Alone}
use Rattle.types.specs.Buckets.{AreBuckets, Updates, found_short}
use Rattle.types.proofs.Buckets.{IsOwn, found_alone, buckets_alone}
use Rattle.types.proofs.short_names.ShortNames.put.Goals as goal

pub invariant_of-self : goal.invariant_of-self
invariant_of-self c =
    let old = c.args.self.now in
    let n = c.args.number in
    let is = sym c.bucket.ensures ∙ c.in-Free.is in
    let table = c.set_bucket.ensures ∙ ap (λ at. set old.buckets.items at (Alone n c.args.meaning)) c.bucket_of-at.ensures in
    record { placed = subst (λ t. AreBuckets old.shift t old.others) (sym table) (buckets_alone old.shift n old.buckets.items old.others c.args.meaning old.placed (subst (λ p. IsOwn p n) (sym is) tt)) }

pub returns-in-Free : goal.returns-in-Free
returns-in-Free c =
    let old = c.args.self.now in
    let n = c.args.number in
    let is = sym c.bucket.ensures ∙ c.in-Free.is in
    let table = c.set_bucket.ensures ∙ ap (λ at. set old.buckets.items at (Alone n c.args.meaning)) c.bucket_of-at.ensures in
    subst (λ t. Updates n (Some c.args.meaning) (found_short old.shift old.buckets.items old.others) (found_short old.shift t old.others)) (sym table) (found_alone old.shift n old.buckets.items old.others c.args.meaning (subst (λ p. IsOwn p n) (sym is) tt))
