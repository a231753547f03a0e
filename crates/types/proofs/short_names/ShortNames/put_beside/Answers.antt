use Rattle.std.proofs.Common.{Some, sym, ap, subst, ◌∙◌}
use Rattle.std.specs.Prelude.{set}
use Rattle.types.specs.declared.short_names.Bucket.TheVariants.{Alone, First}
use Rattle.types.specs.Buckets.{AreBuckets, Updates, found_short}
use Rattle.types.proofs.Buckets.{IsMapped, IsOwn, found_again, found_alone, found_first, found_mapped, buckets_again, buckets_alone, buckets_first, buckets_inserted, buckets_unchanged}
use Rattle.types.proofs.short_names.ShortNames.put_beside.Goals as goal

pub invariant_of-self : goal.invariant_of-self
invariant_of-self c =
    let old = c.args.self.now in
    let n = c.args.number in
    let is = sym c.bucket.ensures ∙ c.in-Free.is in
    let table = c.set_bucket.ensures ∙ ap (λ at. set old.buckets.items at (Alone n c.args.meaning)) c.bucket_of-at.ensures in
    record { placed = subst (λ t. AreBuckets old.shift t old.others) (sym table) (buckets_alone old.shift n old.buckets.items old.others c.args.meaning old.placed (subst (λ p. IsOwn p n) (sym is) tt)) }

pub invariant_of-self-then-kept-number : goal.invariant_of-self-then-kept-number
invariant_of-self-then-kept-number c =
    let old = c.args.self.now in
    let n = c.args.number in
    let is = sym c.bucket.ensures ∙ c.in-Alone.is in
    let table = c.set_bucket-then-kept-number.ensures ∙ ap (λ at. set old.buckets.items at (Alone n c.args.meaning)) c.bucket_of-at.ensures in
    record { placed = subst (λ t. AreBuckets old.shift t old.others) (sym table) (buckets_alone old.shift n old.buckets.items old.others c.args.meaning old.placed (subst (λ p. IsOwn p n) (sym is) c.if-kept-number.true)) }

pub invariant_of-self-in-Break-1 : goal.invariant_of-self-in-Break-1
invariant_of-self-in-Break-1 c =
    let old = c.args.self.now in
    record { placed = buckets_unchanged old.shift old.buckets.items old.others c.insert.new.self old.placed c.in_err-insert-in-Alone.ensures.err }

pub invariant_of-self-else-kept-number : goal.invariant_of-self-else-kept-number
invariant_of-self-else-kept-number c =
    let old = c.args.self.now in
    let n = c.args.number in
    let is = sym c.bucket.ensures ∙ c.in-Alone.is in
    let table = c.set_bucket-else-kept-number.ensures ∙ ap (λ at. set old.buckets.items at (First n c.args.meaning)) c.bucket_of-at.ensures in
    record { placed = subst (λ t. AreBuckets old.shift t c.insert.new.self) (sym table) (buckets_first old.shift n old.buckets.items old.others c.insert.new.self c.args.meaning c.in-Alone.before c.in-Alone.kept old.placed is c.if-kept-number.false c.in_ok-insert-in-Alone.ensures.updates) }

pub invariant_of-self-then-kept-number-2 : goal.invariant_of-self-then-kept-number-2
invariant_of-self-then-kept-number-2 c =
    let old = c.args.self.now in
    let n = c.args.number in
    let is = sym c.bucket.ensures ∙ c.in-First.is in
    let table = c.set_bucket-then-kept-number-2.ensures ∙ ap (λ at. set old.buckets.items at (First n c.args.meaning)) c.bucket_of-at.ensures in
    record { placed = subst (λ t. AreBuckets old.shift t old.others) (sym table) (buckets_again old.shift n old.buckets.items old.others c.args.meaning c.in-First.field-1 c.in-First.kept old.placed is c.if-kept-number-2.true) }

pub invariant_of-self-else-kept-number-2 : goal.invariant_of-self-else-kept-number-2
invariant_of-self-else-kept-number-2 c =
    let old = c.args.self.now in
    let n = c.args.number in
    let is = sym c.bucket.ensures ∙ c.in-First.is in
    record { placed = buckets_inserted old.shift n old.buckets.items old.others c.insert-else-kept-number-2.new.self (Some c.args.meaning) c.insert-else-kept-number-2.result old.placed (subst (λ p. IsMapped p n) (sym is) c.if-kept-number-2.false) c.insert-else-kept-number-2.ensures.updates c.insert-else-kept-number-2.ensures.err }

pub invariant_of-self-in-Shared : goal.invariant_of-self-in-Shared
invariant_of-self-in-Shared c =
    let old = c.args.self.now in
    let n = c.args.number in
    let is = sym c.bucket.ensures ∙ c.in-Shared.is in
    record { placed = buckets_inserted old.shift n old.buckets.items old.others c.insert-in-Shared.new.self (Some c.args.meaning) c.insert-in-Shared.result old.placed (subst (λ p. IsMapped p n) (sym is) tt) c.insert-in-Shared.ensures.updates c.insert-in-Shared.ensures.err }

pub returns-in-Free : goal.returns-in-Free
returns-in-Free c =
    let old = c.args.self.now in
    let n = c.args.number in
    let is = sym c.bucket.ensures ∙ c.in-Free.is in
    let table = c.set_bucket.ensures ∙ ap (λ at. set old.buckets.items at (Alone n c.args.meaning)) c.bucket_of-at.ensures in
    subst (λ t. Updates n (Some c.args.meaning) (found_short old.shift old.buckets.items old.others) (found_short old.shift t old.others)) (sym table) (found_alone old.shift n old.buckets.items old.others c.args.meaning (subst (λ p. IsOwn p n) (sym is) tt))

pub returns-then-kept-number : goal.returns-then-kept-number
returns-then-kept-number c =
    let old = c.args.self.now in
    let n = c.args.number in
    let is = sym c.bucket.ensures ∙ c.in-Alone.is in
    let table = c.set_bucket-then-kept-number.ensures ∙ ap (λ at. set old.buckets.items at (Alone n c.args.meaning)) c.bucket_of-at.ensures in
    subst (λ t. Updates n (Some c.args.meaning) (found_short old.shift old.buckets.items old.others) (found_short old.shift t old.others)) (sym table) (found_alone old.shift n old.buckets.items old.others c.args.meaning (subst (λ p. IsOwn p n) (sym is) c.if-kept-number.true))

pub returns-in_ok-insert-in-Alone : goal.returns-in_ok-insert-in-Alone
returns-in_ok-insert-in-Alone c =
    let old = c.args.self.now in
    let n = c.args.number in
    let is = sym c.bucket.ensures ∙ c.in-Alone.is in
    let table = c.set_bucket-else-kept-number.ensures ∙ ap (λ at. set old.buckets.items at (First n c.args.meaning)) c.bucket_of-at.ensures in
    subst (λ t. Updates n (Some c.args.meaning) (found_short old.shift old.buckets.items old.others) (found_short old.shift t c.insert.new.self)) (sym table) (found_first old.shift n old.buckets.items old.others c.insert.new.self c.args.meaning c.in-Alone.before c.in-Alone.kept old.placed is c.in_ok-insert-in-Alone.ensures.updates)

pub returns-then-kept-number-2 : goal.returns-then-kept-number-2
returns-then-kept-number-2 c =
    let old = c.args.self.now in
    let n = c.args.number in
    let is = sym c.bucket.ensures ∙ c.in-First.is in
    let table = c.set_bucket-then-kept-number-2.ensures ∙ ap (λ at. set old.buckets.items at (First n c.args.meaning)) c.bucket_of-at.ensures in
    subst (λ t. Updates n (Some c.args.meaning) (found_short old.shift old.buckets.items old.others) (found_short old.shift t old.others)) (sym table) (found_again old.shift n old.buckets.items old.others c.args.meaning c.in-First.field-1 c.in-First.kept is c.if-kept-number-2.true)

pub returns-in_ok-insert-in-First : goal.returns-in_ok-insert-in-First
returns-in_ok-insert-in-First c =
    let old = c.args.self.now in
    let n = c.args.number in
    let is = sym c.bucket.ensures ∙ c.in-First.is in
    found_mapped old.shift n old.buckets.items old.others c.insert-else-kept-number-2.new.self (Some c.args.meaning) (subst (λ p. IsMapped p n) (sym is) c.if-kept-number-2.false) c.in_ok-insert-in-First.ensures.updates

pub returns-in_ok-insert-in-Shared : goal.returns-in_ok-insert-in-Shared
returns-in_ok-insert-in-Shared c =
    let old = c.args.self.now in
    let n = c.args.number in
    let is = sym c.bucket.ensures ∙ c.in-Shared.is in
    found_mapped old.shift n old.buckets.items old.others c.insert-in-Shared.new.self (Some c.args.meaning) (subst (λ p. IsMapped p n) (sym is) tt) c.in_ok-insert-in-Shared.ensures.updates
