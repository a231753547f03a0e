use Rattle.std.proofs.Common.{◌≡◌, ◌<◌, ◌≤◌, length, rules, sym, ap, subst, ◌∙◌}
use Rattle.std.proofs.lemmas.List.{get_or_default}
use Rattle.std.proofs.lemmas.Map.Iter.{btree_map_turn}
use Rattle.std.specs.BTreeMap.{IsOrdered}
use Rattle.std.specs.Cmp.{nat_cmp_total}
use Rattle.std.specs.Map.Iter.{deref_pair}
use Rattle.std.specs.Ordering.{nat_cmp}
use Rattle.types.specs.declared.short_names.Bucket.TheVariants.{Free, Shared}
use Rattle.types.specs.Buckets.{found_short, bucket_at, told_by}
use Rattle.types.proofs.Buckets.{IsSpread, front_next, front_none, spread_first, spread_last, spread_next}
use Rattle.types.proofs.short_names.ShortNames.spread.Goals as goal

pub loop-bucket-init : goal.loop-bucket-init
loop-bucket-init c = λ o. c.in_ok-names.ensures o ∙ sym (front_none c.args.self.now.shift c.args.self.now.buckets.items o)

pub loop-bucket-preserved : goal.loop-bucket-preserved
loop-bucket-preserved c =
    let old = c.args.self.now in
    let names = c.loop-bucket.names in
    let after = c.take_over.new.self in
    let found = found_short names.shift names.buckets.items names.others in
    let inside : c.loop-bucket.bucket-index < length c.deref-bucket-items.result.now = c.loop-bucket-test.true in
    let there = get_or_default c.deref-bucket-items.result.now c.loop-bucket.bucket-index Free Shared inside ∙ ap (λ items. bucket_at items c.loop-bucket.bucket-index) c.deref-bucket-items.ensures.value in
    front_next old.shift old.buckets.items old.others c.loop-bucket.bucket-index found (found_short after.shift after.buckets.items after.others) old.placed
    (λ o. c.in_ok-take_over.ensures o ∙ ap (λ p. told_by p o (found o)) there) c.loop-bucket.invariant

pub loop-number-init : goal.loop-number-init
loop-number-init c =
    let old = c.args.self.now in
    let names = c.loop-bucket.names in
    let start : c.into_iter-number-iterator.result ≡ old.others.entries = search rules in
    subst (λ rest. IsSpread old.shift old.buckets.items old.others rest (found_short names.shift names.buckets.items names.others)) (sym start)
    (spread_first old.shift old.buckets.items old.others c.loop-bucket.bucket-index (found_short names.shift names.buckets.items names.others) (subst (λ items. length items ≤ c.loop-bucket.bucket-index) c.deref-bucket-items.ensures.value c.loop-bucket-test.false) c.loop-bucket.invariant)

pub loop-number-preserved : goal.loop-number-preserved
loop-number-preserved c =
    let l = c.loop-number in
    let old = c.args.self.now in
    let names = l.names in
    let after = c.put.new.self in
    let number = c.in-Some.number.now in
    let meaning = c.in-Some.meaning.now in
    let start : c.into_iter-number-iterator.result ≡ old.others.entries = search rules in
    let ordered : IsOrdered nat_cmp old.others = search rules in
    let turn = btree_map_turn deref_pair l.yielded c.into_iter-number-iterator.result l.number-iterator c.next.new.self c.next.result (c.in-Some.number, c.in-Some.meaning) l.yielded_by c.in-Some.is c.next.ensures.steps nat_cmp_total old.others start ordered in
    let found = found_short names.shift names.buckets.items names.others in
    spread_next old.shift old.buckets.items old.others (number, meaning) c.next.new.self found (found_short after.shift after.buckets.items after.others)
    (subst (λ rest. IsSpread old.shift old.buckets.items old.others rest found) c.in-Some.ensures.steps l.invariant) turn.1 c.in_ok-put.ensures

pub returns : goal.returns
returns c =
    let old = c.args.self.now in
    let names = c.loop-number.names in
    let found = found_short names.shift names.buckets.items names.others in
    spread_last old.shift old.buckets.items old.others found old.placed
    (subst (λ rest. IsSpread old.shift old.buckets.items old.others rest found) c.in-None.ensures.steps.0 c.loop-number.invariant)
