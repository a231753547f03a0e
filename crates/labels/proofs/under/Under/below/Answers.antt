use Rattle.std.proofs.Common.{◌≡◌, ap, ◌∙◌, subst, ◌<◌, ◌≤◌, length, get_or, arith, ⊎_elim}
use Rattle.std.proofs.lemmas.Bool.{cases_lt}
use Rattle.std.proofs.lemmas.List.{get_or_default}
use Rattle.principals.specs.ActsFor.{ActsFor}
use Rattle.labels.specs.Comparing.{slots}
use Rattle.labels.specs.Label.{PolicyAllows}
use Rattle.labels.proofs.under.Under.below.Goals as goal

pub loop-reader-init : goal.loop-reader-init
loop-reader-init c = record {
  bits = c.in_ok-row.ensures.bits;
  count = c.in_ok-row.ensures.row.count;
  owner = λ s d there. subst (λ o. ActsFor c.args.self.now.hierarchy.now.pairs o (get_or (slots c.args.self.now.entries.now) s d).owner) c.owner.ensures (c.in_ok-row.ensures.row.each s d there);
  readers = λ s d there j e lt. absurd (omega (arith, lt));
}

pub loop-reader-preserved : goal.loop-reader-preserved
loop-reader-preserved c =
    let h = c.args.self.now.hierarchy.now in
    let es = c.args.self.now.entries.now in
    let readers = c.args.policy.now.readers in
    let at = c.loop-reader.reader-index in
    let before = c.loop-reader.invariant in
    let inside : at < length readers = omega (arith, c.loop-reader-test.true, ap length c.readers-reader-items.ensures.readers) in
    record {
      bits = c.meet_reader.ensures.bits;
      count = c.meet_reader.ensures.count ∙ before.count;
      owner = λ s d there. before.owner s d (c.in_ok-meet_reader.ensures.only s d there).0;
      readers = λ s d there j e lt.
          let this = c.in_ok-meet_reader.ensures.only s d there in
          ⊎_elim
          (λ less. before.readers s d this.0 j e less)
          (λ (more : at ≤ j).
          let same : at ≡ j = omega (arith, more, lt) in
          let reads = ap (λ xs. get_or xs at 0) c.readers-reader-items.ensures.readers ∙ get_or_default readers at 0 e inside in
          subst (λ i. PolicyAllows h (get_or readers i e) (get_or (slots es) s d)) same
          (subst (λ p. PolicyAllows h p (get_or (slots es) s d)) reads this.1))
          (cases_lt j at);
    }

pub returns : goal.returns
returns c =
    let inv = c.loop-reader.invariant in
    record {
      bits = inv.bits;
      row = record {
        count = inv.count;
        each = λ s d there. (
          inv.owner s d there,
          λ j e lt. inv.readers s d there j e (omega (arith, lt, c.loop-reader-test.false, ap length c.readers-reader-items.ensures.readers)),
        );
      };
    }
