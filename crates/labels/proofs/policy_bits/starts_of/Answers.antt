use Rattle.std.proofs.Common.{◌≡◌, sym, ap, ◌∙◌, ◌<◌, ◌+◌, suc, length, arith, ◌^◌}
use Rattle.std.proofs.lemmas.List.{length_push}
use Rattle.labels.specs.Comparing.{slots, start}
use Rattle.labels.proofs.Compared.{start-end, start-first, start-next, starts-more}
use Rattle.labels.proofs.policy_bits.starts_of.Goals as goal

pub loop-n-init : goal.loop-n-init
loop-n-init c = record {
  count = ap length c.new-starts.ensures.items;
  each = λ m d lt. absurd (omega (arith, lt));
  next = sym (start-first c.args.entries.now);
  fits = omega arith;
}

pub loop-n-preserved : goal.loop-n-preserved
loop-n-preserved c =
    let es = c.args.entries.now in
    let more : start es (c.loop-n.n + 1) ≡ start es (suc c.loop-n.n) = (let e : c.loop-n.n + 1 ≡ suc c.loop-n.n = omega arith in ap (start es) e) in
    let sum : c.in-Some.sum ≡ c.loop-n.next + length c.own_at.result.now = c.in-Some.ensures.1 in
    let small : c.loop-n.next + length c.own_at.result.now < 2 ^ 64 = c.in-Some.ensures.0 in
    record {
      count = ap length c.in_ok-push.ensures.items ∙ (length_push c.loop-n.starts.items c.loop-n.next ∙ ap (λ k. k + 1) c.loop-n.invariant.count);
      each = starts-more es c.loop-n.starts.items c.push.new.self.items c.loop-n.n c.loop-n.next c.loop-n.invariant.count c.loop-n.invariant.each c.loop-n.invariant.next c.in_ok-push.ensures.items;
      next = omega (arith, sum, more, start-next es c.loop-n.n c.loop-n-test.true, c.loop-n.invariant.next, ap length c.own_at.ensures);
      fits = omega (arith, sum, small);
    }

pub returns : goal.returns
returns c =
    let es = c.args.entries.now in
    let all : c.loop-n.n ≡ length es = omega (arith, c.loop-n-test.false, c.loop-n.auto.n-end) in
    let next : c.loop-n.next ≡ length (slots es) = c.loop-n.invariant.next ∙ (ap (start es) all ∙ start-end es) in
    record {
      count = ap length c.in_ok-push-2.ensures.items ∙ (length_push c.loop-n.starts.items c.loop-n.next ∙ ap (λ k. k + 1) (c.loop-n.invariant.count ∙ all));
      each = λ m d le. starts-more es c.loop-n.starts.items c.push-2.new.self.items c.loop-n.n c.loop-n.next c.loop-n.invariant.count c.loop-n.invariant.each c.loop-n.invariant.next c.in_ok-push-2.ensures.items m d (omega (arith, le, all));
      fits = omega (arith, next, c.loop-n.invariant.fits);
    }
