use Rattle.std.proofs.Common.{arith}
use Rattle.labels.proofs.WordBits.{none-step}
use Rattle.labels.proofs.words.first_new.Goals as goal

pub loop-i-preserved-then-not-has_more : goal.loop-i-preserved-then-not-has_more
loop-i-preserved-then-not-has_more c = record {
  from_on = omega (arith, c.loop-i.invariant.from_on);
  none = none-step c.args.words.now c.args.others.now c.args.from c.loop-i.i c.min-i.result c.has_more.result c.loop-i.invariant.none c.has_more.ensures
      c.if-not-has_more.true c.if-i-eq0.true (omega arith);
}

pub returns-then-not-has_any_bit : goal.returns-then-not-has_any_bit
returns-then-not-has_any_bit c = record {
  from_on = c.loop-i.invariant.from_on;
  inside = omega arith;
  there = cc;
  missing = cc;
  before = c.loop-i.invariant.none;
}
