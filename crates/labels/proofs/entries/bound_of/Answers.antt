use Rattle.std.proofs.Common.{◌<◌, ℕ, List, subst, arith}
use Rattle.std.specs.Prelude.{All}
use Rattle.std.proofs.lemmas.List.{take_all}
use Rattle.std.proofs.lemmas.List.Elements.{All-more, All-weaker}
use Rattle.labels.proofs.entries.bound_of.Goals.{then-bound-next, else-bound-next}
use Rattle.labels.proofs.entries.bound_of.Goals as goal

pub loop-number-preserved : goal.loop-number-preserved
loop-number-preserved c =
    let new = c.if-bound-next.bound in
    let i = c.loop-number.number-index in
    elim c.if-bound-next.branch [
      | then-bound-next w ↦ record {
        above = All-more (λ number. number < new) c.args.numbers.now i 0 c.loop-number-test.true
            (All-weaker (λ number. number < c.loop-number.bound) (λ number. number < new) (λ n h. omega (arith, h, w.bound-is, w.if-bound-next.true)) _ c.loop-number.invariant.above)
            (omega (arith, w.bound-is));
        least = λ bound all.
            let this = all i 0 c.loop-number-test.true in
            omega (arith, this, w.bound-is);
      }
      | else-bound-next w ↦ record {
        above = All-more (λ number. number < new) c.args.numbers.now i 0 c.loop-number-test.true
            (All-weaker (λ number. number < c.loop-number.bound) (λ number. number < new) (λ n h. omega (arith, h, w.bound-is)) _ c.loop-number.invariant.above)
            (omega (arith, w.bound-is, w.if-bound-next.false));
        least = λ bound all.
            let before = c.loop-number.invariant.least bound all in
            omega (arith, before, w.bound-is);
      }
    ]

pub returns-clause-above : goal.returns-clause-above
returns-clause-above c =
    subst (λ (numbers : List ℕ). All (λ number. number < c.loop-number.bound) numbers) (take_all c.loop-number.number-index c.args.numbers.now (omega (arith, c.loop-number-test.false))) c.loop-number.invariant.above
