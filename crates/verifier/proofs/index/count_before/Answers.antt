use Rattle.std.proofs.Common.{◌≡◌, ◌≢◌, ◌<◌, ◌+◌, ◌*◌, ◌-◌, length, set, get_or, ap, arith, sym, ◌∙◌, inl, inr}
use Rattle.std.proofs.lemmas.Bool.{cases_lt}
use Rattle.std.proofs.lemmas.List.{get_or-set_other, get_or-set_same, length-set}
use Rattle.verifier.specs.Starts.{starts_before}
use Rattle.verifier.proofs.Counted.{before-rises, whole-word}
use Rattle.verifier.proofs.index.count_before.Goals as goal

pub overflow_add-count : goal.overflow_add-count
overflow_add-count c =
    let j = c.loop-index.index in
    let starts = c.args.starts.now in
    let back : 64 * j + 64 + 64 * (length starts - j - 1) ≡ 64 * length starts = omega (arith, c.loop-index-test.true) in
    omega (arith, c.requires.few, c.loop-index.invariant.count_is, whole-word starts j (omega (arith, c.type_inv.starts j)), before-rises starts (64 * j + 64) (64 * (length starts - j - 1)), ap (starts_before starts) back)

pub loop-index-preserved : goal.loop-index-preserved
loop-index-preserved c =
    let j = c.loop-index.index in
    let starts = c.args.starts.now in
    let counts = c.loop-index.counts in
    let count = c.loop-index.count in
    let v = c.loop-index.invariant in
    let next : 64 * (j + 1) ≡ 64 * j + 64 = omega arith in
    let inside : j < length counts = omega (arith, v.long, c.loop-index-test.true) in
    record {
      count_is = omega (arith, v.count_is, whole-word starts j (omega (arith, c.type_inv.starts j)), ap (starts_before starts) next);
      counted = λ k lt. elim (cases_lt k j) [
        | inl near ↦
            let apart : k ≢ j = λ e. omega (arith, e, near) in
            get_or-set_other counts j k count 0 apart ∙ v.counted k near
        | inr far ↦
            let same : k ≡ j = omega (arith, far, lt) in
            ap (λ n. get_or (set counts j count) n 0) same
            ∙ get_or-set_same counts j count 0 inside ∙ v.count_is ∙ ap (λ n. starts_before starts (64 * n)) (sym same)
      ];
      long = omega (arith, v.long, length-set counts j count);
    }

pub returns : goal.returns
returns c =
    let v = c.loop-index.invariant in
    record {
      long = v.long;
      counted = λ j lt. v.counted j (omega (arith, lt, c.loop-index-test.false));
    }
