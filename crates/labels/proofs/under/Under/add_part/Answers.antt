use Rattle.std.proofs.Common.{◌≡◌, sym, ap, ◌∙◌, subst, ◌<◌, ◌≤◌, ◌+◌, length, set, true, List, Bool, arith, ⊎_elim, ◌||◌}
use Rattle.std.specs.Prelude.{IsTrue, ◌==◌}
use Rattle.std.proofs.lemmas.Bool.{cases_lt, eqb-true, or_cases}
use Rattle.std.proofs.lemmas.List.{length-set}
use Rattle.labels.specs.Comparing.{start}
use Rattle.labels.specs.Entries.{own_at}
use Rattle.labels.specs.Row.{has}
use Rattle.labels.proofs.Compared.{set-adds, set-is, set-keeps, slot-inside}
use Rattle.labels.proofs.under.Under.add_part.Goals as goal

pub overflow_add-index : goal.overflow_add-index
overflow_add-index c =
    let es = c.args.self.now.entries.now in
    let at : c.index.result.now ≡ start es c.args.part = c.index.ensures ∙ c.requires.starts.each c.args.part c.index.result.now (omega (arith, c.requires.part)) in
    omega (arith, at, slot-inside es c.args.part c.requires.part, c.loop-k-test.true, ap length c.own_at-k-end.ensures, c.requires.starts.fits)

pub set-requires : goal.set-requires
set-requires c =
    let es = c.args.self.now.entries.now in
    let at : c.index.result.now ≡ start es c.args.part = c.index.ensures ∙ c.requires.starts.each c.args.part c.index.result.now (omega (arith, c.requires.part)) in
    omega (arith, at, slot-inside es c.args.part c.requires.part, c.loop-k-test.true, ap length c.own_at-k-end.ensures, c.loop-k.invariant.count, c.requires.left.policies_count)

pub loop-k-preserved : goal.loop-k-preserved
loop-k-preserved c =
    let es = c.args.self.now.entries.now in
    let old : List Bool = c.loop-k.left.policies in
    let new : List Bool = c.set.new.self in
    let i = start es c.args.part + c.loop-k.k in
    let at : c.index.result.now ≡ start es c.args.part = c.index.ensures ∙ c.requires.starts.each c.args.part c.index.result.now (omega (arith, c.requires.part)) in
    let is : new ≡ set old i true = c.set.ensures ∙ ap (λ n. set old (n + c.loop-k.k) true) at in
    let inv = c.loop-k.invariant in
    let within : i < length old = omega (arith, slot-inside es c.args.part c.requires.part, c.loop-k-test.true, ap length c.own_at-k-end.ensures, inv.count, c.requires.left.policies_count) in
    record {
      count = ap length is ∙ (length-set old i true ∙ inv.count);
      labels = inv.labels;
      parts = inv.parts;
      kept = λ n held. set-keeps old new i n within is (inv.kept n held);
      added = λ j lt. ⊎_elim (λ less. set-keeps old new i (start es c.args.part + j) within is (inv.added j less))
          (λ (more : c.loop-k.k ≤ j). let same : c.loop-k.k ≡ j = omega (arith, more, lt) in subst (λ m. IsTrue (has new (start es c.args.part + m))) same (set-adds old new i within is))
          (cases_lt j c.loop-k.k);
    }

pub returns : goal.returns
returns c =
    let es = c.args.self.now.entries.now in
    let inv = c.loop-k.invariant in
    let old : List Bool = c.loop-k.left.parts in
    let new : List Bool = c.set-2.new.self in
    let within : c.args.part < length old = omega (arith, c.requires.part, ap length inv.parts, c.requires.left.parts_count) in
    record {
      left = record {
        labels_count = ap length inv.labels ∙ c.requires.left.labels_count;
        parts_count = ap length c.set-2.ensures ∙ (length-set old c.args.part true ∙ (ap length inv.parts ∙ c.requires.left.parts_count));
        policies_count = inv.count ∙ c.requires.left.policies_count;
        parts_are = λ n held k lt.
            ⊎_elim
            (λ same.
            let is : n ≡ c.args.part = eqb-true n c.args.part same in
            subst (λ m. IsTrue (has c.loop-k.left.policies (start es m + k))) (sym is)
            (inv.added k (let lt' : k < length (own_at es c.args.part) = subst (λ m. k < length (own_at es m)) is lt in omega (arith, lt', c.loop-k-test.false, ap length c.own_at-k-end.ensures))))
            (λ was. inv.kept (start es n + k) (c.requires.left.parts_are n (subst (λ (r : List Bool). IsTrue (has r n)) inv.parts was) k lt))
            (or_cases (n == c.args.part) (has old n) (sym (set-is old new c.args.part n within c.set-2.ensures) ∙ held));
        complete = λ label held part made.
            set-keeps old new c.args.part part within c.set-2.ensures
            (subst (λ (r : List Bool). IsTrue (has r part)) (sym inv.parts) (c.requires.left.complete label (subst (λ (r : List Bool). IsTrue (has r label)) inv.labels held) part made));
      };
      labels = inv.labels;
      parts = λ n. set-is old new c.args.part n within c.set-2.ensures ∙ ap (λ (r : List Bool). (n == c.args.part || has r n)) inv.parts;
    }
