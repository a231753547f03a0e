use Rattle.std.proofs.Common.{◌≡◌, sym, ◌∙◌, ℕ, [], true, arith, ⊎_elim}
use Rattle.std.proofs.lemmas.Bool.{cases_lt}
use Rattle.labels.specs.Entries.{labels_in}
use Rattle.labels.specs.Label.{flows}
use Rattle.labels.specs.LabelTable.{label_at}
use Rattle.labels.proofs.Held.{among-none, each-all, each-more}
use Rattle.labels.proofs.under.Under.first_above.Goals as goal

pub loop-label-preserved : goal.loop-label-preserved
loop-label-preserved c =
    let labels = labels_in c.args.self.now.entries.now in
    let P = λ (n : ℕ). flows c.args.self.now.hierarchy.now (label_at labels n) (label_at labels c.args.to) ≡ true in
    record {
      inside = let inside = c.in-Some.ensures.inside in omega (arith, inside);
      flow = each-more P c.args.labels.now [] c.loop-label.from c.in-Some.label c.in-Some.ensures c.loop-label.invariant.flow (among-none P) (sym c.flows.ensures ∙ c.if-not-flows.false);
    }

pub returns-then-not-flows : goal.returns-then-not-flows
returns-then-not-flows c =
    let labels = labels_in c.args.self.now.entries.now in
    let P = λ (n : ℕ). flows c.args.self.now.hierarchy.now (label_at labels n) (label_at labels c.args.to) ≡ true in
    record {
      there = c.in-Some.ensures.there;
      fails = sym c.flows.ensures ∙ c.if-not-flows.true;
      before = λ n lt held.
          ⊎_elim (λ before. c.loop-label.invariant.flow n before held)
          (λ on. among-none P n (c.in-Some.ensures.before n on lt held))
          (cases_lt n c.loop-label.from);
    }

pub returns : goal.returns
returns c =
    let labels = labels_in c.args.self.now.entries.now in
    let P = λ (n : ℕ). flows c.args.self.now.hierarchy.now (label_at labels n) (label_at labels c.args.to) ≡ true in
    each-all P c.args.labels.now [] c.loop-label.from c.in_default.ensures c.loop-label.invariant.flow (among-none P)
