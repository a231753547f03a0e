use Rattle.std.proofs.Common.{ℕ, [], arith}
use Rattle.labels.specs.Entries.{labels_in}
use Rattle.labels.specs.Label.{FlowsTo}
use Rattle.labels.specs.LabelTable.{label_at}
use Rattle.labels.proofs.Held.{among-none, each-all, each-more}
use Rattle.labels.proofs.under.Under.are_named.Goals as goal

pub loop-label-preserved : goal.loop-label-preserved
loop-label-preserved c =
    let labels = labels_in c.args.self.now.entries.now in
    let P = λ (n : ℕ). FlowsTo c.args.self.now.hierarchy.now (label_at labels n) (label_at labels c.args.to) in
    record {
      inside = let inside = c.in-Some.ensures.inside in omega (arith, inside);
      flow = each-more P c.args.labels.now [] c.loop-label.from c.in-Some.label c.in-Some.ensures c.loop-label.invariant.flow (among-none P) (c.is_named.ensures c.if-not-is_named.false);
    }

pub returns : goal.returns
returns c = λ _.
    let labels = labels_in c.args.self.now.entries.now in
    let P = λ (n : ℕ). FlowsTo c.args.self.now.hierarchy.now (label_at labels n) (label_at labels c.args.to) in
    each-all P c.args.labels.now [] c.loop-label.from c.in_default.ensures c.loop-label.invariant.flow (among-none P)
