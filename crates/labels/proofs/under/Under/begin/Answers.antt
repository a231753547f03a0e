use Rattle.std.proofs.Common.{refl, arith}
use Rattle.labels.specs.Entries.{labels_in}
use Rattle.labels.specs.Label.{Covers, PolicyFlowsTo}
use Rattle.labels.specs.LabelTable.{label_at}
use Rattle.labels.proofs.Compared.{all-none, all-weaker}
use Rattle.labels.proofs.Elements.{Any-weaker}
use Rattle.labels.proofs.under.Under.begin.Goals as goal

pub returns-then-includes : goal.returns-then-includes
returns-then-includes c =
    let h = c.args.self.now.hierarchy.now in
    let es = c.args.self.now.entries.now in
    let last = label_at (labels_in es) c.args.right.now.to in
    let to = label_at (labels_in es) c.args.to in
    record {
      right = record {
        inside = c.requires.to;
        covered_are = all-weaker es (Covers h last) (Covers h to) c.args.right.now.covered
            (λ x some. Any-weaker (λ other. PolicyFlowsTo h x other) (λ other. PolicyFlowsTo h x other) last to (c.includes.ensures c.if-includes.true) (λ other flows. flows) some)
            c.requires.right.covered_are;
      };
      to = refl;
      inside = c.requires.right.inside;
    }

pub returns : goal.returns
returns c = record {
  right = record {
    inside = c.requires.to;
    covered_are = all-none c.args.self.now.entries.now (Covers c.args.self.now.hierarchy.now (label_at (labels_in c.args.self.now.entries.now) c.args.to)) c.in_ok-right.field-0 c.in_ok-right.ensures;
  };
  to = refl;
  inside = omega (arith, c.requires.to);
}
