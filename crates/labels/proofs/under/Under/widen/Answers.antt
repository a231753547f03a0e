use Rattle.std.proofs.Common.{sym, ◌∙◌, subst, ℕ, List, Bool, arith, ⊎_elim}
use Rattle.std.specs.Prelude.{IsTrue}
use Rattle.std.proofs.lemmas.Bool.{or_cases}
use Rattle.labels.specs.Comparing.{HasParts}
use Rattle.labels.specs.Row.{has}
use Rattle.labels.proofs.Compared.{or-second}
use Rattle.labels.proofs.Held.{each-all, each-more}
use Rattle.labels.proofs.under.Under.widen.Goals as goal

pub loop-label-preserved : goal.loop-label-preserved
loop-label-preserved c =
    let es = c.args.self.now.entries.now in
    let inv = c.loop-label.invariant in
    let new = c.add_label.new.left in
    let P = λ (n : ℕ). HasParts es n new.parts in
    record {
      inside = let inside = c.in-Some.ensures.inside in omega (arith, inside);
      left = c.add_label.ensures.left;
      added = each-more P c.args.labels.now c.loop-label.left.labels c.loop-label.from c.in-Some.label c.in-Some.ensures
          (λ n lt held part made. c.add_label.ensures.kept part (inv.added n lt held part made))
          (λ n held. c.add_label.ensures.left.complete n (subst (λ (r : List Bool). IsTrue (has r n)) (sym c.add_label.ensures.labels) held))
          c.add_label.ensures.added;
    }

pub returns : goal.returns
returns c =
    let es = c.args.self.now.entries.now in
    let inv = c.loop-label.invariant in
    let P = λ (n : ℕ). HasParts es n c.loop-label.left.parts in
    record {
      left = record {
        labels_count = c.include.ensures.bound ∙ inv.left.labels_count;
        parts_count = inv.left.parts_count;
        policies_count = inv.left.policies_count;
        parts_are = inv.left.parts_are;
        complete = λ label held.
            ⊎_elim (inv.left.complete label)
            (each-all P c.args.labels.now c.loop-label.left.labels c.loop-label.from c.in_default.ensures inv.added inv.left.complete label)
            (or_cases (has c.loop-label.left.labels label) (has c.args.labels.now label) (sym (c.include.ensures.members label) ∙ held));
      };
      labels = λ n held. c.include.ensures.members n ∙ or-second (has c.loop-label.left.labels n) (has c.args.labels.now n) held;
    }
