use Rattle.std.proofs.Common.{◌≡◌, refl, sym, ◌∙◌, subst, true, false, arith}
use Rattle.std.specs.Prelude.{Contains}
use Rattle.std.proofs.lemmas.List.{take_all}
use Rattle.std.proofs.lemmas.List.Elements.{All-more}
use Rattle.labels.specs.Entries.{labels_in}
use Rattle.labels.specs.Label.{Covers, FlowsTo, ReaderPolicy}
use Rattle.labels.specs.LabelTable.{label_at}
use Rattle.labels.proofs.Elements.{each_from_All}
use Rattle.labels.proofs.entries.first_uncovered.Goals as goal

pub returns-then-not-covers-clause-none : goal.returns-then-not-covers-clause-none
returns-then-not-covers-clause-none c = (
  λ e. absurd (cc),
  λ flow.
      let there : Contains c.args.policies.now c.policy-item.result = (c.loop-policy.policy-index, c.loop-policy-test.true, sym c.policy-item.is) in
      let covered = each_from_All (λ policy. Covers c.args.hierarchy.now (label_at (labels_in c.args.entries.now) c.args.to) policy) c.args.policies.now flow c.policy-item.result there in
      absurd (let no : true ≡ false = sym (c.covers.ensures.1 covered) ∙ c.if-not-covers.true in cc),
)

pub loop-policy-preserved : goal.loop-policy-preserved
loop-policy-preserved c =
    let P = λ (policy : ReaderPolicy). Covers c.args.hierarchy.now (label_at (labels_in c.args.entries.now) c.args.to) policy in
    All-more P c.args.policies.now c.loop-policy.policy-index c.policy-item.result c.loop-policy-test.true c.loop-policy.invariant
    (subst P c.policy-item.is (c.covers.ensures.0 c.if-not-covers.false))

pub returns-clause-none : goal.returns-clause-none
returns-clause-none c = (
  λ e. subst (λ policies. FlowsTo c.args.hierarchy.now policies (label_at (labels_in c.args.entries.now) c.args.to)) (take_all c.loop-policy.policy-index c.args.policies.now (omega (arith, c.loop-policy-test.false))) c.loop-policy.invariant,
  λ flow. refl,
)
