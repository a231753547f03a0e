use Rattle.std.proofs.Common.{sym, subst, arith}
use Rattle.std.specs.Prelude.{Contains}
use Rattle.labels.specs.Entries.{own_at}
use Rattle.labels.specs.Label.{Covers, PolicyFlowsTo}
use Rattle.labels.proofs.Compared.{all-weaker, of-more, of-same}
use Rattle.labels.proofs.Elements.{Any-from_some}
use Rattle.labels.proofs.under.Under.cover_own.Goals as goal

pub loop-policy-init : goal.loop-policy-init
loop-policy-init c = record {
  bits = c.requires.bits;
  covered = of-same c.args.self.now.entries.now (Covers c.args.self.now.hierarchy.now (own_at c.args.self.now.entries.now c.args.part)) c.args.covered.now;
}

pub loop-policy-preserved : goal.loop-policy-preserved
loop-policy-preserved c =
    let h = c.args.self.now.hierarchy.now in
    let es = c.args.self.now.entries.now in
    let own = own_at es c.args.part in
    let policy = c.policy-item.result in
    let there : Contains own policy =
    subst (λ xs. Contains xs policy) c.own_at-policy-items.ensures (c.loop-policy.policy-index, c.loop-policy-test.true, sym c.policy-item.is) in
    record {
      bits = c.below.ensures.bits;
      covered = of-more es (Covers h own) c.args.covered.now c.loop-policy.covered c.in_ok-below.below c.include.new.self c.loop-policy.invariant.covered
          (all-weaker es (λ x. PolicyFlowsTo h x policy) (Covers h own) c.in_ok-below.below (λ x flows. Any-from_some (λ other. PolicyFlowsTo h x other) own policy there flows) c.in_ok-below.ensures.row)
          c.include.ensures.bound c.include.ensures.members;
    }

pub include-requires : goal.include-requires
include-requires c = omega (arith, c.in_ok-below.ensures.row.count, c.loop-policy.invariant.covered.count, c.requires.count)
