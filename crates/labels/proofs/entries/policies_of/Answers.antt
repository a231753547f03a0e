use Rattle.std.proofs.Common.{◌≡◌, sym, ap, ◌∙◌, ◌++◌, ◌+◌, subst, List, arith}
use Rattle.labels.specs.Entries.{ArePoliciesGathered, own_at}
use Rattle.labels.specs.Label.{ReaderPolicy}
use Rattle.labels.proofs.Held.{gathered-all, gathered-more, gathered-none, next-fits}
use Rattle.labels.proofs.entries.policies_of.Goals as goal

pub loop-part-init : goal.loop-part-init
loop-part-init c = record {
  inside = omega arith;
  gathered = subst (λ (policies : List ReaderPolicy). ArePoliciesGathered c.args.entries.now c.args.row.now 0 policies) (sym c.new-policies.ensures.items) (gathered-none c.args.entries.now c.args.row.now);
}

pub own_at-requires : goal.own_at-requires
own_at-requires c = let inside = c.in-Some.ensures.inside in omega (arith, inside, c.requires.inside)

pub overflow_add-from : goal.overflow_add-from
overflow_add-from c =
    let inside = c.in-Some.ensures.inside in
    omega (arith, next-fits c.args.entries.now c.in-Some.part c.requires.entries (omega (arith, inside, c.requires.inside)))

pub loop-part-preserved : goal.loop-part-preserved
loop-part-preserved c =
    let es = c.args.entries.now in
    let row = c.args.row.now in
    let part = c.in-Some.part in
    let more : c.append.new.policies.items ≡ c.loop-part.policies.items ++ own_at es part =
    c.in_ok-append.ensures ∙ ap (λ (own : List ReaderPolicy). c.loop-part.policies.items ++ own) c.own_at.ensures in
    record {
      inside = let inside = c.in-Some.ensures.inside in omega (arith, inside);
      gathered = subst (λ (policies : List ReaderPolicy). ArePoliciesGathered es row (part + 1) policies) (sym more)
          (gathered-more es row c.loop-part.from part c.loop-part.policies.items c.requires.entries c.in-Some.ensures c.loop-part.invariant.gathered);
    }

pub returns : goal.returns
returns c = gathered-all c.args.entries.now c.args.row.now c.loop-part.from c.loop-part.policies.items c.in_default.ensures c.loop-part.invariant.gathered
