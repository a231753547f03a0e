use Rattle.std.proofs.Common.{◌≡◌, refl, sym, ap, ◌∙◌, subst, ◌∷◌, ◌++◌, [], arith, get_or, ◌-◌, ◌≤◌}
use Rattle.solver.specs.Reach.{LeadsOn, nothing_found}
use Rattle.solver.specs.declared.constraints.Atom.TheVariants.{Written}
use Rattle.solver.proofs.Chains.{Walks, walks-start, walks-step, walks-end}
use Rattle.solver.proofs.chain.chain_to.Goals as goal

pub loop-at-init : goal.loop-at-init
loop-at-init c =
    let items : c.push.new.self.items ≡ c.args.last ∷ [] = c.in_ok-push.ensures.items ∙ ap (λ xs. xs ++ c.args.last ∷ []) c.new-chain.ensures.items in
    record {
      inside = c.requires.parent;
      walks = subst (λ xs. Walks c.args.found.now c.args.parent c.args.parent xs c.args.last) (sym items) (walks-start c.args.found.now c.args.parent c.args.last);
    }

pub loop-at-preserved : goal.loop-at-preserved
loop-at-preserved c =
    let x = get_or c.args.found.now (c.loop-at.at - 1) nothing_found in
    let falls : x.parent ≤ c.loop-at.at - 1 = c.requires.falls (c.loop-at.at - 1) (omega (arith, c.loop-at-test.true, c.loop-at.invariant.inside)) in
    record {
      inside = omega (arith, falls, c.loop-at.invariant.inside);
      walks = subst (λ xs. Walks c.args.found.now c.args.parent x.parent xs c.args.last) (sym c.in_ok-push-2.ensures.items)
          (walks-step c.args.found.now c.args.parent c.loop-at.at c.loop-at.chain.items c.args.last x c.loop-at-test.true refl c.loop-at.invariant.walks);
    }

pub returns : goal.returns
returns c = λ edges n to trail end.
    subst (λ xs. LeadsOn edges (Written n) xs c.args.last to) (sym c.reverse.ensures.items)
    (walks-end c.args.found.now c.args.parent c.loop-at.at c.loop-at.chain.items c.args.last (omega (arith, c.loop-at-test.false)) c.loop-at.invariant.walks edges n to trail end)
