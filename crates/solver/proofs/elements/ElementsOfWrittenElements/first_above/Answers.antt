use Rattle.std.proofs.Common.{◌≡◌, sym, ◌∙◌, ℕ, [], true, arith, ⊎_elim}
use Rattle.std.proofs.lemmas.Bool.{cases_lt}
use Rattle.labels.proofs.Held.{among-none, each-all, each-more}
use Rattle.solver.specs.Broken.{is_below}
use Rattle.solver.proofs.elements.ElementsOfWrittenElements.first_above.Goals as goal

pub loop-number-preserved : goal.loop-number-preserved
loop-number-preserved g c =
    let P = λ (n : ℕ). is_below (g.L.Lattice.order c.args.self.now.lattice.now) c.args.self.now.written.now n c.args.to ≡ true in
    record {
      inside = let inside = c.in-Some.ensures.inside in omega (arith, inside);
      below = each-more P c.args.row.now [] c.loop-number.from c.in-Some.number c.in-Some.ensures c.loop-number.invariant.below (among-none P) (sym c.leq.ensures ∙ c.if-not-leq.false);
    }

pub returns-then-not-leq-clause-first : goal.returns-then-not-leq-clause-first
returns-then-not-leq-clause-first g c =
    let P = λ (n : ℕ). is_below (g.L.Lattice.order c.args.self.now.lattice.now) c.args.self.now.written.now n c.args.to ≡ true in
    record {
      there = c.in-Some.ensures.there;
      fails = sym c.leq.ensures ∙ c.if-not-leq.true;
      before = λ n lt held.
          ⊎_elim (λ before. c.loop-number.invariant.below n before held)
          (λ on. among-none P n (c.in-Some.ensures.before n on lt held))
          (cases_lt n c.loop-number.from);
    }

pub returns-clause-first : goal.returns-clause-first
returns-clause-first g c =
    let P = λ (n : ℕ). is_below (g.L.Lattice.order c.args.self.now.lattice.now) c.args.self.now.written.now n c.args.to ≡ true in
    each-all P c.args.row.now [] c.loop-number.from c.in_default.ensures c.loop-number.invariant.below (among-none P)
