use Rattle.std.proofs.Common.{ap, ◌∙◌, arith}
use Rattle.std.proofs.lemmas.List.{take_all}
use Rattle.solver.specs.Rows.{left_has}
use Rattle.solver.proofs.Comparing.{left-step}
use Rattle.solver.proofs.breaker.left_row.Goals as goal

pub loop-atom-preserved : goal.loop-atom-preserved
loop-atom-preserved c = record {
  count = c.in_ok-add_atom.ensures.count ∙ c.loop-atom.invariant.count;
  members = λ n. left-step c.args.rows.now c.args.left.now c.loop-atom.atom-index n _ _ _ c.loop-atom-test.true (c.loop-atom.invariant.members n) (c.in_ok-add_atom.ensures.members n);
}

pub returns-clause-members : goal.returns-clause-members
returns-clause-members c = λ n.
    c.loop-atom.invariant.members n ∙ ap (λ xs. left_has c.args.rows.now xs n) (take_all c.loop-atom.atom-index c.args.left.now (omega (arith, c.loop-atom-test.false)))
