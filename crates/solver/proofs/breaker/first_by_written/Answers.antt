use Rattle.std.proofs.Common.{subst}
use Rattle.std.specs.Prelude.{Contains, ◌==◌}
use Rattle.solver.specs.Broken.{is_below}
use Rattle.solver.specs.Reach.{edge}
use Rattle.solver.specs.declared.constraints.Atom.TheVariants.{Written}
use Rattle.solver.proofs.Firsts.{part-skip, part-step}
use Rattle.solver.proofs.breaker.first_by_written.Goals as goal

pub loop-number-preserved-then-not-is_written_before :
    goal.loop-number-preserved-then-not-is_written_before
loop-number-preserved-then-not-is_written_before g c =
    let n = c.loop-number.number in
    record {
      comparing = c.loop-number.invariant.comparing;
      first = part-skip c.args.edges.now (is_below (g.W.WrittenElements.order c.args.written.now) (g.W.WrittenElements.elements c.args.written.now)) Written (λ k m. m == k) n c.row-own.result.now
          c.args.before c.loop-number.first c.row-own.ensures c.loop-number.invariant.first (c.is_written_before.ensures c.if-not-is_written_before.true);
    }

pub first_by_row-requires-clause-inside : goal.first_by_row-requires-clause-inside
first_by_row-requires-clause-inside g c = λ by m h.
    let n = c.loop-number.number in
    c.requires.inside (Written n) by m (subst (λ es. Contains es (edge by (Written m))) c.row-own.ensures h)

pub loop-number-preserved : goal.loop-number-preserved
loop-number-preserved g c =
    let n = c.loop-number.number in
    record {
      comparing = c.first_by_row.ensures.comparing;
      first = part-step c.args.edges.now (is_below (g.W.WrittenElements.order c.args.written.now) (g.W.WrittenElements.elements c.args.written.now)) Written (λ k m. m == k) n c.in_ok-row.row c.row-own.result.now
          c.args.before c.loop-number.first c.in_ok-first.first c.in_ok-row.ensures.members c.row-own.ensures c.loop-number.invariant.first c.in_ok-first.ensures.first;
    }
