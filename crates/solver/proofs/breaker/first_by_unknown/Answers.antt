use Rattle.std.proofs.Common.{subst}
use Rattle.std.specs.Prelude.{Contains}
use Rattle.solver.specs.Broken.{is_below}
use Rattle.solver.specs.Reach.{edge}
use Rattle.solver.specs.Rows.{has_at}
use Rattle.solver.specs.declared.constraints.Atom.TheVariants.{Unknown, Written}
use Rattle.solver.proofs.Firsts.{part-skip, part-step}
use Rattle.solver.proofs.breaker.first_by_unknown.Goals as goal

pub loop-unknown-preserved-then-not-is_written_before :
    goal.loop-unknown-preserved-then-not-is_written_before
loop-unknown-preserved-then-not-is_written_before g c =
    let u = c.loop-unknown.unknown in
    record {
      comparing = c.loop-unknown.invariant.comparing;
      first = part-skip c.args.edges.now (is_below (g.W.WrittenElements.order c.args.written.now) (g.W.WrittenElements.elements c.args.written.now)) Unknown (has_at c.args.rows.now) u c.row-own.result.now
          c.args.before c.loop-unknown.first c.row-own.ensures c.loop-unknown.invariant.first (c.is_written_before.ensures c.if-not-is_written_before.true);
    }

pub first_by_row-requires-clause-inside : goal.first_by_row-requires-clause-inside
first_by_row-requires-clause-inside g c = λ by n h.
    let u = c.loop-unknown.unknown in
    c.requires.inside (Unknown u) by n (subst (λ es. Contains es (edge by (Written n))) c.row-own.ensures h)

pub loop-unknown-preserved : goal.loop-unknown-preserved
loop-unknown-preserved g c =
    let u = c.loop-unknown.unknown in
    record {
      comparing = c.first_by_row.ensures.comparing;
      first = part-step c.args.edges.now (is_below (g.W.WrittenElements.order c.args.written.now) (g.W.WrittenElements.elements c.args.written.now)) Unknown (has_at c.args.rows.now) u c.in_ok-row.row c.row-own.result.now
          c.args.before c.loop-unknown.first c.in_ok-first.first c.in_ok-row.ensures.members c.row-own.ensures c.loop-unknown.invariant.first c.in_ok-first.ensures.first;
    }
