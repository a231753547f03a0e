use Rattle.std.proofs.Common.{ap, arith, length, ◌∙◌}
use Rattle.solver.specs.Reach.{edge}
use Rattle.solver.specs.declared.constraints.Atom.TheVariants.{Written}
use Rattle.solver.proofs.EdgeCursors.{filled-empty, starts-count}
use Rattle.solver.proofs.edges.cursors_of.Goals as goal

pub returns-clause-empty : goal.returns-clause-empty
returns-clause-empty c = λ part links each.
    let list = c.in_ok-vec.field-0 in
    filled-empty part links (edge 0 (Written 0)) c.args.counts.items c.to_starts-end.new.counts.items c.to_starts-end.result list.items each c.to_starts-end.ensures.starts c.to_starts-end.ensures.end
    (c.in_ok-vec.ensures.items_if_clones_equal (λ y e. e)) (omega (arith, list.small, list.ok.0, list.ok.1))

pub returns-clause-count : goal.returns-clause-count
returns-clause-count c = ap length c.to_starts-end.ensures.starts ∙ starts-count 0 c.args.counts.items
