use Rattle.solver.specs.Breaker.{IsFirstOf, PartBreaks}
use Rattle.solver.specs.Broken.{is_below}
use Rattle.solver.specs.Rows.{has_at}
use Rattle.solver.specs.declared.constraints.Atom.TheVariants.{Unknown}
use Rattle.solver.proofs.breaker.first_by_unknown.Given as goal

abbrev pub invariant-loop-unknown : goal.invariant-loop-unknown
invariant-loop-unknown g l = record {
  comparing : g.W.WrittenElements.compares l.written l.comparing;
  first : IsFirstOf (PartBreaks l.edges (is_below (g.W.WrittenElements.order l.written) (g.W.WrittenElements.elements l.written)) Unknown (has_at l.rows) l.unknown) l.before l.first;
}
