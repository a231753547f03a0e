use Rattle.std.specs.Prelude.{◌==◌}
use Rattle.solver.specs.Breaker.{IsFirstOf, PartBreaks}
use Rattle.solver.specs.Broken.{is_below}
use Rattle.solver.specs.declared.constraints.Atom.TheVariants.{Written}
use Rattle.solver.proofs.breaker.first_by_written.Given as goal

abbrev pub invariant-loop-number : goal.invariant-loop-number
invariant-loop-number g l = record {
  comparing : g.W.WrittenElements.compares l.written l.comparing;
  first : IsFirstOf (PartBreaks l.edges (is_below (g.W.WrittenElements.order l.written) (g.W.WrittenElements.elements l.written)) Written (λ k n. n == k) l.number) l.before l.first;
}
