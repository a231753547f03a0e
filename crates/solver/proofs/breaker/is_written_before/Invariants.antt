use Rattle.std.proofs.Common.{◌<◌, take, ℕ}
use Rattle.std.specs.Prelude.{Contains}
use Rattle.solver.specs.Reach.{edge}
use Rattle.solver.specs.declared.constraints.Atom.TheVariants.{Written}
use Rattle.solver.proofs.breaker.is_written_before.Given as goal

abbrev pub invariant-loop-edge : goal.invariant-loop-edge
invariant-loop-edge l = (by to : ℕ) → by < l.before → Contains (take l.edge-index l.edges) (edge by (Written to)) → ⊥
