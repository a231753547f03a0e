use Rattle.std.proofs.Common.{◌≡◌, sym, ap, subst, List, get_or, arith}
use Rattle.std.specs.Prelude.{Contains}
use Rattle.std.proofs.lemmas.List.{take_all}
use Rattle.solver.specs.Reach.{edge}
use Rattle.solver.specs.declared.edges.Edge.{Edge}
use Rattle.solver.specs.declared.constraints.Atom.TheVariants.{Written}
use Rattle.solver.proofs.Firsts.{none-more}
use Rattle.solver.proofs.breaker.is_written_before.Goals.{in-Written+else-edge-before, in_default}
use Rattle.solver.proofs.breaker.is_written_before.Goals as goal

abbrev first_edge : Edge
first_edge = record { by = 0; to = Written 0 }

pub loop-edge-preserved : goal.loop-edge-preserved
loop-edge-preserved c =
    none-more c.args.edges.now c.loop-edge.edge-index first_edge c.args.before c.loop-edge-test.true c.loop-edge.invariant
    (elim c.match-edge.branch [
      | in-Written+else-edge-before w ↦ λ by to lt is.
          let same : (get_or c.args.edges.now c.loop-edge.edge-index first_edge).by ≡ by = ap (λ (e : Edge). e.by) is in
          absurd (omega (arith, lt, same, w.if-edge-before.false))
      | in_default w ↦ λ by to lt is. w.in_default.not-Written to (ap (λ (e : Edge). e.to) is)
    ])

pub returns : goal.returns
returns c = λ e by to lt there.
    c.loop-edge.invariant by to lt
    (subst (λ (es : List Edge). Contains es (edge by (Written to))) (sym (take_all c.loop-edge.edge-index c.args.edges.now (omega (arith, c.loop-edge-test.false)))) there)
