use Rattle.std.proofs.Common.{ap, ◌∙◌, sym, subst, get_or, append-nil}
use Rattle.std.specs.Prelude.{Contains}
use Rattle.solver.specs.Broken.{candidates, earliest, is_below}
use Rattle.solver.specs.Reach.{edge, nothing_found, row_of}
use Rattle.solver.specs.declared.constraints.Atom.TheVariants.{Unknown, Written}
use Rattle.solver.proofs.Breaking.{found_step}
use Rattle.solver.proofs.broken.earlier_of_value.Goals as goal

pub earlier_of_edges-best-requires-clause-inside : goal.earlier_of_edges-best-requires-clause-inside
earlier_of_edges-best-requires-clause-inside g c = λ by n h.
    c.requires.inside (Written c.args.value) by n (subst (λ es. Contains es (edge by (Written n))) c.row-row.ensures h)

pub loop-k-init : goal.loop-k-init
loop-k-init g c =
    let below = is_below (g.W.WrittenElements.order c.args.written.now) (g.W.WrittenElements.elements c.args.written.now) in
    c.earlier_of_edges-best.ensures
    ∙ ap (earliest c.args.best)
    (ap (candidates below c.args.value 0) c.row-row.ensures ∙ sym (append-nil (candidates below c.args.value 0 (row_of c.args.edges.now (Written c.args.value)))))

pub earlier_of_edges-best-requires-in-loop-k-clause-inside :
    goal.earlier_of_edges-best-requires-in-loop-k-clause-inside
earlier_of_edges-best-requires-in-loop-k-clause-inside g c = λ by n h.
    let u = (get_or c.args.found.now c.loop-k.k nothing_found).unknown in
    c.requires.inside (Unknown u) by n (subst (λ es. Contains es (edge by (Written n))) c.row-row-in-loop-k.ensures h)

pub loop-k-preserved : goal.loop-k-preserved
loop-k-preserved g c =
    let below = is_below (g.W.WrittenElements.order c.args.written.now) (g.W.WrittenElements.elements c.args.written.now) in
    let u = (get_or c.args.found.now c.loop-k.k nothing_found).unknown in
    found_step below c.args.value c.args.edges.now c.args.found.now c.loop-k.k nothing_found c.row-row-in-loop-k.result.now c.args.best
    (candidates below c.args.value 0 (row_of c.args.edges.now (Written c.args.value))) c.loop-k.best c.earlier_of_edges-best-in-loop-k.result c.loop-k-test.true c.row-row-in-loop-k.ensures
    c.loop-k.invariant c.earlier_of_edges-best-in-loop-k.ensures
