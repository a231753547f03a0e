use Rattle.std.proofs.Common.{refl, length, arith}
use Rattle.std.proofs.lemmas.Result.{IfOk-weaker}
use Rattle.solver.specs.Broken.{is_below}
use Rattle.solver.proofs.Firsts.{breaker-first, no-breaker}
use Rattle.solver.proofs.Solved.{rights-inside}
use Rattle.solver.proofs.breaker.first_breaker.Goals as goal

pub first_by_unknown-requires-clause-inside : goal.first_by_unknown-requires-clause-inside
first_by_unknown-requires-clause-inside g c =
    let count = length (g.W.WrittenElements.elements c.args.written.now) in
    rights-inside c.args.constraints.now c.args.edges.now c.requires.edges count (length c.args.rows.now) c.requires.range count refl

pub first_by_written-requires-clause-inside : goal.first_by_written-requires-clause-inside
first_by_written-requires-clause-inside g c =
    let count = length (g.W.WrittenElements.elements c.args.written.now) in
    rights-inside c.args.constraints.now c.args.edges.now c.requires.edges count (length c.args.rows.now) c.requires.range count refl

pub returns-then-first-constraints : goal.returns-then-first-constraints
returns-then-first-constraints g c =
    no-breaker (is_below (g.W.WrittenElements.order c.args.written.now) (g.W.WrittenElements.elements c.args.written.now)) (length (g.W.WrittenElements.elements c.args.written.now)) c.args.rows.now
    c.args.constraints.now c.args.edges.now c.requires.edges c.requires.sized c.requires.written c.in_ok-first.first c.in_ok-first-2.first
    c.in_ok-first.ensures.first c.in_ok-first-2.ensures.first c.if-first-constraints.true

pub returns : goal.returns
returns g c =
    IfOk-weaker c.breaker_of.result _ _
    (λ found breaks. breaker-first (is_below (g.W.WrittenElements.order c.args.written.now) (g.W.WrittenElements.elements c.args.written.now)) (length (g.W.WrittenElements.elements c.args.written.now)) c.args.rows.now
    c.args.constraints.now c.args.edges.now c.requires.edges c.requires.sized c.requires.written c.in_ok-first.first c.in_ok-first-2.first
    c.in_ok-first.ensures.first c.in_ok-first-2.ensures.first c.index-constraints-first.result found (omega (arith, c.if-first-constraints.false)) c.index-constraints-first.is breaks)
    c.breaker_of.ensures.breaker
