use Rattle.std.proofs.Common.{◌≡◌, refl, sym, ap, ◌∙◌, subst, length, arith, None, Some}
use Rattle.lattices.specs.Constraints.{IsRefusedAt}
use Rattle.solver.specs.Breaker.{IsFirstBreaker}
use Rattle.solver.specs.Broken.{is_below, written_at}
use Rattle.solver.specs.Rows.{reached_by}
use Rattle.solver.specs.Constraints.{IsSolution, Solved, constraints_of}
use Rattle.solver.specs.Looks.{AreLooks}
use Rattle.solver.proofs.Working.{looks-last, solved}
use Rattle.solver.proofs.Solved.{are-edges, breaks-along, refused-by, rights-inside, solved-fits, solved-least, unknowns-inside}
use Rattle.solver.proofs.Values.{length-reached_by}
use Rattle.solver.proofs.solving.solve_by_numbers.Goals as goal

-- the edges are those of the constraints, and as many as there are written elements and unknowns
pub rows_of-requires-clause-edges : goal.rows_of-requires-clause-edges
rows_of-requires-clause-edges g c = are-edges c.args.constraints.now c.in_ok-edges.edges c.in_ok-edges.ensures.written c.in_ok-edges.ensures.unknown

pub rows_of-requires-clause-range : goal.rows_of-requires-clause-range
rows_of-requires-clause-range g c =
    let count : length c.in_ok-edges.edges.written ≡ length (g.W.WrittenElements.elements c.args.written.now) = omega (arith, c.in_ok-edges.ensures.written_count, c.len-count.ensures) in
    rw (count, c.in_ok-edges.ensures.unknown_count) c.requires

pub returns-in-None-clause-accepted : goal.returns-in-None-clause-accepted
returns-in-None-clause-accepted g c =
    let l = g.W.WrittenElements.order c.args.written.now in
    let table = g.W.WrittenElements.elements c.args.written.now in
    let cs = c.args.constraints.now in
    let rows = c.in_ok-reached.reached.rows in
    let edges = are-edges cs c.in_ok-edges.edges c.in_ok-edges.ensures.written c.in_ok-edges.ensures.unknown in
    let first : IsFirstBreaker (is_below l table) (length table) rows cs None = rw c.in-None.is at c.in_ok-first_breaker.ensures in
    let is : c.of.result ≡ solved (reached_by 0 (length table) rows) c.in_ok-reached.reached.looks = c.of.ensures ∙ ap (λ n. solved (reached_by 0 n rows) c.in_ok-reached.reached.looks) c.len-count.ensures in
    subst (λ (solution : Solved). IsSolution l table cs solution) (sym is) (record {
      rows = length-reached_by 0 (length table) rows;
      fits = solved-fits l c.keep_laws.ensures table cs c.in_ok-edges.edges edges c.args.unknowns c.requires rows c.in_ok-reached.ensures.rows first;
      least = solved-least l c.keep_laws.ensures table cs c.in_ok-edges.edges edges c.args.unknowns c.requires rows c.in_ok-reached.ensures.rows;
    })

pub returns-in-None-clause-looks : goal.returns-in-None-clause-looks
returns-in-None-clause-looks g c =
    let cs = c.args.constraints.now in
    let table = g.W.WrittenElements.elements c.args.written.now in
    let count : length c.in_ok-edges.edges.written ≡ length table = omega (arith, c.in_ok-edges.ensures.written_count, c.len-count.ensures) in
    subst (λ (solution : Solved). AreLooks (length table) cs solution.looks) (sym c.of.ensures)
    (looks-last (length table) cs c.in_ok-edges.edges c.in_ok-reached.reached.rows c.in_ok-reached.reached.looks count c.in_ok-reached.ensures.looks)

pub find_refusal-requires-clause-inside : goal.find_refusal-requires-clause-inside
find_refusal-requires-clause-inside g c =
    let edges = are-edges c.args.constraints.now c.in_ok-edges.edges c.in_ok-edges.ensures.written c.in_ok-edges.ensures.unknown in
    unknowns-inside c.args.constraints.now c.in_ok-edges.edges edges (length (g.W.WrittenElements.elements c.args.written.now)) c.args.unknowns c.requires c.in_ok-edges.ensures.unknown_count

pub find_refusal-requires-clause-rights : goal.find_refusal-requires-clause-rights
find_refusal-requires-clause-rights g c =
    let edges = are-edges c.args.constraints.now c.in_ok-edges.edges c.in_ok-edges.ensures.written c.in_ok-edges.ensures.unknown in
    let count = length (g.W.WrittenElements.elements c.args.written.now) in
    rights-inside c.args.constraints.now c.in_ok-edges.edges edges count c.args.unknowns c.requires count refl

pub find_refusal-requires-clause-breaks : goal.find_refusal-requires-clause-breaks
find_refusal-requires-clause-breaks g c =
    let l = g.W.WrittenElements.order c.args.written.now in
    let table = g.W.WrittenElements.elements c.args.written.now in
    let cs = c.args.constraints.now in
    let rows = c.in_ok-reached.reached.rows in
    let edges = are-edges cs c.in_ok-edges.edges c.in_ok-edges.ensures.written c.in_ok-edges.ensures.unknown in
    let first : IsFirstBreaker (is_below l table) (length table) rows cs (Some c.in-Some.value) = rw c.in-Some.is at c.in_ok-first_breaker.ensures in (
      first.index,
      breaks-along l c.keep_laws.ensures table cs c.in_ok-edges.edges edges c.args.unknowns c.requires rows c.in_ok-reached.ensures.rows c.in-Some.value first.index first.breaks,
    )

pub returns-clause-rejected : goal.returns-clause-rejected
returns-clause-rejected g c =
    let l = g.W.WrittenElements.order c.args.written.now in
    let table = g.W.WrittenElements.elements c.args.written.now in
    let cs = c.args.constraints.now in
    let rows = c.in_ok-reached.reached.rows in
    let edges = are-edges cs c.in_ok-edges.edges c.in_ok-edges.ensures.written c.in_ok-edges.ensures.unknown in
    let first : IsFirstBreaker (is_below l table) (length table) rows cs (Some c.in-Some.value) = rw c.in-Some.is at c.in_ok-first_breaker.ensures in
    let refused = refused-by l c.keep_laws.ensures table cs c.in_ok-edges.edges edges c.args.unknowns c.requires rows c.in_ok-reached.ensures.rows c.in-Some.value first
    c.in_ok-refusal-in-Some.refusal.chain.items c.in_ok-refusal-in-Some.ensures.chain in
    record {
      chain = refused.picked;
      last = refused.last;
      picked = refused.picks;
      refused = subst (λ n. IsRefusedAt l (constraints_of l table cs) (written_at l table n) refused.picked refused.last) (sym c.in_ok-refusal-in-Some.ensures.from) refused.refused;
    }
