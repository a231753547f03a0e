use Rattle.std.proofs.Common.{◌≡◌, sym, ap, ◌∙◌, subst, ◌<◌, length, arith, get_or, ℕ, ◌-◌, ◌+◌, false}
use Rattle.std.specs.Prelude.{Contains}
use Rattle.std.proofs.lemmas.List.{length-replicate}
use Rattle.solver.specs.Reach.{edge, nothing_found}
use Rattle.solver.specs.declared.constraints.Atom.TheVariants.{Unknown, Written}
use Rattle.solver.proofs.Searching.{next-inside, next-row, searched-smaller, searched-start, searched-step, searched-trace}
use Rattle.solver.proofs.search.trace.Goals as goal

fewer : (count next : ℕ) → next < count → count - (next + 1) < count - next
fewer count next h = omega arith

pub follow-requires : goal.follow-requires
follow-requires c = λ by u h.
    let marks : length c.in_ok-vec.field-0.items ≡ length c.args.edges.now.unknown =
    ap length (c.in_ok-vec.ensures.items_if_clones_equal (λ y e. e)) ∙ (length-replicate c.len-count.result false ∙ c.len-count.ensures) in
    subst (λ n. u < n) (sym marks) (c.requires.inside (Written c.args.value) by u (subst (λ es. Contains es (edge by (Unknown u))) c.row.ensures h))

pub loop-next-init : goal.loop-next-init
loop-next-init c =
    searched-start c.args.edges.now c.args.value c.follow.new.self.marks.items c.follow.new.self.found.items c.len-count.result c.row.result.now
    c.in_ok-vec.field-0.items c.new.result.items c.len-count.ensures c.row.ensures
    (c.in_ok-vec.ensures.items_if_clones_equal (λ y e. e)) c.new.ensures.items c.in_ok-follow.ensures.grows c.in_ok-follow.ensures.marked

pub row-requires-in-loop-next : goal.row-requires-in-loop-next
row-requires-in-loop-next c =
    next-inside c.args.edges.now c.args.value c.loop-next.search.found.items c.loop-next.next c.index.result.now c.loop-next.invariant.trail c.requires.inside
    (omega (arith, c.loop-next-test.true, c.len.ensures, c.loop-next.search.found.ok.0)) c.index.ensures

pub follow-requires-in-loop-next : goal.follow-requires-in-loop-next
follow-requires-in-loop-next c = λ by u h.
    subst (λ n. u < n) (sym c.loop-next.invariant.inside)
    (c.requires.inside (Unknown (get_or c.loop-next.search.found.items c.loop-next.next nothing_found).unknown) by u (subst (λ es. Contains es (edge by (Unknown u))) (next-row c.args.edges.now c.args.value c.loop-next.search.found.items c.loop-next.next c.index.result.now c.row-in-loop-next.result.now
    c.loop-next.invariant.trail c.requires.inside (omega (arith, c.loop-next-test.true, c.len.ensures, c.loop-next.search.found.ok.0))
    c.index.ensures c.row-in-loop-next.ensures) h))

pub loop-next-smaller : goal.loop-next-smaller
loop-next-smaller c =
    let lt = searched-smaller c.args.edges.now c.args.value c.loop-next.search.marks.items c.loop-next.search.found.items c.loop-next.next c.loop-next.invariant
    (omega (arith, c.loop-next-test.true, c.len.ensures, c.loop-next.search.found.ok.0)) in
    fewer (length c.args.edges.now.unknown) c.loop-next.next lt

pub loop-next-preserved : goal.loop-next-preserved
loop-next-preserved c =
    searched-step c.args.edges.now c.args.value c.loop-next.search.marks.items c.loop-next.search.found.items c.loop-next.next c.row-in-loop-next.result.now
    c.follow-in-loop-next.new.self.marks.items c.follow-in-loop-next.new.self.found.items c.loop-next.invariant (omega (arith, c.loop-next-test.true, c.len.ensures, c.loop-next.search.found.ok.0))
    (next-row c.args.edges.now c.args.value c.loop-next.search.found.items c.loop-next.next c.index.result.now c.row-in-loop-next.result.now
    c.loop-next.invariant.trail c.requires.inside (omega (arith, c.loop-next-test.true, c.len.ensures, c.loop-next.search.found.ok.0))
    c.index.ensures c.row-in-loop-next.ensures) c.in_ok-follow-2.ensures.grows c.in_ok-follow-2.ensures.marked

pub returns : goal.returns
returns c =
    searched-trace c.args.edges.now c.args.value c.loop-next.search.marks.items c.loop-next.search.found.items c.loop-next.next c.loop-next.invariant
    (omega (arith, c.loop-next-test.false, c.len.ensures, c.loop-next.search.found.ok.0))
