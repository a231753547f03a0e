use Rattle.std.proofs.Common.{subst, length, arith, get_or}
use Rattle.std.proofs.lemmas.List.{take_all}
use Rattle.std.proofs.lemmas.List.Elements.{Contains-get_or}
use Rattle.common.proofs.Elements.{none_in_nil}
use Rattle.solver.specs.Reach.{AllMarked, edge, same}
use Rattle.solver.specs.declared.edges.Edge.{Edge}
use Rattle.solver.specs.declared.constraints.Atom.TheVariants.{Unknown, Written}
use Rattle.solver.proofs.Searching.{all_marked-step, grows-length, grows-marked, grows-through, one-inside}
use Rattle.solver.proofs.search.Search.follow.Goals as goal

first_edge : Edge
first_edge = record { by = 0; to = Written 0 }

pub loop-edge-init : goal.loop-edge-init
loop-edge-init c = record { grows = same; marked = λ by u h. absurd (none_in_nil (edge by (Unknown u)) h) }

pub follow_one-requires : goal.follow_one-requires
unfolding first_edge
follow_one-requires c =
    one-inside c.args.edges.now c.loop-edge.edge-index first_edge (length c.args.self.now.marks.items) (length c.loop-edge.self.marks.items)
    c.loop-edge-test.true c.requires (grows-length c.loop-edge.invariant.grows)

pub loop-edge-preserved : goal.loop-edge-preserved
unfolding first_edge
loop-edge-preserved c =
    let last = get_or c.args.edges.now c.loop-edge.edge-index first_edge in
    record {
      grows = grows-through last (Contains-get_or c.args.edges.now c.loop-edge.edge-index first_edge c.loop-edge-test.true) c.loop-edge.invariant.grows c.in_ok-follow_one.ensures.grows;
      marked = all_marked-step c.args.edges.now c.loop-edge.edge-index first_edge c.loop-edge.self.marks.items c.follow_one.new.self.marks.items c.loop-edge-test.true
          c.loop-edge.invariant.marked (grows-marked c.in_ok-follow_one.ensures.grows) c.in_ok-follow_one.ensures.marked;
    }

pub returns-clause-marked : goal.returns-clause-marked
returns-clause-marked c =
    subst (λ es. AllMarked es c.loop-edge.self.marks.items) (take_all c.loop-edge.edge-index c.args.edges.now (omega (arith, c.loop-edge-test.false))) c.loop-edge.invariant.marked
