use Rattle.std.proofs.Common.{sym, ap, subst, ◌∷◌, []}
use Rattle.std.specs.Prelude.{Contains}
use Rattle.common.proofs.Elements.{Contains-first}
use Rattle.solver.specs.Reach.{AllMarked, Grows, edge, same}
use Rattle.solver.specs.declared.edges.Edge.{Edge}
use Rattle.solver.proofs.Searching.{one-grows, one-marked}
use Rattle.solver.proofs.search.Search.follow_one.Goals as goal

pub find-requires : goal.find-requires
find-requires c =
    c.requires c.args.edge.by c.in-Unknown.unknown
    (subst (λ x. Contains (c.args.edge ∷ []) x) (ap (edge c.args.edge.by) c.in-Unknown.is) (Contains-first c.args.edge []))

pub returns-in-Unknown-clause-grows : goal.returns-in-Unknown-clause-grows
returns-in-Unknown-clause-grows c =
    let inside = c.requires c.args.edge.by c.in-Unknown.unknown (subst (λ x. Contains (c.args.edge ∷ []) x) (ap (edge c.args.edge.by) c.in-Unknown.is) (Contains-first c.args.edge [])) in
    subst (λ (x : Edge). Grows (x ∷ []) c.args.parent c.args.self.now.marks.items c.args.self.now.found.items c.find.new.self.marks.items c.find.new.self.found.items)
    (sym (ap (edge c.args.edge.by) c.in-Unknown.is))
    (one-grows c.args.edge.by c.in-Unknown.unknown c.args.parent c.args.self.now.marks.items c.args.self.now.found.items
    c.find.new.self.marks.items c.find.new.self.found.items inside c.in_ok-find.ensures.marks c.in_ok-find.ensures.found)

pub returns-in-Unknown-clause-marked : goal.returns-in-Unknown-clause-marked
returns-in-Unknown-clause-marked c =
    let inside = c.requires c.args.edge.by c.in-Unknown.unknown (subst (λ x. Contains (c.args.edge ∷ []) x) (ap (edge c.args.edge.by) c.in-Unknown.is) (Contains-first c.args.edge [])) in
    subst (λ (x : Edge). AllMarked (x ∷ []) c.find.new.self.marks.items)
    (sym (ap (edge c.args.edge.by) c.in-Unknown.is))
    (one-marked c.args.edge.by c.in-Unknown.unknown c.args.parent c.args.self.now.marks.items c.args.self.now.found.items
    c.find.new.self.marks.items c.find.new.self.found.items inside c.in_ok-find.ensures.marks c.in_ok-find.ensures.found)

pub returns-clause-grows : goal.returns-clause-grows
returns-clause-grows c = same
