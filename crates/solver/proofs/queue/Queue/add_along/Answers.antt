use Rattle.std.proofs.Common.{sym, ap, subst, [], ◌∷◌}
use Rattle.std.specs.Prelude.{Contains}
use Rattle.common.proofs.Elements.{Contains-first}
use Rattle.solver.specs.Queue.{Added, order_in}
use Rattle.solver.specs.Reach.{edge}
use Rattle.solver.specs.declared.edges.Edge.{Edge}
use Rattle.solver.proofs.Queued.{added-one, added-written}
use Rattle.solver.proofs.queue.Queue.add_along.Goals as goal

pub add-requires : goal.add-requires
add-requires c =
    c.requires c.args.edge.by c.in-Unknown.field-0
    (subst (λ x. Contains (c.args.edge ∷ []) x) (ap (edge c.args.edge.by) c.in-Unknown.is) (Contains-first c.args.edge []))

pub returns-in-Unknown : goal.returns-in-Unknown
returns-in-Unknown c =
    let inside = c.requires c.args.edge.by c.in-Unknown.field-0 (subst (λ x. Contains (c.args.edge ∷ []) x) (ap (edge c.args.edge.by) c.in-Unknown.is) (Contains-first c.args.edge [])) in
    subst (λ (x : Edge). Added (x ∷ []) c.args.self.now.waits.items (order_in c.args.self.now.order) c.add.new.self.waits.items (order_in c.add.new.self.order))
    (sym (ap (edge c.args.edge.by) c.in-Unknown.is))
    (added-one c.args.edge.by c.in-Unknown.field-0 c.args.self.now.waits.items (order_in c.args.self.now.order) c.add.new.self.waits.items (order_in c.add.new.self.order)
    inside c.in_ok-add.ensures.waits c.in_ok-add.ensures.order)

pub returns : goal.returns
returns c =
    subst (λ (x : Edge). Added (x ∷ []) c.args.self.now.waits.items (order_in c.args.self.now.order) c.args.self.now.waits.items (order_in c.args.self.now.order))
    (sym (ap (edge c.args.edge.by) c.in_default.is))
    (added-written c.args.edge.by c.in_default.field-0 c.args.self.now.waits.items (order_in c.args.self.now.order))
