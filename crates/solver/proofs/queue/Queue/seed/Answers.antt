use Rattle.solver.proofs.Comparing.{slice_get-inside}
use Rattle.solver.proofs.Queued.{right-unknown, right-written, seeded-more, seeds-none, seeds-one}
use Rattle.std.proofs.Common.{arith}
use Rattle.solver.specs.Queue.{order_in}
use Rattle.solver.proofs.queue.Queue.seed.Goals as goal

pub returns-in-Unknown-clause-seeded : goal.returns-in-Unknown-clause-seeded
returns-in-Unknown-clause-seeded g c =
    seeded-more c.args.constraints.now c.args.self.now.waits.items (order_in c.args.self.now.order) c.args.by c.add.new.self.waits.items (order_in c.add.new.self.order)
    (omega (arith, c.if-by-constraints.false, c.requires.count)) (right-unknown c.args.constraints.now c.args.by _ c.in-Unknown.field-0 c.if-by-constraints.false c.in-Unknown.is)
    c.requires c.in_ok-add.ensures.waits c.in_ok-add.ensures.order

pub returns-in-Unknown-clause-kept : goal.returns-in-Unknown-clause-kept
returns-in-Unknown-clause-kept g c =
    seeds-one c.args.constraints.now c.args.self.now.waits.items c.args.by c.add.new.self.waits.items
    (omega (arith, c.if-by-constraints.false, c.requires.count)) c.in_ok-add.ensures.waits

pub returns-clause-kept : goal.returns-clause-kept
returns-clause-kept g c = seeds-none c.args.constraints.now c.args.self.now.waits.items c.args.by (λ r. right-written c.args.constraints.now c.args.by _ c.in_default.field-0 c.in_default.is r)

pub returns-then-by-constraints-clause-kept : goal.returns-then-by-constraints-clause-kept
returns-then-by-constraints-clause-kept g c =
    seeds-none c.args.constraints.now c.args.self.now.waits.items c.args.by
    (λ r. let inside = slice_get-inside c.args.constraints.now c.args.by r.constraint r.at in omega (arith, inside, c.if-by-constraints.true))
