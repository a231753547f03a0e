use Rattle.std.proofs.Common.{Some, arith, length, sym, ap, subst, ◌∙◌}
use Rattle.verifier.specs.Search.{IsAtEdge}
use Rattle.verifier.proofs.Reaching.{edge_caught, steps_more, waiting_less, waiting_same, all_entered}
use Rattle.verifier.proofs.search.ReachedOffsets.enter_all.Goals as goal

pub reach-requires-clause-edge : goal.reach-requires-clause-edge
reach-requires-clause-edge c =
    let v = c.loop-handler.invariant in
    let h = c.in-Some.handler in
    let t = c.requires.there in
    subst (IsAtEdge c.args.body.now.program.now c.args.body.now.procedure.now c.loop-handler.self c.args.at h.target) (sym v.steps.searching.root.1)
    (edge_caught c.args.body.now.program.now c.args.body.now.procedure.now c.loop-handler.self c.args.at t.kinds t.instruction h (v.steps.keeps c.args.at t.kinds t.has) t.there (v.waiting.real h c.in-Some.ensures.waited) c.in-Some.ensures.start c.in-Some.ensures.end)

pub reach-requires-clause-deep : goal.reach-requires-clause-deep
reach-requires-clause-deep c = omega (arith, ap length c.loop-handler.invariant.steps.searching.root.1)

pub number_at-requires-clause-boundary : goal.number_at-requires-clause-boundary
number_at-requires-clause-boundary c = c.requires.boundaries.caught c.in-Some.handler (c.loop-handler.invariant.waiting.real c.in-Some.handler c.in-Some.ensures.waited)

pub loop-handler-preserved : goal.loop-handler-preserved
loop-handler-preserved c =
    let v = c.loop-handler.invariant in
    let took = c.in-Some.ensures in
    let flowed = c.in_ok-reach.ensures.accepted in
    record {
      steps = steps_more c.args.body.now.program.now c.args.body.now.procedure.now c.args.self.now c.loop-handler.self c.reach.new.self c.args.at c.in-Some.handler.target 0 v.steps flowed;
      waiting = waiting_less c.args.body.now.procedure.now c.loop-handler.coverage c.take.new.self c.loop-handler.self c.reach.new.self c.in-Some.handler v.waiting took.coverage took.within took.rest flowed.keeps (flowed.arrives ∙ ap Some v.steps.searching.root.1);
    }

pub returns-clause-accepted : goal.returns-clause-accepted
returns-clause-accepted c =
    let v = c.loop-handler.invariant in
    let none = c.in_default.ensures in
    record {
      steps = v.steps;
      waiting = waiting_same c.args.body.now.procedure.now c.loop-handler.coverage c.take.new.self c.loop-handler.self v.waiting none.coverage none.within none.kept;
      caught = all_entered c.args.body.now.procedure.now c.loop-handler.coverage c.loop-handler.self c.args.at v.waiting none.none;
    }
