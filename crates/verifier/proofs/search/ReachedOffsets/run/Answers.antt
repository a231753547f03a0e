use Rattle.std.proofs.Common.{◌≡◌, [], length, ap, subst, sym, ◌∙◌, arith}
use Rattle.std.specs.Prelude.{IfNone}
use Rattle.verifier.specs.Search.{IsSearching, IsSearchingNext, count}
use Rattle.verifier.specs.Depth.{IsGreatestDepth}
use Rattle.verifier.proofs.Depth.{run_greatest}
use Rattle.verifier.proofs.Reaching.{search_finished, table_same, waiting_kept}
use Rattle.verifier.proofs.search.ReachedOffsets.run.Goals as goal

pub look-requires-clause-searching : goal.look-requires-clause-searching
look-requires-clause-searching g c = (subst (IsSearchingNext c.args.body.now.program.now c.args.body.now.procedure.now c.loop-next.self) c.in-Some.is c.loop-next.invariant.next).0

pub look-requires-clause-there : goal.look-requires-clause-there
look-requires-clause-there g c = (subst (IsSearchingNext c.args.body.now.program.now c.args.body.now.procedure.now c.loop-next.self) c.in-Some.is c.loop-next.invariant.next).1.0

pub look-requires-clause-listed : goal.look-requires-clause-listed
look-requires-clause-listed g c = (subst (IsSearchingNext c.args.body.now.program.now c.args.body.now.procedure.now c.loop-next.self) c.in-Some.is c.loop-next.invariant.next).1.1

pub look-requires-clause-room : goal.look-requires-clause-room
look-requires-clause-room g c = omega (arith, c.loop-next.invariant.room, ap count c.in-Some.is)

pub loop-next-preserved : goal.loop-next-preserved
loop-next-preserved g c =
    let m = c.args.body.now.program.now in
    let p = c.args.body.now.procedure.now in
    let taken = c.take_next-next-in-Some.ensures in
    let looked = c.in_ok-after.ensures in
    record {
      next = taken.next m p looked.next;
      last = taken.none;
      waiting = waiting_kept p c.look.new.coverage c.look.new.self c.take_next-next-in-Some.new.self (λ offset kinds has. table_same p c.look.new.self c.take_next-next-in-Some.new.self taken.operands taken.shapes offset ∙ has) looked.waiting;
      room = omega (arith, c.loop-next.invariant.room, ap count c.in-Some.is, looked.left, looked.few, ap length taken.operands, taken.left);
    }

pub returns-clause-accepted : goal.returns-clause-accepted
returns-clause-accepted g c =
    search_finished c.args.body.now.program.now c.args.body.now.procedure.now c.loop-next.self
    (subst (IsSearchingNext c.args.body.now.program.now c.args.body.now.procedure.now c.loop-next.self) c.in_default.is c.loop-next.invariant.next)
    (subst (λ o. IfNone o (c.loop-next.self.work ≡ [])) c.in_default.is c.loop-next.invariant.last)

pub returns-clause-longest : goal.returns-clause-longest
returns-clause-longest g c = (subst (IsSearchingNext c.args.body.now.program.now c.args.body.now.procedure.now c.loop-next.self) c.in_default.is c.loop-next.invariant.next).longest.there

pub returns-clause-depth : goal.returns-clause-depth
returns-clause-depth g c =
    let m = c.args.body.now.program.now in
    let p = c.args.body.now.procedure.now in
    let g : IsSearching m p c.loop-next.self [] = subst (IsSearchingNext m p c.loop-next.self) c.in_default.is c.loop-next.invariant.next in
    subst (IsGreatestDepth m p) (sym g.longest.depth)
    (run_greatest m p c.loop-next.self g (subst (λ o. IfNone o (c.loop-next.self.work ≡ [])) c.in_default.is c.loop-next.invariant.last))
