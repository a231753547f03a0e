use Rattle.std.proofs.lemmas.Result.{err_from_is_err_and}
use Rattle.bytecode.proofs.Loop.{each_goes_on, each_fails}
use Rattle.bytecode.proofs.reading.read_each.Goals as goal

pub returns-in_err-item : goal.returns-in_err-item
returns-in_err-item g c =
    let p = err_from_is_err_and c.from_residual-in_err-item.result c.from_residual-in_err-item.ensures.1 in
    rw (p.1, p.2) (each_fails c.in_err-item.field-0.0 (g.E.Element.reads c.args.element.now) c.args.count c.loop.counter c.loop.items.items c.loop.rest.now _ c.loop-test.true (rw c.deref.ensures.value at c.in_err-item.ensures.gives) c.loop.invariant.goes_on)

pub loop-preserved : goal.loop-preserved
loop-preserved g c = record {
  goes_on = rw (c.push_reserved.ensures.items, c.in_ok-make_room.ensures.same) (each_goes_on (g.E.Element.reads c.args.element.now) c.args.count c.loop.counter c.loop.items.items c.loop.rest.now c.in_ok-item.item c.in_ok-item.after.now _ c.loop-test.true (rw c.deref.ensures.value at c.in_ok-item.ensures.gives) c.loop.invariant.goes_on);
  holds = rw (c.push_reserved.ensures.items, c.in_ok-make_room.ensures.same, ← c.deref.ensures.value) c.in_ok-item.ensures.holds;
}
