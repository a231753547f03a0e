use Rattle.std.proofs.Common.{◌+◌, ◌∙◌, ◌<◌, length, arith, refl}
use Rattle.resolved.specs.declared.statement.Handler.{Handler}
use Rattle.constraints.proofs.Ready.{held-at}
use Rattle.constraints.proofs.SavedEntries.{width-kept}
use Rattle.constraints.proofs.Taken.{taken-next}
use Rattle.constraints.proofs.exit_unknowns.take_handled.Goals as goal

pub loop-i-preserved : goal.loop-i-preserved
loop-i-preserved c = record {
  undone = c.in_ok-take.ensures.undone ∙ c.loop-i.invariant.undone;
  taken = λ x. taken-next c.args.handlers.now c.loop-i.i c.index-handlers-i.result c.args.first c.args.level (c.args.first + c.loop-i.i) x _ _ _
      c.loop-i-test.true c.index-handlers-i.is refl (c.loop-i.invariant.taken x) (c.in_ok-take.ensures.taken x);
}

pub take-requires : goal.take-requires
take-requires c =
    let inside = held-at (λ (handler : Handler). handler.exception < length c.args.thrown.now.items) c.args.handlers.now c.loop-i.i c.index-handlers-i.result c.requires.inside
    c.loop-i-test.true c.index-handlers-i.is in
    omega (arith, inside, width-kept c.args.saved.now.items c.loop-i.saved.items c.args.thrown.now.items c.loop-i.thrown.items c.loop-i.invariant.undone)
