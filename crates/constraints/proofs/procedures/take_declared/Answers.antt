use Rattle.std.proofs.Common.{get_or, map, refl, subst, arith, ◌∙◌, ◌+◌, ◌<◌, length}
use Rattle.std.proofs.lemmas.List.{get_or_default, take_all}
use Rattle.resolved.specs.ProgramOf.{thrown_entry}
use Rattle.resolved.specs.declared.tables.Thrown.{Thrown}
use Rattle.constraints.specs.Procedures.{AreDeclaredExitUnknowns}
use Rattle.constraints.specs.ExitUnknowns.{no_entry}
use Rattle.constraints.proofs.Declared.{declared-next, level-free}
use Rattle.constraints.proofs.Ready.{held-at}
use Rattle.constraints.proofs.SavedEntries.{width-kept}
use Rattle.constraints.proofs.procedures.take_declared.Goals as goal

pub take-requires : goal.take-requires
take-requires c =
    let none : Thrown = record { exception = 0; label = 0 } in
    let x : Thrown = get_or c.args.throws.now c.loop-i.i none in
    let inside = held-at (λ (declared : Thrown). declared.exception < length c.args.thrown.now.items) c.args.throws.now c.loop-i.i x c.requires.inside
    c.loop-i-test.true (get_or_default c.args.throws.now c.loop-i.i none x c.loop-i-test.true) in
    omega (arith, inside, c.loop-i.invariant.wide)

pub loop-i-preserved : goal.loop-i-preserved
loop-i-preserved c = record {
  wide = width-kept c.loop-i.saved.items c.take.new.saved.items c.loop-i.thrown.items c.take.new.thrown.items c.in_ok-take.ensures.undone ∙ c.loop-i.invariant.wide;
  taken = λ labels barrier below within e.
      let i = c.loop-i.i in
      let none : Thrown = record { exception = 0; label = 0 } in
      let x : Thrown = get_or c.args.throws.now i none in
      let old = get_or c.args.thrown.now.items e no_entry in
      declared-next labels c.args.throws.now i x c.args.number (c.args.number + i) c.args.level e _ _ old
      c.loop-i-test.true (get_or_default c.args.throws.now i none x c.loop-i-test.true) refl (level-free barrier c.args.level old below (within e))
      (c.loop-i.invariant.taken labels barrier below within e) (c.in_ok-take.ensures.taken e);
}

pub returns-clause-taken : goal.returns-clause-taken
returns-clause-taken c = λ labels barrier below within.
    subst (λ list. AreDeclaredExitUnknowns (map (thrown_entry labels) list) c.args.number c.args.level c.args.thrown.now.items c.loop-i.thrown.items)
    (take_all c.loop-i.i c.args.throws.now (omega (arith, c.loop-i-test.false))) (c.loop-i.invariant.taken labels barrier below within)
