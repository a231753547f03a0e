use Rattle.std.proofs.Common.{ap, ◌∙◌, get_or, map}
use Rattle.std.proofs.lemmas.List.{get_or_default, take_all}
use Rattle.constraints.specs.LeftSides.{Written}
use Rattle.resolved.specs.Program.{ThrownEntry}
use Rattle.resolved.specs.ProgramOf.{thrown_entry}
use Rattle.resolved.specs.declared.tables.Thrown.{Thrown}
use Rattle.constraints.proofs.Tables.{exceptions-next, labels-next}
use Rattle.constraints.proofs.building.thrown_labels.Goals as goal

pub loop-thrown-preserved : goal.loop-thrown-preserved
loop-thrown-preserved c =
    let i = c.loop-thrown.thrown-index in
    let throws = c.args.throws.now in
    let none : Thrown = record { exception = 0; label = 0 } in
    let thrown : Thrown = get_or throws i none in
    let is = get_or_default throws i none thrown c.loop-thrown-test.true in
    record {
      exceptions = exceptions-next throws i thrown c.loop-thrown.found.items _ c.label_part.result
          c.loop-thrown-test.true is c.in_ok-push.ensures.items c.loop-thrown.invariant.exceptions;
      meaning = labels-next c.args.labels.now throws i thrown c.loop-thrown.found.items _ c.label_part.result
          c.loop-thrown-test.true is c.in_ok-push.ensures.items c.loop-thrown.invariant.meaning c.label_part.ensures;
    }

pub returns-clause-meaning : goal.returns-clause-meaning
returns-clause-meaning c =
    c.loop-thrown.invariant.meaning
    ∙ ap (λ throws. map (λ (entry : ThrownEntry). Written entry.label) (map (thrown_entry c.args.labels.now) throws))
    (take_all c.loop-thrown.thrown-index c.args.throws.now c.loop-thrown-test.false)
