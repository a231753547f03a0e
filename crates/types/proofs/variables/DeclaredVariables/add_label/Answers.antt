use Rattle.types.proofs.LabelNumbers.{same_globals, same_slots}
use Rattle.types.proofs.variables.DeclaredVariables.add_label.Goals as goal

pub returns-clause-more : goal.returns-clause-more
returns-clause-more c =
    let inside = c.self.inside in
    let extended = c.in_ok-add.ensures.extended in
    rw (← c.self.view_is) (record {
      extended = extended;
      few = c.in_ok-add.ensures.few;
      globals = same_globals inside.labels c.add.new.self extended inside.globals.items c.self.invariant.of_globals;
      slots = same_slots inside.labels c.add.new.self extended inside.slots.items c.self.invariant.of_slots;
    })
