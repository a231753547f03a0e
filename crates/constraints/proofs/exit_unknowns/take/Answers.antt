use Rattle.std.proofs.Common.{refl, ap, ◌∙◌, get_or}
use Rattle.constraints.specs.ExitUnknowns.{no_entry}
use Rattle.constraints.proofs.SavedEntries.{undone-more}
use Rattle.constraints.proofs.exit_unknowns.take.Goals as goal

pub returns-clause-undone : goal.returns-clause-undone
returns-clause-undone c =
    undone-more c.args.saved.now.items c.push.new.self.items (record { exception = c.args.exception; entry = c.entry_in-old.result }) c.args.thrown.now.items _ c.args.entry no_entry
    c.in_ok-push.ensures.items refl
    (c.entry_in-old.ensures ∙ ap (λ list. get_or list c.args.exception no_entry) c.deref.ensures.value)
