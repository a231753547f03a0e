use Rattle.std.proofs.Common.{◌<◌, ◌≤◌, length, get_or, refl, subst, ◌∙◌, ap}
use Rattle.resolved.specs.Program.{GlobalEntry}
use Rattle.resolved.specs.ProgramOf.{global_entry}
use Rattle.constraints.proofs.Tables.{label-past, label-there}
use Rattle.constraints.proofs.table.Table.global.Goals as goal

pub returns-in-None : goal.returns-in-None
returns-in-None c =
    label-past c.args.self.now.core.now.labels (global_entry c.args.self.now.core.now.labels) (λ (entry : GlobalEntry). entry.label) c.args.self.now.core.now.globals.items c.args.variable _ c.args.self.now.nothing
    (subst (λ list. length list ≤ c.args.variable) c.deref.ensures.value c.in-None.ensures.lookup.3) refl c.args.self.now.are.nothing_is

pub returns-in-Some : goal.returns-in-Some
returns-in-Some c =
    let entry = c.in-Some.entry.now in
    label-there c.args.self.now.core.now.labels (global_entry c.args.self.now.core.now.labels) (λ (entry : GlobalEntry). entry.label) c.args.self.now.core.now.globals.items c.args.variable entry _ _
    (subst (λ list. c.args.variable < length list) c.deref.ensures.value c.in-Some.ensures.lookup.3.0)
    (c.in-Some.ensures.lookup.1 ∙ ap (λ list. get_or list c.args.variable entry) c.deref.ensures.value)
    c.label_part.ensures
