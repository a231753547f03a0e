use Rattle.std.proofs.Common.{ap, ◌∙◌}
use Rattle.resolved.specs.Exits.{has_exit}
use Rattle.path_map.specs.Entries.{entry_exits}
use Rattle.path_map.proofs.Kept.{end-found}
use Rattle.path_map.proofs.table.Ends.ends_of.Goals as goal

pub returns : goal.returns
returns c exit =
    c.path_map_of.ensures exit
    ∙ (ap (λ rows. has_exit (entry_exits rows c.index-entry.result.now) exit) c.deref.ensures.value
    ∙ end-found c.self.inside.rows.items c.self.inside.entries.items c.args.self.now c.args.number c.index-entry.result.now c.index-entry.result.now
    c.index-entry.ensures c.self.view_is c.requires exit)
