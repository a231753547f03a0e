use Rattle.std.proofs.Common.{sym, ap, ◌∙◌}
use Rattle.labels.specs.Entries.{own_of}
use Rattle.labels.proofs.Held.{own-held}
use Rattle.labels.proofs.entries.own_at.Goals as goal

pub returns : goal.returns
returns c =
    c.as_slice.ensures.value ∙ (sym (ap own_of c.index-entries-number.is)
    ∙ sym (own-held c.args.entries.now c.args.number c.index-entries-number.result c.requires c.index-entries-number.is))
