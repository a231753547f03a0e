use Rattle.std.proofs.Common.{sym, ap, ◌∙◌}
use Rattle.labels.specs.Entries.{numbers_in, row_of}
use Rattle.labels.proofs.Held.{row-held}
use Rattle.labels.proofs.entries.row_at.Goals as goal

pub returns : goal.returns
returns c =
    ap numbers_in c.as_ref.ensures.value ∙ (sym (ap row_of c.index-entries-number.is)
    ∙ sym (row-held c.args.entries.now c.args.number c.index-entries-number.result c.requires c.index-entries-number.is))
