use Rattle.std.proofs.Common.{sym, ap, ◌∙◌, length}
use Rattle.labels.proofs.RowBits.{length-bits}
use Rattle.labels.proofs.rows.Row.bound.Goals as goal

pub returns : goal.returns
returns c = sym (ap length (sym c.self.view_is) ∙ length-bits c.self.inside.words.items 0 c.self.inside.n)
