use Rattle.std.proofs.Common.{sym, ap, ◌∙◌}
use Rattle.labels.specs.Row.{has}
use Rattle.labels.specs.Words.{has_bit}
use Rattle.labels.proofs.RowBits.{bits-all}
use Rattle.labels.proofs.rows.Row.contains.Goals as goal

pub returns : goal.returns
returns c =
    c.has_any_bit.ensures ∙ (ap (λ words. has_bit words c.args.i) c.as_slice.ensures
    ∙ (sym (bits-all c.self.inside.words.items c.self.inside.n c.self.invariant.clear c.args.i) ∙ ap (λ row. has row c.args.i) c.self.view_is))
