use Rattle.std.proofs.Common.{ap, sym, ◌∙◌, arith, ◌<◌, length}
use Rattle.labels.specs.Row.{has}
use Rattle.labels.specs.Words.{has_bit}
use Rattle.labels.proofs.RowBits.{below-bound, bits-at}
use Rattle.labels.proofs.rows.Row.has.Goals as goal

pub has_bit-requires : goal.has_bit-requires
has_bit-requires c =
    let h : c.args.i < c.self.inside.n = below-bound c.self.inside.words.items c.self.inside.n c.args.i c.args.self.now c.self.view_is c.requires in
    omega (arith, h, c.self.invariant.enough, ap length c.as_slice.ensures)

pub returns : goal.returns
returns c =
    let h : c.args.i < c.self.inside.n = below-bound c.self.inside.words.items c.self.inside.n c.args.i c.args.self.now c.self.view_is c.requires in
    c.has_bit.ensures ∙ (ap (λ words. has_bit words c.args.i) c.as_slice.ensures
    ∙ (sym (bits-at c.self.inside.words.items c.self.inside.n c.args.i h) ∙ ap (λ xs. has xs c.args.i) c.self.view_is))
