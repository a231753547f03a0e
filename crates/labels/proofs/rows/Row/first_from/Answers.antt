use Rattle.std.proofs.Common.{arith, ap, subst, [], length}
use Rattle.labels.specs.Row.{FirstBeyond}
use Rattle.labels.specs.Words.{FirstNew}
use Rattle.labels.proofs.RowBits.{first-alone}
use Rattle.labels.proofs.rows.Row.first_from.Goals as goal

pub first_bit-requires : goal.first_bit-requires
first_bit-requires c = omega (arith, c.self.invariant.enough, ap length c.as_slice.ensures)

pub returns : goal.returns
returns c =
    let words = c.self.inside.words.items in
    let n = c.self.inside.n in
    let new : FirstNew words [] c.args.from n c.first_bit.result =
    subst (λ xs. FirstNew xs [] c.args.from n c.first_bit.result) c.as_slice.ensures c.first_bit.ensures in
    subst (λ xs. FirstBeyond xs [] c.args.from c.first_bit.result) c.self.view_is
    (first-alone n words c.self.invariant.clear c.args.from c.first_bit.result new)
