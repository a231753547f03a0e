use Rattle.std.proofs.Common.{subst}
use Rattle.labels.specs.Row.{FirstBeyond}
use Rattle.labels.specs.Words.{FirstNew, bits_of}
use Rattle.labels.proofs.RowBits.{first-beyond}
use Rattle.labels.proofs.rows.Row.first_beyond.Goals as goal

pub returns : goal.returns
returns c =
    let words = c.self.inside.words.items in
    let others = c.other.inside.words.items in
    let n = c.self.inside.n in
    let m = c.other.inside.n in
    let new : FirstNew words others c.args.from n c.first_new.result =
    subst (λ xs. FirstNew xs others c.args.from n c.first_new.result) c.as_slice.ensures
    (subst (λ xs. FirstNew c.as_slice.result.now xs c.args.from n c.first_new.result) c.as_slice-2.ensures c.first_new.ensures) in
    subst (λ xs. FirstBeyond xs c.args.other.now c.args.from c.first_new.result) c.self.view_is
    (subst (λ xs. FirstBeyond (bits_of words 0 n) xs c.args.from c.first_new.result) c.other.view_is
    (first-beyond n m words others c.args.from c.first_new.result c.self.invariant.clear c.other.invariant.clear new))
