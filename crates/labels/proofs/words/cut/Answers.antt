use Rattle.std.proofs.Common.{refl, arith}
use Rattle.labels.proofs.PieceBits.{cut-none, cut-some}
use Rattle.labels.proofs.words.cut.Goals as goal

pub returns-then-number-words : goal.returns-then-number-words
returns-then-number-words c = cut-none c.args.words.now c.args.number (omega (arith, c.if-number-words.true))

pub returns : goal.returns
returns c = cut-some c.args.words.now _ _ c.args.number c.min.result c.if-number-words.false refl c.min.ensures refl
