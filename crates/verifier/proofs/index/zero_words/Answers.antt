use Rattle.std.proofs.Common.{rules, ap, replicate, ◌≡◌, ◌∙◌}
use Rattle.labels.specs.Words.{has_bit}
use Rattle.labels.proofs.WordBits.{bit-zeros}
use Rattle.verifier.proofs.index.zero_words.Goals as goal

pub returns-then-count-le-FEW-clause-zero : goal.returns-then-count-le-FEW-clause-zero
returns-then-count-le-FEW-clause-zero c = λ at. ap (λ l. has_bit l at) c.from_buf.ensures.items ∙ bit-zeros 7 at

pub returns-clause-zero : goal.returns-clause-zero
returns-clause-zero c =
    let is : c.from_vec.result.items ≡ replicate c.args.count 0 = search rules in
    λ at. ap (λ l. has_bit l at) is ∙ bit-zeros c.args.count at
