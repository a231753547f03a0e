use Rattle.std.proofs.Common.{ap, ◌+◌, ◌/◌, replicate, ◌≡◌, ◌∙◌, length}
use Rattle.std.proofs.lemmas.Simd.{length-replicate}
use Rattle.labels.specs.Words.{bits_of, has_bit}
use Rattle.labels.proofs.RowBits.{bits-none}
use Rattle.labels.proofs.WordBits.{bit-zeros}
use Rattle.labels.proofs.rows.Row.new.Goals as goal

pub invariant_of-result : goal.invariant_of-result
invariant_of-result c =
    let is : c.in_ok-words.words.items ≡ replicate (c.args.n / 64 + 1) 0 = c.in_ok-words.ensures in
    record {
      enough = ap length is ∙ length-replicate (c.args.n / 64 + 1) 0;
      clear = λ k ge. ap (λ words. has_bit words k) is ∙ bit-zeros (c.args.n / 64 + 1) k;
    }

pub returns : goal.returns
returns c =
    let is : c.in_ok-words.words.items ≡ replicate (c.args.n / 64 + 1) 0 = c.in_ok-words.ensures in
    ap (λ words. bits_of words 0 c.args.n) is ∙ bits-none (replicate (c.args.n / 64 + 1) 0) 0 c.args.n (bit-zeros (c.args.n / 64 + 1))
