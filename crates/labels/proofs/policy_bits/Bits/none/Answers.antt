use Rattle.std.proofs.Common.{◌≡◌, ◌∙◌, subst, length, false, replicate, arith}
use Rattle.std.specs.Prelude.{IfOk}
use Rattle.labels.specs.Comparing.{slots}
use Rattle.labels.proofs.Compared.{start-end}
use Rattle.labels.proofs.policy_bits.Bits.none.Goals as goal

pub returns : goal.returns
returns c =
    let es = c.args.entries.now in
    let all : c.index.result.now ≡ length (slots es) = c.index.ensures ∙ (c.requires.each (length es) c.index.result.now (omega arith) ∙ start-end es) in
    subst (λ n. IfOk c.new.result (λ row. row ≡ replicate n false)) all c.new.ensures
