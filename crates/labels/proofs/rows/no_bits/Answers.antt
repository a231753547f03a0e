use Rattle.std.proofs.Common.{arith, replicate, ap, ◌∙◌}
use Rattle.std.proofs.lemmas.List.{take-replicate}
use Rattle.labels.proofs.rows.no_bits.Goals as goal

-- src/rows.rt:48:1
pub returns : goal.returns
returns c = record { zeros = take-replicate c.min.result 64 0 (omega (arith, c.min.ensures)) ∙ ap (λ n. replicate n 0) c.min.ensures }
