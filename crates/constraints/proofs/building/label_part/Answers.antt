use Rattle.std.proofs.Common.{ap, sym, ◌∙◌, ◌<◌, ◌≤◌, length, arith}
use Rattle.std.proofs.lemmas.List.{get_or_past}
use Rattle.constraints.specs.LeftSides.{Written}
use Rattle.constraints.proofs.Tables.{part-there}
use Rattle.constraints.proofs.building.label_part.Goals as goal

pub returns-then-number-len : goal.returns-then-number-len
returns-then-number-len c =
    let labels = c.args.labels.now in
    let past : length labels ≤ c.args.number = omega (arith, c.len.ensures.length, c.if-number-len.true) in
    c.least_part.ensures ∙ ap (λ l. Written l) (sym (get_or_past labels c.args.number _ past))

pub returns : goal.returns
returns c =
    let labels = c.args.labels.now in
    let inside : c.args.number < length labels = omega (arith, c.len.ensures.length, c.if-number-len.false) in
    part-there labels c.args.number inside
