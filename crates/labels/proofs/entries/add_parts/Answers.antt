use Rattle.std.proofs.Common.{◌≡◌, sym, ap, ◌∙◌, ◌||◌, length, arith, [], true}
use Rattle.std.specs.Option.{option_copied}
use Rattle.std.proofs.lemmas.List.{length-set}
use Rattle.labels.specs.Entries.{numbers_in, row_at}
use Rattle.labels.specs.Row.{has}
use Rattle.labels.proofs.Held.{part-added, parts-added}
use Rattle.labels.proofs.entries.add_parts.Goals as goal

pub include_in-requires : goal.include_in-requires
include_in-requires c =
    let row : row_at c.args.entries.now c.args.label ≡ c.in-Some.more.now = sym c.row_at.ensures ∙ ap (λ o. numbers_in (option_copied o)) c.in-Some.is in
    let short = c.requires.entries.short c.args.label in
    let count = ap length c.set.ensures in
    let same = length-set c.args.row.now c.args.label true in
    omega (arith, ap length row, short, c.requires.room, count, same)

pub returns-in-Some-clause-parts : goal.returns-in-Some-clause-parts
returns-in-Some-clause-parts c = λ part.
    let row : row_at c.args.entries.now c.args.label ≡ c.in-Some.more.now = sym c.row_at.ensures ∙ ap (λ o. numbers_in (option_copied o)) c.in-Some.is in
    parts-added c.args.entries.now c.args.label part c.args.row.now c.in-Some.more.now c.include_in.new.row c.requires.room row
    (c.include_in.ensures.members part ∙ ap (λ r. has r part || has c.in-Some.more.now part) c.set.ensures)

pub returns-in-None-clause-parts : goal.returns-in-None-clause-parts
returns-in-None-clause-parts c = λ part.
    let row : row_at c.args.entries.now c.args.label ≡ [] = sym c.row_at.ensures ∙ ap (λ o. numbers_in (option_copied o)) c.in-None.is in
    ap (λ r. has r part) c.set.ensures ∙ part-added c.args.entries.now c.args.label part c.args.row.now c.requires.room row
