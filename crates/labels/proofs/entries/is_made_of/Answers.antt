use Rattle.std.proofs.Common.{◌≡◌, refl, sym, ap, ◌∙◌, nat_eq, false, []}
use Rattle.std.specs.Option.{option_copied}
use Rattle.std.proofs.lemmas.Bool.{ne_eqb}
use Rattle.labels.specs.Entries.{numbers_in, row_at}
use Rattle.labels.proofs.entries.is_made_of.Goals as goal

pub returns-in-None : goal.returns-in-None
returns-in-None c =
    let apart : nat_eq c.args.part c.args.label ≡ false = ne_eqb c.args.part c.args.label c.if-part-label.false in
    let row : row_at c.args.entries.now c.args.label ≡ [] = sym c.row_at.ensures ∙ ap (λ o. numbers_in (option_copied o)) c.in-None.is in
    rw (apart, row) refl

pub returns-in-Some : goal.returns-in-Some
returns-in-Some c =
    let apart : nat_eq c.args.part c.args.label ≡ false = ne_eqb c.args.part c.args.label c.if-part-label.false in
    let row : row_at c.args.entries.now c.args.label ≡ c.in-Some.row.now = sym c.row_at.ensures ∙ ap (λ o. numbers_in (option_copied o)) c.in-Some.is in
    rw (apart, row) c.contains.ensures
