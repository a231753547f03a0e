use Rattle.std.proofs.Common.{◌≡◌, refl, sym, ap, ◌∙◌, []}
use Rattle.std.specs.Prelude.{IsTrue}
use Rattle.std.specs.Option.{option_copied}
use Rattle.labels.specs.Entries.{numbers_in, row_at}
use Rattle.labels.specs.Row.{has}
use Rattle.labels.proofs.Compared.{among-all, included}
use Rattle.labels.proofs.Held.{among-none}
use Rattle.labels.proofs.under.Under.includes.Goals as goal

pub returns-in-None : goal.returns-in-None
returns-in-None c = λ _.
    let es = c.args.self.now.entries.now in
    let row : row_at es c.args.label ≡ [] = sym c.row_at.ensures ∙ ap (λ o. numbers_in (option_copied o)) c.in-None.is in
    included es c.args.to c.args.label [] (row_at es c.args.to) row refl (sym c.is_made_of.ensures ∙ c.if-not-is_made_of.false)
    (among-none (λ part. IsTrue (has (row_at es c.args.to) part)))

pub returns-in-None-next_beyond : goal.returns-in-None-next_beyond
returns-in-None-next_beyond c = λ _.
    let es = c.args.self.now.entries.now in
    let row : row_at es c.args.label ≡ c.in-Some.row.now = sym c.row_at.ensures ∙ ap (λ o. numbers_in (option_copied o)) c.in-Some.is in
    let other = numbers_in (option_copied c.row_at-in-Some.result) in
    included es c.args.to c.args.label c.in-Some.row.now other row (sym c.row_at-in-Some.ensures) (sym c.is_made_of.ensures ∙ c.if-not-is_made_of.false)
    (among-all c.in-Some.row.now other c.in-None-next_beyond.ensures)
