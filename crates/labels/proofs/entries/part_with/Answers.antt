use Rattle.std.proofs.Common.{◌≡◌, sym, ap, ◌∙◌, subst, List, arith}
use Rattle.std.specs.Prelude.{Contains}
use Rattle.std.specs.Option.{option_copied}
use Rattle.labels.specs.Entries.{numbers_in, row_at}
use Rattle.labels.specs.Label.{ReaderPolicy}
use Rattle.labels.proofs.Held.{made-in_row, made-itself, next-fits, part-inside}
use Rattle.labels.proofs.entries.part_with.Goals as goal

pub returns-then-is_among : goal.returns-then-is_among
returns-then-is_among c = (
  made-itself c.args.entries.now c.args.label,
  subst (λ (policies : List ReaderPolicy). Contains policies c.args.policy.now) c.own_at.ensures (c.is_among.ensures c.if-is_among.true),
)

pub own_at-requires-in-Some-first_from : goal.own_at-requires-in-Some-first_from
own_at-requires-in-Some-first_from c =
    let row : row_at c.args.entries.now c.args.label ≡ c.in-Some.row.now = sym c.row_at.ensures ∙ ap (λ o. numbers_in (option_copied o)) c.in-Some.is in
    part-inside c.args.entries.now c.args.label c.in-Some-first_from.part c.in-Some.row.now c.requires.entries c.requires.inside row c.in-Some-first_from.ensures.inside

pub returns-then-is_among-2 : goal.returns-then-is_among-2
returns-then-is_among-2 c =
    let row : row_at c.args.entries.now c.args.label ≡ c.in-Some.row.now = sym c.row_at.ensures ∙ ap (λ o. numbers_in (option_copied o)) c.in-Some.is in (
      made-in_row c.args.entries.now c.args.label c.in-Some-first_from.part c.in-Some.row.now row c.in-Some-first_from.ensures.there,
      subst (λ (policies : List ReaderPolicy). Contains policies c.args.policy.now) c.own_at-in-Some-first_from.ensures (c.is_among-in-Some-first_from.ensures c.if-is_among-2.true),
    )

pub overflow_add-from : goal.overflow_add-from
overflow_add-from c =
    let row : row_at c.args.entries.now c.args.label ≡ c.in-Some.row.now = sym c.row_at.ensures ∙ ap (λ o. numbers_in (option_copied o)) c.in-Some.is in
    omega (
      arith,
      next-fits c.args.entries.now c.in-Some-first_from.part c.requires.entries
          (part-inside c.args.entries.now c.args.label c.in-Some-first_from.part c.in-Some.row.now c.requires.entries c.requires.inside row c.in-Some-first_from.ensures.inside),
    )

pub loop-part-preserved : goal.loop-part-preserved
loop-part-preserved c = let inside = c.in-Some-first_from.ensures.inside in omega (arith, inside)
