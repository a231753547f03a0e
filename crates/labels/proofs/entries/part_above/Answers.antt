use Rattle.std.proofs.Common.{◌≡◌, sym, ℕ, ap, ◌∙◌, [], arith}
use Rattle.std.specs.Option.{option_copied}
use Rattle.labels.specs.Entries.{numbers_in, own_at, row_at}
use Rattle.labels.specs.Label.{Covers}
use Rattle.labels.proofs.Held.{among-none, each-all, each-made, each-more, made-in_row, made-itself, next-fits, none-covered, part-inside, some-covered}
use Rattle.labels.proofs.entries.part_above.Goals as goal

pub returns-then-flows_to_some-clause-some : goal.returns-then-flows_to_some-clause-some
returns-then-flows_to_some-clause-some c = (
  made-itself c.args.entries.now c.args.label,
  some-covered c.args.hierarchy.now c.own_at.result.now (own_at c.args.entries.now c.args.label) c.args.policy.now c.flows_to_some.result c.own_at.ensures c.flows_to_some.ensures c.if-flows_to_some.true,
)

pub returns-in_default-clause-none : goal.returns-in_default-clause-none
returns-in_default-clause-none c = λ _ part made some.
    let row : row_at c.args.entries.now c.args.label ≡ [] = sym c.row_at.ensures ∙ ap (λ o. numbers_in (option_copied o)) c.in_default.is in
    let P = λ (part : ℕ). ¬ Covers c.args.hierarchy.now (own_at c.args.entries.now part) c.args.policy.now in
    absurd (each-made P c.args.entries.now c.args.label [] row
    (none-covered c.args.hierarchy.now c.own_at.result.now (own_at c.args.entries.now c.args.label) c.args.policy.now c.flows_to_some.result c.own_at.ensures c.flows_to_some.ensures c.if-flows_to_some.false)
    (among-none P) part made some)

pub own_at-requires-in-Some-first_from : goal.own_at-requires-in-Some-first_from
own_at-requires-in-Some-first_from c =
    let row : row_at c.args.entries.now c.args.label ≡ c.in-Some.row.now = sym c.row_at.ensures ∙ ap (λ o. numbers_in (option_copied o)) c.in-Some.is in
    part-inside c.args.entries.now c.args.label c.in-Some-first_from.part c.in-Some.row.now c.requires.entries c.requires.inside row c.in-Some-first_from.ensures.inside

pub returns-then-flows_to_some-2-clause-some : goal.returns-then-flows_to_some-2-clause-some
returns-then-flows_to_some-2-clause-some c =
    let row : row_at c.args.entries.now c.args.label ≡ c.in-Some.row.now = sym c.row_at.ensures ∙ ap (λ o. numbers_in (option_copied o)) c.in-Some.is in
    let part = c.in-Some-first_from.part in (
      made-in_row c.args.entries.now c.args.label part c.in-Some.row.now row c.in-Some-first_from.ensures.there,
      some-covered c.args.hierarchy.now c.own_at-in-Some-first_from.result.now (own_at c.args.entries.now part) c.args.policy.now c.flows_to_some-in-Some-first_from.result c.own_at-in-Some-first_from.ensures
          c.flows_to_some-in-Some-first_from.ensures c.if-flows_to_some-2.true,
    )

pub overflow_add-from : goal.overflow_add-from
overflow_add-from c =
    let row : row_at c.args.entries.now c.args.label ≡ c.in-Some.row.now = sym c.row_at.ensures ∙ ap (λ o. numbers_in (option_copied o)) c.in-Some.is in
    omega (
      arith,
      next-fits c.args.entries.now c.in-Some-first_from.part c.requires.entries
          (part-inside c.args.entries.now c.args.label c.in-Some-first_from.part c.in-Some.row.now c.requires.entries c.requires.inside row c.in-Some-first_from.ensures.inside),
    )

pub loop-part-preserved : goal.loop-part-preserved
loop-part-preserved c =
    let P = λ (part : ℕ). ¬ Covers c.args.hierarchy.now (own_at c.args.entries.now part) c.args.policy.now in
    let part = c.in-Some-first_from.part in
    record {
      inside = let inside = c.in-Some-first_from.ensures.inside in omega (arith, inside);
      none = each-more P c.in-Some.row.now [] c.loop-part.from part c.in-Some-first_from.ensures c.loop-part.invariant.none (among-none P)
          (none-covered c.args.hierarchy.now c.own_at-in-Some-first_from.result.now (own_at c.args.entries.now part) c.args.policy.now c.flows_to_some-in-Some-first_from.result
          c.own_at-in-Some-first_from.ensures c.flows_to_some-in-Some-first_from.ensures c.if-flows_to_some-2.false);
    }

pub returns-clause-none : goal.returns-clause-none
returns-clause-none c = λ _ part made some.
    let row : row_at c.args.entries.now c.args.label ≡ c.in-Some.row.now = sym c.row_at.ensures ∙ ap (λ o. numbers_in (option_copied o)) c.in-Some.is in
    let P = λ (part : ℕ). ¬ Covers c.args.hierarchy.now (own_at c.args.entries.now part) c.args.policy.now in
    absurd (each-made P c.args.entries.now c.args.label c.in-Some.row.now row
    (none-covered c.args.hierarchy.now c.own_at.result.now (own_at c.args.entries.now c.args.label) c.args.policy.now c.flows_to_some.result c.own_at.ensures c.flows_to_some.ensures c.if-flows_to_some.false)
    (each-all P c.in-Some.row.now [] c.loop-part.from c.in_default-first_from.ensures c.loop-part.invariant.none (among-none P)) part made some)
