use Rattle.std.proofs.Common.{◌≡◌, refl, sym, ap, ◌∙◌, ℕ, [], arith}
use Rattle.std.specs.Prelude.{IsTrue}
use Rattle.std.specs.Option.{option_copied}
use Rattle.labels.specs.Entries.{labels_in, numbers_in, own_at, row_at}
use Rattle.labels.specs.Label.{FlowsTo}
use Rattle.labels.specs.LabelTable.{label_at}
use Rattle.labels.specs.Row.{has}
use Rattle.labels.proofs.Held.{among-none, each-all, each-made, each-more, flows-parts, label-parts, made-flows, made-in_row, made-itself}
use Rattle.labels.proofs.entries.find_uncovered.Goals as goal

pub returns-in-Some-clause-contained : goal.returns-in-Some-clause-contained
returns-in-Some-clause-contained c = (label-parts c.args.entries.now c.args.from _).1 (c.args.from, made-itself c.args.entries.now c.args.from, c.in-Some.ensures.contained)

pub returns-in-Some-clause-none : goal.returns-in-Some-clause-none
returns-in-Some-clause-none c = (
  λ e. absurd (cc),
  λ flow.
      let to = label_at (labels_in c.args.entries.now) c.args.to in
      let own = (flows-parts c.args.hierarchy.now c.args.entries.now c.args.from to).0 flow c.args.from (made-itself c.args.entries.now c.args.from) in
      absurd (let no = c.uncovered_own.ensures.none.1 own in let is = c.in-Some.is in cc),
)

pub returns-in_default-row_at-clause-none : goal.returns-in_default-row_at-clause-none
returns-in_default-row_at-clause-none c = (
  λ e.
      let h = c.args.hierarchy.now in
      let es = c.args.entries.now in
      let to = label_at (labels_in es) c.args.to in
      let P = λ (part : ℕ). FlowsTo h (own_at es part) to in
      let row : row_at es c.args.from ≡ [] = sym c.row_at.ensures ∙ ap (λ o. numbers_in (option_copied o)) c.in_default-row_at.is in
      (flows-parts h es c.args.from to).1 (each-made P es c.args.from [] row (c.uncovered_own.ensures.none.0 c.in_default.is) (among-none P)),
  λ flow. refl,
)

pub returns-in-Some-uncovered_own-clause-contained : goal.returns-in-Some-uncovered_own-clause-contained
returns-in-Some-uncovered_own-clause-contained c =
    let row : row_at c.args.entries.now c.args.from ≡ c.in-Some-row_at.row.now = sym c.row_at.ensures ∙ ap (λ o. numbers_in (option_copied o)) c.in-Some-row_at.is in
    let part = c.in-Some-next_beyond.part in
    (label-parts c.args.entries.now c.args.from _).1
    (part, made-in_row c.args.entries.now c.args.from part c.in-Some-row_at.row.now row c.in-Some-next_beyond.ensures.there, c.in-Some-uncovered_own.ensures.contained)

pub returns-in-Some-uncovered_own-clause-none : goal.returns-in-Some-uncovered_own-clause-none
returns-in-Some-uncovered_own-clause-none c = (
  λ e. absurd (cc),
  λ flow.
      let to = label_at (labels_in c.args.entries.now) c.args.to in
      let row : row_at c.args.entries.now c.args.from ≡ c.in-Some-row_at.row.now = sym c.row_at.ensures ∙ ap (λ o. numbers_in (option_copied o)) c.in-Some-row_at.is in
      let part = c.in-Some-next_beyond.part in
      let made = made-in_row c.args.entries.now c.args.from part c.in-Some-row_at.row.now row c.in-Some-next_beyond.ensures.there in
      let own = (flows-parts c.args.hierarchy.now c.args.entries.now c.args.from to).0 flow part made in
      absurd (let no = c.uncovered_own-in-Some-next_beyond.ensures.none.1 own in let is = c.in-Some-uncovered_own.is in cc),
)

pub loop-part-preserved : goal.loop-part-preserved
loop-part-preserved c =
    let h = c.args.hierarchy.now in
    let es = c.args.entries.now in
    let P = λ (part : ℕ). FlowsTo h (own_at es part) (label_at (labels_in es) c.args.to) in
    let other = numbers_in (option_copied c.row_at-in-loop-part.result) in
    let among : (n : ℕ) → IsTrue (has other n) → P n = λ n held. made-flows h es c.args.to n (made-in_row es c.args.to n other (sym c.row_at-in-loop-part.ensures) held) in
    record {
      inside = let inside = c.in-Some-next_beyond.ensures.inside in omega (arith, inside);
      flow = each-more P c.in-Some-row_at.row.now other c.loop-part.at c.in-Some-next_beyond.part c.in-Some-next_beyond.ensures c.loop-part.invariant.flow among
          (c.uncovered_own-in-Some-next_beyond.ensures.none.0 c.in_default-uncovered_own.is);
    }

pub returns-clause-none : goal.returns-clause-none
returns-clause-none c = (
  λ e.
      let h = c.args.hierarchy.now in
      let es = c.args.entries.now in
      let to = label_at (labels_in es) c.args.to in
      let P = λ (part : ℕ). FlowsTo h (own_at es part) to in
      let row : row_at es c.args.from ≡ c.in-Some-row_at.row.now = sym c.row_at.ensures ∙ ap (λ o. numbers_in (option_copied o)) c.in-Some-row_at.is in
      let other = numbers_in (option_copied c.row_at-in-loop-part.result) in
      let among : (n : ℕ) → IsTrue (has other n) → P n = λ n held. made-flows h es c.args.to n (made-in_row es c.args.to n other (sym c.row_at-in-loop-part.ensures) held) in
      (flows-parts h es c.args.from to).1 (each-made P es c.args.from c.in-Some-row_at.row.now row (c.uncovered_own.ensures.none.0 c.in_default.is)
      (each-all P c.in-Some-row_at.row.now other c.loop-part.at c.in_default-next_beyond.ensures c.loop-part.invariant.flow among)),
  λ flow. refl,
)
