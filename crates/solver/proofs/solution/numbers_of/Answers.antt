use Rattle.std.proofs.Common.{◌≡◌, ◌<◌, ◌∷◌, [], ◌++◌, All, ap, sym, ◌∙◌, append-nil, subst, List, Bool}
use Rattle.std.proofs.lemmas.List.Elements.{All-push}
use Rattle.labels.specs.Row.{has}
use Rattle.solver.specs.Rows.{has_at, reached_by}
use Rattle.solver.specs.Constraints.{rows_with}
use Rattle.solver.proofs.Standing.{has_at-row}
use Rattle.solver.proofs.Values.{rows_with-more, one_row}
use Rattle.solver.proofs.solution.numbers_of.Goals.{then-contains+in_ok-push, else-contains}
use Rattle.solver.proofs.solution.numbers_of.Goals as goal

pub loop-number-preserved : goal.loop-number-preserved
loop-number-preserved c =
    let i = c.loop-number.number in
    let test : c.contains.result ≡ has_at c.args.rows.now c.args.unknown i =
    c.contains.ensures ∙ (ap (λ (r : List Bool). has r i) c.in_ok-row.ensures ∙ has_at-row c.args.rows.now c.args.unknown i) in
    let before = rows_with 0 (reached_by 0 i c.args.rows.now) c.args.unknown in
    let more = rows_with-more c.args.rows.now i c.args.unknown c.contains.result test in
    elim c.if-contains.branch [
      | then-contains+in_ok-push w ↦
          let items : c.if-contains.numbers.items ≡ c.loop-number.numbers.items ++ i ∷ [] = ap (λ v. v.items) w.numbers-is ∙ w.in_ok-push.ensures.items in
          record {
            numbers = items ∙ (ap (λ xs. xs ++ i ∷ []) c.loop-number.invariant.numbers ∙ sym (more ∙ ap (λ t. before ++ one_row i t) w.if-contains.true));
            inside = subst (All (λ number. number < c.args.count)) (sym items)
                (All-push (λ number. number < c.args.count) c.loop-number.numbers.items i c.loop-number.invariant.inside c.loop-number-test.true);
          }
      | else-contains w ↦
          let items : c.if-contains.numbers.items ≡ c.loop-number.numbers.items = ap (λ v. v.items) w.numbers-is in
          record {
            numbers = items ∙ (c.loop-number.invariant.numbers ∙ sym (more ∙ (ap (λ t. before ++ one_row i t) w.if-contains.false ∙ append-nil before)));
            inside = subst (All (λ number. number < c.args.count)) (sym items) c.loop-number.invariant.inside;
          }
    ]
