use Rattle.std.proofs.Common.{◌≡◌, ◌∙◌, ℕ, ap, not, subst}
use Rattle.std.specs.Prelude.{◌==◌}
use Rattle.labels.specs.Row.{has}
use Rattle.solver.proofs.Alone.{none-beyond, only-one}
use Rattle.solver.proofs.sharing.has_only.Goals as goal

pub returns : goal.returns
returns c = λ none.
    let row = c.args.row.now in
    subst (λ k. (n : ℕ) → has row n ≡ (n == k)) c.if-first-only.false
    (only-one row c.in-Some.first c.in-Some.ensures (none-beyond row _ c.first_from-2.result c.first_from-2.ensures (c.is_none.ensures ∙ ap not none)))
