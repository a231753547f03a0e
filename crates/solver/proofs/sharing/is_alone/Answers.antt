use Rattle.std.proofs.Common.{sym, ap, ◌∙◌, subst, ℕ, List, Bool, ◌≡◌}
use Rattle.std.specs.Prelude.{◌==◌}
use Rattle.std.proofs.lemmas.List.{get_or_default}
use Rattle.labels.specs.Row.{has}
use Rattle.solver.specs.Sharing.{nothing_kept}
use Rattle.solver.specs.declared.sharing.Kept.{Kept}
use Rattle.solver.proofs.Standing.{whole-bits}
use Rattle.solver.proofs.sharing.is_alone.Goals as goal

pub returns-in-Whole : goal.returns-in-Whole
returns-in-Whole c = λ alone.
    let kept = c.args.kept.now in
    let form = ap (λ (x : Kept). x.form) (sym (get_or_default kept c.args.number c.index-kept-number.result nothing_kept c.requires)) ∙ c.in-Whole.is in
    subst (λ (row : List Bool). (n : ℕ) → has row n ≡ (n == c.args.only)) (sym (whole-bits kept c.args.number c.in-Whole.row form)) (c.has_only.ensures alone)
