use Rattle.std.proofs.Common.{sym, ap, ◌∙◌}
use Rattle.std.proofs.lemmas.Bool.{eqb-true}
use Rattle.std.proofs.lemmas.List.{get_or_default}
use Rattle.solver.specs.Sharing.{nothing_kept}
use Rattle.solver.specs.declared.sharing.Kept.{Kept}
use Rattle.solver.proofs.Standing.{none-long, whole-bits}
use Rattle.solver.proofs.sharing.is_below_zero.Goals as goal

pub returns-in-Whole : goal.returns-in-Whole
returns-in-Whole c = λ zero.
    let kept = c.args.kept.now in
    let form = ap (λ (x : Kept). x.form) (sym (get_or_default kept c.args.number c.index-kept-number.result nothing_kept c.requires)) ∙ c.in-Whole.is in
    whole-bits kept c.args.number c.in-Whole.row form ∙ none-long c.in-Whole.row (sym c.bound.ensures ∙ eqb-true c.bound.result 0 zero)
