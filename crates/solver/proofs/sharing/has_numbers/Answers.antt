use Rattle.std.proofs.Common.{sym, ap, ◌∙◌, subst, ◌<◌, List, Bool}
use Rattle.std.proofs.lemmas.List.{get_or_default}
use Rattle.solver.specs.Sharing.{nothing_kept}
use Rattle.solver.specs.declared.sharing.Kept.{Kept}
use Rattle.solver.proofs.Bits.{size, some-size}
use Rattle.solver.proofs.Standing.{whole-bits}
use Rattle.solver.proofs.sharing.has_numbers.Goals as goal

pub returns-in-Whole : goal.returns-in-Whole
returns-in-Whole c = λ some.
    let kept = c.args.kept.now in
    let form = ap (λ (x : Kept). x.form) (sym (get_or_default kept c.args.number c.index-kept-number.result nothing_kept c.requires)) ∙ c.in-Whole.is in
    subst (λ (row : List Bool). 0 < size row) (sym (whole-bits kept c.args.number c.in-Whole.row form))
    (some-size c.in-Whole.row c.first_from.result c.first_from.ensures (sym c.is_some.ensures ∙ some))
