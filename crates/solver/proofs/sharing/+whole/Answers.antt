use Rattle.std.proofs.Common.{◌≡◌, ap, sym, ◌∙◌, List, Bool}
use Rattle.std.proofs.lemmas.List.{get_or_default}
use Rattle.std.proofs.lemmas.Result.{IfOk-weaker}
use Rattle.solver.specs.Sharing.{bits_of, nothing_kept}
use Rattle.solver.specs.declared.sharing.RowForm.TheVariants.{Whole}
use Rattle.solver.specs.declared.sharing.Kept.{Kept}
use Rattle.solver.proofs.Standing.{bits-form}
use Rattle.solver.proofs.sharing.+whole.Goals as goal

pub returns-in-Whole : goal.returns-in-Whole
returns-in-Whole t c =
    let kept = c.args.kept.now in
    let number = c.args.number in
    let form = ap (λ (x : Kept). x.form) (sym (get_or_default kept number c.index-kept-number.result nothing_kept c.requires.number)) ∙ c.in-Whole.is in
    IfOk-weaker c.copy.result (λ (row : List Bool). row ≡ c.in-Whole.row) (λ (row : List Bool). row ≡ bits_of kept number) (λ row is. is ∙ sym (bits-form kept c.requires.forms number c.requires.number (Whole c.in-Whole.row) form)) c.copy.ensures
