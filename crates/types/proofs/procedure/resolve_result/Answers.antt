use Rattle.std.proofs.lemmas.Result.{err_from_is_err_and}
use Rattle.types.specs.Finding.{of_option}
use Rattle.types.proofs.Loops.{fails_later}
use Rattle.types.proofs.procedure.resolve_result.Goals as goal

pub returns-in_err-label-in-Value-clause-made : goal.returns-in_err-label-in-Value-clause-made
unfolding of_option
returns-in_err-label-in-Value-clause-made c =
    let p = err_from_is_err_and c.from_residual.result c.from_residual.ensures.1 in
    let fault = c.in_err-label-in-Value.field-0.0 in
    rw (p.1, p.2, c.in-Value.is) (fails_later _ _ fault (fails_later _ _ fault c.in_err-label-in-Value.ensures.made))
