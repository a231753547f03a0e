use Rattle.std.proofs.Common.{[], arith, get_or}
use Rattle.std.proofs.lemmas.List.{get_or_default}
use Rattle.std.proofs.lemmas.Result.{err_from_is_err_and}
use Rattle.types.specs.Labels.{principal_finding}
use Rattle.types.proofs.Loops.{starts, collects, collects_wrong, goes_to_end}
use Rattle.types.proofs.label.resolve_readers.Goals as goal

pub loop-name-init : goal.loop-name-init
loop-name-init c = starts _ _ c.args.names.now _ [] c.new-numbers.ensures.items

pub returns-in_err-find_principal : goal.returns-in_err-find_principal
returns-in_err-find_principal c =
    let p = err_from_is_err_and c.from_residual.result c.from_residual.ensures.1 in
    let name = get_or c.args.names.now c.loop-name.name-index _ in
    let is = get_or_default c.args.names.now c.loop-name.name-index _ name c.loop-name-test.true in
    rw (p.1, p.2) (collects_wrong (principal_finding c.args.hierarchy.now) c.loop-name.invariant name c.in_err-find_principal.field-0.0 is c.loop-name-test.true c.in_err-find_principal.ensures)

pub loop-name-preserved : goal.loop-name-preserved
loop-name-preserved c =
    let name = get_or c.args.names.now c.loop-name.name-index _ in
    let is = get_or_default c.args.names.now c.loop-name.name-index _ name c.loop-name-test.true in
    rw c.in_ok-push.ensures.items (collects (principal_finding c.args.hierarchy.now) c.loop-name.invariant name c.in_ok-find_principal.field-0 is c.loop-name-test.true c.in_ok-find_principal.ensures)

pub returns : goal.returns
returns c = goes_to_end c.loop-name.invariant (omega arith)
