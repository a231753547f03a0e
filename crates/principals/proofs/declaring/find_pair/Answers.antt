use Rattle.std.proofs.lemmas.Result.{err_from_is_err_and}
use Rattle.common.proofs.Cases.{contained_at}
use Rattle.lexer.specs.Terminal.{terminal_of}
use Rattle.principals.specs.Reading.{UnknownLeft, UnknownRight}
use Rattle.principals.specs.Table.{names_of}
use Rattle.principals.proofs.declaring.find_pair.Goals as goal

pub returns-in_err-first-clause-rejected : goal.returns-in_err-first-clause-rejected
returns-in_err-first-clause-rejected c =
    let p = err_from_is_err_and c.from_residual.result c.from_residual.ensures.1 in
    let u = c.in_err-first.ensures.unknown in
    rw (p.1, p.2, u.0) (UnknownLeft (terminal_of c.args.left.now) (terminal_of c.args.right.now) u.1)

pub returns-in_err-second-clause-rejected : goal.returns-in_err-second-clause-rejected
returns-in_err-second-clause-rejected c =
    let p = err_from_is_err_and c.from_residual-in_err-second.result c.from_residual-in_err-second.ensures.1 in
    let u = c.in_err-second.ensures.unknown in
    rw (p.1, p.2, u.0) (UnknownRight (terminal_of c.args.left.now) (terminal_of c.args.right.now)
    (contained_at (names_of c.args.names.now) c.in_ok-first.first c.args.left.now.text.now c.in_ok-first.ensures.found) u.1)
