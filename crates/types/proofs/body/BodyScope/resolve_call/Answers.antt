use Rattle.std.proofs.Common.{◌≡◌, length, map, sym, ◌∙◌, arith}
use Rattle.std.proofs.lemmas.List.{length-map}
use Rattle.std.proofs.lemmas.Result.{err_from_is_err_and}
use Rattle.syntax.specs.Tree.{call_tree, expression_tree}
use Rattle.types.specs.Views.{expressions_of, names_of, signatures_of}
use Rattle.types.proofs.Calls.{call_found, call_wrong}
use Rattle.types.proofs.body.BodyScope.resolve_call.Goals as goal

pub returns-in_err-arguments : goal.returns-in_err-arguments
returns-in_err-arguments c =
    let p = err_from_is_err_and c.from_residual-in_err-arguments.result c.from_residual-in_err-arguments.ensures.1 in
    let tree = call_tree c.args.written.now in
    let counted : length c.signature-value.result.0.now ≡ length tree.1 =
    omega (arith, c.if-parameters-written.false, length-map c.args.written.now.arguments.now expression_tree) in
    rw (p.1, p.2) (call_wrong (signatures_of c.args.self.now) (names_of c.args.self.now) tree.0 tree.1 c.in_ok-number.number c.signature-value.result.0.now
    c.in_ok-number.ensures c.signature-value.ensures.parameters counted c.in_err-arguments.field-0.0 c.in_err-arguments.ensures)

pub returns : goal.returns
returns c =
    let tree = call_tree c.args.written.now in
    let counted : length c.signature-value.result.0.now ≡ length tree.1 =
    omega (arith, c.if-parameters-written.false, length-map c.args.written.now.arguments.now expression_tree) in
    call_found (signatures_of c.args.self.now) (names_of c.args.self.now) tree.0 tree.1 c.in_ok-number.number c.signature-value.result.0.now
    c.in_ok-number.ensures c.signature-value.ensures.parameters counted (expressions_of c.in_ok-arguments.arguments) c.signature-value.result.1 c.signature-value.ensures.value
    c.in_ok-arguments.ensures
