use Rattle.std.proofs.Common.{◌≡◌, ◌<◌, length, refl, sym, ◌∙◌, arith}
use Rattle.std.proofs.Math.Path.{fun_ext}
use Rattle.std.proofs.lemmas.Bool.Decides.{nat_tests}
use Rattle.std.proofs.lemmas.List.{nil_from_length}
use Rattle.std.proofs.lemmas.Option.{slice_get_read, slice_get_within}
use Rattle.handlers.proofs.Numbers.{none_find, one_more_none}
use Rattle.handlers.proofs.tables.has_none.Goals as goal

pub loop-procedure-preserved : goal.loop-procedure-preserved
loop-procedure-preserved c =
    let all = c.args.procedures.now in
    let index = c.loop-procedure.procedure-index in
    let item = c.procedure-item.result in
    let few : length c.handlers.result.now ≡ 0 = grind (arith, nat_tests) in
    one_more_none all index item (slice_get_read all (length all) index item refl c.loop-procedure-test.true c.procedure-item.is)
    (sym c.handlers.ensures ∙ nil_from_length c.handlers.result.now few)
    c.loop-procedure.invariant

pub returns : goal.returns
returns c = λ _. fun_ext (none_find c.args.procedures.now (λ k p there. c.loop-procedure.invariant k p (let below : k < length c.args.procedures.now = slice_get_within c.args.procedures.now k p there in omega (arith, below, c.loop-procedure-test.false)) there))
