use Rattle.std.proofs.Common.{◌+◌, ◌∙◌, ap, sym, subst, arith, get_or}
use Rattle.std.proofs.lemmas.List.{get_or_default}
use Rattle.std.proofs.lemmas.Result.{err_from_is_err_and}
use Rattle.common.specs.Answers.{IfRefused}
use Rattle.syntax.specs.Tree.{thrown_tree}
use Rattle.types.specs.Finding.{IsRefusalOf}
use Rattle.types.specs.Resolution.{next_thrown}
use Rattle.types.specs.Views.{throws_view}
use Rattle.types.proofs.LabelNumbers.{more_through}
use Rattle.types.proofs.Loops.{goes_further, goes_wrong}
use Rattle.types.proofs.Procedures.{same_scope}
use Rattle.types.proofs.procedure.resolve_throws.Goals as goal

pub returns-in_err-add_thrown-clause-made : goal.returns-in_err-add_thrown-clause-made
returns-in_err-add_thrown-clause-made c =
    let p = err_from_is_err_and c.from_residual.result c.from_residual.ensures.1 in
    let now = c.loop-one.variables in
    let scope = same_scope c.args.context.now c.args.variables.now now c.loop-one.invariant.more.globals in
    let one = get_or c.args.written.now c.loop-one.one-index _ in
    let is = get_or_default c.args.written.now c.loop-one.one-index _ one c.loop-one-test.true in
    rw (p.1, p.2) (goes_wrong c.loop-one.invariant.on one c.in_err-add_thrown.field-0.0 is c.loop-one-test.true
    (subst (λ place. IfRefused (IsRefusalOf (next_thrown place (throws_view now.labels c.loop-one.throws) (thrown_tree one))) c.in_err-add_thrown.field-0.0) scope c.in_err-add_thrown.ensures.made))

pub loop-one-preserved : goal.loop-one-preserved
loop-one-preserved c =
    let now = c.loop-one.variables in
    let after = c.add_thrown.new.variables in
    let scope = same_scope c.args.context.now c.args.variables.now now c.loop-one.invariant.more.globals in
    let one = get_or c.args.written.now c.loop-one.one-index _ in
    let is = get_or_default c.args.written.now c.loop-one.one-index _ one c.loop-one-test.true in
    record {
      on = goes_further c.loop-one.invariant.on one _ is c.loop-one-test.true
          (ap (λ place. next_thrown place (throws_view now.labels c.loop-one.throws) (thrown_tree one)) (sym scope) ∙ c.in_ok-add_thrown.ensures.made);
      same = c.in_ok-add_thrown.ensures.same;
      inside = c.in_ok-add_thrown.ensures.inside;
      more = more_through c.loop-one.one-index 1 (c.loop-one.one-index + 1) c.args.variables.now now after (omega arith) c.loop-one.invariant.more c.in_ok-add_thrown.ensures.more;
    }
