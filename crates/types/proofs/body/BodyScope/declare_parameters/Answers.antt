use Rattle.std.proofs.Common.{sym, ◌∙◌, ap, arith, get_or}
use Rattle.std.proofs.lemmas.List.{get_or_default}
use Rattle.syntax.specs.Tree.{parameter_tree}
use Rattle.types.specs.Resolution.{next_parameter}
use Rattle.types.specs.Views.{point_of}
use Rattle.types.proofs.Later.{later_through, scope_same}
use Rattle.types.proofs.Loops.{goes_further}
use Rattle.types.proofs.body.BodyScope.declare_parameters.Goals as goal

pub loop-one-preserved : goal.loop-one-preserved
loop-one-preserved c =
    let start = c.args.self.now in
    let now = c.loop-one.self in
    let after = c.declare_parameter.new.self in
    let scope = scope_same start now c.loop-one.invariant.later in
    let one = get_or c.args.written.now c.loop-one.one-index _ in
    let is = get_or_default c.args.written.now c.loop-one.one-index _ one c.loop-one-test.true in
    record {
      on = goes_further c.loop-one.invariant.on one (point_of after) is c.loop-one-test.true
          (ap (λ place. next_parameter place (point_of now) (parameter_tree one)) (sym scope) ∙ c.in_ok-declare_parameter.ensures.made);
      later = later_through start now after c.loop-one.invariant.later c.in_ok-declare_parameter.ensures.later;
      grows = omega (arith, c.loop-one.invariant.grows, c.in_ok-declare_parameter.ensures.grows);
    }
