use Rattle.std.proofs.Common.{◌≡◌, ℕ, ◌-◌, ◌<◌, ◌∙◌, ap, arith, length}
use Rattle.std.proofs.lemmas.List.{length-replicate, length-set}
use Rattle.std.proofs.lemmas.Option.{slice_get-get_or}
use Rattle.lowering.proofs.Finals.{finals-begin, finals-more}
use Rattle.lowering.proofs.threading.find_final_positions.Goals as goal

pub loop-position-init : goal.loop-position-init
loop-position-init c =
    let sized : length c.in_ok-finals.finals.items ≡ length c.args.code.now =
    ap length (c.in_ok-finals.ensures.items_if_clones_equal (λ y e. e)) ∙ length-replicate (length c.args.code.now) 0 in
    (omega arith, sized, finals-begin c.args.code.now c.in_ok-finals.finals.items sized)

pub loop-position-preserved : goal.loop-position-preserved
loop-position-preserved c =
    let position : ℕ = c.loop-position.position - 1 in
    let below : position < length c.args.code.now = omega (arith, c.loop-position.invariant.0, c.loop-position-test.true) in (
      omega (arith, c.loop-position.invariant.0),
      length-set c.loop-position.finals.items position c.position_from.result ∙ c.loop-position.invariant.1,
      finals-more c.args.code.now c.loop-position.finals.items c.deref.result.now position c.position_from.result _ c.loop-position.invariant.1 c.deref.ensures.value
          (λ k h. c.loop-position.invariant.2 k (omega (arith, h))) below (slice_get-get_or c.args.code.now position _ below)
          c.position_from.ensures,
    )
