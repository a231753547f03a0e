use Rattle.std.proofs.Common.{◌≢◌, ◌<◌, ◌≤◌, ◌∙◌, ◌||◌, ◌&&◌, length, sym, ap, arith}
use Rattle.principals.specs.Table.{related}
use Rattle.principals.proofs.Rows.{related-joined, related-set_other, related-get_or}
use Rattle.principals.proofs.table.join_by.Goals as goal

pub loop-row-preserved : goal.loop-row-preserved
loop-row-preserved c =
    let i = c.loop-row.row-index in
    let inside : i < length c.loop-row.table = omega arith in
    record {
      below = λ a b h. related-joined c.args.table.now c.loop-row.table c.merge_if.new.self _ _ c.args.between i inside c.loop-row.invariant.below c.loop-row.invariant.above c.merge_if.ensures a b h;
      above = λ a b h.
          let other : a ≢ i = omega arith in
          let after : i ≤ a = omega arith in
          related-set_other c.loop-row.table c.merge_if.new.self i a b other ∙ c.loop-row.invariant.above a b after;
    }

pub returns : goal.returns
returns c a b h =
    let within : a < c.loop-row.row-index = omega arith in
    c.loop-row.invariant.below a b within
    ∙ ap (λ x. related c.args.table.now a b || (related c.args.table.now a c.args.between && x)) (sym (related-get_or c.args.table.now c.args.between b _ c.requires))
