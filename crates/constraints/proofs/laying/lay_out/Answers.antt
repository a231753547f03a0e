use Rattle.std.proofs.Common.{arith, sym, subst, List}
use Rattle.constraints.specs.Laying.{AreLaidSoFar}
use Rattle.constraints.specs.Merging.{rows_of}
use Rattle.constraints.specs.declared.laying.Further.{Further}
use Rattle.constraints.proofs.LaidRows.{laid-nothing}
use Rattle.constraints.proofs.laying.lay_out.Goals as goal

pub loop-number-init : goal.loop-number-init
loop-number-init c =
    let rows = rows_of c.args.kept.now in
    let first = c.args.made.now.number in
    let old = c.args.made.now.constraints.items in
    record {
      so_far = subst (λ (held : List Further). AreLaidSoFar rows 0 first first held old old) (sym c.new-held.ensures.items) (laid-nothing rows first old);
      few = omega arith;
    }

pub loop-number-preserved : goal.loop-number-preserved
loop-number-preserved c = record {
  so_far = c.in_ok-lay_out_row.ensures.laid c.args.made.now.number c.args.made.now.constraints.items c.loop-number.invariant.so_far;
  few = omega (arith, c.in_ok-lay_out_row.ensures.few);
}
