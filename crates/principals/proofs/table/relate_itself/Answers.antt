use Rattle.std.proofs.Common.{length-append, arith}
use Rattle.principals.proofs.Rows.{related-alone, has-empty, empty_row}
use Rattle.principals.proofs.table.relate_itself.Goals as goal

pub loop-number-preserved : goal.loop-number-preserved
loop-number-preserved c =
    let e = c.in_ok-push.ensures.items in
    record {
      long = rw e (simp length-append (omega arith));
      each = λ a b h. rw e (related-alone c.loop-number.table.items c.insert.new.self empty_row c.loop-number.number c.loop-number.invariant.long c.loop-number.invariant.each has-empty c.insert.ensures a b h);
    }
