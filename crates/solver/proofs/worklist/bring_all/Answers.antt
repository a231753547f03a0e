use Rattle.std.proofs.Common.{refl, subst}
use Rattle.solver.specs.Work.{MayBeMore}
use Rattle.solver.proofs.Standing.{more-of, none-more}
use Rattle.solver.proofs.worklist.bring_all.Goals as goal

pub returns-in_default : goal.returns-in_default
returns-in_default c = (
  refl,
  none-more c.args.rows.now c.args.count c.args.unknown c.args.left.now c.in_ok-row.field-0
      (more-of c.args.rows.now c.args.count c.args.unknown c.args.left.now c.in_ok-all.all c.in_ok-row.field-0 c.in_ok-all.ensures.count c.in_ok-all.ensures.members c.in_ok-row.ensures)
      c.in_default.not-Some,
)

pub returns : goal.returns
returns c = record {
  row = c.in-Some.row;
  more = subst (MayBeMore c.args.rows.now c.args.count c.args.unknown c.args.left.now) c.in-Some.is
      (more-of c.args.rows.now c.args.count c.args.unknown c.args.left.now c.in_ok-all.all c.in_ok-row.field-0 c.in_ok-all.ensures.count c.in_ok-all.ensures.members c.in_ok-row.ensures);
  put = c.in_ok-put.ensures;
}
