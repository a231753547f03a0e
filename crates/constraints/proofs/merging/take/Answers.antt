use Rattle.std.proofs.Common.{arith, refl, subst}
use Rattle.constraints.specs.Following.{IsOver}
use Rattle.constraints.specs.Merging.{HasMore, parts_of, rows_of}
use Rattle.constraints.proofs.KeptRows.{row-taken}
use Rattle.constraints.proofs.PartRows.{on-ok, taken-stays}
use Rattle.constraints.proofs.Paths.{over-same}
use Rattle.constraints.proofs.merging.take.Goals as goal

pub returns-then-at-len-clause-taken : goal.returns-then-at-len-clause-taken
returns-then-at-len-clause-taken c =
    let over = IsOver c.args.following.now in
    on-ok c.add_all.result
    (λ more. row-taken over (over-same c.args.following.now) c.args.constraint c.in-Unknown.number c.args.kept.now.items _ c.index_mut.result.now c.add_all.new.parts c.args.rest.now.items
    c.in-Unknown.is (omega (arith, c.if-at-len.true, c.len.ensures, c.args.kept.now.ok.0)) c.index_mut.ensures.value refl
    (subst (λ left. HasMore over left (parts_of c.index_mut.result.now) (parts_of c.add_all.new.parts)) c.deref.ensures more))
    c.add_all.ensures

pub returns-clause-taken : goal.returns-clause-taken
returns-clause-taken c =
    taken-stays (IsOver c.args.following.now) (over-same c.args.following.now) c.args.constraint (rows_of c.args.kept.now.items) c.args.rest.now.items c.push.new.self.items c.in_ok-push.ensures.items
