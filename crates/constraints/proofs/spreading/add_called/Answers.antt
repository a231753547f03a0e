use Rattle.std.proofs.Common.{refl, arith}
use Rattle.constraints.proofs.CallRows.{row-added, row-not-added}
use Rattle.constraints.proofs.spreading.add_called.Goals as goal

pub returns-in_ok-push : goal.returns-in_ok-push
returns-in_ok-push c = λ count calls are.
    row-added c.args.rows.now.items c.args.called.callee c.index_mut.result.now c.push.new.self c.args.called count calls (omega (arith, c.len.ensures, c.if-at-len.true, c.args.rows.now.ok.0)) refl c.index_mut.ensures.value c.in_ok-push.ensures.items are

pub returns-else-at-len : goal.returns-else-at-len
returns-else-at-len c = λ count calls are.
    row-not-added c.args.rows.now.items c.args.called.callee c.args.called count calls (omega (arith, c.len.ensures, c.if-at-len.false, c.args.rows.now.ok.0)) refl are
