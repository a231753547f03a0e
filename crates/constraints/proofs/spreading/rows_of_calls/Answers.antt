use Rattle.std.proofs.Common.{sym, subst, take}
use Rattle.std.proofs.lemmas.List.{take_more}
use Rattle.constraints.specs.Spreading.{AreRowsOf}
use Rattle.constraints.specs.declared.journal.Called.{Called}
use Rattle.constraints.proofs.spreading.rows_of_calls.Goals as goal

pub loop-called-preserved : goal.loop-called-preserved
loop-called-preserved c =
    let none : Called = record { callee = 0; barrier = 0; own = 0; call = 0 } in
    let i = c.loop-called.called-index in
    subst (λ list. AreRowsOf c.args.procedures list c.add_called.new.rows.items) (sym (take_more c.args.calls.now i none c.loop-called-test.true))
    (c.in_ok-add_called.ensures c.args.procedures (take i c.args.calls.now) c.loop-called.invariant)
