use Rattle.std.proofs.Common.{refl, sym, subst, arith}
use Rattle.std.specs.Prelude.{Contains}
use Rattle.common.proofs.Elements.{Contains-first}
use Rattle.solver.specs.Queue.{none, some, order_in}
use Rattle.solver.proofs.queue.Queue.next.Goals as goal

pub returns-in_err-by : goal.returns-in_err-by
returns-in_err-by c =
    let before = c.in_err-by.ensures.none refl in
    rw (c.in_err-by.ensures.none_left refl, c.from_residual.ensures, before) (none refl)

pub index_mut-requires : goal.index_mut-requires
index_mut-requires c =
    let lt = c.requires c.in_ok-by.by (subst (λ xs. Contains xs c.in_ok-by.by) (sym c.in_ok-by.ensures.some) (Contains-first c.in_ok-by.by (order_in c.take.new.self))) in
    omega (arith, lt, c.args.self.now.waits.ok.0)

pub returns : goal.returns
returns c = some c.in_ok-by.by (order_in c.take.new.self) c.in_ok-by.ensures.some
