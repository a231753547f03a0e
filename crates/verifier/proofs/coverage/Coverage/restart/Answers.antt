use Rattle.std.proofs.Common.{arith}
use Rattle.verifier.proofs.Covering.{all_wait, real_waits, restarted}
use Rattle.std.proofs.lemmas.List.Sorted.{length_permutation}
use Rattle.verifier.proofs.coverage.Coverage.restart.Goals as goal

pub restart-requires : goal.restart-requires
restart-requires c = omega (arith, c.requires, c.len.ensures, c.sort_by_start.new.sorted.ok.0, length_permutation c.args.handlers.now c.sort_by_start.new.sorted.items c.in_ok-sort_by_start.ensures.same)

pub returns-clause-coverage : goal.returns-clause-coverage
returns-clause-coverage c =
    let before = length_permutation c.args.handlers.now c.sort_by_start.new.sorted.items c.in_ok-sort_by_start.ensures.same in
    let after = length_permutation c.args.handlers.now c.loop-index.self.handlers.items c.loop-index.invariant.order.same in
    let v = c.loop-index.invariant in
    restarted c.args.handlers.now c.loop-index.self v.order v.tree v.room (λ k h inside there. v.done k h (omega (arith, inside, before, after, c.len-index-end.ensures, c.loop-index-test.false)) inside there) (λ k from. v.after k (omega (arith, from, before, after, c.len-index-end.ensures, c.loop-index-test.false))) v.loud

pub returns-clause-real : goal.returns-clause-real
returns-clause-real c = real_waits c.args.handlers.now _ c.loop-index.invariant.order

pub returns-clause-all : goal.returns-clause-all
returns-clause-all c =
    let before = length_permutation c.args.handlers.now c.sort_by_start.new.sorted.items c.in_ok-sort_by_start.ensures.same in
    let after = length_permutation c.args.handlers.now c.loop-index.self.handlers.items c.loop-index.invariant.order.same in
    all_wait c.args.handlers.now _ c.loop-index.invariant.order (λ k h inside there. c.loop-index.invariant.done k h (omega (arith, inside, before, after, c.len-index-end.ensures, c.loop-index-test.false)) inside there)
