use Rattle.std.proofs.Common.{◌≡◌, ◌++◌, List, ℕ, take, drop, subst}
use Rattle.std.proofs.lemmas.List.{take-append-drop}
use Rattle.std.proofs.lemmas.Result.{IfOk-weaker}
use Rattle.solver.specs.Constraints.{AreAlike, row_join}
use Rattle.solver.proofs.Values.{alike-both}
use Rattle.solver.proofs.solution.+join_all.Goals as goal

both_halves : (left right all : List ℕ) (n : ℕ) → left ≡ take n all → right ≡ drop n all → left ++ right ≡ all
both_halves left right all n front back = rw (front, back) (take-append-drop n all)

pub returns : goal.returns
returns g t c =
    let l = g.L.Lattice.order c.args.lattice.now in
    let table = c.args.written.now in
    let left = c.split_at.result.0.now in
    let right = c.split_at.result.1.now in
    let halves = both_halves left right c.args.numbers.now _ c.split_at.ensures.front c.split_at.ensures.back in
    IfOk-weaker _ _ _ (λ value join.
    subst (λ ns. AreAlike l (row_join l table ns) value) halves
    (alike-both l c.keep_laws.ensures table c.in_ok-left.left c.in_ok-right.right value left right c.in_ok-left.ensures c.in_ok-right.ensures join))
    c.join-2.ensures
