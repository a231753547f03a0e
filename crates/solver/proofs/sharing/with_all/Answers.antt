use Rattle.std.proofs.Common.{◌≡◌, ap, sym, ◌∙◌, List, Bool, true, length, set, get_or, take, arith}
use Rattle.std.proofs.lemmas.List.{take_more}
use Rattle.solver.specs.Sharing.{with_numbers}
use Rattle.solver.proofs.Standing.{with-length, with-more}
use Rattle.solver.proofs.sharing.with_all.Goals as goal

pub set-requires : goal.set-requires
set-requires c =
    let lt = c.requires c.loop-number.number-index 0 c.loop-number-test.true in
    let len : length c.loop-number.row ≡ length c.args.base = ap length c.loop-number.invariant ∙ with-length c.args.base (take c.loop-number.number-index c.args.numbers.now) in
    omega (arith, lt, len)

pub loop-number-preserved : goal.loop-number-preserved
loop-number-preserved c =
    let i = c.loop-number.number-index in
    let n = get_or c.args.numbers.now i 0 in
    c.set.ensures
    ∙ (ap (λ (r : List Bool). set r n true) c.loop-number.invariant
    ∙ (sym (with-more c.args.base (take i c.args.numbers.now) n)
    ∙ sym (ap (with_numbers c.args.base) (take_more c.args.numbers.now i 0 c.loop-number-test.true))))
