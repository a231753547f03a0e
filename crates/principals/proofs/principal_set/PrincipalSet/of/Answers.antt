use Rattle.std.proofs.Common.{◌≡◌, ◌+◌, ◌<◌, ◌++◌, ◌∷◌, ◌↔◌, [], Contains, IsTrue, get_or, take, sym, subst, arith}
use Rattle.std.proofs.lemmas.List.{take_all, take_more}
use Rattle.principals.specs.Table.{has}
use Rattle.principals.proofs.Meeting.{with_one}
use Rattle.principals.proofs.principal_set.PrincipalSet.of.Goals as goal

pub loop-number-preserved : goal.loop-number-preserved
loop-number-preserved c = λ member.
    let numbers = c.args.numbers.now in
    let i = c.loop-number.number-index in
    let more : take (i + 1) numbers ≡ take i numbers ++ get_or numbers i 0 ∷ [] = take_more numbers i 0 c.loop-number-test.true in
    subst (λ xs. IsTrue (has c.insert_below_limit.new.self member) ↔ ((member < 256) × Contains xs member)) (sym more)
    (with_one (λ m. m < 256) (take i numbers) (get_or numbers i 0) member (has c.loop-number.row member) (has c.insert_below_limit.new.self member) (c.loop-number.invariant member) (c.insert_below_limit.ensures member))

pub returns : goal.returns
returns c = λ member.
    subst (λ xs. IsTrue (has c.loop-number.row member) ↔ ((member < 256) × Contains xs member))
    (take_all c.loop-number.number-index c.args.numbers.now (omega (arith, c.loop-number-test.false))) (c.loop-number.invariant member)
