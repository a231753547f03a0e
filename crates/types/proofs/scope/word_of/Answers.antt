use Rattle.std.proofs.Common.{◌≤◌, ◌-◌, arith, drop, length}
use Rattle.std.proofs.lemmas.List.{length-drop}
use Rattle.types.proofs.ShortNames.{digits_fit_word}
use Rattle.types.proofs.scope.word_of.Goals as goal

pub overflow_mul-number : goal.overflow_mul-number
overflow_mul-number c =
    let left = drop c.loop-at.at c.args.name.now in
    let few : length left ≤ 6 = omega (arith, length-drop c.loop-at.at c.args.name.now, c.loop-at-test.true, c.requires) in
    omega (arith, digits_fit_word left c.loop-at.invariant.bytes few, c.loop-at.invariant.value)

pub overflow_add-number : goal.overflow_add-number
overflow_add-number c =
    let left = drop c.loop-at.at c.args.name.now in
    let few : length left ≤ 6 = omega (arith, length-drop c.loop-at.at c.args.name.now, c.loop-at-test.true, c.requires) in
    omega (arith, digits_fit_word left c.loop-at.invariant.bytes few, c.loop-at.invariant.value, c.type_inv.name (c.loop-at.at - 1))
