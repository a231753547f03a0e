use Rattle.std.proofs.Common.{◌≡◌, take}
use Rattle.solver.specs.Sharing.{with_numbers}
use Rattle.solver.proofs.sharing.with_all.Given as goal

-- the numbers so far
abbrev pub invariant-loop-number : goal.invariant-loop-number
invariant-loop-number l = l.row ≡ with_numbers l.fn.base (take l.number-index l.numbers)
