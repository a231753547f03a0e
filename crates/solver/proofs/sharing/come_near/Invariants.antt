use Rattle.std.proofs.Common.{◌≡◌, ◌<◌, All, length}
use Rattle.solver.specs.Sharing.{with_numbers}
use Rattle.solver.proofs.sharing.come_near.Given as goal

-- the numbers so far
abbrev pub invariant-loop-i : goal.invariant-loop-i
invariant-loop-i l = record {
  row : l.near ≡ with_numbers l.fn.base l.more.items;
  inside : All (λ n. n < length l.fn.base) l.more.items;
}
