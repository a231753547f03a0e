use Rattle.std.proofs.Common.{◌≡◌, ◌<◌, All}
use Rattle.solver.specs.Rows.{reached_by}
use Rattle.solver.specs.Constraints.{rows_with}
use Rattle.solver.proofs.solution.numbers_of.Given as goal

-- the numbers so far
abbrev pub invariant-loop-number : goal.invariant-loop-number
invariant-loop-number l = record {
  numbers : l.numbers.items ≡ rows_with 0 (reached_by 0 l.number l.rows) l.unknown;
  inside : All (λ number. number < l.count) l.numbers.items;
}
