use Rattle.std.proofs.Common.{ℕ, ◌<◌, ◌≤◌, ◌-◌, List, length, take}
use Rattle.constraints.specs.Added.{Stored}
use Rattle.constraints.specs.Laying.{AreLaidSoFar, IsPieceOf, IsRowBegun}
use Rattle.constraints.specs.Merging.{Row}
use Rattle.constraints.proofs.laying.left_of.Given as goal

abbrev pub invariant-loop-from : goal.invariant-loop-from
invariant-loop-from l = record {
  some : 0 < l.size;
  at_most : l.at ≤ l.from;
  within : l.from ≤ length l.unknowns;
  few : l.made.number ≤ l.most;
  begun : (rows : List Row) (k first : ℕ) (old : List Stored) → IsPieceOf rows k l.unknowns → AreLaidSoFar rows k first l.fn.made.number l.fn.held.items old l.fn.made.constraints.items
      → IsRowBegun rows k first l.made.number l.held.items old l.made.constraints.items (take l.from l.unknowns) l.left.items;
}

abbrev pub decreases-loop-from : goal.decreases-loop-from
decreases-loop-from l = length l.unknowns - l.from
