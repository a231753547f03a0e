use Rattle.std.proofs.Common.{◌≡◌, ℕ, ◌<◌, get_or, length}
use Rattle.layout.specs.Offsets.{offset}
use Rattle.layout.proofs.code.fill_table.Given as goal

-- the offsets of the positions so far, and the next one
abbrev pub invariant-loop-instruction : goal.invariant-loop-instruction
invariant-loop-instruction l =
    (l.next ≡ offset l.code l.instruction-index) × (length l.table.items ≡ l.instruction-index)
    × ((k : ℕ) → k < l.instruction-index → get_or l.table.items k 0 ≡ offset l.code k)
