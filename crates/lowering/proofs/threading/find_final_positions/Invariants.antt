use Rattle.std.proofs.Common.{◌≡◌, ℕ, ◌≤◌, length, get_or}
use Rattle.lowering.specs.Threaded.{final_position}
use Rattle.lowering.proofs.threading.find_final_positions.Given as goal

-- the final positions of those after are there
abbrev pub invariant-loop-position : goal.invariant-loop-position
invariant-loop-position l =
    (l.position ≤ length l.code) × (length l.finals.items ≡ length l.code)
    × ((k : ℕ) → l.position ≤ k → get_or l.finals.items k k ≡ final_position l.code k)

abbrev pub decreases-loop-position : goal.decreases-loop-position
decreases-loop-position l = l.position
