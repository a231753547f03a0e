use Rattle.std.proofs.Common.{ℕ, map, take}
use Rattle.std.specs.Prelude.{IsTrue}
use Rattle.labels.specs.Row.{has}
use Rattle.solver.specs.Rows.{left_has}
use Rattle.solver.specs.Sharing.{bits_of}
use Rattle.solver.proofs.sharing.covers_left.Given as goal

-- the row has all that the parts so far have
abbrev pub invariant-loop-part : goal.invariant-loop-part
invariant-loop-part l = (n : ℕ) → IsTrue (left_has (map (bits_of l.kept) l.of) (take l.part-index l.left) n) → IsTrue (has (bits_of l.kept l.number) n)
