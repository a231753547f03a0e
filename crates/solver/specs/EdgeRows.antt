-- Private: No public clause cites it. Rows of edges that stand one after another in a list.
-- Source: our own.
use Rattle.std.specs.Prelude.{ℕ, zero, suc, ◌≤◌, List, [], ◌∷◌, slice_range}
use Rattle.solver.specs.declared.edges.Edge.{Edge}

-- rows that stand one after another in a list, by where the first one begins and where each ends
abbrev pub rows_from : (start : ℕ) → (ends : List ℕ) → List Edge → List (List Edge)
rows_from start [] list = []
rows_from start (end ∷ ends) list = slice_range list start end ∷ rows_from end ends list

-- no row ends before it begins, or past this many
abbrev pub AreEnds : (start : ℕ) → (ends : List ℕ) → (count : ℕ) → Type 0
AreEnds start [] count = Unit {0}
AreEnds start (end ∷ ends) count = (start ≤ end) × (end ≤ count) × AreEnds end ends count

-- a row of rows
abbrev pub row_at : List (List Edge) → ℕ → List Edge
row_at [] k = []
row_at (row ∷ rows) zero = row
row_at (row ∷ rows) (suc k) = row_at rows k
