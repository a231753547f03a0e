-- Rows of bits: for each unknown which written elements reach it, and which reach a left side.
-- Source: our own.
use Rattle.std.specs.Prelude.{◌≡◌, ◌≤◌, ℕ, zero, suc, List, [], ◌∷◌, length, Bool, false, ◌==◌, if◌then◌else◌, All, IsTrue}
use Rattle.std.specs.List.{list_any}
use Rattle.labels.specs.Row.{has}
use Rattle.solver.specs.Reach.{ReachesBy}
use Rattle.solver.specs.declared.edges.Edges.{Edges}
use Rattle.solver.specs.declared.constraints.Atom.{Atom}
use Rattle.solver.specs.declared.constraints.Atom.TheVariants.{Unknown, Written}

-- a number is a member of the row of an unknown
abbrev pub has_at : List (List Bool) → (u n : ℕ) → Bool
has_at [] u n = false
has_at (row ∷ rows) zero n = has row n
has_at (row ∷ rows) (suc u) n = has_at rows u n

-- each row is of numbers below this; one without numbers may be shorter
abbrev pub AreSized : ℕ → List (List Bool) → Type 0
AreSized count rows = All (λ (row : List Bool). length row ≤ count) rows

-- for each unknown the written elements that reach it
pub record AreRows (edges : Edges) (rows : List (List Bool)) : Type 0 where
  pub all : length rows ≡ length edges.unknown
  pub sized : AreSized (length edges.written) rows
  pub sound : (u n : ℕ) → IsTrue (has_at rows u n) → ReachesBy edges n u
  pub complete : (u n : ℕ) → ReachesBy edges n u → IsTrue (has_at rows u n)

-- a written element is a part of a left side, or reaches one
abbrev pub atom_has : List (List Bool) → ℕ → Atom → Bool
atom_has rows n (Written m) = n == m
atom_has rows n (Unknown u) = has_at rows u n

abbrev pub left_has : List (List Bool) → List Atom → ℕ → Bool
left_has rows left n = list_any (atom_has rows n) left

-- the unknowns, from one on, in whose row a number stands; and those of each number, from one on, of this many
abbrev pub unknowns_with : (n u : ℕ) → List (List Bool) → List ℕ
unknowns_with n u [] = []
unknowns_with n u (row ∷ rows) =
    if has row n then (u ∷ unknowns_with n (suc u) rows) else unknowns_with n (suc u) rows

abbrev pub reached_by : (n count : ℕ) → List (List Bool) → List (List ℕ)
reached_by n zero rows = []
reached_by n (suc count) rows = unknowns_with n 0 rows ∷ reached_by (suc n) count rows
