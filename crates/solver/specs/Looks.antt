-- How often left sides of constraints are looked at: at least once each, and at most once more for each written element that may
-- come to each unknown in a left side.
-- Source: our own.
use Rattle.std.specs.Prelude.{ℕ, zero, suc, ◌+◌, ◌*◌, ◌≤◌, ◌<◌, ◌^◌, List, [], ◌∷◌, Bool, true, false, ◌==◌}
use Rattle.std.specs.List.{list_any}
use Rattle.solver.specs.declared.constraints.Atom.{Atom}
use Rattle.solver.specs.declared.constraints.Atom.TheVariants.{Unknown, Written}
use Rattle.solver.specs.declared.constraints.Constraint.{Constraint}

-- how many things pass a test
abbrev pub one : Bool → ℕ
one true = 1
one false = 0

abbrev pub count_of : {X : Type 0} → (X → Bool) → List X → ℕ
count_of test [] = 0
count_of test (x ∷ xs) = one (test x) + count_of test xs

-- whether an atom is an unknown, and whether it is the written element of this number
abbrev pub is_unknown : Atom → Bool
is_unknown (Written n) = false
is_unknown (Unknown u) = true

abbrev pub is_element : ℕ → Atom → Bool
is_element n (Written m) = n == m
is_element n (Unknown u) = false

-- how many constraints have an unknown as their right side: these are looked at
abbrev pub looked_at : {T : Type 0} → List (Constraint T) → ℕ
looked_at {T} constraints = count_of (λ (c : Constraint T). is_unknown c.right) constraints

-- whether a written element stands in a left side, and how many do, of this many from one on
abbrev pub stands_left : {T : Type 0} → List (Constraint T) → ℕ → Bool
stands_left {T} constraints n = list_any (λ (c : Constraint T). list_any (is_element n) c.left.items) constraints

abbrev pub written_left : {T : Type 0} → List (Constraint T) → (from count : ℕ) → ℕ
written_left constraints n zero = 0
written_left constraints n (suc count) = one (stands_left constraints n) + written_left constraints (suc n) count

-- how often unknowns stand in left sides
abbrev pub unknowns_left : {T : Type 0} → List (Constraint T) → ℕ
unknowns_left [] = 0
unknowns_left (c ∷ constraints) = count_of is_unknown c.left.items + unknowns_left constraints

-- the bounds for this many written elements, and the greatest number at which a count of 64 bits stays
pub record AreLooks {T : Type 0} (elements : ℕ) (constraints : List (Constraint T)) (looks : ℕ) : Type 0 where
  pub at_least : looked_at constraints ≤ looks
  pub at_most : looks ≤ looked_at constraints + written_left constraints 0 elements * unknowns_left constraints
  pub greatest : looks < 2 ^ 64
