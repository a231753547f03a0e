-- What stored constraints mean: constraints over the lattice's elements, the least values that a solution stands for, and a refusal.
-- Source: our own.
use Rattle.std.specs.Prelude.{◌≡◌, ℕ, suc, List, [], ◌∷◌, length, map, Bool, Some, if◌then◌else◌, ◌==◌, slice_get, IsTrue}
use Rattle.std.specs.List.{list_any}
use Rattle.lattices.specs.Constraints.{FitsAll, IsLeast, IsRefusedAt}
use Rattle.lattices.specs.Lattice.{Lattice}
use Rattle.lattices.specs.Constraints as formal
use Rattle.solver.specs.Broken.{written_at}
use Rattle.solver.specs.declared.fault.SolveRefusal.{SolveRefusal}
use Rattle.solver.specs.declared.constraints.Atom.{Atom}
use Rattle.solver.specs.declared.constraints.Atom.TheVariants.{Unknown, Written}
use Rattle.solver.specs.declared.constraints.Constraint.{Constraint}
use Rattle.solver.specs.Rule.{rule_number}

-- an atom, with the written element in place of its number, and so a constraint and a list of them
abbrev pub atom_of : {V : Type 0} → Lattice V → List V → Atom → formal.Atom ℕ V
atom_of l table (Written n) = formal.Written (written_at l table n)
atom_of l table (Unknown u) = formal.Unknown u

abbrev pub constraint_of : {T V : Type 0} → Lattice V → List V → Constraint T → formal.Constraint T ℕ V
constraint_of l table c = record {
  at = c.at;
  rule = rule_number c.rule;
  left = map (atom_of l table) c.left.items;
  target = c.target;
  right = atom_of l table c.right;
}

abbrev pub constraints_of : {T V : Type 0} → Lattice V → List V → List (Constraint T) → List (formal.Constraint T ℕ V)
constraints_of l table constraints = map (constraint_of l table) constraints

-- whether an unknown is among these
abbrev pub is_among : ℕ → List ℕ → Bool
is_among u us = list_any (λ w. w == u) us

-- the numbers, from one on, of the rows in which an unknown stands
abbrev pub rows_with : ℕ → List (List ℕ) → ℕ → List ℕ
rows_with n [] u = []
rows_with n (row ∷ rows) u = if is_among u row then (n ∷ rows_with (suc n) rows u) else rows_with (suc n) rows u

-- the join of written elements
abbrev pub row_join : {V : Type 0} → Lattice V → List V → List ℕ → V
row_join l table [] = l.least
row_join l table (n ∷ ns) = l.join (written_at l table n) (row_join l table ns)

-- the values that a solution stands for, where it has for each written element the unknowns that this reaches
abbrev pub values_of : {V : Type 0} → Lattice V → List V → List (List ℕ) → ℕ → V
values_of l table reached u = row_join l table (rows_with 0 reached u)

-- two values that lie below each other
pub record AreAlike {V : Type 0} (l : Lattice V) (a b : V) : Type 0 where
  pub to : IsTrue (l.leq a b)
  pub from : IsTrue (l.leq b a)

-- the constraints at these indices
abbrev pub Picks : {X : Type 0} → List X → List ℕ → List X → Type 0
Picks xs [] [] = Unit {0}
Picks xs [] (x ∷ picked) = ⊥
Picks xs (i ∷ indices) [] = ⊥
Picks xs (i ∷ indices) (x ∷ picked) = (slice_get xs i ≡ Some x) × Picks xs indices picked

-- a refusal: the first constraint with a written right side that the least values do not fit, and a chain that ends there
pub record IsSolveRefusal {T V : Type 0} (l : Lattice V) (table : List V) (constraints : List (Constraint T)) (refusal : SolveRefusal) : Type 0 where
  pub chain : List (formal.Constraint T ℕ V)
  pub last : formal.Constraint T ℕ V
  pub picked : Picks (constraints_of l table constraints) refusal.chain.items chain
  pub refused : IsRefusedAt l (constraints_of l table constraints) (written_at l table refusal.from) chain last

-- what is seen of a solution: for each written element the unknowns that it reaches, and how often left sides were looked at
pub record Solved : Type 0 where
  pub reached : List (List ℕ)
  pub looks : ℕ

-- a solution: what each written element reaches, and so values that fit all constraints and are least
pub record IsSolution {T V : Type 0} (l : Lattice V) (table : List V) (constraints : List (Constraint T)) (solution : Solved) : Type 0 where
  pub rows : length solution.reached ≡ length table
  pub fits : FitsAll l (constraints_of l table constraints) (values_of l table solution.reached)
  pub least : IsLeast l (constraints_of l table constraints) (values_of l table solution.reached)
