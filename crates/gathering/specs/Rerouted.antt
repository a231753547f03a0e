-- Private: constraints of which some flows go by further inner unknowns: what flowed from a part to an inner unknown by one of the constraints
-- flows there by a path of others and of those that stay, through unknowns that stand in none of the old ones.
-- Source: our own.
use Rattle.std.specs.Prelude.{◌≡◌, List, ◌++◌, Bool, Option, None, IsTrue, IsFalse, Contains, ◌⊎◌}
use Rattle.lattices.specs.Constraints.{Atom, Unknown, Constraint, is_inner, outer}

-- a constraint by which a part flows to a right side
pub record Links {N U V : Type 0} (cs : List (Constraint N U V)) (from to : Atom U V) : Type 0 where
  pub by : Constraint N U V
  pub among : Contains cs by
  pub starts : Contains by.left from
  pub ends : by.right ≡ to

-- a path of such constraints
pub data Leads {N U V : Type 0} (cs : List (Constraint N U V)) (from : Atom U V) : Atom U V → Type 0 where
  arrived : (to : Atom U V) → from ≡ to → Leads cs from to
  onward : (middle to : Atom U V) → Leads cs from middle → Links cs middle to → Leads cs from to

-- a path of such constraints whose right sides are all inner unknowns
pub data LeadsInside {N U V : Type 0} (inner : U → Bool) (cs : List (Constraint N U V)) (from : Atom U V) : Atom U V → Type 0 where
  ended : (to : Atom U V) → from ≡ to → LeadsInside inner cs from to
  led : (middle to : Atom U V) → LeadsInside inner cs from middle → Links cs middle to → IsTrue (is_inner inner to) → LeadsInside inner cs from to

-- what a part brings: an old part itself, and a further unknown the old parts that it stands for
pub data Brings {U V : Type 0} (further : U → Bool) (stands : U → List (Atom U V)) (part old : Atom U V) : Type 0 where
  itself : IsFalse (is_inner further part) → part ≡ old → Brings further stands part old
  others : (u : U) → part ≡ Unknown u → IsTrue (further u) → Contains (stands u) old → Brings further stands part old

-- an added constraint leads to an inner unknown: to a further one nothing but what that stands for, to an old one nothing but what
-- flowed there before
pub record IsAdded {N U V : Type 0} (inner further : U → Bool) (stands : U → List (Atom U V)) (cs : List (Constraint (Option N) U V)) (c : Constraint (Option N) U V) : Type 0 where
  pub to : U
  pub right_is : c.right ≡ Unknown to
  pub inner_is : IsTrue (inner to)
  pub no_target : c.target ≡ None
  pub to_further : IsTrue (further to) → (part old : Atom U V) → Contains c.left part → Brings further stands part old → Contains (stands to) old
  pub to_old : IsFalse (further to) → (part old : Atom U V) → Contains c.left part → Brings further stands part old → Links cs old c.right

-- constraints, those that stay of them, and added ones
pub record IsRerouted {N U V : Type 0} (inner further : U → Bool) (cs base added : List (Constraint (Option N) U V)) : Type 0 where
  pub stands : U → List (Atom U V)
  pub inside : (u : U) → IsTrue (further u) → IsTrue (inner u)
  pub outer_is : outer inner base ≡ outer inner cs
  pub stays : (c : Constraint (Option N) U V) → Contains base c → Contains cs c
  pub old_parts : (c : Constraint (Option N) U V) → Contains cs c → (part : Atom U V) → Contains c.left part → IsFalse (is_inner further part)
  pub old_right : (c : Constraint (Option N) U V) → Contains cs c → IsFalse (is_inner further c.right)
  pub goes : (c : Constraint (Option N) U V) → Contains cs c → IsTrue (is_inner inner c.right) →
      Contains base c ⊎ ((part : Atom U V) → Contains c.left part → LeadsInside inner (base ++ added) part c.right)
  pub each : (c : Constraint (Option N) U V) → Contains added c → IsAdded inner further stands cs c
