-- Constraints with unknowns over a lattice: what a choice of values for the unknowns must fit, the least such choice, which
-- written values reach an unknown, and the chain that shows why none fits; and constraints that were gathered from others.
-- Source: our own; constraints with a least solution after Volpano, Smith and Irvine 1996.
use Rattle.std.specs.Prelude.{◌≡◌, ℕ, List, [], ◌∷◌, ◌++◌, Bool, true, false, not, ◌&&◌, ◌||◌, Option, Some, None, find, if◌then◌else◌, IsTrue, IsFalse, Contains, ◌⊎◌}
use Rattle.std.specs.List.{list_all}
use Rattle.lattices.specs.Lattice.{Lattice}

-- a part of a left side, and a right side: a written value, or an unknown
pub data Atom (U V : Type 0) : Type 0 where
  Written : V → Atom U V
  Unknown : U → Atom U V

-- a constraint: the join of what is on the left lies below what is on the right; with its byte, its rule, and its target by name
pub record Constraint (N U V : Type 0) : Type 0 where
  pub at : ℕ
  pub rule : ℕ
  pub left : List (Atom U V)
  pub target : N
  pub right : Atom U V

abbrev pub is_written : {U V : Type 0} → Atom U V → Bool
is_written (Written v) = true
is_written (Unknown u) = false

-- what an atom and a left side are when the unknowns have these values
abbrev pub value : {U V : Type 0} → (U → V) → Atom U V → V
value values (Written v) = v
value values (Unknown u) = values u

abbrev pub join_of : {U V : Type 0} → (join : V → V → V) → (least : V) → (U → V) → List (Atom U V) → V
join_of join least values [] = least
join_of join least values (atom ∷ rest) = join (value values atom) (join_of join least values rest)

-- a constraint that holds; values that fit all constraints, and those that fit all whose right side is an unknown
abbrev pub holds : {N U V : Type 0} → Lattice V → (U → V) → Constraint N U V → Bool
holds l values c = l.leq (join_of l.join l.least values c.left) (value values c.right)

abbrev pub FitsAll : {N U V : Type 0} → Lattice V → List (Constraint N U V) → (U → V) → Type 0
FitsAll l cs values = IsTrue (list_all (λ c. holds l values c) cs)

abbrev pub FitsUnknowns : {N U V : Type 0} → Lattice V → List (Constraint N U V) → (U → V) → Type 0
FitsUnknowns l cs values = IsTrue (list_all (λ c. is_written c.right || holds l values c) cs)

-- an unknown stands in constraints
abbrev pub Occurs : {N U V : Type 0} → List (Constraint N U V) → U → Type 0
Occurs {N} {U} {V} cs u = (c : Constraint N U V) × Contains cs c × (Contains c.left (Unknown u) ⊎ (c.right ≡ Unknown u))

-- the least values: they fit the constraints whose right side is an unknown, and lie below all values that do, at each unknown
-- that stands in the constraints
pub record IsLeast {N U V : Type 0} (l : Lattice V) (cs : List (Constraint N U V)) (values : U → V) : Type 0 where
  pub fits : FitsUnknowns l cs values
  pub below : (others : U → V) → FitsUnknowns l cs others → (u : U) → Occurs cs u → IsTrue (l.leq (values u) (others u))

-- the first constraint with a written right side that does not hold
abbrev pub first_unmet : {N U V : Type 0} → Lattice V → List (Constraint N U V) → (U → V) → Option (Constraint N U V)
first_unmet l cs values = find (λ c. is_written c.right && not (holds l values c)) cs

-- a written value reaches an unknown: it stands in the left side of a constraint whose right side is that unknown, or reaches
-- an unknown in such a left side
pub data Reaches {N U V : Type 0} (cs : List (Constraint N U V)) (v : V) : U → Type 0 where
  directly : (c : Constraint N U V) (u : U) → Contains cs c → Contains c.left (Written v) → c.right ≡ Unknown u → Reaches cs v u
  onward : (c : Constraint N U V) (w u : U) → Reaches cs v w → Contains cs c → Contains c.left (Unknown w) →
      c.right ≡ Unknown u → Reaches cs v u

-- constraints that are linked one to the next, from an atom in the left side of the first to the last: each but the last has as right side
-- an unknown of the next one's left side
pub data Linked {N U V : Type 0} (cs : List (Constraint N U V)) :
    Atom U V → List (Constraint N U V) → (last : Constraint N U V) → Type 0 where
  ends : (from : Atom U V) (c : Constraint N U V) → Contains cs c → Contains c.left from → Linked cs from (c ∷ []) c
  goes_on : (from : Atom U V) (c : Constraint N U V) (u : U) (rest : List (Constraint N U V)) (last : Constraint N U V) →
      Contains cs c → Contains c.left from → c.right ≡ Unknown u → Linked cs (Unknown u) rest last → Linked cs from (c ∷ rest) last

-- a flow chain: it leads from a written value to a written right side that the value does not lie below
pub record IsChain {N U V : Type 0} (l : Lattice V) (cs : List (Constraint N U V)) (from : V) (chain : List (Constraint N U V)) (last : Constraint N U V) : Type 0 where
  pub linked : Linked cs (Written from) chain last
  pub to : V
  pub right_is : last.right ≡ Written to
  pub not_below : IsFalse (l.leq from to)

-- the first constraint that the least values do not fit, with a chain that ends there
pub record IsRefusedAt {N U V : Type 0} (l : Lattice V) (cs : List (Constraint N U V)) (from : V) (chain : List (Constraint N U V)) (last : Constraint N U V) : Type 0 where
  pub values : U → V
  pub least : IsLeast l cs values
  pub first : first_unmet l cs values ≡ Some last
  pub chained : IsChain l cs from chain last

-- a test of whether two are the same
pub record DecidesSame {U : Type 0} (same : U → U → Bool) : Type 0 where
  pub only_same : (a b : U) → IsTrue (same a b) → a ≡ b
  pub each_itself : (a : U) → IsTrue (same a a)

-- ---- the same constraints with other names for the unknowns, and with inner unknowns between them. A constraint whose right side is
-- an inner unknown is inner, and has no target
abbrev pub renamed : {U W V : Type 0} → (U → W) → Atom U V → Atom W V
renamed name (Written v) = Written v
renamed name (Unknown u) = Unknown (name u)

abbrev pub is_inner : {U V : Type 0} → (inner : U → Bool) → Atom U V → Bool
is_inner inner (Written v) = false
is_inner inner (Unknown u) = inner u

-- the constraints that are not inner
abbrev pub outer : {N U V : Type 0} → (inner : U → Bool) → List (Constraint N U V) → List (Constraint N U V)
outer inner [] = []
outer inner (c ∷ rest) = if is_inner inner c.right then outer inner rest else (c ∷ outer inner rest)

-- what is no inner unknown feeds a part of a left side: it is that part, or that part is the right side of an inner constraint
-- and it feeds a part of the left side of this
pub data Feeds {N U V : Type 0} (inner : U → Bool) (cs : List (Constraint N U V)) (from : Atom U V) : Atom U V → Type 0 where
  itself : (to : Atom U V) → IsFalse (is_inner inner from) → from ≡ to → Feeds inner cs from to
  through : (c : Constraint N U V) (part to : Atom U V) → Feeds inner cs from part → Contains cs c → Contains c.left part → c.right ≡ to →
      IsTrue (is_inner inner to) → Feeds inner cs from to

-- a left side stands for a list of atoms: exactly these feed it, in any order and any number of times
pub record LeftStandsFor {N U W V : Type 0} (number : U → W) (inner : W → Bool) (cs : List (Constraint N W V)) (atoms : List (Atom U V)) (left : List (Atom W V)) : Type 0 where
  pub has : (a : Atom U V) → Contains atoms a → (part : Atom W V) × Contains left part × Feeds inner cs (renamed number a) part
  pub only : (part from : Atom W V) → Contains left part → Feeds inner cs from part → (a : Atom U V) × Contains atoms a × (renamed number a ≡ from)

-- a constraint among others stands for one of the definition: the same byte, rule, target and right side, and the same on the left
pub record StandsFor {N U W V : Type 0} (number : U → W) (inner : W → Bool) (cs : List (Constraint (Option N) W V)) (d : Constraint N U V) (c : Constraint (Option N) W V) : Type 0 where
  pub at_is : c.at ≡ d.at
  pub rule_is : c.rule ≡ d.rule
  pub target_is : c.target ≡ Some d.target
  pub right_is : c.right ≡ renamed number d.right
  pub left : LeftStandsFor number inner cs d.left c.left

-- one by one, in order
abbrev pub OneByOne : {N U W V : Type 0} → (U → W) → (W → Bool) → (among : List (Constraint (Option N) W V)) → List (Constraint N U V) → List (Constraint (Option N) W V) → Type 0
OneByOne number inner among [] [] = Unit {0}
OneByOne number inner among [] (c ∷ cs) = ⊥
OneByOne number inner among (d ∷ ds) [] = ⊥
OneByOne number inner among (d ∷ ds) (c ∷ cs) = StandsFor number inner among d c × OneByOne number inner among ds cs

-- constraints that were gathered from others: the unknowns have numbers, different ones have different numbers, others are inner,
-- and the constraints that are not inner stand for the others one by one
pub record IsGathered {N U W V : Type 0} (ds : List (Constraint N U V)) (cs : List (Constraint (Option N) W V)) : Type 0 where
  pub number : U → W
  pub name : W → U
  pub inner : W → Bool
  pub named : (u : U) → Occurs ds u → name (number u) ≡ u
  pub one_by_one : OneByOne number inner cs ds (outer inner cs)
  pub no_target : (c : Constraint (Option N) W V) → Contains cs c → IsTrue (is_inner inner c.right) → c.target ≡ None

-- what is reported of the steps of a chain, each by its byte, rule and target; of a step without a target nothing
abbrev pub reported_steps : {N U V T : Type 0} → (report : ℕ → ℕ → N → List T) → List (Constraint N U V) → List T
reported_steps report [] = []
reported_steps report (c ∷ rest) = report c.at c.rule c.target ++ reported_steps report rest

abbrev pub report_some : {N T : Type 0} → (report : ℕ → ℕ → N → List T) → ℕ → ℕ → Option N → List T
report_some report at rule None = []
report_some report at rule (Some target) = report at rule target

abbrev pub reported_gathered : {N U V T : Type 0} → (report : ℕ → ℕ → N → List T) → List (Constraint (Option N) U V) → List T
reported_gathered report chain = reported_steps (report_some report) chain
