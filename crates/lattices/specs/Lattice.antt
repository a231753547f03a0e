-- A lattice: an order in which any two elements have a least upper bound, the join, and some element lies below all. Two elements that lie below each other need not be the same one.
-- Source: the lattice of classes of Volpano, Smith and Irvine 1996, and of labels of Myers and Liskov 1997; as a record, our own.
use Rattle.std.specs.Prelude.{Bool, IsTrue}

pub record IsLattice {V : Type 0} (leq : V → V → Type 0) (join : V → V → V) (least : V) : Type 0 where
  pub reflexive : (a : V) → leq a a
  pub transitive : (a b c : V) → leq a b → leq b c → leq a c
  pub above_left : (a b : V) → leq a (join a b)
  pub above_right : (a b : V) → leq b (join a b)
  pub least_above : (a b c : V) → leq a c → leq b c → leq (join a b) c
  pub below_all : (a : V) → leq least a

-- the order of a lattice as a test, its join and its least element
pub record Lattice (V : Type 0) : Type 0 where
  pub leq : V → V → Bool
  pub join : V → V → V
  pub least : V

-- its order is reflexive and transitive, the join is a least upper bound, and the least element lies below all
abbrev pub LatticeLaws : {V : Type 0} → Lattice V → Type 0
LatticeLaws l = IsLattice (λ a b. IsTrue (l.leq a b)) l.join l.least

-- what is above both of two values, and below all that are: their join, or the same up to the order
pub record IsJoin {V : Type 0} (l : Lattice V) (a b c : V) : Type 0 where
  pub above_left : IsTrue (l.leq a c)
  pub above_right : IsTrue (l.leq b c)
  pub least_above : (d : V) → IsTrue (l.leq a d) → IsTrue (l.leq b d) → IsTrue (l.leq c d)
