-- Private: how the parts that are kept for unknowns are laid out, one row after the other, while further unknowns are held for later rows.
-- Source: our own.
use Rattle.std.specs.Prelude.{◌≡◌, ◌⊎◌, ℕ, ◌<◌, ◌≤◌, List, [], ◌∷◌, Contains, Option, None, Some}
use Rattle.solver.specs.declared.constraints.Atom.{Atom}
use Rattle.solver.specs.declared.constraints.Atom.TheVariants.{Unknown}
use Rattle.constraints.specs.Added.{Stored}
use Rattle.constraints.specs.Merging.{AreLaidOut, Flows, Row, parts_at}
use Rattle.constraints.specs.declared.laying.Further.{Further}

-- a further unknown that stands for these parts
pub record IsFurther (first next : ℕ) (stands : ℕ → List Atom) (laid : List Stored) (u : ℕ) (parts : List Atom) : Type 0 where
  pub from_first : first ≤ u
  pub below_next : u < next
  pub stands_for : stands u ≡ parts
  pub goes : (part : Atom) → Contains parts part → Flows laid part (Unknown u)

-- the rows below a number were laid out, and further unknowns are held
pub record AreLaidSoFar (rows : List Row) (below first next : ℕ) (held : List Further) (old new : List Stored) : Type 0 where
  pub are : AreLaidOut rows below first next old new
  pub held_are : (further : Further) → Contains held further → IsFurther first next are.stands are.laid further.number further.parts.items

-- all parts of a row are parts of another one
abbrev pub IsPieceOf : List Row → (k : ℕ) → List Atom → Type 0
IsPieceOf rows k piece = (part : Atom) → Contains piece part → Contains (parts_at rows k) part

-- more was laid out, with the same further unknowns and others
pub record IsMoreLaid (rows : List Row) (k first next more : ℕ) (old middle new : List Stored) (before : AreLaidOut rows k first next old middle) (after : AreLaidOut rows k first more old new) : Type 0 where
  pub least : next ≤ more
  pub laid : (c : Stored) → Contains before.laid c → Contains after.laid c
  pub stands : (u : ℕ) → u < next → after.stands u ≡ before.stands u

-- a further unknown for a piece was found, or none
pub record IsPieceFound (rows : List Row) (k first next more : ℕ) (had held : List Further) (old middle new : List Stored) (before : AreLaidSoFar rows k first next had old middle) (piece : List Atom) (found : Option ℕ) : Type 0 where
  pub after : AreLaidSoFar rows k first more held old new
  pub is_more : IsMoreLaid rows k first next more old middle new before.are after.are
  pub stands_for : (u : ℕ) → found ≡ Some u → IsFurther first more after.are.stands after.are.laid u piece

-- what stands for a piece on a left side: the further unknown that was found, or the piece itself
abbrev pub by_found : Option ℕ → List Atom → List Atom
by_found None piece = piece
by_found (Some u) piece = Unknown u ∷ []

-- a part is on a left side, or flows to a further unknown there
abbrev pub LeadsByLeft : (left : List Atom) → List Stored → (part : Atom) → Type 0
LeadsByLeft left laid part = Contains left part ⊎ ((u : ℕ) × Contains left (Unknown u) × Flows laid part (Unknown u))

-- a further unknown that stands for parts of a row
pub record IsOfRow (rows : List Row) (k first next : ℕ) (stands : ℕ → List Atom) (atom : Atom) : Type 0 where
  pub by : ℕ
  pub is : atom ≡ Unknown by
  pub from_first : first ≤ by
  pub below_next : by < next
  pub some : (one : Atom) × Contains (stands by) one
  pub each : IsPieceOf rows k (stands by)

-- some parts of a row go by a left side
pub record IsRowBegun (rows : List Row) (k first next : ℕ) (held : List Further) (old new : List Stored) (done left : List Atom) : Type 0 where
  pub so_far : AreLaidSoFar rows k first next held old new
  pub goes : (part : Atom) → Contains done part → LeadsByLeft left so_far.are.laid part
  pub came : (atom : Atom) → Contains left atom → Contains (parts_at rows k) atom ⊎ IsOfRow rows k first next so_far.are.stands atom
