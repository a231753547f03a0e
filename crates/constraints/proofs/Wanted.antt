-- Parts that are to stand for labels: the unknowns with their numbers, where the program has them.
use Rattle.std.proofs.Common.{◌≡◌, refl, ap, ◌∙◌, ℕ, List, [], ◌∷◌, map, length, true}
use Rattle.std.specs.Prelude.{Contains, if◌then◌else◌, nat_lt}
use Rattle.std.proofs.lemmas.Bool.{lt-ltb}
use Rattle.common.proofs.Elements.{Contains-first, Contains-later}
use Rattle.labels.specs.Label.{Label}
use Rattle.lattices.specs.Constraints as formal
use Rattle.resolved.specs.Flow.{Gathered}
use Rattle.resolved.specs.Labelled.{OfLocal, OfLoop, Unwritten}
use Rattle.resolved.specs.Program.{Program, procedure_at}
use Rattle.gathering.specs.Names.{Inner, NamedAtom, NamedConstraint, Real, IsUnwrittenOf, numbered, numbered_atom, unwritten_number}
use Rattle.gathering.specs.Walk.{inner_atom}
use Rattle.gathering.proofs.Ranged.{AllInRange, InRange}
use Rattle.constraints.specs.Added.{PartConstraint, wanted_constraint}
use Rattle.constraints.specs.LeftSides.{Part, Unknown, Written, unwritten_part, wanted_part}

-- the part that an atom with its number is to stand for
abbrev pub wanted : formal.Atom ℕ Label → Part
wanted (formal.Written label) = Written label
wanted (formal.Unknown u) = Unknown u

abbrev pub wanted_of : Gathered → PartConstraint
wanted_of c = record {
  at = c.at;
  rule = c.rule;
  left = map wanted c.left;
  target = c.target;
  right = wanted c.right;
}

-- the parts of a constraint are those with their numbers
abbrev pub AreNumbered : Program → NamedConstraint → Type 0
AreNumbered program c =
    (map (wanted_part program) c.left ≡ map wanted (map (numbered_atom program) c.left)) × (wanted_part program c.right ≡ wanted (numbered_atom program c.right))

module _ (program : Program) where
  unwritten-numbered : (u : Unwritten) → IsUnwrittenOf program u → unwritten_part program u ≡ Unknown (unwritten_number program u)
  unwritten-numbered (OfLocal f n) there =
      let inside : nat_lt n (length (procedure_at program f).slots) ≡ true = lt-ltb n (length (procedure_at program f).slots) there.1 in
      ap (λ b. if b then Unknown (unwritten_number program (OfLocal f n)) else Written []) inside
  unwritten-numbered (OfLoop f loop) there =
      let inside : nat_lt loop (procedure_at program f).loops ≡ true = lt-ltb loop (procedure_at program f).loops there.1 in
      ap (λ b. if b then Unknown (unwritten_number program (OfLoop f loop)) else Written []) inside

  atom-numbered : (bound : ℕ) (a : NamedAtom) → InRange program bound a → wanted_part program a ≡ wanted (numbered_atom program a)
  atom-numbered bound (formal.Written v) there = refl
  atom-numbered bound (formal.Unknown (Real u)) there = unwritten-numbered u there
  atom-numbered bound (formal.Unknown (Inner k)) there = refl

  atoms-numbered : (bound : ℕ) (atoms : List NamedAtom) → AllInRange program bound atoms → map (wanted_part program) atoms ≡ map wanted (map (numbered_atom program) atoms)
  atoms-numbered bound [] all = refl
  atoms-numbered bound (a ∷ rest) all =
      ap (λ x. x ∷ map (wanted_part program) rest) (atom-numbered bound a (all a (Contains-first a rest)))
      ∙ ap (λ xs. wanted (numbered_atom program a) ∷ xs) (atoms-numbered bound rest (λ b h. all b (Contains-later a rest b h)))

  pub numbered-ranged : (bound : ℕ) (c : NamedConstraint) → AllInRange program bound c.left × InRange program bound c.right → AreNumbered program c
  numbered-ranged bound c ranged = (atoms-numbered bound c.left ranged.0, atom-numbered bound c.right ranged.1)

  -- inner unknowns have no other numbers
  pub map-inner : (parts : List ℕ) → map (wanted_part program) (map inner_atom parts) ≡ map wanted (map (numbered_atom program) (map inner_atom parts))
  map-inner [] = refl
  map-inner (k ∷ rest) = ap (λ xs. Unknown k ∷ xs) (map-inner rest)

  constraint-numbered : (c : NamedConstraint) → AreNumbered program c → wanted_constraint program c ≡ wanted_of (numbered program c)
  constraint-numbered c are = rw (are.0, are.1) refl

  pub constraints-numbered : (cs : List NamedConstraint) → ((c : NamedConstraint) → Contains cs c → AreNumbered program c)
      → map (wanted_constraint program) cs ≡ map wanted_of (map (numbered program) cs)
  constraints-numbered [] each = refl
  constraints-numbered (c ∷ cs) each =
      ap (λ x. x ∷ map (wanted_constraint program) cs) (constraint-numbered c (each c (Contains-first c cs)))
      ∙ ap (λ xs. wanted_of (numbered program c) ∷ xs) (constraints-numbered cs (λ d h. each d (Contains-later c cs d h)))
