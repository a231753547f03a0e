-- Private: stored constraints to which more were added.
-- Source: our own.
use Rattle.std.specs.Prelude.{◌≡◌, ℕ, List, [], ◌∷◌, ◌++◌, map, Bool, Option, if◌then◌else◌}
use Rattle.labels.specs.Label.{Label}
use Rattle.lattices.specs.Constraints as formal
use Rattle.resolved.specs.declared.program.Core.{Core}
use Rattle.resolved.specs.declared.target.Target.{Target}
use Rattle.resolved.specs.CoreOf.{program_of}
use Rattle.resolved.specs.Labelled.{Join}
use Rattle.resolved.specs.Program.{Program}
use Rattle.gathering.specs.Names.{NamedAtom, NamedConstraint, named_atoms}
use Rattle.gathering.specs.Walk.{flow}
use Rattle.solver.specs.Rule.{rule_number}
use Rattle.solver.specs.declared.constraints.Atom.{Atom}
use Rattle.solver.specs.declared.constraints.Constraint.{Constraint}
use Rattle.constraints.specs.LeftSides.{part, left_parts, wanted_part}

abbrev pub Stored : Type 0
Stored = Constraint (Option Target)

-- a constraint of parts
abbrev pub PartConstraint : Type 0
PartConstraint = formal.Constraint (Option Target) ℕ (Option Label)

-- what stored constraints stand for, and what they are to stand for
abbrev pub stands_for : (table : List Label) → Stored → PartConstraint
stands_for table c = record {
  at = c.at;
  rule = rule_number c.rule;
  left = left_parts table c.left.items;
  target = c.target;
  right = part table c.right;
}

abbrev pub stand_for : (table : List Label) → List Stored → List PartConstraint
stand_for table constraints = map (stands_for table) constraints

abbrev pub wanted_constraint : Program → NamedConstraint → PartConstraint
wanted_constraint program c = record {
  at = c.at;
  rule = c.rule;
  left = map (wanted_part program) c.left;
  target = c.target;
  right = wanted_part program c.right;
}

-- a left side stands for these parts
abbrev pub IsLeft : Core → (table : List Label) → List NamedAtom → List Atom → Type 0
IsLeft core table named left = left_parts table left ≡ map (wanted_part (program_of core)) named

-- an atom stands for this part; and a left side for what begins with the part of the pc and goes on with a join
abbrev pub IsPart : Core → (table : List Label) → NamedAtom → Atom → Type 0
IsPart core table named atom = part table atom ≡ wanted_part (program_of core) named

abbrev pub IsLeftFrom : Core → (table : List Label) → (pc : Atom) → Join → List Atom → Type 0
IsLeftFrom core table pc join left =
    (named : NamedAtom) → IsPart core table named pc → IsLeft core table (named ∷ named_atoms join) left

-- constraints were added
abbrev pub AreAdded : Core → (table : List Label) → (added : List NamedConstraint) → (old new : List Stored) → Type 0
AreAdded core table added old new =
    stand_for table new ≡ stand_for table old ++ map (wanted_constraint (program_of core)) added

-- what is gathered at a pc was added
abbrev pub IsGatheredAt : Core → (table : List Label) → (pc : Atom) → (NamedAtom → List NamedConstraint) → (old new : List Stored) → Type 0
IsGatheredAt core table pc gathered old new =
    (named : NamedAtom) → IsPart core table named pc → AreAdded core table (gathered named) old new

-- a flow if a test holds
abbrev pub flow_if : Bool → List NamedAtom → Option ℕ → List NamedConstraint
flow_if test left exit_unknown = if test then flow left exit_unknown else []
