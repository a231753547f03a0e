-- What is gathered from a program's demands: constraints whose unknowns are the labels that are not written, and inner ones. An
-- inner unknown is the program-counter label at some point of the program. And the numbers of the unknowns.
-- Source: our own; program-counter labels as unknowns as in JFlow (Myers 1999).
use Rattle.std.specs.Prelude.{ℕ, ◌+◌, ◌<◌, List, [], ◌∷◌, Bool, true, false, map, length, sum_by, take, Option}
use Rattle.labels.specs.Label.{Label}
use Rattle.lattices.specs.Constraints.{Atom, Constraint, renamed}
use Rattle.resolved.specs.declared.target.Target.{Target}
use Rattle.resolved.specs.Program.{Program, ProcedureEntry, procedure_at}
use Rattle.resolved.specs.Labelled.{Unwritten, OfLocal, OfLoop, Join}
use Rattle.resolved.specs.Flow.{Gathered}

-- an unknown of what is gathered: a label that is not written, or an inner one by its number, which follows on those of the others
pub data Name : Type 0 where
  Real : Unwritten → Name
  Inner : ℕ → Name

abbrev pub is_inner_name : Name → Bool
is_inner_name (Real u) = false
is_inner_name (Inner k) = true

abbrev pub NamedAtom : Type 0
NamedAtom = Atom Name Label

abbrev pub NamedConstraint : Type 0
NamedConstraint = Constraint (Option Target) Name Label

-- the atoms of a join, as parts of a left side
abbrev pub named_atoms : Join → List NamedAtom
named_atoms [] = []
named_atoms (atom ∷ rest) = renamed Real atom ∷ named_atoms rest

-- ---- numbers: first the locals and the loops of each procedure, in the order of the procedures, then the inner unknowns
abbrev pub own_unknowns : ProcedureEntry → ℕ
own_unknowns procedure = length procedure.slots + procedure.loops

abbrev pub unknowns_before : Program → (f : ℕ) → ℕ
unknowns_before program f = sum_by own_unknowns (take f program.procedures)

abbrev pub real_unknowns : Program → ℕ
real_unknowns program = sum_by own_unknowns program.procedures

-- a label that is not written and that a program has
abbrev pub IsUnwrittenOf : Program → Unwritten → Type 0
IsUnwrittenOf program (OfLocal f n) = (f < length program.procedures) × (n < length (procedure_at program f).slots)
IsUnwrittenOf program (OfLoop f loop) = (f < length program.procedures) × (loop < (procedure_at program f).loops)

abbrev pub unwritten_number : Program → Unwritten → ℕ
unwritten_number program (OfLocal f n) = unknowns_before program f + n
unwritten_number program (OfLoop f loop) = unknowns_before program f + (length (procedure_at program f).slots + loop)

abbrev pub unknown_number : Program → Name → ℕ
unknown_number program (Real u) = unwritten_number program u
unknown_number program (Inner k) = k

-- an atom, and a constraint, with the numbers of its unknowns
abbrev pub numbered_atom : Program → NamedAtom → Atom ℕ Label
numbered_atom program atom = renamed (unknown_number program) atom

abbrev pub numbered : Program → NamedConstraint → Gathered
numbered program c = record {
  at = c.at;
  rule = c.rule;
  left = map (numbered_atom program) c.left;
  target = c.target;
  right = numbered_atom program c.right;
}
