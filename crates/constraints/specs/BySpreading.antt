-- Private: the flows of the exceptions of calls that are spread by the table of a program's labels and the calls that were noted.
-- Source: our own.
use Rattle.std.specs.Prelude.{ℕ, List}
use Rattle.solver.specs.declared.constraints.Atom.{Atom}
use Rattle.constraints.specs.ByTable.{labels_in}
use Rattle.constraints.specs.Spreading.{AreLabelsOf, AreSpread, AreSpreadTo, Declares, MadeList}
use Rattle.constraints.specs.declared.journal.Called.{Called}
use Rattle.constraints.specs.declared.rows.ThrownLabel.{ThrownLabel}
use Rattle.constraints.specs.declared.spreading.Spreading.{Spreading}
use Rattle.constraints.specs.declared.table.Table.{Table}

-- labels are those of exceptions of a procedure
abbrev pub AreLabelsBy : Table → (callee : ℕ) → List ThrownLabel → Type 0
AreLabelsBy table = AreLabelsOf table.core.now (labels_in table)

-- the flows of exceptions of calls were spread from an atom, and those of all exceptions that the procedures of calls declare
abbrev pub AreSpreadToBy : Spreading → List ThrownLabel → List Called → (old new : MadeList) → Atom → Type 0
AreSpreadToBy of = AreSpreadTo of.table.now.core.now (labels_in of.table.now) of.journal.now

abbrev pub AreSpreadBy : Spreading → List Called → (old new : MadeList) → Type 0
AreSpreadBy of = AreSpread of.table.now.core.now (labels_in of.table.now) of.journal.now (Declares of.table.now.core.now)
