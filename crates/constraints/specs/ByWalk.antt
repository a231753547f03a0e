-- Private: what a walk of a procedure asks for, adds and comes past.
-- Source: our own.
use Rattle.std.specs.Prelude.{ℕ, List}
use Rattle.resolved.specs.declared.statement.Exit.{Exit}
use Rattle.resolved.specs.declared.tables.Procedure.{Procedure}
use Rattle.resolved.specs.Labelled.{Scope}
use Rattle.resolved.specs.Tree.{Block, Handlers, Statement}
use Rattle.path_map.specs.Exits.{Exits}
use Rattle.gathering.specs.Names.{NamedAtom, NamedConstraint}
use Rattle.solver.specs.declared.constraints.Atom.{Atom}
use Rattle.constraints.specs.Added.{Stored}
use Rattle.constraints.specs.ByTable.{labels_in, scope_at}
use Rattle.constraints.specs.ExitUnknowns.{exit_unknowns_around}
use Rattle.constraints.specs.Procedures.{IsOf, IsProcedureWalked}
use Rattle.constraints.specs.Ready.{AreHandlersReady, AreStatementsReady, IsBlockReady, IsFormReady, IsProcedureReady, IsStatementReady, entries_of}
use Rattle.constraints.specs.Walked.{AreHandlersWalked, AreStatementsWalked, IsBlockWalked, IsFormWalked, IsStatementWalked, IsWalked}
use Rattle.constraints.specs.Walks.{IsSimple}
use Rattle.constraints.specs.declared.around.Around.{Around}
use Rattle.constraints.specs.declared.around.Context.{Context}
use Rattle.constraints.specs.declared.exit_unknowns.ExitUnknowns.{ExitUnknowns}
use Rattle.constraints.specs.declared.progress.Progress.{Progress}
use Rattle.constraints.specs.declared.statements.ProcedureWalk.{ProcedureWalk}

-- the procedure of a walk in its program, and the summaries of the exits along which it goes
abbrev pub scope_in : ProcedureWalk → Scope
scope_in walk = scope_at walk.table.now walk.procedure

abbrev pub entries_in : ProcedureWalk → List Exits
entries_in walk = entries_of walk.map.now

-- it is a walk of this procedure
abbrev pub IsWalkOf : ProcedureWalk → Procedure → Type 0
IsWalkOf walk = IsOf walk.table.now.core.now walk.procedure

-- what is gathered of a statement without inner unknowns was added
abbrev pub IsSimpleBy : ProcedureWalk → Around → Statement → (old new : List Stored) → Type 0
IsSimpleBy walk around =
    IsSimple walk.table.now.core.now (labels_in walk.table.now) walk.procedure around.pc (exit_unknowns_around around)

-- ---- what the walk asks for before it goes past a block, its statements, one of them, what is in one, handlers and the procedure
abbrev pub IsBlockReadyBy : ProcedureWalk → ExitUnknowns → Block → (now : Progress) → Type 0
IsBlockReadyBy walk = IsBlockReady walk.table.now.core.now (entries_in walk) walk.procedure

abbrev pub AreStatementsReadyBy : ProcedureWalk → ExitUnknowns → Block → (now : Progress) → Type 0
AreStatementsReadyBy walk = AreStatementsReady walk.table.now.core.now (entries_in walk) walk.procedure

abbrev pub IsStatementReadyBy : ProcedureWalk → ExitUnknowns → Statement → (now : Progress) → Type 0
IsStatementReadyBy walk = IsStatementReady walk.table.now.core.now (entries_in walk) walk.procedure

abbrev pub IsFormReadyBy : ProcedureWalk → ExitUnknowns → Statement → (now : Progress) → Type 0
IsFormReadyBy walk = IsFormReady walk.table.now.core.now (entries_in walk) walk.procedure

abbrev pub AreHandlersReadyBy : ProcedureWalk → ExitUnknowns → Handlers → (now : Progress) → Type 0
AreHandlersReadyBy walk = AreHandlersReady walk.table.now.core.now (entries_in walk) walk.procedure

abbrev pub IsProcedureReadyBy : ProcedureWalk → (barrier : ℕ) → Procedure → (now : Progress) → Type 0
IsProcedureReadyBy walk = IsProcedureReady walk.table.now.core.now (entries_in walk) walk.procedure

-- ---- past what the walk came
abbrev pub IsWalkedBy : ProcedureWalk → (pc : Atom) → ExitUnknowns → (paths : List (List Exit)) → (gathered : NamedAtom → List NamedConstraint) → (made : ℕ) → (old new : Progress) → Type 0
IsWalkedBy walk = IsWalked walk.table.now.core.now (labels_in walk.table.now) (entries_in walk)

abbrev pub IsBlockWalkedBy : ProcedureWalk → Context → Block → (old new : Progress) → Type 0
IsBlockWalkedBy walk context =
    IsBlockWalked walk.table.now.core.now (labels_in walk.table.now) (entries_in walk) walk.procedure context.pc context.exit_unknowns.now

abbrev pub AreStatementsWalkedBy : ProcedureWalk → Context → Block → (old new : Progress) → Type 0
AreStatementsWalkedBy walk context =
    AreStatementsWalked walk.table.now.core.now (labels_in walk.table.now) (entries_in walk) walk.procedure context.pc context.exit_unknowns.now

abbrev pub IsStatementWalkedBy : ProcedureWalk → Context → (normal : ℕ) → Statement → (old new : Progress) → Type 0
IsStatementWalkedBy walk context =
    IsStatementWalked walk.table.now.core.now (labels_in walk.table.now) (entries_in walk) walk.procedure context.pc context.exit_unknowns.now

abbrev pub IsFormWalkedBy : ProcedureWalk → Context → Statement → (old new : Progress) → Type 0
IsFormWalkedBy walk context =
    IsFormWalked walk.table.now.core.now (labels_in walk.table.now) (entries_in walk) walk.procedure context.pc context.exit_unknowns.now

abbrev pub AreHandlersWalkedBy : ProcedureWalk → (pc : Atom) → ExitUnknowns → (number : ℕ → ℕ) → Handlers → (old new : Progress) → Type 0
AreHandlersWalkedBy walk = AreHandlersWalked walk.table.now.core.now (labels_in walk.table.now) (entries_in walk) walk.procedure

abbrev pub IsProcedureWalkedBy : ProcedureWalk → (barrier : ℕ) → (old new : Progress) → Type 0
IsProcedureWalkedBy walk = IsProcedureWalked walk.table.now.core.now (labels_in walk.table.now) (entries_in walk) walk.procedure
