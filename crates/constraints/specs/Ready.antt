-- Private: what a walk along blocks, statements, handlers and procedures asks for before it goes past them.
-- Source: our own.
use Rattle.std.specs.Prelude.{◌≡◌, ℕ, ◌+◌, ◌*◌, ◌≤◌, ◌<◌, List, ◌++◌, drop, length, map, Bool, IsTrue}
use Rattle.std.specs.List.{All}
use Rattle.common.specs.declared.limits.TheConstants.{MAX_TEXT}
use Rattle.resolved.specs.declared.program.Core.{Core}
use Rattle.resolved.specs.declared.statement.Exit.{Exit}
use Rattle.resolved.specs.declared.statement.Handler.{Handler}
use Rattle.resolved.specs.declared.tables.Procedure.{Procedure}
use Rattle.resolved.specs.CoreOf.{program_of}
use Rattle.resolved.specs.Labelled.{here}
use Rattle.resolved.specs.Tree.{Statement, Block, Handlers}
use Rattle.resolved.specs.WellFormed.{block_fits, handlers_fit, procedure_fits, statement_fits}
use Rattle.gathering.specs.Walk.{made_by_block, made_by_handlers, made_by_procedure, made_by_statement}
use Rattle.path_map.specs.Exits.{Exits}
use Rattle.path_map.specs.Exits.{exits_of}
use Rattle.path_map.specs.Paths.{block_paths, handlers_paths, inner_paths, rest_paths, statement_paths}
use Rattle.path_map.specs.Walks.{exception_count}
use Rattle.constraints.specs.LeftSides.{scope_of}
use Rattle.constraints.specs.Procedures.{IsOf}
use Rattle.constraints.specs.ExitUnknowns.{AreLevelled, AreWithin}
use Rattle.constraints.specs.declared.progress.Progress.{Progress}
use Rattle.constraints.specs.declared.exit_unknowns.ExitUnknown.{ExitUnknown}
use Rattle.constraints.specs.declared.exit_unknowns.ExitUnknowns.{ExitUnknowns}

-- the summaries of the exits of a program's statements and blocks, along which a walk goes
abbrev pub entries_of : List (List Exit) → List Exits
entries_of found = map exits_of found

-- the number of an unknown is below this one
abbrev pub most_unknowns : ℕ
most_unknowns = 4 * MAX_TEXT

-- this many inner unknowns may be made
abbrev pub MayMakeUnknowns : (made : ℕ) → (now : Progress) → Type 0
MayMakeUnknowns made now = now.number + made ≤ most_unknowns

-- exceptions that have entries
abbrev pub AreHandledInside : List Handler → (thrown : List ExitUnknown) → Type 0
AreHandledInside handlers thrown = All (λ (handler : Handler). handler.exception < length thrown) handlers

-- the path map goes on with these paths, no level is above that of the exit unknowns, each exception has an entry, what is walked fits the
-- program, there is room for the inner unknowns that it makes, and there are this many more of these than levels
pub record IsReady (core : Core) (entries : List Exits) (exit_unknowns : ExitUnknowns) (paths : List (List Exit)) (fits : Bool) (made more : ℕ) (now : Progress) : Type 0 where
  pub left : List Exits
  pub goes_on : drop now.index entries ≡ map exits_of paths ++ left
  pub levelled : AreLevelled exit_unknowns now.thrown.items
  pub wide : exception_count core ≤ length now.thrown.items
  pub fitting : IsTrue fits
  pub room : MayMakeUnknowns made now
  pub deep : exit_unknowns.level + more ≤ now.number

-- for a block of its own, and for its statements
abbrev pub IsBlockReady : Core → (entries : List Exits) → (procedure : ℕ) → ExitUnknowns → Block → (now : Progress) → Type 0
IsBlockReady core entries procedure exit_unknowns block now =
    IsReady core entries exit_unknowns (block_paths (program_of core) block)
    (block_fits (program_of core) (here (scope_of core procedure)) block) (made_by_block block) 0 now

abbrev pub AreStatementsReady : Core → (entries : List Exits) → (procedure : ℕ) → ExitUnknowns → Block → (now : Progress) → Type 0
AreStatementsReady core entries procedure exit_unknowns block now =
    IsReady core entries exit_unknowns (rest_paths (program_of core) block)
    (block_fits (program_of core) (here (scope_of core procedure)) block) (made_by_block block) 0 now

-- for a statement of a block, for whose normal exit one was made, and for what is in one
abbrev pub IsStatementReady : Core → (entries : List Exits) → (procedure : ℕ) → ExitUnknowns → Statement → (now : Progress) → Type 0
IsStatementReady core entries procedure exit_unknowns statement now =
    IsReady core entries exit_unknowns (statement_paths (program_of core) statement)
    (statement_fits (program_of core) (here (scope_of core procedure)) statement) (made_by_statement statement) 1 now

abbrev pub IsFormReady : Core → (entries : List Exits) → (procedure : ℕ) → ExitUnknowns → Statement → (now : Progress) → Type 0
IsFormReady core entries procedure exit_unknowns statement now =
    IsReady core entries exit_unknowns (inner_paths (program_of core) statement)
    (statement_fits (program_of core) (here (scope_of core procedure)) statement) (made_by_statement statement) 1 now

-- for the bodies of handlers
abbrev pub AreHandlersReady : Core → (entries : List Exits) → (procedure : ℕ) → ExitUnknowns → Handlers → (now : Progress) → Type 0
AreHandlersReady core entries procedure exit_unknowns handlers now =
    IsReady core entries exit_unknowns (handlers_paths (program_of core) handlers)
    (handlers_fit (program_of core) (here (scope_of core procedure)) handlers) (made_by_handlers handlers) 0 now

-- for a procedure of the program, where no entry's level is above a barrier
pub record IsProcedureReady (core : Core) (entries : List Exits) (f barrier : ℕ) (procedure : Procedure) (now : Progress) : Type 0 where
  pub left : List Exits
  pub goes_on : drop now.index entries ≡ map exits_of (block_paths (program_of core) (here (scope_of core f)).body) ++ left
  pub within : AreWithin barrier now.thrown.items
  pub wide : exception_count core ≤ length now.thrown.items
  pub is : IsOf core f procedure
  pub fitting : IsTrue (procedure_fits (program_of core) (here (scope_of core f)))
  pub room : MayMakeUnknowns (made_by_procedure (scope_of core f)) now
  pub deep : barrier ≤ now.number
