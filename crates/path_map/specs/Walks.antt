-- Private: what a walk finds of a piece of a program.
-- Source: our own.
use Rattle.std.specs.Prelude.{◌≡◌, ℕ, ◌+◌, ◌<◌, List, [], ◌++◌, length, Bool, true, not, ◌&&◌, IsTrue, All}
use Rattle.common.specs.declared.exceptions.TheConstants.{BUILT_IN}
use Rattle.resolved.specs.FaultParts.{inner_faults}
use Rattle.resolved.specs.declared.program.Core.{Core}
use Rattle.resolved.specs.declared.statement.Exit.{Exit}
use Rattle.resolved.specs.declared.statement.Statement as S
use Rattle.resolved.specs.declared.statement.Handler.{Handler}
use Rattle.resolved.specs.declared.tables.Thrown.{Thrown}
use Rattle.resolved.specs.CoreOf.{program_of}
use Rattle.resolved.specs.TreeOf.{statement_of, block_of, handlers_of}
use Rattle.resolved.specs.Tree.{Handlers}
use Rattle.resolved.specs.Program.{ProcedureEntry}
use Rattle.resolved.specs.WellFormed.{block_fits, handlers_fit, statement_fits}
use Rattle.resolved.specs.Exits.{handles, statement_exits, block_exits, handlers_exits}
use Rattle.resolved.specs.ExitFaults.{block_faults, handlers_faults}
use Rattle.common.specs.declared.refusal.RefusalAt.{RefusalAt}
use Rattle.resolved.specs.declared.fault.ExitRefusalKind.{ExitRefusalKind}
use Rattle.path_map.specs.Exits.{Exits}
use Rattle.path_map.specs.Exits.{exits_of}
use Rattle.path_map.specs.Paths.{HaveSameExits, inner_paths, block_paths, handlers_paths}
use Rattle.path_map.specs.Sets.{IsSum, throws}

-- of a piece with these exits, and with these in it, where `old` are the exits before it and `had` the exceptions so far
pub record IsFound (ends : List Exit) (paths : List (List Exit)) (old new : List (List Exit)) (had has : ℕ → Bool) (found : Exits) : Type 0 where
  pub summary : found ≡ exits_of ends
  pub entries : HaveSameExits new (old ++ paths)
  pub raised : IsSum had (throws ends) has

-- of a piece with nothing in it
abbrev pub IsFoundAlone : (ends : List Exit) → (had has : ℕ → Bool) → Exits → Type 0
IsFoundAlone ends had has found = (entries : List (List Exit)) → IsFound ends [] entries entries had has found

-- of a block with its own entry
abbrev pub IsBlockFound : Core → List S.Statement → (old new : List (List Exit)) (had has : ℕ → Bool) → Exits → Type 0
IsBlockFound core block =
    IsFound (block_exits (program_of core) (block_of block)) (block_paths (program_of core) (block_of block))

-- of a statement without its own entry
abbrev pub IsFormFound : Core → S.Statement → (old new : List (List Exit)) (had has : ℕ → Bool) → Exits → Type 0
IsFormFound core statement =
    IsFound (statement_exits (program_of core) (statement_of statement)) (inner_paths (program_of core) (statement_of statement))

-- of handlers
abbrev pub AreHandlersFound : Core → List Handler → (old new : List (List Exit)) (had has : ℕ → Bool) → Exits → Type 0
AreHandlersFound core handlers =
    IsFound (handlers_exits (program_of core) (handlers_of handlers)) (handlers_paths (program_of core) (handlers_of handlers))

-- the faults of a block, of what is in a statement, and of handlers of a block with these exits
abbrev pub faults_of_block : Core → (in_loop : Bool) → List S.Statement → List (RefusalAt ExitRefusalKind)
faults_of_block core in_loop block = block_faults (program_of core) in_loop true (block_of block)

abbrev pub faults_within : Core → (in_loop : Bool) → S.Statement → List (RefusalAt ExitRefusalKind)
faults_within core in_loop statement = inner_faults (program_of core) in_loop (statement_of statement)

abbrev pub faults_of_handlers : Core → (in_loop : Bool) → (ends : List Exit) → List Handler → List (RefusalAt ExitRefusalKind)
faults_of_handlers core in_loop ends handlers = handlers_faults (program_of core) in_loop ends (handlers_of handlers)

-- the exceptions of a set are those of exits
pub record AreThrown (set : ℕ → Bool) (ends : List Exit) : Type 0 where
  pub has : (exception : ℕ) → set exception ≡ throws ends exception

-- the exceptions of a set that handlers leave
pub record AreLeft (old new : ℕ → Bool) (handlers : Handlers) : Type 0 where
  pub has : (exception : ℕ) → new exception ≡ (old exception && not (handles handlers exception))

-- how many exceptions there are, built in and declared
abbrev pub exception_count : Core → ℕ
exception_count core = BUILT_IN + length (program_of core).exceptions

-- declared exceptions are below a bound
abbrev pub AreThrownInside : (bound : ℕ) → List Thrown → Type 0
AreThrownInside bound throws = All (λ (declared : Thrown). declared.exception < bound) throws

-- a piece fits some procedure, so that its exceptions are there
pub record FitsSome (fitting : ProcedureEntry → Bool) : Type 0 where
  pub procedure : ProcedureEntry
  pub fits : IsTrue (fitting procedure)

abbrev pub BlockFits : Core → List S.Statement → Type 0
BlockFits core block = FitsSome (λ procedure. block_fits (program_of core) procedure (block_of block))

abbrev pub StatementFits : Core → S.Statement → Type 0
StatementFits core statement = FitsSome (λ procedure. statement_fits (program_of core) procedure (statement_of statement))

abbrev pub HandlersFit : Core → List Handler → Type 0
HandlersFit core handlers = FitsSome (λ procedure. handlers_fit (program_of core) procedure (handlers_of handlers))
