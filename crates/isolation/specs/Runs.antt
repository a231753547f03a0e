-- What the laws of runs say: which exits a statement comes to, and how a run goes on with more fuel.
-- Source: our own.
use Rattle.std.specs.Prelude.{◌≡◌, ℕ, ◌≤◌, List, [], ◌∷◌, Some, None, IsTrue, slice_get}
use Rattle.labels.specs.Sent.{IsPrefix}
use Rattle.common.specs.declared.base_type.BaseType.{BaseType}
use Rattle.common.specs.declared.value.Value.{Value}
use Rattle.resolved.specs.declared.statement.Exit.{Exit}
use Rattle.resolved.specs.declared.statement.Exit.TheVariants.{Normal, Return, Break, Continue, Throw}
use Rattle.resolved.specs.Tree.{Statement, Block}
use Rattle.resolved.specs.Program.{Program, ProcedureEntry, ResultEntry, procedure_at}
use Rattle.common.specs.Values.{kind_of}
use Rattle.resolved.specs.SourceState.{World, SourceState}
use Rattle.resolved.specs.Meaning.{Outcome, Ended, Stopped, OutOfFuel, Deep, state_after, statement_meaning, block_meaning, calls_with, run_within, sent_by}
use Rattle.resolved.specs.Exits.{has_exit, thrown_exits, declared_by, statement_exits, block_exits}
use Rattle.resolved.specs.Labelled.{exit_faults}
use Rattle.resolved.specs.WellFormed.{parameters_of, well_formed}
use Rattle.resolved.specs.Kinds.{ArgumentsFit, StateFits}

-- the exit that was reached, if one was, is one of these
abbrev pub ExitsAmong : List Exit → Outcome → Type 0
ExitsAmong exits (Ended exit returned s) = IsTrue (has_exit exits exit)
ExitsAmong exits (Stopped stop s) = Unit {0}

-- in a program without a fault of its exits, each exit that a statement or a block comes to is one of its possible exits
abbrev pub StatementsEndAsTheyMay : Program → Type 0
StatementsEndAsTheyMay program =
    exit_faults program ≡ [] → (frames k : ℕ) (statement : Statement) (s : SourceState)
    → ExitsAmong (statement_exits program statement) (statement_meaning (calls_with program k frames) k statement s)

abbrev pub BlocksEndAsTheyMay : Program → Type 0
BlocksEndAsTheyMay program =
    exit_faults program ≡ [] → (frames k : ℕ) (block : Block) (s : SourceState)
    → ExitsAmong (block_exits program block) (block_meaning (calls_with program k frames) k block s)

-- and a call ends normally or by an exception that its procedure declares
abbrev pub CallsEndAsDeclared : Program → Type 0
CallsEndAsDeclared program =
    exit_faults program ≡ [] → (frames k f : ℕ) (arguments : List Value) (s : SourceState)
    → ExitsAmong (Normal ∷ thrown_exits (declared_by (procedure_at program f).throws)) (calls_with program k frames f arguments s)

-- a call that ended normally gave a value of this base type
abbrev pub GivesValue : BaseType → Outcome → Type 0
GivesValue base (Ended Normal (Some v) s) = kind_of v ≡ base
GivesValue base (Ended Normal None s) = ⊥
GivesValue base (Ended Return returned s) = Unit {0}
GivesValue base (Ended Break returned s) = Unit {0}
GivesValue base (Ended Continue returned s) = Unit {0}
GivesValue base (Ended (Throw exception) returned s) = Unit {0}
GivesValue base (Stopped stop s) = Unit {0}

-- so does each call of a procedure with a value, with arguments that fit its parameters, from a state that fits some caller, in a
-- well-formed program without a fault of its exits
abbrev pub CallsGiveTheirValue : Program → Type 0
CallsGiveTheirValue program =
    IsTrue (well_formed program) → exit_faults program ≡ []
    → (f : ℕ) (callee : ProcedureEntry) (value : ResultEntry) → slice_get program.procedures f ≡ Some callee → callee.result ≡ Some value
    → (caller : ProcedureEntry) (s : SourceState) → StateFits program caller s
    → (arguments : List Value) → ArgumentsFit (parameters_of callee) arguments
    → (frames k : ℕ) → GivesValue value.base (calls_with program k frames f arguments s)

-- what was sent before a statement stays sent, and what it sends comes after it
abbrev pub SentStaysSent : Program → Type 0
SentStaysSent program =
    (frames k : ℕ) (statement : Statement) (s : SourceState)
    → IsPrefix s.sent (state_after (statement_meaning (calls_with program k frames) k statement s)).sent

-- the second outcome is that of the first run with more fuel: where the first run was out of fuel, the second has sent what
-- the first has, and perhaps more; where it had come to an end, or was too deep, the second is the same
abbrev pub GoesOn : Outcome → Outcome → Type 0
GoesOn (Stopped OutOfFuel s) more = IsPrefix s.sent (state_after more).sent
GoesOn (Stopped Deep s) more = more ≡ Stopped Deep s
GoesOn (Ended exit returned s) more = more ≡ Ended exit returned s

-- so it is for all runs of a program, and what it sends with less fuel is a prefix of what it sends with more
abbrev pub RunsGoOn : Program → Type 0
RunsGoOn program =
    (frames : ℕ) (world : World) (k m : ℕ) → k ≤ m → GoesOn (run_within frames program world k) (run_within frames program world m)

abbrev pub SentOnlyGrows : Program → Type 0
SentOnlyGrows program = (world : World) (k m : ℕ) → k ≤ m → IsPrefix (sent_by program world k) (sent_by program world m)
