-- What a program does: the meaning of statements with a bound on the rounds of each loop and on the frames, and what a program
-- has sent.
-- Source: our own; a big-step meaning with fuel, as textbooks give it for programs that may not end.
use Rattle.common.specs.Functions.{updated}
use Rattle.std.specs.Prelude.{ℕ, zero, suc, List, [], ◌∷◌, ◌++◌, ℤ, ◌==◌, if◌then◌else◌, Option, Some, None, map, replicate, slice_get, slice_set, unwrap_or, option_map}
use Rattle.std.specs.Option.{option_map_or}
use Rattle.common.specs.declared.limits.TheConstants.{MAX_FRAMES}
use Rattle.common.specs.declared.sent.Pair.{Pair}
use Rattle.resolved.specs.declared.expression.Variable.{Variable}
use Rattle.resolved.specs.declared.expression.Variable.TheVariants.{Local}
use Rattle.common.specs.declared.value.Value.{Value}
use Rattle.common.specs.declared.value.Value.TheVariants as value
use Rattle.resolved.specs.declared.statement.Exit.{Exit}
use Rattle.resolved.specs.declared.statement.Exit.TheVariants.{Normal, Return, Break, Continue, Throw}
use Rattle.common.specs.declared.direction.Direction.{Direction}
use Rattle.common.specs.declared.direction.Direction.TheVariants.{Input, Output}
use Rattle.resolved.specs.Tree.{Statement, Placed, Assign, Clear, Store, Receive, Send, Call, If, While, Leave, ReturnWith, Try, Nested, Block, Empty, Then, Handlers, NoMore, Catch}
use Rattle.resolved.specs.Program.{Program, GlobalEntry, SlotEntry, ProcedureEntry, channel_at, procedure_at}
use Rattle.resolved.specs.WellFormed.{cell_count}
use Rattle.common.specs.Values.{number_in, truth_in, zero_of, kind_of}
use Rattle.resolved.specs.Exits.{same_exit, has_exit}
use Rattle.resolved.specs.Value.{Evaluated, Yields, Raises, checked_index}
use Rattle.resolved.specs.SourceState.{World, SourceState, cells, with_cells, value_of, values_of}
use Rattle.common.specs.declared.exceptions.TheConstants.{END}

-- why a run stops before its end: a call beyond the frames that there may be, or a loop that would make one round more than the
-- bound
pub data Stop : Type 0 where
  Deep : Stop
  OutOfFuel : Stop

-- what a statement comes to: the exit that it takes, with the value that it returns if it does, and the state then; or a
-- stop, which nothing catches
pub data Outcome : Type 0 where
  Ended : (exit : Exit) (returned : Option Value) → SourceState → Outcome
  Stopped : Stop → SourceState → Outcome

abbrev pub normally : SourceState → Outcome
normally s = Ended Normal None s

-- goes on after an end by one of these exits; an end by another one stays, and so does a stop
abbrev pub onward : (exits : List Exit) → Outcome → (Exit → Option Value → SourceState → Outcome) → Outcome
onward exits (Ended exit returned s) next = if has_exit exits exit then next exit returned s else Ended exit returned s
onward exits (Stopped stop s) next = Stopped stop s

-- goes on with what was evaluated; an exception is the exit
abbrev pub evaluated : {A : Type 0} → Evaluated A → SourceState → (A → Outcome) → Outcome
evaluated (Yields v) s next = next v
evaluated (Raises exception) s next = Ended (Throw exception) None s

-- goes on after the body of a loop where that ended normally or by `continue`; `break` is the normal exit of the loop
abbrev pub looped : Outcome → (SourceState → Outcome) → Outcome
looped body again = onward (Normal ∷ Break ∷ Continue ∷ []) body (λ exit returned s. if same_exit Break exit then normally s else again s)

-- a loop of at most k rounds, by the value of its condition and by what its body does; where the condition is true once more,
-- the run is out of fuel
abbrev pub fuel : (k : ℕ) → (SourceState → Evaluated Value) → (SourceState → Outcome) → SourceState → Outcome
fuel zero condition body s = evaluated (condition s) s (λ v. if truth_in v then Stopped OutOfFuel s else normally s)
fuel (suc k) condition body s = evaluated (condition s) s (λ v. if truth_in v then looped (body s) (fuel k condition body) else normally s)

-- hands an exception to the handlers; every other exit stays
abbrev pub caught : Outcome → (ℕ → SourceState → Outcome) → Outcome
caught (Ended (Throw exception) returned s) handle = handle exception s
caught other handle = other

-- the state in which a target, if there is one, has the value that was received or returned. In a well-formed program without a
-- fault of its exits there is a value wherever there is a target
abbrev pub given_to : Option Variable → Option Value → SourceState → SourceState
given_to (Some x) (Some v) s = with_cells s x (v ∷ [])
given_to target returned s = s

-- takes the next number of an input, or raises `End`
abbrev pub received : List ℤ → (channel : ℕ) → Option Variable → SourceState → Outcome
received [] channel target s = Ended (Throw END) None s
received (z ∷ rest) channel target s = normally (given_to target (Some (value.Int z)) (record s { inputs = updated s.inputs channel rest }))

-- what a call comes to by what the procedure's body does: a return is the normal exit of the call, and the caller has its frame again
abbrev pub leaving : (SourceState → SourceState) → Outcome → Outcome
leaving back (Ended exit returned s) = Ended (if same_exit Return exit then Normal else exit) returned (back s)
leaving back (Stopped stop s) = Stopped stop (back s)

-- what the call of a procedure with these arguments does
abbrev pub Calls : Type 0
Calls = (procedure : ℕ) → List Value → SourceState → Outcome

-- the meaning of statements, blocks and handlers, by what calls do and with at most k rounds of each loop, counted anew each
-- time the loop is reached
abbrev mutual
  pub statement_meaning : Calls → (k : ℕ) → Statement → SourceState → Outcome
  statement_meaning calls k (Placed at (Assign x e)) s = evaluated (value_of s e) s (λ v. normally (with_cells s x (v ∷ [])))
  statement_meaning calls k (Placed at (Clear slot)) s = normally (with_cells s (Local slot) (map (λ v. zero_of (kind_of v)) (s.locals slot)))
  statement_meaning calls k (Placed at (Store array length index e)) s =
      evaluated (value_of s index) s (λ v.
      evaluated (value_of s e) s (λ w.
      evaluated (checked_index v length) s (λ i.
      normally (with_cells s array (slice_set (cells s array) i w)))))
  statement_meaning calls k (Placed at (Receive channel target)) s = received (s.inputs channel) channel target s
  statement_meaning calls k (Placed at (Send channel e)) s =
      evaluated (value_of s e) s (λ v. normally (record s { sent = s.sent ++ (record { channel = channel; number = number_in v } ∷ []) }))
  statement_meaning calls k (Placed at (Call procedure arguments target)) s =
      evaluated (values_of s arguments) s (λ vs. onward (Normal ∷ []) (calls procedure vs s) (λ exit returned t. normally (given_to target returned t)))
  statement_meaning calls k (Placed at (If e then_block else_block)) s =
      evaluated (value_of s e) s (λ v. if truth_in v then block_meaning calls k then_block s else block_meaning calls k else_block s)
  statement_meaning calls k (Placed at (While loop e body)) s = fuel k (λ t. value_of t e) (block_meaning calls k body) s
  statement_meaning calls k (Placed at (Leave exit)) s = Ended exit None s
  statement_meaning calls k (Placed at (ReturnWith None)) s = Ended Return None s
  statement_meaning calls k (Placed at (ReturnWith (Some e))) s = evaluated (value_of s e) s (λ v. Ended Return (Some v) s)
  statement_meaning calls k (Placed at (Try block handlers)) s = caught (block_meaning calls k block s) (handlers_meaning calls k handlers)
  statement_meaning calls k (Placed at (Nested block)) s = block_meaning calls k block s

  pub block_meaning : Calls → (k : ℕ) → Block → SourceState → Outcome
  block_meaning calls k Empty s = normally s
  block_meaning calls k (Then statement rest) s = onward (Normal ∷ []) (statement_meaning calls k statement s) (λ exit returned. block_meaning calls k rest)

  -- the first handler of the exception; without one it goes on
  pub handlers_meaning : Calls → (k : ℕ) → Handlers → (exception : ℕ) → SourceState → Outcome
  handlers_meaning calls k NoMore exception s = Ended (Throw exception) None s
  handlers_meaning calls k (Catch at handled body rest) exception s =
      if exception == handled then block_meaning calls k body s else handlers_meaning calls k rest exception s

-- the cells of a slot of a new frame: the argument of a parameter, and 0 or `false` of a local
abbrev pub first_cells_of_slots : Option SlotEntry → Option Value → List Value
first_cells_of_slots found argument =
    option_map_or (λ (slot : SlotEntry). option_map_or (λ v. v ∷ []) argument (replicate (cell_count slot.size) (zero_of slot.base))) found []

-- the calls of a program where this many more frames may be made, each of which is new; a call beyond them is deep
abbrev pub calls_with : Program → (k frames : ℕ) → Calls
calls_with program k zero procedure arguments s = Stopped Deep s
calls_with program k (suc frames) procedure arguments s =
    leaving (λ t. record t { locals = s.locals })
    (block_meaning (calls_with program k frames) k (procedure_at program procedure).body
    (record s { locals = λ n. first_cells_of_slots (slice_get (procedure_at program procedure).slots n) (slice_get arguments n) }))

abbrev pub numbers_by : Direction → List ℤ → List ℤ
numbers_by Input numbers = numbers
numbers_by Output numbers = []

-- the state in which a run begins: each global has its first value, an array in each element, and an input has the numbers of the
-- world
abbrev pub first_state : Program → World → SourceState
first_state program world = record {
  globals = λ n.
      unwrap_or (option_map (λ (entry : GlobalEntry). replicate (cell_count entry.size) entry.first) (slice_get program.globals n)) [];
  locals = λ n. [];
  inputs = λ channel. numbers_by (channel_at program channel).direction (world channel);
  sent = [];
}

-- the run of a program on a world, where this many frames may be in use at once, `main` included, and each loop makes at most k
-- rounds each time that it is reached
abbrev pub run_within : (frames : ℕ) → Program → World → (k : ℕ) → Outcome
run_within frames program world k = calls_with program k frames program.main [] (first_state program world)

-- how many frames a run may have in use
unfoldable pub frame_limit : ℕ
frame_limit = MAX_FRAMES

abbrev pub state_after : Outcome → SourceState
state_after (Ended exit returned s) = s
state_after (Stopped stop s) = s

-- what a program has sent
abbrev pub sent_by : Program → World → (k : ℕ) → List Pair
sent_by program world k = (state_after (run_within frame_limit program world k)).sent

-- ---- parts, by which proofs speak of them

abbrev pub thrown : (exception : ℕ) → SourceState → Outcome
thrown exception s = Ended (Throw exception) None s

-- goes on after a normal exit, and gives the value of a call to its target
abbrev pub after : Outcome → (SourceState → Outcome) → Outcome
after outcome next = onward (Normal ∷ []) outcome (λ exit returned. next)

abbrev pub returned_to : Option Variable → Outcome → Outcome
returned_to target outcome = onward (Normal ∷ []) outcome (λ exit returned s. normally (given_to target returned s))

-- adds a pair to what was sent
abbrev pub sending : (channel : ℕ) → Value → SourceState → SourceState
sending channel v s = record s { sent = s.sent ++ (record { channel = channel; number = number_in v } ∷ []) }

-- the cells of a new frame, and the state at the begin of a call
abbrev pub frame_of : List SlotEntry → List Value → ℕ → List Value
frame_of slots arguments n = first_cells_of_slots (slice_get slots n) (slice_get arguments n)

abbrev pub entering : ProcedureEntry → List Value → SourceState → SourceState
entering callee arguments s = record s { locals = frame_of callee.slots arguments }

-- the cells of a variable at first, and those of a global
abbrev pub cells_of : Option ℕ → Value → List Value
cells_of size v = replicate (cell_count size) v

abbrev pub first_cells_of_globals : Option GlobalEntry → List Value
first_cells_of_globals found = unwrap_or (option_map (λ (entry : GlobalEntry). replicate (cell_count entry.size) entry.first) found) []
