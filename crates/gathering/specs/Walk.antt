-- Private: the gathering of a program's demands by a walk along its tree, in a size in proportion to the tree (and, for a call, to the
-- exceptions that its callee declares). The program-counter label (pc) of a statement is one atom: an inner unknown where the pc has grown. Each exit
-- that matters has an exit unknown, an inner unknown that was made where the exit is caught, and what an exit is reached at flows to its
-- exit unknown. Inner unknowns have numbers from n on, in the order in which the walk comes to what makes them.
-- Source: our own.
use Rattle.std.specs.Prelude.{ℕ, suc, ◌+◌, ◌<◌, List, [], ◌∷◌, ◌++◌, Bool, true, false, map, filter, length, ◌==◌, ◌&&◌, ◌||◌, if◌then◌else◌, Option, Some, None, Contains, flat_map}
use Rattle.std.specs.List.{list_any}
use Rattle.labels.specs.Label.{Label}
use Rattle.lattices.specs.Constraints.{Atom, Written, Unknown, renamed}
use Rattle.resolved.specs.declared.expression.Variable.{Variable}
use Rattle.resolved.specs.declared.expression.Variable.TheVariants.{Local}
use Rattle.resolved.specs.declared.statement.Exit.{Exit}
use Rattle.resolved.specs.declared.statement.Exit.TheVariants.{Normal, Return, Break, Continue, Throw}
use Rattle.resolved.specs.declared.target.Target.{Target}
use Rattle.resolved.specs.declared.target.Target.TheVariants.{ToVariable, ToChannel, ToBegin, ToParameter, ToValue, ToEnd, ToThrown, ToLoop}
use Rattle.resolved.specs.Tree.{Expression, Integer, Logical, Read, Element, Unary, Binary, Short, Statement, Placed, Assign, Clear, Store, Receive, Send, Call, If, While, Leave, ReturnWith, Try, Nested, Block, Empty, Then, Handlers, NoMore, Catch}
use Rattle.resolved.specs.Program.{Program, ProcedureEntry, ThrownEntry, procedure_at}
use Rattle.common.specs.declared.exceptions.TheConstants.{ARITH, BOUNDS, END}
use Rattle.resolved.specs.Exits.{has_exit, one_exit, index_can_raise, divisor_can_raise, is_division, index_raises, raises, thrown_exits, declared_by, handles, statement_exits, block_exits, list_if}
use Rattle.resolved.specs.Labelled.{Labelling, Scope, here, Join, one, label_of, value_label, any_of, as_one_exit}
use Rattle.resolved.specs.Flow.{Gathered}
use Rattle.gathering.specs.Gathered.{FitsConstraints}
use Rattle.gathering.specs.Names.{Inner, Real, NamedAtom, NamedConstraint, named_atoms, numbered, real_unknowns}

-- ---- constraints
abbrev pub inner_atom : ℕ → NamedAtom
inner_atom k = Unknown (Inner k)

-- one that stands for a demand
abbrev pub rule_constraint : Scope → (at rule : ℕ) → List NamedAtom → Target → List NamedConstraint
rule_constraint scope at rule left target =
    record { at = at; rule = rule; left = left; target = Some target; right = renamed Real (label_of scope.program target) } ∷ []

abbrev pub target_constraint : Scope → (at rule : ℕ) → List NamedAtom → Option Variable → List NamedConstraint
target_constraint scope at rule left None = []
target_constraint scope at rule left (Some x) = rule_constraint scope at rule left (ToVariable scope.number x)

-- an inner one
abbrev pub inner_constraint : List NamedAtom → ℕ → List NamedConstraint
inner_constraint left k = record { at = 0; rule = 0; left = left; target = None; right = inner_atom k } ∷ []

-- ---- exit unknowns: where the label of each exit flows, if anywhere
abbrev pub ExitUnknowns : Type 0
ExitUnknowns = Exit → Option ℕ

abbrev pub nowhere : ExitUnknowns
nowhere exit = None

abbrev pub with_normal : Option ℕ → ExitUnknowns → ExitUnknowns
with_normal normal exit_unknowns Normal = normal
with_normal normal exit_unknowns Return = exit_unknowns Return
with_normal normal exit_unknowns Break = exit_unknowns Break
with_normal normal exit_unknowns Continue = exit_unknowns Continue
with_normal normal exit_unknowns (Throw x) = exit_unknowns (Throw x)

-- in the body of a loop: what goes back to its condition, and what leaves it
abbrev pub in_loop : (back : ℕ) → ExitUnknowns → ExitUnknowns
in_loop back exit_unknowns Normal = Some back
in_loop back exit_unknowns Return = exit_unknowns Return
in_loop back exit_unknowns Break = exit_unknowns Normal
in_loop back exit_unknowns Continue = Some back
in_loop back exit_unknowns (Throw x) = exit_unknowns (Throw x)

-- handlers take their exceptions, the first that handles one for all that do; they have the numbers from n on
abbrev pub handler_count : Handlers → ℕ
handler_count NoMore = 0
handler_count (Catch at handled body rest) = suc (handler_count rest)

abbrev pub handler_number : Handlers → ℕ → (exception : ℕ) → ℕ
handler_number NoMore n x = n
handler_number (Catch at handled body rest) n x = if x == handled then n else handler_number rest (suc n) x

abbrev pub in_try : (number : ℕ → ℕ) → Handlers → ExitUnknowns → ExitUnknowns
in_try number handlers exit_unknowns Normal = exit_unknowns Normal
in_try number handlers exit_unknowns Return = exit_unknowns Return
in_try number handlers exit_unknowns Break = exit_unknowns Break
in_try number handlers exit_unknowns Continue = exit_unknowns Continue
in_try number handlers exit_unknowns (Throw x) = if handles handlers x then Some (number x) else exit_unknowns (Throw x)

-- the exceptions that a procedure declares have the numbers from n on, the first that names one for all that do
abbrev pub thrown_number : List ThrownEntry → ℕ → (exception : ℕ) → ℕ
thrown_number [] n x = n
thrown_number (entry ∷ rest) n x = if x == entry.exception then n else thrown_number rest (suc n) x

abbrev pub declares : List ThrownEntry → (exception : ℕ) → Bool
declares [] x = false
declares (entry ∷ rest) x = (x == entry.exception) || declares rest x

-- the exits of a procedure with number n, and with its declared exceptions from there on
abbrev pub at_end : ℕ → List ThrownEntry → ExitUnknowns
at_end n throws Normal = Some n
at_end n throws Return = Some n
at_end n throws Break = None
at_end n throws Continue = None
at_end n throws (Throw x) = if declares throws x then Some (thrown_number throws (suc n) x) else None

-- ---- flows to exit unknowns
abbrev pub flow : List NamedAtom → Option ℕ → List NamedConstraint
flow left None = []
flow left (Some k) = inner_constraint left k

abbrev pub flows : List NamedAtom → ExitUnknowns → List Exit → List NamedConstraint
flows left exit_unknowns [] = []
flows left exit_unknowns (exit ∷ rest) = flow left (exit_unknowns exit) ++ flows left exit_unknowns rest

-- the exceptions of expressions, each once
abbrev pub raised_once : List ℕ → List ℕ
raised_once exceptions = filter (λ x. list_any (λ y. x == y) exceptions) (ARITH ∷ BOUNDS ∷ [])

abbrev pub raised_flows : List NamedAtom → ExitUnknowns → (raised : List ℕ) → List NamedConstraint
raised_flows left exit_unknowns raised = flows left exit_unknowns (thrown_exits (raised_once raised))

-- where there is one exit only, the pc itself flows to its exit unknown, and nothing within is asked for
abbrev pub single : (only : Bool) → NamedAtom → ExitUnknowns → List Exit → List NamedConstraint
single false pc exit_unknowns exits = []
single true pc exit_unknowns [] = []
single true pc exit_unknowns (exit ∷ rest) = flow (pc ∷ []) (exit_unknowns exit)

abbrev pub within_single : (only : Bool) → ExitUnknowns → ExitUnknowns
within_single only exit_unknowns = if only then nowhere else exit_unknowns

-- a statement or block, by its exits and by what is gathered of it for exit unknowns
abbrev pub by_exits : List Exit → (pc : NamedAtom) → ExitUnknowns → (within : ExitUnknowns → List NamedConstraint) → List NamedConstraint
by_exits exits pc exit_unknowns within = single (one_exit exits) pc exit_unknowns exits ++ within (within_single (one_exit exits) exit_unknowns)

-- the pc of what follows
abbrev pub onward_pc : (only : Bool) → NamedAtom → ℕ → NamedAtom
onward_pc only pc n = if only then pc else inner_atom n

-- ---- left sides
-- what decides whether an expression raises an exception, each part of it once
abbrev pub raise_atoms : Scope → Expression → Join
raise_atoms scope (Integer n) = []
raise_atoms scope (Logical b) = []
raise_atoms scope (Read x) = []
raise_atoms scope (Element array length index) =
    if index_can_raise index length then value_label scope index else raise_atoms scope index
raise_atoms scope (Unary prefix e) = raise_atoms scope e
raise_atoms scope (Binary operator d e) =
    raise_atoms scope d
    ++ (if is_division operator && divisor_can_raise e then value_label scope e else raise_atoms scope e)
raise_atoms scope (Short connective d e) =
    raise_atoms scope e ++ (if any_of (raises e) then value_label scope d else raise_atoms scope d)

abbrev pub raise_atoms_all : Scope → List Expression → Join
raise_atoms_all scope [] = []
raise_atoms_all scope (e ∷ rest) = raise_atoms scope e ++ raise_atoms_all scope rest

-- that of a store: its index, which may be out of range, and its value
abbrev pub store_atoms : Scope → (length : ℕ) → (index e : Expression) → Join
store_atoms scope length index e =
    (if index_can_raise index length then value_label scope index else raise_atoms scope index) ++ raise_atoms scope e

-- what the exits of a call have beside its own label
abbrev pub call_atoms : Program → (callee : ℕ) → Exit → Join
call_atoms program callee Normal = list_if (any_of (procedure_at program callee).throws) (one (label_of program (ToEnd callee)))
call_atoms program callee Return = []
call_atoms program callee Break = []
call_atoms program callee Continue = []
call_atoms program callee (Throw x) = one (label_of program (ToThrown callee x))

-- ---- how many inner unknowns are made
abbrev mutual
  pub made_by_statement : Statement → ℕ
  made_by_statement (Placed at (Assign x e)) = 0
  made_by_statement (Placed at (Clear slot)) = 0
  made_by_statement (Placed at (Store array length index e)) = 0
  made_by_statement (Placed at (Receive channel target)) = 0
  made_by_statement (Placed at (Send channel e)) = 0
  made_by_statement (Placed at (Call procedure arguments target)) = 1
  made_by_statement (Placed at (If e then_block else_block)) = suc (made_by_block then_block + made_by_block else_block)
  made_by_statement (Placed at (While loop e body)) = suc (suc (made_by_block body))
  made_by_statement (Placed at (Leave exit)) = 0
  made_by_statement (Placed at (ReturnWith value)) = 0
  made_by_statement (Placed at (Try block handlers)) = handler_count handlers + (made_by_block block + made_by_handlers handlers)
  made_by_statement (Placed at (Nested block)) = made_by_block block

  pub made_by_block : Block → ℕ
  made_by_block Empty = 0
  made_by_block (Then statement rest) = suc (made_by_statement statement + made_by_block rest)

  pub made_by_handlers : Handlers → ℕ
  made_by_handlers NoMore = 0
  made_by_handlers (Catch at handled body rest) = made_by_block body + made_by_handlers rest

abbrev pub made_by_procedure : Scope → ℕ
made_by_procedure scope = suc (length (here scope).throws + made_by_block (here scope).body)

-- ---- calls: their own label is one inner unknown, so that each of their constraints is short
abbrev pub argument_constraints : Scope → (at own : ℕ) → (callee i : ℕ) → List Expression → List NamedConstraint
argument_constraints scope at own callee i [] = []
argument_constraints scope at own callee i (e ∷ rest) =
    rule_constraint scope at 6 (inner_atom own ∷ named_atoms (value_label scope e)) (ToParameter callee i)
    ++ argument_constraints scope at own callee (suc i) rest

abbrev pub call_flows : Program → (callee own : ℕ) → ExitUnknowns → List Exit → List NamedConstraint
call_flows program callee own exit_unknowns [] = []
call_flows program callee own exit_unknowns (exit ∷ rest) =
    flow (inner_atom own ∷ named_atoms (call_atoms program callee exit)) (exit_unknowns exit) ++ call_flows program callee own exit_unknowns rest

-- the exceptions of the arguments, each once, then those that the callee declares
abbrev pub call_exits : Program → (callee : ℕ) → List Expression → List Exit
call_exits program callee arguments =
    Normal ∷ thrown_exits (raised_once (flat_map raises arguments) ++ declared_by (procedure_at program callee).throws)

abbrev pub call_constraints : Scope → (pc : NamedAtom) → ExitUnknowns → ℕ → (at callee : ℕ) → List Expression → Option Variable → List NamedConstraint
call_constraints scope pc exit_unknowns n at callee arguments target =
    inner_constraint (pc ∷ named_atoms (raise_atoms_all scope arguments)) n
    ++ (rule_constraint scope at 6 (inner_atom n ∷ []) (ToBegin callee)
    ++ (argument_constraints scope at n callee 0 arguments
    ++ (target_constraint scope at 6
    (inner_atom n ∷ named_atoms (call_atoms scope.program callee Normal ++ one (label_of scope.program (ToValue callee)))) target
    ++ call_flows scope.program callee n exit_unknowns (call_exits scope.program callee arguments))))

-- ---- the walk: statements, blocks and handlers that are reached at a pc, with inner unknowns from number n on
abbrev mutual
  -- a statement by what the rule of its form says of its exits
  pub statement_constraints : Scope → (pc : NamedAtom) → ExitUnknowns → ℕ → Statement → List NamedConstraint
  statement_constraints scope pc exit_unknowns n (Placed at (Assign x e)) =
      let q : List NamedAtom = pc ∷ named_atoms (raise_atoms scope e) in
      rule_constraint scope at 1 (pc ∷ named_atoms (value_label scope e)) (ToVariable scope.number x)
      ++ (flow q (exit_unknowns Normal) ++ raised_flows q exit_unknowns (raises e))
  statement_constraints scope pc exit_unknowns n (Placed at (Clear slot)) =
      rule_constraint scope at 2 (pc ∷ []) (ToVariable scope.number (Local slot)) ++ flow (pc ∷ []) (exit_unknowns Normal)
  statement_constraints scope pc exit_unknowns n (Placed at (Store array length index e)) =
      let q : List NamedAtom = pc ∷ named_atoms (store_atoms scope length index e) in
      rule_constraint scope at 3 (pc ∷ named_atoms (value_label scope index ++ value_label scope e)) (ToVariable scope.number array)
      ++ (flow q (exit_unknowns Normal) ++ raised_flows q exit_unknowns (raises index ++ raises e ++ index_raises index length))
  statement_constraints scope pc exit_unknowns n (Placed at (Receive channel target)) =
      let q : List NamedAtom = pc ∷ named_atoms (one (label_of scope.program (ToChannel channel))) in
      rule_constraint scope at 4 (pc ∷ []) (ToChannel channel)
      ++ (target_constraint scope at 4 q target ++ (flow q (exit_unknowns Normal) ++ flow q (exit_unknowns (Throw END))))
  statement_constraints scope pc exit_unknowns n (Placed at (Send channel e)) =
      let q : List NamedAtom = pc ∷ named_atoms (raise_atoms scope e) in
      rule_constraint scope at 5 (pc ∷ named_atoms (value_label scope e)) (ToChannel channel)
      ++ (flow q (exit_unknowns Normal) ++ raised_flows q exit_unknowns (raises e))
  statement_constraints scope pc exit_unknowns n (Placed at (Call procedure arguments target)) =
      call_constraints scope pc exit_unknowns n at procedure arguments target
  statement_constraints scope pc exit_unknowns n (Placed at (If e then_block else_block)) =
      inner_constraint (pc ∷ named_atoms (value_label scope e)) n
      ++ (raised_flows (pc ∷ named_atoms (raise_atoms scope e)) exit_unknowns (raises e)
      ++ (by_exits (block_exits scope.program then_block) (inner_atom n) exit_unknowns (λ t. block_constraints scope true (inner_atom n) t (suc n) then_block)
      ++ by_exits (block_exits scope.program else_block) (inner_atom n) exit_unknowns (λ t. block_constraints scope true (inner_atom n) t (suc n + made_by_block then_block) else_block)))
  statement_constraints scope pc exit_unknowns n (Placed at (While loop e body)) =
      let loop_atom : NamedAtom = renamed Real (label_of scope.program (ToLoop scope.number loop)) in
      rule_constraint scope at 8 (pc ∷ []) (ToLoop scope.number loop)
      ++ (inner_constraint (loop_atom ∷ named_atoms (value_label scope e)) n
      ++ (flow (inner_atom n ∷ []) (exit_unknowns Normal)
      ++ (raised_flows (loop_atom ∷ named_atoms (raise_atoms scope e)) exit_unknowns (raises e)
      ++ (by_exits (block_exits scope.program body) (inner_atom n) (in_loop (suc n) exit_unknowns) (λ t. block_constraints scope true (inner_atom n) t (suc (suc n)) body)
      ++ rule_constraint scope at 8 (inner_atom (suc n) ∷ []) (ToLoop scope.number loop)))))
  statement_constraints scope pc exit_unknowns n (Placed at (Leave exit)) = flow (pc ∷ []) (exit_unknowns exit)
  statement_constraints scope pc exit_unknowns n (Placed at (ReturnWith None)) = flow (pc ∷ []) (exit_unknowns Return)
  statement_constraints scope pc exit_unknowns n (Placed at (ReturnWith (Some e))) =
      let q : List NamedAtom = pc ∷ named_atoms (raise_atoms scope e) in
      rule_constraint scope at 10 (pc ∷ named_atoms (value_label scope e)) (ToValue scope.number)
      ++ (flow q (exit_unknowns Return) ++ raised_flows q exit_unknowns (raises e))
  statement_constraints scope pc exit_unknowns n (Placed at (Try block handlers)) =
      let number : ℕ → ℕ = λ x. handler_number handlers n x in
      by_exits (block_exits scope.program block) pc (in_try number handlers exit_unknowns) (λ t. block_constraints scope true pc t (n + handler_count handlers) block)
      ++ handlers_constraints scope number exit_unknowns ((n + handler_count handlers) + made_by_block block) handlers
  statement_constraints scope pc exit_unknowns n (Placed at (Nested block)) =
      by_exits (block_exits scope.program block) pc exit_unknowns (λ t. block_constraints scope true pc t n block)

  -- the statements of a block that is reached or not, by what the rule of blocks says of its exits
  pub block_constraints : Scope → (reached : Bool) → (pc : NamedAtom) → ExitUnknowns → ℕ → Block → List NamedConstraint
  block_constraints scope reached pc exit_unknowns n Empty = if reached then flow (pc ∷ []) (exit_unknowns Normal) else []
  block_constraints scope reached pc exit_unknowns n (Then statement rest) =
      let exits : List Exit = statement_exits scope.program statement in
      single (one_exit exits) pc (with_normal None exit_unknowns) exits
      ++ (statement_constraints scope pc (within_single (one_exit exits) (with_normal (Some n) exit_unknowns)) (suc n) statement
      ++ block_constraints scope (has_exit exits Normal) (onward_pc (one_exit exits) pc n) exit_unknowns (suc n + made_by_statement statement) rest)

  -- handlers, of which each begins at the inner unknown that took its exception
  pub handlers_constraints : Scope → (number : ℕ → ℕ) → ExitUnknowns → ℕ → Handlers → List NamedConstraint
  handlers_constraints scope number exit_unknowns n NoMore = []
  handlers_constraints scope number exit_unknowns n (Catch at handled body rest) =
      by_exits (block_exits scope.program body) (inner_atom (number handled)) exit_unknowns (λ t. block_constraints scope true (inner_atom (number handled)) t n body)
      ++ handlers_constraints scope number exit_unknowns (n + made_by_block body) rest

-- a block of its own
abbrev pub inner_block : Scope → (pc : NamedAtom) → ExitUnknowns → ℕ → Block → List NamedConstraint
inner_block scope pc exit_unknowns n block =
    by_exits (block_exits scope.program block) pc exit_unknowns (λ t. block_constraints scope true pc t n block)

-- ---- procedures and programs
abbrev pub body_exits : Scope → List Exit
body_exits scope = block_exits scope.program (here scope).body

-- whether a procedure has one exit only, where its normal exit and its return are one
abbrev pub has_one_exit : Scope → Bool
has_one_exit scope = one_exit (map as_one_exit (body_exits scope))

abbrev pub end_exit_unknowns : Scope → ℕ → ExitUnknowns
end_exit_unknowns scope n = if has_one_exit scope then nowhere else at_end n (here scope).throws

-- the demands on the declared exceptions, of which the first has number n
abbrev pub thrown_constraints : Scope → (number : ℕ → ℕ) → List ThrownEntry → List NamedConstraint
thrown_constraints scope number [] = []
thrown_constraints scope number (entry ∷ rest) =
    rule_constraint scope (here scope).at 13 (inner_atom (number entry.exception) ∷ []) (ToThrown scope.number entry.exception)
    ++ thrown_constraints scope number rest

abbrev pub exit_constraints : Scope → ℕ → List NamedConstraint
exit_constraints scope n =
    if has_one_exit scope then []
    else (rule_constraint scope (here scope).at 13 (inner_atom n ∷ []) (ToEnd scope.number)
    ++ thrown_constraints scope (λ x. thrown_number (here scope).throws (suc n) x) (here scope).throws)

-- a procedure: its end has number n, then come its exceptions, then what its body makes
abbrev pub procedure_constraints : Scope → ℕ → List NamedConstraint
procedure_constraints scope n =
    inner_block scope (renamed Real (label_of scope.program (ToBegin scope.number))) (end_exit_unknowns scope n)
    (suc n + length (here scope).throws) (here scope).body
    ++ exit_constraints scope n

abbrev pub constraints_from : Program → (f n : ℕ) → List ProcedureEntry → List NamedConstraint
constraints_from program f n [] = []
constraints_from program f n (procedure ∷ rest) =
    let scope : Scope = record { program = program; number = f } in
    procedure_constraints scope n ++ constraints_from program (suc f) (n + made_by_procedure scope) rest

abbrev pub program_constraints : Program → List NamedConstraint
program_constraints program = constraints_from program 0 (real_unknowns program) program.procedures

-- how many inner unknowns procedures make
abbrev pub made_from : Program → (f : ℕ) → List ProcedureEntry → ℕ
made_from program f [] = 0
made_from program f (procedure ∷ rest) =
    made_by_procedure (record { program = program; number = f }) + made_from program (suc f) rest

-- what is gathered, with numbers for the unknowns
abbrev pub gathered_constraints : Program → List Gathered
gathered_constraints program = map (numbered program) (program_constraints program)

-- how many unknowns there are, and constraints whose unknowns have numbers below a count
abbrev pub unknown_count : Program → ℕ
unknown_count program = real_unknowns program + made_from program 0 program.procedures

abbrev pub IsUnknownBelow : (count : ℕ) → Atom ℕ Label → Type 0
IsUnknownBelow count (Written label) = Unit {0}
IsUnknownBelow count (Unknown u) = u < count

abbrev pub AreUnknownsBelow : (count : ℕ) → List Gathered → Type 0
AreUnknownsBelow count cs =
    (c : Gathered) → Contains cs c → ((atom : Atom ℕ Label) → Contains c.left atom → IsUnknownBelow count atom) × IsUnknownBelow count c.right

-- a labelling fits what is gathered, with some labels for the inner unknowns
abbrev pub FitsGathered : Program → Labelling → Type 0
FitsGathered program labelling = FitsConstraints program (gathered_constraints program) labelling
