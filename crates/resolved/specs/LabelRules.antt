-- The rules of labels alone, without possible exits and faults, by which code and proofs walk them: X and the demands of statements,
-- blocks, handlers and procedures. They are those of the judgements (`Labelled`).
-- Source: our own.
use Rattle.std.specs.Prelude.{ℕ, suc, List, [], ◌∷◌, ◌++◌, Bool, not, flat_map, if◌then◌else◌, Some, None}
use Rattle.resolved.specs.declared.expression.Variable.TheVariants.{Local}
use Rattle.resolved.specs.declared.statement.Exit.{Exit}
use Rattle.resolved.specs.declared.statement.Exit.TheVariants.{Normal, Break, Continue, Throw}
use Rattle.resolved.specs.declared.target.Target.{Target}
use Rattle.resolved.specs.declared.target.Target.TheVariants.{ToVariable, ToChannel, ToBegin, ToValue, ToLoop}
use Rattle.resolved.specs.Tree.{Expression, Statement, Placed, Assign, Clear, Store, Receive, Send, Call, If, While, Leave, ReturnWith, Try, Nested, Block, Empty, Then, Handlers, NoMore, Catch}
use Rattle.resolved.specs.Program.{Program, ProcedureEntry}
use Rattle.resolved.specs.Exits.{same_exit, has_exit, one_exit, leaves_loop, index_can_raise, raises, thrown_exits, passes, statement_exits, block_exits, list_if}
use Rattle.resolved.specs.Labelled.{Scope, here, Join, one, label_of, value_label, raise_label, ExitLabels, call_exit_labels, Demand, demand, target_demand, argument_demands, exit_demands}

-- X by what the rule of a form says of it: only possible exits have a label, and where there is one possible exit only, it has pc
-- (the rule of the single path)
abbrev pub at_exits : (exits : List Exit) → (pc : Join) → ExitLabels → ExitLabels
at_exits exits pc x exit = list_if (has_exit exits exit) (if one_exit exits then pc else x exit)

-- X of what is reached at pc, and its demands
pub record LabelRule : Type 0 where
  pub exits : ExitLabels
  pub demands : List Demand

-- two of them together
infixl 50 ◌&&&◌
abbrev pub ◌&&&◌ : LabelRule → LabelRule → LabelRule
first &&& second = record { exits = λ exit. first.exits exit ++ second.exits exit; demands = first.demands ++ second.demands }

-- one without the labels of the exits that fail a test
abbrev pub only_labels : (Exit → Bool) → LabelRule → LabelRule
only_labels test inner = record inner { exits = λ exit. list_if (test exit) (inner.exits exit) }

-- what an expression raises at q
abbrev pub raising : Expression → (q : Join) → LabelRule
raising e q = record { exits = λ exit. list_if (has_exit (thrown_exits (raises e)) exit) q; demands = [] }

-- an expression is evaluated at pc, and its value goes to a target
abbrev pub value_to : Scope → (pc : Join) → (at rule : ℕ) → Expression → Target → LabelRule
value_to scope pc at rule e target =
    let q : Join = pc ++ raise_label scope e in
    record { exits = λ exit. q; demands = demand scope.program at rule (q ++ value_label scope e) target }

-- that of a whole block, by that of its statements
abbrev pub whole_block : Scope → (pc : Join) → Block → LabelRule → LabelRule
whole_block scope pc block inner = record inner { exits = at_exits (block_exits scope.program block) pc inner.exits }

-- X and demands of statements, blocks and handlers
abbrev mutual
  pub label_rule : Scope → (pc : Join) → Statement → LabelRule
  label_rule scope pc (Placed at (Assign x e)) = value_to scope pc at 1 e (ToVariable scope.number x)
  label_rule scope pc (Placed at (Clear slot)) =
      record { exits = λ exit. pc; demands = demand scope.program at 2 pc (ToVariable scope.number (Local slot)) }
  label_rule scope pc (Placed at (Store array length index e)) =
      let out_of_range : Join = list_if (index_can_raise index length) (value_label scope index) in
      let q : Join = pc ++ raise_label scope index ++ raise_label scope e ++ out_of_range in
      let left : Join = q ++ value_label scope index ++ value_label scope e in
      record { exits = λ exit. q; demands = demand scope.program at 3 left (ToVariable scope.number array) }
  label_rule scope pc (Placed at (Receive channel target)) =
      let q : Join = pc ++ one (label_of scope.program (ToChannel channel)) in
      record { exits = λ exit. q; demands = demand scope.program at 4 pc (ToChannel channel) ++ target_demand scope at 4 q target }
  label_rule scope pc (Placed at (Send channel e)) = value_to scope pc at 5 e (ToChannel channel)
  label_rule scope pc (Placed at (Call procedure arguments target)) =
      let q : Join = pc ++ flat_map (raise_label scope) arguments in
      let x : ExitLabels = call_exit_labels scope.program procedure q in
      let given : Join = x Normal ++ one (label_of scope.program (ToValue procedure)) in
      let asked : List Demand = demand scope.program at 6 q (ToBegin procedure) ++ argument_demands scope at q procedure 0 arguments
      ++ target_demand scope at 6 given target in
      record { exits = x; demands = asked }
  label_rule scope pc (Placed at (If e then_block else_block)) =
      let q : Join = pc ++ raise_label scope e in
      let branch : Join = q ++ value_label scope e in
      raising e q &&& whole_block scope branch then_block (block_label_rule scope branch then_block)
      &&& whole_block scope branch else_block (block_label_rule scope branch else_block)
  label_rule scope pc (Placed at (While loop e body)) =
      let to_loop : Join → List Demand = λ left. demand scope.program at 8 left (ToLoop scope.number loop) in
      let q : Join = one (label_of scope.program (ToLoop scope.number loop)) ++ raise_label scope e in
      let b : Join = q ++ value_label scope e in
      let inner : LabelRule = whole_block scope b body (block_label_rule scope b body) in
      raising e q &&& record {
        exits = λ exit. if leaves_loop exit then inner.exits exit else list_if (same_exit Normal exit) (b ++ inner.exits Break);
        demands = to_loop pc ++ inner.demands ++ to_loop (inner.exits Normal ++ inner.exits Continue);
      }
  label_rule scope pc (Placed at (Leave taken)) = record { exits = λ exit. pc; demands = [] }
  label_rule scope pc (Placed at (ReturnWith (Some e))) = value_to scope pc at 10 e (ToValue scope.number)
  label_rule scope pc (Placed at (ReturnWith None)) = record { exits = λ exit. pc; demands = [] }
  label_rule scope pc (Placed at (Try block handlers)) =
      let inner : LabelRule = whole_block scope pc block (block_label_rule scope pc block) in
      only_labels (passes handlers) inner &&& handlers_label_rule scope inner.exits handlers
  label_rule scope pc (Placed at (Nested block)) = whole_block scope pc block (block_label_rule scope pc block)

  pub block_label_rule : Scope → (pc : Join) → Block → LabelRule
  block_label_rule scope pc Empty = record { exits = λ exit. list_if (same_exit Normal exit) pc; demands = [] }
  block_label_rule scope pc (Then statement rest) =
      let inner : LabelRule = label_rule scope pc statement in
      let x : ExitLabels = at_exits (statement_exits scope.program statement) pc inner.exits in
      only_labels (λ exit. not (same_exit Normal exit)) (record inner { exits = x }) &&& block_label_rule scope (x Normal) rest

  pub handlers_label_rule : Scope → ExitLabels → Handlers → LabelRule
  handlers_label_rule scope x NoMore = record { exits = λ exit. []; demands = [] }
  handlers_label_rule scope x (Catch at handled body rest) =
      let pc : Join = x (Throw handled) in
      whole_block scope pc body (block_label_rule scope pc body) &&& handlers_label_rule scope x rest

-- X of a loop whose body is reached at b, by that of the body
abbrev pub loop_exit_labels : (b : Join) → ExitLabels → ExitLabels
loop_exit_labels b body exit = if leaves_loop exit then body exit else list_if (same_exit Normal exit) (b ++ body Break)

-- X of what an expression raises at q
abbrev pub raised_exit_labels : Expression → (q : Join) → ExitLabels
raised_exit_labels e q exit = (raising e q).exits exit

-- X as a rule says it, of statements, of what is left of a block, and of handlers; and X of statements and blocks by their possible exits
abbrev pub statement_rule : Scope → (pc : Join) → Statement → ExitLabels
statement_rule scope pc statement = (label_rule scope pc statement).exits

abbrev pub block_rule : Scope → (pc : Join) → Block → ExitLabels
block_rule scope pc block = (block_label_rule scope pc block).exits

abbrev pub handlers_rule : Scope → ExitLabels → Handlers → ExitLabels
handlers_rule scope x handlers = (handlers_label_rule scope x handlers).exits

abbrev pub statement_exit_labels : Scope → (pc : Join) → Statement → ExitLabels
statement_exit_labels scope pc statement =
    at_exits (statement_exits scope.program statement) pc (statement_rule scope pc statement)

abbrev pub block_exit_labels : Scope → (pc : Join) → Block → ExitLabels
block_exit_labels scope pc block = (whole_block scope pc block (block_label_rule scope pc block)).exits

-- what statements, blocks and handlers demand that are reached at pc
abbrev pub statement_demands : Scope → (pc : Join) → Statement → List Demand
statement_demands scope pc statement = (label_rule scope pc statement).demands

abbrev pub block_demands : Scope → (pc : Join) → Block → List Demand
block_demands scope pc block = (block_label_rule scope pc block).demands

abbrev pub handlers_demands : Scope → ExitLabels → Handlers → List Demand
handlers_demands scope x handlers = (handlers_label_rule scope x handlers).demands

-- what a procedure demands: its body is reached at the begin label
abbrev pub procedure_demands : Scope → List Demand
procedure_demands scope =
    let begin : Join = one (label_of scope.program (ToBegin scope.number)) in
    let body : Block = (here scope).body in
    let inner : LabelRule = whole_block scope begin body (block_label_rule scope begin body) in
    inner.demands ++ exit_demands scope (block_exits scope.program body) inner.exits

-- the demands of a program's procedures from number f on
abbrev pub demands_from : Program → (f : ℕ) → List ProcedureEntry → List Demand
demands_from program f [] = []
demands_from program f (procedure ∷ rest) =
    procedure_demands (record { program = program; number = f }) ++ demands_from program (suc f) rest
