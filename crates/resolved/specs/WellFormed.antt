-- Well-formed programs: each expression has the base type that is wanted, each number of the tree is in its table and means what
-- its place wants, and the limits of the language are kept. In that order, and each clause under the number of the refusal that a
-- source gets which breaks it; those without a number are kept by whatever makes a program.
-- Source: our own.
use Rattle.std.specs.Prelude.{ℕ, suc, ◌+◌, List, [], ◌∷◌, ◌++◌, Bool, true, false, not, ◌==◌, ◌&&◌, ◌||◌, Option, Some, None, is_none, length, take, sum_by, slice_get, nat_lt, nat_le}
use Rattle.common.specs.declared.exceptions.TheConstants.{BUILT_IN}
use Rattle.common.specs.declared.limits.TheConstants.{MAX_CELLS, MAX_ELEMENTS, MAX_INTEGER, MAX_PRINCIPALS, MAX_TEXT}
use Rattle.std.specs.List.{list_all, list_any}
use Rattle.principals.specs.ActsFor.{PrincipalHierarchy}
use Rattle.labels.specs.Label.{Label, ReaderPolicy}
use Rattle.common.specs.declared.base_type.BaseType.{BaseType}
use Rattle.common.specs.declared.base_type.BaseType.TheVariants.{Int, Boolean}
use Rattle.common.specs.contracts.base_type.BaseTypePartialEq.TheImpl.{eq-value}
use Rattle.common.specs.declared.value.Value.{Value}
use Rattle.common.specs.declared.value.Value.TheVariants as value
use Rattle.resolved.specs.declared.expression.Variable.{Variable}
use Rattle.resolved.specs.declared.expression.Variable.TheVariants.{Global, Local}
use Rattle.common.specs.declared.operator.Prefix.{Prefix}
use Rattle.common.specs.declared.operator.Prefix.TheVariants.{Negate, Not}
use Rattle.common.specs.declared.operator.Operator.{Operator}
use Rattle.common.specs.declared.operator.Operator.TheVariants.{Compute, Compare, Match}
use Rattle.common.specs.declared.direction.Direction.{Direction}
use Rattle.common.specs.declared.direction.Direction.TheVariants.{Input, Output}
use Rattle.resolved.specs.declared.statement.Exit.{Exit}
use Rattle.resolved.specs.declared.statement.Exit.TheVariants.{Normal, Return, Break, Continue, Throw}
use Rattle.resolved.specs.Tree.{Expression, Integer, Logical, Read, Element, Unary, Binary, Short, Statement, Placed, Assign, Clear, Store, Receive, Send, Call, If, While, Leave, ReturnWith, Try, Nested, Block, Empty, Then, Handlers, NoMore, Catch}
use Rattle.labels.specs.Channel.{ChannelContents}
use Rattle.resolved.specs.Program.{Program, ProcedureEntry, SlotEntry, ResultEntry, ThrownEntry, GlobalEntry}
use Rattle.common.specs.Values.{kind_of}
use Rattle.common.specs.Integers.{is_zero}

-- ---- types
abbrev pub same_base : BaseType → BaseType → Bool
same_base one other = eq-value.it one other

-- the base types of operands and results
abbrev pub prefix_base : Prefix → BaseType
prefix_base Negate = Int
prefix_base Not = Boolean

abbrev pub operand_base : Operator → BaseType
operand_base (Compute operator) = Int
operand_base (Compare comparison) = Int
operand_base (Match sameness) = Boolean

abbrev pub result_base : Operator → BaseType
result_base (Compute operator) = Int
result_base (Compare comparison) = Boolean
result_base (Match sameness) = Boolean

-- 301 unknown name, 403 wrong use: what a variable is that is there, a base type, and a length if it is an array
pub record VariableType : Type 0 where
  pub base : BaseType
  pub size : Option ℕ

abbrev pub slot_type : Option SlotEntry → Option VariableType
slot_type None = None
slot_type (Some slot) = Some (record { base = slot.base; size = slot.size })

abbrev pub global_type : Option GlobalEntry → Option VariableType
global_type None = None
global_type (Some entry) = Some (record { base = entry.base; size = entry.size })

abbrev pub variable_type : Program → ProcedureEntry → Variable → Option VariableType
variable_type program procedure (Global n) = global_type (slice_get program.globals n)
variable_type program procedure (Local n) = slot_type (slice_get procedure.slots n)

-- a scalar whose base type passes a test, and an array of this length whose base type does
abbrev pub scalar_by : Option VariableType → (BaseType → Bool) → Bool
scalar_by None test = false
scalar_by (Some type) test = is_none type.size && test type.base

abbrev pub has_length : Option ℕ → ℕ → Bool
has_length None length = false
has_length (Some size) length = size == length

abbrev pub array_by : Option VariableType → (length : ℕ) → (BaseType → Bool) → Bool
array_by None length test = false
array_by (Some type) length test = has_length type.size length && test type.base

-- 401 wrong type: an expression of a base type. Its variables are there (301), of the kind that is wanted (403)
abbrev pub has_base : Program → ProcedureEntry → BaseType → Expression → Bool
has_base program procedure base (Integer n) = same_base Int base && nat_le n MAX_INTEGER
has_base program procedure base (Logical b) = same_base Boolean base
has_base program procedure base (Read x) = scalar_by (variable_type program procedure x) (same_base base)
has_base program procedure base (Element array length index) =
    array_by (variable_type program procedure array) length (same_base base) && has_base program procedure Int index
has_base program procedure base (Unary prefix e) =
    same_base (prefix_base prefix) base && has_base program procedure (prefix_base prefix) e
has_base program procedure base (Binary operator d e) =
    same_base (result_base operator) base
    && has_base program procedure (operand_base operator) d && has_base program procedure (operand_base operator) e
has_base program procedure base (Short connective d e) =
    same_base Boolean base && has_base program procedure Boolean d && has_base program procedure Boolean e

-- 401 wrong type: a base type for the value of a procedure that has one
abbrev pub has_result : Option ResultEntry → (BaseType → Bool) → Bool
has_result None test = false
has_result (Some entry) test = test entry.base

-- 401 wrong type: a target that takes a value whose base type passes a test, if there is a target
abbrev pub target_by : Program → ProcedureEntry → Option Variable → (BaseType → Bool) → Bool
target_by program procedure None test = true
target_by program procedure (Some x) test = scalar_by (variable_type program procedure x) test

-- 301 unknown name, 403 wrong use: a channel of this direction
abbrev pub same_direction : Direction → Direction → Bool
same_direction Input Input = true
same_direction Input Output = false
same_direction Output Input = false
same_direction Output Output = true

abbrev pub channel_is : Option ChannelContents → Direction → Bool
channel_is None direction = false
channel_is (Some entry) direction = same_direction entry.direction direction

-- 402 wrong argument count: arguments for the parameters of a procedure, as many, and each of its base type (401)
abbrev pub arguments_match : Program → ProcedureEntry → List SlotEntry → List Expression → Bool
arguments_match program procedure [] [] = true
arguments_match program procedure [] (e ∷ rest) = false
arguments_match program procedure (parameter ∷ parameters) [] = false
arguments_match program procedure (parameter ∷ parameters) (e ∷ rest) =
    has_base program procedure parameter.base e && arguments_match program procedure parameters rest

abbrev pub parameters_of : ProcedureEntry → List SlotEntry
parameters_of procedure = take procedure.parameters procedure.slots

-- 301 unknown name, 403 wrong use: a call of a procedure that is there, with its arguments, and with a target that takes its value,
-- if there is a target (401)
abbrev pub call_matches : Program → ProcedureEntry → Option ProcedureEntry → List Expression → Option Variable → Bool
call_matches program procedure None arguments target = false
call_matches program procedure (Some callee) arguments target =
    arguments_match program procedure (parameters_of callee) arguments
    && target_by program procedure target (λ base. has_result callee.result (same_base base))

-- 301 unknown name, 403 wrong use: an exception that is there, built in or declared
abbrev pub is_exception : Program → ℕ → Bool
is_exception program exception = nat_lt exception (BUILT_IN + length program.exceptions)

-- what `break`, `continue` and `throw` may take
abbrev pub may_leave_by : Program → Exit → Bool
may_leave_by program Normal = false
may_leave_by program Return = false
may_leave_by program Break = true
may_leave_by program Continue = true
may_leave_by program (Throw exception) = is_exception program exception

abbrev pub is_array : Option VariableType → Bool
is_array None = false
is_array (Some type) = not (is_none type.size)

-- statements, blocks and handlers that fit where they stand: their expressions (401), names (301, 403), arguments (402), and a value
-- that is returned where there is one to return, and only there (401)
abbrev mutual
  pub statement_fits : Program → ProcedureEntry → Statement → Bool
  statement_fits program procedure (Placed at (Assign x e)) =
      scalar_by (variable_type program procedure x) (λ base. has_base program procedure base e)
  statement_fits program procedure (Placed at (Clear slot)) = is_array (variable_type program procedure (Local slot))
  statement_fits program procedure (Placed at (Store array length index e)) =
      array_by (variable_type program procedure array) length (λ base. has_base program procedure base e)
      && has_base program procedure Int index
  statement_fits program procedure (Placed at (Receive channel target)) =
      channel_is (slice_get program.channels channel) Input && target_by program procedure target (same_base Int)
  statement_fits program procedure (Placed at (Send channel e)) =
      channel_is (slice_get program.channels channel) Output && has_base program procedure Int e
  statement_fits program procedure (Placed at (Call callee arguments target)) =
      call_matches program procedure (slice_get program.procedures callee) arguments target
  statement_fits program procedure (Placed at (If e then_block else_block)) =
      has_base program procedure Boolean e && block_fits program procedure then_block && block_fits program procedure else_block
  statement_fits program procedure (Placed at (While loop e body)) =
      has_base program procedure Boolean e && block_fits program procedure body
  statement_fits program procedure (Placed at (Leave exit)) = may_leave_by program exit
  statement_fits program procedure (Placed at (ReturnWith None)) = is_none procedure.result
  statement_fits program procedure (Placed at (ReturnWith (Some e))) =
      has_result procedure.result (λ base. has_base program procedure base e)
  statement_fits program procedure (Placed at (Try block handlers)) =
      block_fits program procedure block && handlers_fit program procedure handlers
  statement_fits program procedure (Placed at (Nested block)) = block_fits program procedure block

  pub block_fits : Program → ProcedureEntry → Block → Bool
  block_fits program procedure Empty = true
  block_fits program procedure (Then statement rest) =
      statement_fits program procedure statement && block_fits program procedure rest

  pub handlers_fit : Program → ProcedureEntry → Handlers → Bool
  handlers_fit program procedure NoMore = true
  handlers_fit program procedure (Catch at handled body rest) =
      is_exception program handled && block_fits program procedure body && handlers_fit program procedure rest

-- ---- numbers
-- no refusal: the numbers of the loops, in the order of the text
abbrev mutual
  pub statement_loops : Statement → List ℕ
  statement_loops (Placed at (Assign x e)) = []
  statement_loops (Placed at (Clear slot)) = []
  statement_loops (Placed at (Store array length index e)) = []
  statement_loops (Placed at (Receive channel target)) = []
  statement_loops (Placed at (Send channel e)) = []
  statement_loops (Placed at (Call callee arguments target)) = []
  statement_loops (Placed at (If e then_block else_block)) = block_loops then_block ++ block_loops else_block
  statement_loops (Placed at (While loop e body)) = loop ∷ block_loops body
  statement_loops (Placed at (Leave exit)) = []
  statement_loops (Placed at (ReturnWith e)) = []
  statement_loops (Placed at (Try block handlers)) = block_loops block ++ handlers_loops handlers
  statement_loops (Placed at (Nested block)) = block_loops block

  pub block_loops : Block → List ℕ
  block_loops Empty = []
  block_loops (Then statement rest) = statement_loops statement ++ block_loops rest

  pub handlers_loops : Handlers → List ℕ
  handlers_loops NoMore = []
  handlers_loops (Catch at handled body rest) = block_loops body ++ handlers_loops rest

-- whether numbers count up from n
abbrev pub counts_from : (n : ℕ) → List ℕ → Bool
counts_from n [] = true
counts_from n (m ∷ rest) = m == n && counts_from (suc n) rest

-- 303 unknown principal: a label of the principals that there are
abbrev pub policy_fits : PrincipalHierarchy → ReaderPolicy → Bool
policy_fits h policy =
    nat_lt policy.owner (length h.names) && list_all (λ reader. nat_lt reader (length h.names)) policy.readers

abbrev pub label_fits : PrincipalHierarchy → Label → Bool
label_fits h label = list_all (policy_fits h) label

abbrev pub written_fits : PrincipalHierarchy → Option Label → Bool
written_fits h None = true
written_fits h (Some label) = label_fits h label

abbrev pub result_fits : PrincipalHierarchy → Option ResultEntry → Bool
result_fits h None = true
result_fits h (Some entry) = label_fits h entry.label

-- no refusal: a parameter is a scalar with a written label
abbrev pub parameter_fits : SlotEntry → Bool
parameter_fits slot = is_none slot.size && not (is_none slot.written)

-- 302 declared twice: exceptions that are there (301, 403), each named once
abbrev pub throws_fit : Program → List ThrownEntry → Bool
throws_fit program [] = true
throws_fit program (entry ∷ rest) =
    is_exception program entry.exception
    && label_fits program.hierarchy entry.label
    && not (list_any (λ (other : ThrownEntry). other.exception == entry.exception) rest)
    && throws_fit program rest

-- 401 wrong type: the first value of a global is of its base type, and that of an array is 0 or `false`
abbrev pub is_zero_value : Value → Bool
is_zero_value (value.Int z) = is_zero z
is_zero_value (value.Bool b) = not b

abbrev pub first_fits : GlobalEntry → Bool
first_fits entry = same_base (kind_of entry.first) entry.base && (is_none entry.size || is_zero_value entry.first)

-- 304 no proper main: a procedure at which a run can begin, without parameters and a value
abbrev pub main_fits : Option ProcedureEntry → Bool
main_fits None = false
main_fits (Some procedure) = procedure.parameters == 0 && is_none procedure.result

-- ---- limits

-- the nodes of a program, and those of one label
abbrev pub node_limit : ℕ
node_limit = MAX_TEXT

-- the cells of a variable
abbrev pub cell_count : Option ℕ → ℕ
cell_count None = 1
cell_count (Some length) = length

-- 703 array size: a length that an array may have
abbrev pub size_fits : Option ℕ → Bool
size_fits None = true
size_fits (Some length) = nat_lt 0 length && nat_le length MAX_ELEMENTS

-- no refusal, since a source is short: how many nodes a program has, its expressions, statements and handlers, and the entries of its tables
abbrev pub expression_nodes : Expression → ℕ
expression_nodes (Integer n) = 1
expression_nodes (Logical b) = 1
expression_nodes (Read x) = 1
expression_nodes (Element array length index) = 1 + expression_nodes index
expression_nodes (Unary prefix e) = 1 + expression_nodes e
expression_nodes (Binary operator d e) = 1 + expression_nodes d + expression_nodes e
expression_nodes (Short connective d e) = 1 + expression_nodes d + expression_nodes e

abbrev pub some_nodes : Option Expression → ℕ
some_nodes None = 0
some_nodes (Some e) = expression_nodes e

abbrev mutual
  pub statement_nodes : Statement → ℕ
  statement_nodes (Placed at (Assign x e)) = 1 + expression_nodes e
  statement_nodes (Placed at (Clear slot)) = 1
  statement_nodes (Placed at (Store array length index e)) = 1 + expression_nodes index + expression_nodes e
  statement_nodes (Placed at (Receive channel target)) = 1
  statement_nodes (Placed at (Send channel e)) = 1 + expression_nodes e
  statement_nodes (Placed at (Call callee arguments target)) = 1 + sum_by expression_nodes arguments
  statement_nodes (Placed at (If e then_block else_block)) = 1 + expression_nodes e + block_nodes then_block + block_nodes else_block
  statement_nodes (Placed at (While loop e body)) = 1 + expression_nodes e + block_nodes body
  statement_nodes (Placed at (Leave exit)) = 1
  statement_nodes (Placed at (ReturnWith e)) = 1 + some_nodes e
  statement_nodes (Placed at (Try block handlers)) = 1 + block_nodes block + handlers_nodes handlers
  statement_nodes (Placed at (Nested block)) = 1 + block_nodes block

  pub block_nodes : Block → ℕ
  block_nodes Empty = 0
  block_nodes (Then statement rest) = statement_nodes statement + block_nodes rest

  pub handlers_nodes : Handlers → ℕ
  handlers_nodes NoMore = 0
  handlers_nodes (Catch at handled body rest) = 1 + block_nodes body + handlers_nodes rest

abbrev pub procedure_nodes : ProcedureEntry → ℕ
procedure_nodes procedure = 1 + length procedure.slots + length procedure.throws + block_nodes procedure.body

abbrev pub program_nodes : Program → ℕ
program_nodes program =
    length program.channels + length program.exceptions + length program.globals + sum_by procedure_nodes program.procedures

-- no refusal, since a source is short: how many policies a label has, and readers in them
abbrev pub label_nodes : Label → ℕ
label_nodes label = sum_by (λ (policy : ReaderPolicy). 1 + length policy.readers) label

-- ---- procedures, globals and programs
-- 704 too many cells: those of a frame
abbrev pub procedure_fits : Program → ProcedureEntry → Bool
procedure_fits program procedure =
    nat_le procedure.parameters (length procedure.slots)
    && list_all parameter_fits (parameters_of procedure)
    && list_all (λ (slot : SlotEntry). size_fits slot.size && written_fits program.hierarchy slot.written) procedure.slots
    && nat_le (sum_by (λ (slot : SlotEntry). cell_count slot.size) procedure.slots) MAX_CELLS
    && result_fits program.hierarchy procedure.result
    && label_fits program.hierarchy procedure.begin_label
    && label_fits program.hierarchy procedure.end_label
    && throws_fit program procedure.throws
    && block_fits program procedure procedure.body
    && counts_from 0 (block_loops procedure.body)
    && length (block_loops procedure.body) == procedure.loops

-- 704 too many cells: those of all globals
abbrev pub globals_fit : Program → Bool
globals_fit program =
    list_all (λ (entry : GlobalEntry). size_fits entry.size && label_fits program.hierarchy entry.label && first_fits entry)
    program.globals
    && nat_le (sum_by (λ (entry : GlobalEntry). cell_count entry.size) program.globals) MAX_CELLS

-- a well-formed program
abbrev pub well_formed : Program → Bool
well_formed program =
    nat_le (length program.hierarchy.names) MAX_PRINCIPALS
    && list_all (λ (entry : ChannelContents). label_fits program.hierarchy entry.label) program.channels
    && globals_fit program
    && list_all (procedure_fits program) program.procedures
    && main_fits (slice_get program.procedures program.main)
    && nat_le (program_nodes program) node_limit
    && list_all (λ (entry : ChannelContents). nat_le (label_nodes entry.label) node_limit) program.channels
