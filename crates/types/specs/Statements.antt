-- The resolved statements that the written ones of a body stand for. Names are tested where they stand, from the left: 301, 302 and 403
-- of names, 303 and 305 in labels, 401 of types, 402 where a call has too many or too few arguments, 703 where an array has a size that is
-- none.
-- Source: our own, block structure in the usual sense: a local's scope runs from the end of its declaration to the end of its block.
use Rattle.std.specs.Prelude.{ℕ, ◌+◌, List, [], ◌∷◌, ◌++◌, length, Bool, false, ◌==◌, ◌&&◌, nat_lt, nat_le, is_none, Option, Some, None, Ok, slice_index_or}
use Rattle.std.specs.Option.{option_map_or}
use Rattle.labels.specs.Label.{Label}
use Rattle.common.specs.declared.direction.Direction.TheVariants.{Input, Output}
use Rattle.syntax.specs.Tree.{NameTree, LabelTree, ExpressionTree, RightTree, ReceivedTree, CalledTree, ValueTree, SizeTree, StatementTree, DeclareTree, DeclareArrayTree, AssignTree, AssignElementTree, CallTree', ReceiveTree, SendTree, IfTree, WhileTree, BreakTree, ContinueTree, ThrowTree, ReturnTree, TryTree, NestedTree, BlockTree, BlockOf, StatementTrees, NoStatement, StatementThen, CatchTrees, NoCatch, CatchThen, expression_at}
use Rattle.common.specs.declared.base_type.BaseType.{BaseType}
use Rattle.common.specs.declared.base_type.BaseType.TheVariants.{Int, Boolean}
use Rattle.resolved.specs.declared.expression.Variable.{Variable}
use Rattle.resolved.specs.declared.expression.Variable.TheVariants.{Local}
use Rattle.resolved.specs.declared.statement.Exit.TheVariants as exits
use Rattle.resolved.specs.Tree.{Expression, Statement, Placed, Assign, Clear, Store, Receive, Send, Call, If, While, Leave, ReturnWith, Try, Nested, Block, Empty, Then, Handlers, NoMore, Catch}
use Rattle.resolved.specs.Program.{SlotEntry}
use Rattle.resolved.specs.WellFormed.{same_base}
use Rattle.types.specs.declared.fault.TypeRefusalKind.TheVariants as refusals
use Rattle.types.specs.declared.scope.ItemKind.TheVariants.{Channel, Exception, Procedure}
use Rattle.types.specs.declared.scope.Meaning.TheVariants as meanings
use Rattle.common.specs.Results.{along, ◌>>=◌}
use Rattle.types.specs.Finding.{Finding, ◌gives◌, give_if, of_option, require, put_last}
use Rattle.types.specs.Environment.{Environment, declaring, fresh_finding, use_as, item_of, scalar_of, array_of}
use Rattle.types.specs.Labels.{LabelScope, label_finding, optional_label_finding}
use Rattle.types.specs.Expressions.{expression_finding, typed_finding}
use Rattle.common.specs.declared.limits.TheConstants.{MAX_ELEMENTS}

-- what a call has to know of a procedure: the types of its parameters, and the type of its value, if it gives one
pub record Signature : Type 0 where
  pub parameters : List BaseType
  pub result : Option BaseType

-- what does not change within a body: what labels of the procedure before it may name, the signatures of the procedures by their
-- numbers, and the type of the value that is to be returned, if one is
pub record Setting : Type 0 where
  pub outer : LabelScope
  pub signatures : List Signature
  pub result : Option BaseType

-- a point of a body: what is in scope, the slots that parameters and locals have taken so far, and how many loops have begun
pub record Point : Type 0 where
  pub names : Environment
  pub slots : List SlotEntry
  pub loops : ℕ

-- what the label of a local may name at a point: each variable in scope, but for the globals that are declared after the procedure
abbrev pub label_scope : Setting → Point → LabelScope
label_scope setting point = record setting.outer { names = point.names; slots = point.slots }

-- the point after the declaration of a parameter or a local, which takes the next slot. Its label is looked at before its name
unfoldable pub declared_finding : LabelScope → Point → (at : ℕ) → BaseType → Option LabelTree → NameTree → (size : Option ℕ) → Finding Point
declared_finding scope point at base label name size = do
  written ← of_option (label_finding scope) label
  fresh_finding (point.names name.text) name.at gives λ _. record point {
    names = declaring name.text (meanings.Variable (Local (length point.slots)) base size) point.names;
    slots = point.slots ++ record { base = base; size = size; written = written; at = at; name = name.text } ∷ [];
  }

-- ---- calls and right sides

-- a call: its procedure, the arguments, each at a place that wants the type of its parameter, and the type of its value, if it gives
-- one. The count of the arguments is tested before they are looked at
unfoldable pub call_finding : List Signature → Environment → NameTree × List ExpressionTree
    → Finding (ℕ × List Expression × Option BaseType)
call_finding signatures names (name, written) = do
  procedure ← use_as (item_of Procedure) (names name.text) name.at
  let signature = slice_index_or signatures procedure (record { parameters = []; result = None })
  _ ← require (length signature.parameters == length written) refusals.WrongArgumentCount name.at
  along (λ found tree. typed_finding names (slice_index_or signature.parameters (length found) Int) tree gives λ e. found ++ e ∷ []) [] written
      gives λ arguments. (procedure, arguments, signature.result)

-- what is assigned to a variable of a type, by a statement that begins at a byte. A number is received, so `receive` is refused where
-- the variable holds another type; the value of a call is tested after its arguments, at the procedure's name
unfoldable pub assigned_finding : List Signature → Environment → (at : ℕ) → Variable → BaseType → RightTree → Finding Statement
assigned_finding signatures names at target base (ReceivedTree receive_at channel) = do
  _ ← require (same_base Int base) refusals.WrongType receive_at
  use_as (item_of (Channel Input)) (names channel.text) channel.at gives λ number. Placed at (Receive number (Some target))
assigned_finding signatures names at target base (CalledTree call) = do
  (procedure, arguments, result) ← call_finding signatures names call
  give_if (option_map_or (same_base base) result false) (Placed at (Call procedure arguments (Some target))) refusals.WrongType call.0.at
assigned_finding signatures names at target base (ValueTree value) = typed_finding names base value gives λ e. Placed at (Assign target e)

-- ---- declarations

-- the size of an array: 1 to 65536
unfoldable pub size_finding : ℕ × ℕ → Finding ℕ
size_finding (at, size) = give_if (nat_lt 0 size && nat_le size MAX_ELEMENTS) size refusals.ArraySize at

-- ---- statements, blocks and handlers

unfoldable mutual
  pub statement_finding : Setting → Point → StatementTree → Finding (Point × Statement)
  -- the name of a local is tested before its right side, where the local is not in scope yet
  statement_finding setting point (DeclareTree at base label name value) = do
    next ← declared_finding (label_scope setting point) point at base label name None
    assigned_finding setting.signatures point.names at (Local (length point.slots)) base value gives λ statement. (next, statement)
  statement_finding setting point (DeclareArrayTree at base label name size) = do
    next ← declared_finding (label_scope setting point) point at base label name (Some size.1)
    size_finding size gives λ _. (next, Placed at (Clear (length point.slots)))
  statement_finding setting point (AssignTree target value) = do
    (x, base) ← use_as scalar_of (point.names target.text) target.at
    assigned_finding setting.signatures point.names target.at x base value gives λ statement. (point, statement)
  statement_finding setting point (AssignElementTree array index value) = do
    (a, base, size) ← use_as array_of (point.names array.text) array.at
    i ← typed_finding point.names Int index
    typed_finding point.names base value gives λ e. (point, Placed array.at (Store a size i e))
  statement_finding setting point (CallTree' call) = call_finding setting.signatures point.names call
      gives λ (procedure, arguments, result). (point, Placed call.0.at (Call procedure arguments None))
  statement_finding setting point (ReceiveTree at channel) =
      use_as (item_of (Channel Input)) (point.names channel.text) channel.at gives λ number. (point, Placed at (Receive number None))
  statement_finding setting point (SendTree at channel value) = do
    number ← use_as (item_of (Channel Output)) (point.names channel.text) channel.at
    typed_finding point.names Int value gives λ e. (point, Placed at (Send number e))
  statement_finding setting point (IfTree at condition body otherwise) = do
    e ← typed_finding point.names Boolean condition
    inner ← block_finding setting point body
    block_finding setting inner.0 otherwise gives λ other. (other.0, Placed at (If e inner.1 other.1))
  statement_finding setting point (WhileTree at condition body) = do
    e ← typed_finding point.names Boolean condition
    block_finding setting (record point { loops = point.loops + 1 }) body gives λ inner. (inner.0, Placed at (While point.loops e inner.1))
  statement_finding setting point (BreakTree at) = Ok (point, Placed at (Leave exits.Break))
  statement_finding setting point (ContinueTree at) = Ok (point, Placed at (Leave exits.Continue))
  statement_finding setting point (ThrowTree at exception) =
      use_as (item_of Exception) (point.names exception.text) exception.at gives λ number. (point, Placed at (Leave (exits.Throw number)))
  statement_finding setting point (ReturnTree at None) = give_if (is_none setting.result) (point, Placed at (ReturnWith None)) refusals.WrongType at
  -- a value is looked at before it is refused in a procedure that gives none
  statement_finding setting point (ReturnTree at (Some value)) = do
    (e, base) ← expression_finding point.names value
    give_if (option_map_or (same_base base) setting.result false) (point, Placed at (ReturnWith (Some e))) refusals.WrongType (expression_at value)
  statement_finding setting point (TryTree at body catches) = do
    inner ← block_finding setting point body
    catches_finding setting inner.0 catches gives λ handled. (handled.0, Placed at (Try inner.1 handled.1))
  statement_finding setting point (NestedTree (BlockOf at statements)) =
      block_finding setting point (BlockOf at statements) gives λ inner. (inner.0, Placed at (Nested inner.1))

  -- after a block what was in scope before it is in scope again; its slots stay taken
  pub block_finding : Setting → Point → BlockTree → Finding (Point × Block)
  block_finding setting point (BlockOf at statements) =
      statements_finding setting point statements gives λ inner. (record inner.0 { names = point.names }, inner.1)

  pub statements_finding : Setting → Point → StatementTrees → Finding (Point × Block)
  statements_finding setting point NoStatement = Ok (point, Empty)
  statements_finding setting point (StatementThen statement rest) = do
    first ← statement_finding setting point statement
    statements_finding setting first.0 rest gives λ others. (others.0, Then first.1 others.1)

  pub catches_finding : Setting → Point → CatchTrees → Finding (Point × Handlers)
  catches_finding setting point NoCatch = Ok (point, NoMore)
  catches_finding setting point (CatchThen at exception body rest) = do
    number ← use_as (item_of Exception) (point.names exception.text) exception.at
    inner ← block_finding setting point body
    catches_finding setting inner.0 rest gives λ others. (others.0, Catch exception.at number inner.1 others.1)

-- ---- parts of the rules, by which proofs speak of them

-- a slot, and the point with one more
abbrev pub slot_of : (at : ℕ) → BaseType → Option Label → List ℕ → (size : Option ℕ) → SlotEntry
slot_of at base label name size = record { base = base; size = size; written = label; at = at; name = name }

abbrev pub with_local : Point → SlotEntry → Point
with_local point slot = record point {
  names = declaring slot.name (meanings.Variable (Local (length point.slots)) slot.base slot.size) point.names;
  slots = point.slots ++ slot ∷ [];
}

abbrev pub signature_at : List Signature → ℕ → Signature
signature_at signatures procedure = slice_index_or signatures procedure (record { parameters = []; result = None })

-- the next argument, at a place that wants the type of its parameter
abbrev pub next_argument : Environment → List BaseType → List Expression → ExpressionTree → Finding (List Expression)
next_argument names parameters found argument = put_last (typed_finding names (slice_index_or parameters (length found) Int)) found argument

-- after a block what was in scope before it is in scope again; its slots stay taken
abbrev pub after_block : Point → Point → Point
after_block before inside = record inside { names = before.names }

-- the declaration of a local
abbrev pub declare_finding : Setting → Point → (at : ℕ) → BaseType → Option LabelTree → NameTree → RightTree → Finding (Point × Statement)
declare_finding setting point at base label name value = statement_finding setting point (DeclareTree at base label name value)

abbrev pub declare_array_finding : Setting → Point → (at : ℕ) → BaseType → Option LabelTree → NameTree → SizeTree → Finding (Point × Statement)
declare_array_finding setting point at base label name size = statement_finding setting point (DeclareArrayTree at base label name size)

-- whether a procedure gives a value, and one of a type
abbrev pub gives_base : BaseType → Option BaseType → Bool
gives_base base result = option_map_or (same_base base) result false

-- arguments, each at a place that wants the type of its parameter
abbrev pub arguments_finding : Environment → List BaseType → List ExpressionTree → Finding (List Expression)
arguments_finding names parameters arguments =
    along (λ found tree. typed_finding names (slice_index_or parameters (length found) Int) tree gives λ e. found ++ e ∷ []) [] arguments
