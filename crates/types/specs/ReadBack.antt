-- What the numbers in a resolved program stand for: the program is read beside the text. Each number in a body stands for the
-- declaration of the name that is used there, the innermost one in scope, and all else is as it is written. Left open are types,
-- labels, directions of channels, lengths of arrays and numbers of loops: they are no uses of names, and that the program is well
-- formed fits them to the tables.
-- Source: our own, lexical scope in the usual sense, by one rule for each form of the text.
use Rattle.std.specs.Prelude.{◌≡◌, ℕ, List, [], ◌∷◌, ◌++◌, length, map, Bool, Option, Some, None, if◌then◌else◌, bytes_eq, slice_get}
use Rattle.principals.specs.ActsFor.{PrincipalHierarchy}
use Rattle.common.specs.declared.base_type.BaseType.{BaseType}
use Rattle.common.specs.declared.direction.Direction.{Direction}
use Rattle.common.specs.declared.operator.Prefix.{Prefix}
use Rattle.common.specs.declared.operator.Comparison.TheVariants.{Matched}
use Rattle.common.specs.declared.operator.Connective.{Connective}
use Rattle.syntax.specs.declared.tree.BinaryOperator.{BinaryOperator}
use Rattle.syntax.specs.declared.tree.BinaryOperator.TheVariants as binary
use Rattle.syntax.specs.Tree.{NameTree, LabelTree, ExpressionTree, IntegerTree, TruthTree, VariableTree, ElementTree, UnaryTree, BinaryTree, CallTree, RightTree, ReceivedTree, CalledTree, ValueTree, SizeTree, StatementTree, DeclareTree, DeclareArrayTree, AssignTree, AssignElementTree, CallTree', ReceiveTree, SendTree, IfTree, WhileTree, BreakTree, ContinueTree, ThrowTree, ReturnTree, TryTree, NestedTree, BlockTree, BlockOf, StatementTrees, NoStatement, StatementThen, CatchTrees, NoCatch, CatchThen, GlobalValueTree, ParameterTree, ThrownTree, ProcedureTree, ItemTree, ChannelItem, ExceptionItem, GlobalItem, ProcedureItem, ProgramTree}
use Rattle.resolved.specs.declared.expression.Variable.{Variable}
use Rattle.resolved.specs.declared.expression.Variable.TheVariants.{Global, Local}
use Rattle.common.specs.declared.operator.Operator.{Operator}
use Rattle.common.specs.declared.operator.Operator.TheVariants.{Compute, Compare, Match}
use Rattle.resolved.specs.declared.statement.Exit.TheVariants as exits
use Rattle.common.specs.Exceptions.{built_in_names}
use Rattle.resolved.specs.Program.{Program, SlotEntry, ThrownEntry, ProcedureEntry}
use Rattle.resolved.specs.Tree.{Expression, Integer, Logical, Read, Element, Unary, Binary, Short, Statement, Placed, Assign, Clear, Store, Receive, Send, Call, If, While, Leave, ReturnWith, Try, Nested, Block, Empty, Then, Handlers, NoMore, Catch}
use Rattle.types.specs.Laws.{channel_names, global_names, procedure_names}
use Rattle.types.specs.Finding.{give}
use Rattle.types.specs.Resolution.{resolution}

-- ---- scopes

-- a parameter or a local, by its name and the byte at which its declaration begins
pub record Declaration : Type 0 where
  pub name : List ℕ
  pub at : ℕ

-- one that is in scope, by its name and its number
pub record Visible : Type 0 where
  pub name : List ℕ
  pub number : ℕ

-- at a place in a procedure: all parameters and locals that are declared before it, in the order of the text, by which they have
-- their numbers, and those of them that are in scope, the innermost first
pub record NameScope : Type 0 where
  pub declared : List Declaration
  pub visible : List Visible

-- outside of bodies
abbrev pub top_scope : NameScope
top_scope = record { declared = []; visible = [] }

-- after a declaration, which has the next number and is the innermost one
abbrev pub with_declared : NameScope → NameTree → (at : ℕ) → NameScope
with_declared scope name at = record {
  declared = scope.declared ++ record { name = name.text; at = at } ∷ [];
  visible = record { name = name.text; number = length scope.declared } ∷ scope.visible;
}

-- after a block: what was in scope before it is in scope again, and the numbers go on
abbrev pub leaving_block : (before inside : NameScope) → NameScope
leaving_block before inside = record { declared = inside.declared; visible = before.visible }

-- the number of the innermost parameter or local of a name
abbrev pub innermost : List Visible → (name : List ℕ) → Option ℕ
innermost [] name = None
innermost (one ∷ outer) name = if bytes_eq one.name name then Some one.number else innermost outer name

-- ---- uses

-- the name is that of the entry with this number in a table of the top level, of which the names are these, and no parameter or
-- local of that name is in scope
abbrev pub IsItem : NameScope → (names : List (List ℕ)) → NameTree → ℕ → Type 0
IsItem scope names name n = (innermost scope.visible name.text ≡ None) × (slice_get names n ≡ Some name.text)

abbrev pub IsChannel : Program → NameScope → NameTree → ℕ → Type 0
IsChannel program scope name n = IsItem scope (channel_names program) name n

abbrev pub IsException : Program → NameScope → NameTree → ℕ → Type 0
IsException program scope name n = IsItem scope (built_in_names ++ program.exceptions) name n

abbrev pub IsProcedure : Program → NameScope → NameTree → ℕ → Type 0
IsProcedure program scope name n = IsItem scope (procedure_names program) name n

-- a variable or an array
abbrev pub IsVariable : Program → NameScope → NameTree → Variable → Type 0
IsVariable program scope name (Global n) = IsItem scope (global_names program) name n
IsVariable program scope name (Local n) = innermost scope.visible name.text ≡ Some n

-- ---- expressions

-- how an operator is written
abbrev pub written_operator : Operator → BinaryOperator
written_operator (Compute operator) = binary.Compute operator
written_operator (Compare comparison) = binary.Compare comparison
written_operator (Match sameness) = binary.Compare (Matched sameness)

-- a written expression, and the resolved one
pub data ReadsExpression (program : Program) (scope : NameScope) : ExpressionTree → Expression → Type 0 where
  ReadInteger : {at value : ℕ} → ReadsExpression program scope (IntegerTree at value) (Integer value)
  ReadTruth : {at : ℕ} {value : Bool} → ReadsExpression program scope (TruthTree at value) (Logical value)
  ReadVariable : {name : NameTree} {x : Variable} → IsVariable program scope name x
      → ReadsExpression program scope (VariableTree name) (Read x)
  ReadElement : {array : NameTree} {index : ExpressionTree} {a : Variable} {size : ℕ} {i : Expression}
      → IsVariable program scope array a → ReadsExpression program scope index i
      → ReadsExpression program scope (ElementTree array index) (Element a size i)
  ReadUnary : {at : ℕ} {prefix : Prefix} {operand : ExpressionTree} {e : Expression} → ReadsExpression program scope operand e
      → ReadsExpression program scope (UnaryTree at prefix operand) (Unary prefix e)
  ReadBinary : {at : ℕ} {operator : BinaryOperator} {left right : ExpressionTree} {made : Operator} {d e : Expression}
      → written_operator made ≡ operator → ReadsExpression program scope left d → ReadsExpression program scope right e
      → ReadsExpression program scope (BinaryTree at operator left right) (Binary made d e)
  ReadShort : {at : ℕ} {connective : Connective} {left right : ExpressionTree} {d e : Expression}
      → ReadsExpression program scope left d → ReadsExpression program scope right e
      → ReadsExpression program scope (BinaryTree at (binary.Connect connective) left right) (Short connective d e)

-- arguments, one by one
pub data ReadsArguments (program : Program) (scope : NameScope) : List ExpressionTree → List Expression → Type 0 where
  ReadNoArgument : ReadsArguments program scope [] []
  ReadArgument : {argument : ExpressionTree} {e : Expression} {arguments : List ExpressionTree} {es : List Expression}
      → ReadsExpression program scope argument e → ReadsArguments program scope arguments es
      → ReadsArguments program scope (argument ∷ arguments) (e ∷ es)

-- ---- statements

-- a right side, and the statement that begins at this byte and assigns it to a variable
pub data ReadsRight (program : Program) (scope : NameScope) (at : ℕ) (x : Variable) : RightTree → Statement → Type 0 where
  ReadReceived : {receive_at n : ℕ} {channel : NameTree} → IsChannel program scope channel n
      → ReadsRight program scope at x (ReceivedTree receive_at channel) (Placed at (Receive n (Some x)))
  ReadCalled : {call : CallTree} {n : ℕ} {es : List Expression} → IsProcedure program scope call.0 n
      → ReadsArguments program scope call.1 es → ReadsRight program scope at x (CalledTree call) (Placed at (Call n es (Some x)))
  ReadValue : {value : ExpressionTree} {e : Expression} → ReadsExpression program scope value e
      → ReadsRight program scope at x (ValueTree value) (Placed at (Assign x e))

-- from the scope before it to the one after it: a written statement and the resolved one, and likewise blocks, what stands in
-- them, and handlers. The right side of a declaration is read in the scope before it
mutual
  pub data ReadsStatement (program : Program) : NameScope → StatementTree → Statement → NameScope → Type 0 where
    ReadDeclare : {scope : NameScope} {at : ℕ} {base : BaseType} {label : Option LabelTree} {name : NameTree} {right : RightTree}
        {s : Statement} → ReadsRight program scope at (Local (length scope.declared)) right s
        → ReadsStatement program scope (DeclareTree at base label name right) s (with_declared scope name at)
    ReadDeclareArray : {scope : NameScope} {at : ℕ} {base : BaseType} {label : Option LabelTree} {name : NameTree} {size : SizeTree}
        → ReadsStatement program scope (DeclareArrayTree at base label name size) (Placed at (Clear (length scope.declared)))
        (with_declared scope name at)
    ReadAssign : {scope : NameScope} {name : NameTree} {x : Variable} {right : RightTree} {s : Statement}
        → IsVariable program scope name x → ReadsRight program scope name.at x right s
        → ReadsStatement program scope (AssignTree name right) s scope
    ReadStore : {scope : NameScope} {array : NameTree} {a : Variable} {size : ℕ} {index value : ExpressionTree} {i e : Expression}
        → IsVariable program scope array a → ReadsExpression program scope index i → ReadsExpression program scope value e
        → ReadsStatement program scope (AssignElementTree array index value) (Placed array.at (Store a size i e)) scope
    ReadCall : {scope : NameScope} {call : CallTree} {n : ℕ} {es : List Expression} → IsProcedure program scope call.0 n
        → ReadsArguments program scope call.1 es
        → ReadsStatement program scope (CallTree' call) (Placed call.0.at (Call n es None)) scope
    ReadReceive : {scope : NameScope} {at n : ℕ} {channel : NameTree} → IsChannel program scope channel n
        → ReadsStatement program scope (ReceiveTree at channel) (Placed at (Receive n None)) scope
    ReadSend : {scope : NameScope} {at n : ℕ} {channel : NameTree} {value : ExpressionTree} {e : Expression}
        → IsChannel program scope channel n → ReadsExpression program scope value e
        → ReadsStatement program scope (SendTree at channel value) (Placed at (Send n e)) scope
    ReadIf : {scope between after : NameScope} {at : ℕ} {condition : ExpressionTree} {e : Expression} {body otherwise : BlockTree}
        {b c : Block} → ReadsExpression program scope condition e → ReadsBlock program scope body b between
        → ReadsBlock program between otherwise c after
        → ReadsStatement program scope (IfTree at condition body otherwise) (Placed at (If e b c)) after
    ReadWhile : {scope after : NameScope} {at loop : ℕ} {condition : ExpressionTree} {e : Expression} {body : BlockTree} {b : Block}
        → ReadsExpression program scope condition e → ReadsBlock program scope body b after
        → ReadsStatement program scope (WhileTree at condition body) (Placed at (While loop e b)) after
    ReadBreak : {scope : NameScope} {at : ℕ} → ReadsStatement program scope (BreakTree at) (Placed at (Leave exits.Break)) scope
    ReadContinue : {scope : NameScope} {at : ℕ} → ReadsStatement program scope (ContinueTree at) (Placed at (Leave exits.Continue)) scope
    ReadThrow : {scope : NameScope} {at n : ℕ} {exception : NameTree} → IsException program scope exception n
        → ReadsStatement program scope (ThrowTree at exception) (Placed at (Leave (exits.Throw n))) scope
    ReadReturn : {scope : NameScope} {at : ℕ} → ReadsStatement program scope (ReturnTree at None) (Placed at (ReturnWith None)) scope
    ReadReturnValue : {scope : NameScope} {at : ℕ} {value : ExpressionTree} {e : Expression} → ReadsExpression program scope value e
        → ReadsStatement program scope (ReturnTree at (Some value)) (Placed at (ReturnWith (Some e))) scope
    ReadTry : {scope between after : NameScope} {at : ℕ} {body : BlockTree} {b : Block} {catches : CatchTrees} {handlers : Handlers}
        → ReadsBlock program scope body b between → ReadsCatches program between catches handlers after
        → ReadsStatement program scope (TryTree at body catches) (Placed at (Try b handlers)) after
    ReadNested : {scope after : NameScope} {at : ℕ} {statements : StatementTrees} {b : Block}
        → ReadsBlock program scope (BlockOf at statements) b after
        → ReadsStatement program scope (NestedTree (BlockOf at statements)) (Placed at (Nested b)) after

  pub data ReadsBlock (program : Program) : NameScope → BlockTree → Block → NameScope → Type 0 where
    ReadBlock : {before inside : NameScope} {at : ℕ} {statements : StatementTrees} {b : Block}
        → ReadsStatements program before statements b inside
        → ReadsBlock program before (BlockOf at statements) b (leaving_block before inside)

  pub data ReadsStatements (program : Program) : NameScope → StatementTrees → Block → NameScope → Type 0 where
    ReadNoStatement : {scope : NameScope} → ReadsStatements program scope NoStatement Empty scope
    ReadStatement : {before between after : NameScope} {statement : StatementTree} {s : Statement} {rest : StatementTrees} {b : Block}
        → ReadsStatement program before statement s between → ReadsStatements program between rest b after
        → ReadsStatements program before (StatementThen statement rest) (Then s b) after

  pub data ReadsCatches (program : Program) : NameScope → CatchTrees → Handlers → NameScope → Type 0 where
    ReadNoCatch : {scope : NameScope} → ReadsCatches program scope NoCatch NoMore scope
    ReadCatch : {before between after : NameScope} {at n : ℕ} {exception : NameTree} {body : BlockTree} {b : Block} {rest : CatchTrees}
        {handlers : Handlers} → IsException program before exception n → ReadsBlock program before body b between
        → ReadsCatches program between rest handlers after
        → ReadsCatches program before (CatchThen at exception body rest) (Catch exception.at n b handlers) after

-- ---- procedures

-- the exceptions that a procedure declares
pub data ReadsThrows (program : Program) : List ThrownTree → List ThrownEntry → Type 0 where
  ReadNoThrown : ReadsThrows program [] []
  ReadThrown : {thrown : ThrownTree} {entry : ThrownEntry} {rest : List ThrownTree} {entries : List ThrownEntry}
      → IsException program top_scope thrown.0 entry.exception → ReadsThrows program rest entries
      → ReadsThrows program (thrown ∷ rest) (entry ∷ entries)

-- the scope in which a body begins
abbrev pub with_parameters : NameScope → List ParameterTree → NameScope
with_parameters scope [] = scope
with_parameters scope (parameter ∷ rest) = with_parameters (with_declared scope parameter.name parameter.at) rest

abbrev pub slot_declaration : SlotEntry → Declaration
slot_declaration slot = record { name = slot.name; at = slot.at }

-- A procedure: the scope begins with the parameters, and the slots are what is declared up to the end of the body.
pub record ReadsProcedure (program : Program) (written : ProcedureTree) (entry : ProcedureEntry) : Type 0 where
  pub place : entry.at ≡ written.name.at
  pub name : entry.name ≡ written.name.text
  pub throws : ReadsThrows program written.throws entry.throws
  pub parameters : entry.parameters ≡ length written.parameters
  pub after : NameScope
  pub body : ReadsBlock program (with_parameters top_scope written.parameters) written.body entry.body after
  pub slots : map slot_declaration entry.slots ≡ after.declared

-- ---- programs

-- the items of a program: each table has those of its kind in the order of the text, and these are the names in three of them
pub data ReadsItems (program : Program) : List ItemTree → (channels exceptions globals : List (List ℕ)) → List ProcedureEntry → Type 0 where
  ReadNoItem : ReadsItems program [] [] [] [] []
  ReadChannel : {at : ℕ} {direction : Direction} {label : LabelTree} {name : NameTree} {items : List ItemTree} {channels exceptions globals : List (List ℕ)}
      {procedures : List ProcedureEntry} → ReadsItems program items channels exceptions globals procedures
      → ReadsItems program (ChannelItem at direction label name ∷ items) (name.text ∷ channels) exceptions globals procedures
  ReadException : {at : ℕ} {name : NameTree} {items : List ItemTree} {channels exceptions globals : List (List ℕ)}
      {procedures : List ProcedureEntry} → ReadsItems program items channels exceptions globals procedures
      → ReadsItems program (ExceptionItem at name ∷ items) channels (name.text ∷ exceptions) globals procedures
  ReadGlobal : {at : ℕ} {base : BaseType} {label : LabelTree} {name : NameTree} {value : GlobalValueTree} {items : List ItemTree} {channels exceptions globals : List (List ℕ)}
      {procedures : List ProcedureEntry} → ReadsItems program items channels exceptions globals procedures
      → ReadsItems program (GlobalItem at base label name value ∷ items) channels exceptions (name.text ∷ globals) procedures
  ReadProcedure : {written : ProcedureTree} {entry : ProcedureEntry} {items : List ItemTree}
      {channels exceptions globals : List (List ℕ)} {procedures : List ProcedureEntry} → ReadsProcedure program written entry
      → ReadsItems program items channels exceptions globals procedures
      → ReadsItems program (ProcedureItem written ∷ items) channels exceptions globals (entry ∷ procedures)

-- the program that a tree stands for reads as that tree
abbrev pub ProgramsReadAsWritten : Type 0
ProgramsReadAsWritten =
    (h : PrincipalHierarchy) (tree : ProgramTree) (program : Program) → resolution h tree ≡ give program
    → ReadsItems program tree.items (channel_names program) program.exceptions (global_names program) program.procedures
