-- Syntax trees as contracts see them: texts are lists of bytes, repetitions are lists, and a node lies nowhere in memory. After
-- them the tree that each value of the code stands for.
-- Source: the usual abstract syntax of a small imperative language with exceptions; that labels are written in it is of Myers 1999.
use Rattle.std.specs.Prelude.{ℕ, Bool, List, [], ◌∷◌, map, Option, None, Some, unwrap_or, option_map}
use Rattle.syntax.specs.declared.tree.Name.{Name}
use Rattle.syntax.specs.declared.tree.Component.{Component}
use Rattle.syntax.specs.declared.tree.Component.TheVariants as components
use Rattle.syntax.specs.declared.tree.WrittenLabel.{WrittenLabel}
use Rattle.common.specs.declared.base_type.BaseType.{BaseType}
use Rattle.common.specs.declared.operator.Prefix.{Prefix}
use Rattle.syntax.specs.declared.tree.BinaryOperator.{BinaryOperator}
use Rattle.syntax.specs.declared.tree.Expression as declared_expression
use Rattle.syntax.specs.declared.tree.Expression.{Expression}
use Rattle.syntax.specs.declared.tree.Call.{Call}
use Rattle.syntax.specs.declared.tree.RightSide.{RightSide}
use Rattle.syntax.specs.declared.tree.RightSide.TheVariants as right_sides
use Rattle.syntax.specs.declared.tree.Size.{Size}
use Rattle.syntax.specs.declared.tree.Statement as declared_statement
use Rattle.syntax.specs.declared.tree.Statement.{Statement, Row_of-Statement, end_of-Statement, more_of-Statement, Row_of-Catch, end_of-Catch, more_of-Catch}
use Rattle.syntax.specs.declared.tree.Block.{Block}
use Rattle.syntax.specs.declared.tree.Catch.{Catch}
use Rattle.common.specs.declared.direction.Direction.{Direction}
use Rattle.syntax.specs.declared.tree.Channel.{Channel}
use Rattle.syntax.specs.declared.tree.Constant.{Constant}
use Rattle.syntax.specs.declared.tree.Constant.TheVariants as constants
use Rattle.syntax.specs.declared.tree.GlobalValue.{GlobalValue}
use Rattle.syntax.specs.declared.tree.GlobalValue.TheVariants as global_values
use Rattle.syntax.specs.declared.tree.GlobalVariable.{GlobalVariable}
use Rattle.syntax.specs.declared.tree.WrittenResult.{WrittenResult}
use Rattle.syntax.specs.declared.tree.WrittenResult.TheVariants as outcomes
use Rattle.syntax.specs.declared.tree.Parameter.{Parameter}
use Rattle.syntax.specs.declared.tree.Thrown.{Thrown}
use Rattle.syntax.specs.declared.tree.Procedure.{Procedure}
use Rattle.syntax.specs.declared.tree.Item.{Item}
use Rattle.syntax.specs.declared.tree.Item.TheVariants as items

-- a name where it stands
pub record NameTree : Type 0 where
  pub at : ℕ
  pub text : List ℕ

-- a component of a label: a policy with its owner and its readers, or a variable, for the policies of its label
pub data ComponentTree : Type 0 where
  PolicyComponent : (owner : NameTree) (readers : List NameTree) → ComponentTree
  VariableComponent : NameTree → ComponentTree

pub record LabelTree : Type 0 where
  pub at : ℕ
  pub components : List ComponentTree

pub data ExpressionTree : Type 0 where
  IntegerTree : (at value : ℕ) → ExpressionTree
  TruthTree : (at : ℕ) → Bool → ExpressionTree
  VariableTree : NameTree → ExpressionTree
  ElementTree : NameTree → ExpressionTree → ExpressionTree
  UnaryTree : (at : ℕ) → Prefix → ExpressionTree → ExpressionTree
  BinaryTree : (at : ℕ) → BinaryOperator → ExpressionTree → ExpressionTree → ExpressionTree

-- what is assigned; a call is the name of a procedure with the arguments
pub data RightTree : Type 0 where
  ReceivedTree : (at : ℕ) → NameTree → RightTree
  CalledTree : NameTree × List ExpressionTree → RightTree
  ValueTree : ExpressionTree → RightTree

-- statements, and what holds them; lists of them are types of their own, since they hold one another; an array has the place of its
-- size and the size
mutual
  pub data StatementTree : Type 0 where
    DeclareTree : (at : ℕ) → BaseType → Option LabelTree → NameTree → RightTree → StatementTree
    DeclareArrayTree : (at : ℕ) → BaseType → Option LabelTree → NameTree → (size : ℕ × ℕ) → StatementTree
    AssignTree : NameTree → RightTree → StatementTree
    AssignElementTree : NameTree → ExpressionTree → ExpressionTree → StatementTree
    CallTree' : NameTree × List ExpressionTree → StatementTree
    ReceiveTree : (at : ℕ) → NameTree → StatementTree
    SendTree : (at : ℕ) → NameTree → ExpressionTree → StatementTree
    IfTree : (at : ℕ) → ExpressionTree → BlockTree → (otherwise : BlockTree) → StatementTree
    WhileTree : (at : ℕ) → ExpressionTree → BlockTree → StatementTree
    BreakTree : (at : ℕ) → StatementTree
    ContinueTree : (at : ℕ) → StatementTree
    ThrowTree : (at : ℕ) → NameTree → StatementTree
    ReturnTree : (at : ℕ) → Option ExpressionTree → StatementTree
    TryTree : (at : ℕ) → BlockTree → CatchTrees → StatementTree
    NestedTree : BlockTree → StatementTree

  pub data BlockTree : Type 0 where
    BlockOf : (at : ℕ) → StatementTrees → BlockTree

  pub data StatementTrees : Type 0 where
    NoStatement : StatementTrees
    StatementThen : StatementTree → StatementTrees → StatementTrees

  pub data CatchTrees : Type 0 where
    NoCatch : CatchTrees
    CatchThen : (at : ℕ) → NameTree → BlockTree → CatchTrees → CatchTrees

-- lists of statements, and of handlers, as these types
abbrev pub statements_of : List StatementTree → StatementTrees
statements_of [] = NoStatement
statements_of (statement ∷ rest) = StatementThen statement (statements_of rest)

abbrev pub catches_of : List (ℕ × NameTree × BlockTree) → CatchTrees
catches_of [] = NoCatch
catches_of ((at, exception, body) ∷ rest) = CatchThen at exception body (catches_of rest)

pub data ConstantTree : Type 0 where
  IntegerConstant : (at : ℕ) (negative : Bool) (value : ℕ) → ConstantTree
  TruthConstant : (at : ℕ) → Bool → ConstantTree

pub data GlobalValueTree : Type 0 where
  ScalarTree : ConstantTree → GlobalValueTree
  ArrayTree : (size : ℕ × ℕ) → GlobalValueTree

pub record ParameterTree : Type 0 where
  pub at : ℕ
  pub base : BaseType
  pub label : LabelTree
  pub name : NameTree

-- a procedure; what is thrown has a label each
pub record ProcedureTree : Type 0 where
  pub at : ℕ
  pub result : Option (BaseType × LabelTree)
  pub name : NameTree
  pub begin : Option LabelTree
  pub parameters : List ParameterTree
  pub end : Option LabelTree
  pub throws : List (NameTree × LabelTree)
  pub body : BlockTree

pub data ItemTree : Type 0 where
  ChannelItem : (at : ℕ) → Direction → LabelTree → NameTree → ItemTree
  ExceptionItem : (at : ℕ) → NameTree → ItemTree
  GlobalItem : (at : ℕ) → BaseType → LabelTree → NameTree → GlobalValueTree → ItemTree
  ProcedureItem : ProcedureTree → ItemTree

pub record ProgramTree : Type 0 where
  pub items : List ItemTree

abbrev pub expression_at : ExpressionTree → ℕ
expression_at (IntegerTree at value) = at
expression_at (TruthTree at value) = at
expression_at (VariableTree name) = name.at
expression_at (ElementTree array index) = array.at
expression_at (UnaryTree at operator operand) = at
expression_at (BinaryTree at operator left right) = at

abbrev pub block_at : BlockTree → ℕ
block_at (BlockOf at statements) = at

abbrev pub statement_at : StatementTree → ℕ
statement_at (DeclareTree at base label name value) = at
statement_at (DeclareArrayTree at base label name size) = at
statement_at (AssignTree target value) = target.at
statement_at (AssignElementTree array index value) = array.at
statement_at (CallTree' call) = call.0.at
statement_at (ReceiveTree at channel) = at
statement_at (SendTree at channel value) = at
statement_at (IfTree at condition body otherwise) = at
statement_at (WhileTree at condition body) = at
statement_at (BreakTree at) = at
statement_at (ContinueTree at) = at
statement_at (ThrowTree at exception) = at
statement_at (ReturnTree at value) = at
statement_at (TryTree at body catches) = at
statement_at (NestedTree body) = block_at body

abbrev pub item_at : ItemTree → ℕ
item_at (ChannelItem at direction label name) = at
item_at (ExceptionItem at name) = at
item_at (GlobalItem at base label name value) = at
item_at (ProcedureItem procedure) = procedure.at

-- a name with readers after it owns a policy, and one without them is that of a variable
abbrev pub component_of : NameTree → Option (List NameTree) → ComponentTree
component_of name readers = unwrap_or (option_map (PolicyComponent name) readers) (VariableComponent name)

-- a channel, and a global, by the parts of its item
pub record ChannelTree : Type 0 where
  pub at : ℕ
  pub direction : Direction
  pub label : LabelTree
  pub name : NameTree

abbrev pub channel_item : ChannelTree → ItemTree
channel_item channel = ChannelItem channel.at channel.direction channel.label channel.name

pub record GlobalTree : Type 0 where
  pub at : ℕ
  pub base : BaseType
  pub label : LabelTree
  pub name : NameTree
  pub value : GlobalValueTree

abbrev pub global_item : GlobalTree → ItemTree
global_item global = GlobalItem global.at global.base global.label global.name global.value

-- a call, the size of an array, what a procedure answers, and what it throws
abbrev pub CallTree : Type 0
CallTree = NameTree × List ExpressionTree

abbrev pub SizeTree : Type 0
SizeTree = ℕ × ℕ

abbrev pub WrittenResultTree : Type 0
WrittenResultTree = Option (BaseType × LabelTree)

abbrev pub ThrownTree : Type 0
ThrownTree = NameTree × LabelTree

-- The trees of the code's values.
abbrev pub name_tree : Name → NameTree
name_tree name = record { at = name.at; text = name.text.now }

abbrev pub component_tree : Component → ComponentTree
component_tree (components.Policy owner readers) = PolicyComponent (name_tree owner) (map name_tree readers.now)
component_tree (components.Variable name) = VariableComponent (name_tree name)

abbrev pub label_tree : WrittenLabel → LabelTree
label_tree label = record { at = label.at; components = map component_tree label.components.now }

abbrev pub optional_label_tree : Option WrittenLabel → Option LabelTree
optional_label_tree None = None
optional_label_tree (Some label) = Some (label_tree label)

abbrev pub expression_tree : Expression → ExpressionTree
expression_tree (declared_expression.Integer at value) = IntegerTree at value
expression_tree (declared_expression.Truth at value) = TruthTree at value
expression_tree (declared_expression.Variable name) = VariableTree (name_tree name)
expression_tree (declared_expression.Element' p array index) = ElementTree (name_tree array) (expression_tree index)
expression_tree (declared_expression.Unary' at operator p operand) = UnaryTree at operator (expression_tree operand)
expression_tree (declared_expression.Binary' at operator p left right) =
    BinaryTree at operator (expression_tree left) (expression_tree right)

abbrev pub optional_expression_tree : Option Expression → Option ExpressionTree
optional_expression_tree None = None
optional_expression_tree (Some value) = Some (expression_tree value)

abbrev pub call_tree : Call → CallTree
call_tree call = (name_tree call.procedure, map expression_tree call.arguments.now)

abbrev pub right_tree : RightSide → RightTree
right_tree (right_sides.Receive at channel) = ReceivedTree at (name_tree channel)
right_tree (right_sides.Call call) = CalledTree (call_tree call.now)
right_tree (right_sides.Value value) = ValueTree (expression_tree value)

abbrev pub size_tree : Size → SizeTree
size_tree size = (size.at, size.size)

-- without an `else` the other block is empty, and stands where the statement does
abbrev pub if_tree : (at : ℕ) → ExpressionTree → BlockTree → Option BlockTree → StatementTree
if_tree at condition body otherwise = IfTree at condition body (unwrap_or otherwise (BlockOf at NoStatement))

abbrev mutual
  pub statement_tree : Statement → StatementTree
  statement_tree (declared_statement.Declare base at label name value) =
      DeclareTree at base (optional_label_tree label.now) (name_tree name) (right_tree value)
  statement_tree (declared_statement.DeclareArray base at label name size) =
      DeclareArrayTree at base (optional_label_tree label.now) (name_tree name) (size_tree size)
  statement_tree (declared_statement.Assign target value) = AssignTree (name_tree target) (right_tree value)
  statement_tree (declared_statement.AssignElement element value) =
      AssignElementTree (name_tree element.now.array) (expression_tree element.now.index) (expression_tree value)
  statement_tree (declared_statement.Call call) = CallTree' (call_tree call)
  statement_tree (declared_statement.Receive at channel) = ReceiveTree at (name_tree channel)
  statement_tree (declared_statement.Send at channel value) = SendTree at (name_tree channel) (expression_tree value)
  statement_tree (declared_statement.If' at condition first shape row) =
      if_tree at (expression_tree condition) (BlockOf first (row_trees row)) None
  statement_tree (declared_statement.IfElse' at condition first shape row p second other others) =
      if_tree at (expression_tree condition) (BlockOf first (row_trees row)) (Some (BlockOf second (row_trees others)))
  statement_tree (declared_statement.While' at condition first shape row) =
      WhileTree at (expression_tree condition) (BlockOf first (row_trees row))
  statement_tree (declared_statement.Break at) = BreakTree at
  statement_tree (declared_statement.Continue at) = ContinueTree at
  statement_tree (declared_statement.Throw at exception) = ThrowTree at (name_tree exception)
  statement_tree (declared_statement.Return at value) = ReturnTree at (optional_expression_tree value)
  statement_tree (declared_statement.Try' at first shape row others catches) =
      TryTree at (BlockOf first (row_trees row)) (catch_trees catches)
  statement_tree (declared_statement.Nested' first shape row) = NestedTree (BlockOf first (row_trees row))

  pub row_trees : {m : _} → Row_of-Statement m → StatementTrees
  row_trees end_of-Statement = NoStatement
  row_trees (more_of-Statement statement rest) = StatementThen (statement_tree statement) (row_trees rest)

  pub catch_trees : {m : _} → Row_of-Catch m → CatchTrees
  catch_trees end_of-Catch = NoCatch
  catch_trees (more_of-Catch at exception first shape row rest) =
      CatchThen at (name_tree exception) (BlockOf first (row_trees row)) (catch_trees rest)

abbrev pub block_tree : Block → BlockTree
block_tree block = BlockOf block.at (statements_of (map statement_tree block.statements.items))

abbrev pub optional_block_tree : Option Block → Option BlockTree
optional_block_tree None = None
optional_block_tree (Some block) = Some (block_tree block)

abbrev pub catch_tree : Catch → ℕ × NameTree × BlockTree
catch_tree one = (one.at, name_tree one.exception, block_tree one.body)

abbrev pub channel_tree : Channel → ChannelTree
channel_tree channel = record {
  at = channel.at;
  direction = channel.direction;
  label = label_tree channel.label;
  name = name_tree channel.name;
}

abbrev pub constant_tree : Constant → ConstantTree
constant_tree (constants.Integer at negative value) = IntegerConstant at negative value
constant_tree (constants.Truth at value) = TruthConstant at value

abbrev pub global_value_tree : GlobalValue → GlobalValueTree
global_value_tree (global_values.Scalar constant) = ScalarTree (constant_tree constant)
global_value_tree (global_values.Array size) = ArrayTree (size_tree size)

abbrev pub global_tree : GlobalVariable → GlobalTree
global_tree global = record {
  at = global.at;
  base = global.base;
  label = label_tree global.label;
  name = name_tree global.name;
  value = global_value_tree global.value;
}

abbrev pub written_result_tree : WrittenResult → WrittenResultTree
written_result_tree outcomes.Nothing = None
written_result_tree (outcomes.Value base label) = Some (base, label_tree label)

abbrev pub parameter_tree : Parameter → ParameterTree
parameter_tree parameter = record {
  at = parameter.at;
  base = parameter.base;
  label = label_tree parameter.label;
  name = name_tree parameter.name;
}

abbrev pub thrown_tree : Thrown → ThrownTree
thrown_tree thrown = (name_tree thrown.name, label_tree thrown.label)

abbrev pub procedure_tree : Procedure → ProcedureTree
procedure_tree procedure = record {
  at = procedure.at;
  result = written_result_tree procedure.result;
  name = name_tree procedure.name;
  begin = optional_label_tree procedure.begin;
  parameters = map parameter_tree procedure.parameters.items;
  end = optional_label_tree procedure.end;
  throws = map thrown_tree procedure.throws.items;
  body = block_tree procedure.body;
}

abbrev pub item_tree : Item → ItemTree
item_tree (items.Channel channel) = channel_item (channel_tree channel)
item_tree (items.Exception at name) = ExceptionItem at (name_tree name)
item_tree (items.Global global) = global_item (global_tree global)
item_tree (items.Procedure procedure) = ProcedureItem (procedure_tree procedure)

-- the tree of a program, which is the list of its items
abbrev pub program_tree : List Item → ProgramTree
program_tree items = record { items = map item_tree items }
