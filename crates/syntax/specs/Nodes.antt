-- How many nodes a tree has. A name is a node, but for a variable, which is one together with its name; what is only a choice
-- of forms, as an item or the value of a right side, is none of its own. No tree has more nodes than the text has tokens, so
-- numbers of nodes stay small where texts do.
-- Source: our own.
use Rattle.std.specs.Prelude.{ℕ, ◌+◌, Option, None, Some, length, sum_by}
use Rattle.syntax.specs.Tree.{ComponentTree, PolicyComponent, VariableComponent, LabelTree, ExpressionTree, IntegerTree, TruthTree, VariableTree, ElementTree, UnaryTree, BinaryTree, CallTree, RightTree, ReceivedTree, CalledTree, ValueTree, StatementTree, DeclareTree, DeclareArrayTree, AssignTree, AssignElementTree, CallTree', ReceiveTree, SendTree, IfTree, WhileTree, BreakTree, ContinueTree, ThrowTree, ReturnTree, TryTree, NestedTree, BlockTree, BlockOf, StatementTrees, NoStatement, StatementThen, CatchTrees, NoCatch, CatchThen, WrittenResultTree, ParameterTree, ThrownTree, ProcedureTree, ItemTree, ChannelItem, ExceptionItem, GlobalItem, ProcedureItem, ProgramTree}

-- a policy is a node beside its owner and its readers, a variable one together with its name
abbrev pub component_nodes : ComponentTree → ℕ
component_nodes (PolicyComponent owner readers) = 2 + length readers
component_nodes (VariableComponent name) = 1

abbrev pub label_nodes : LabelTree → ℕ
label_nodes label = 1 + sum_by component_nodes label.components

abbrev pub optional_label_nodes : Option LabelTree → ℕ
optional_label_nodes None = 0
optional_label_nodes (Some label) = label_nodes label

abbrev pub expression_nodes : ExpressionTree → ℕ
expression_nodes (IntegerTree at value) = 1
expression_nodes (TruthTree at value) = 1
expression_nodes (VariableTree name) = 1
expression_nodes (ElementTree array index) = 1 + expression_nodes index
expression_nodes (UnaryTree at operator operand) = 1 + expression_nodes operand
expression_nodes (BinaryTree at operator left right) = 1 + (expression_nodes left + expression_nodes right)

abbrev pub optional_expression_nodes : Option ExpressionTree → ℕ
optional_expression_nodes None = 0
optional_expression_nodes (Some value) = expression_nodes value

abbrev pub call_nodes : CallTree → ℕ
call_nodes call = 2 + sum_by expression_nodes call.1

abbrev pub right_nodes : RightTree → ℕ
right_nodes (ReceivedTree at channel) = 2
right_nodes (CalledTree call) = call_nodes call
right_nodes (ValueTree value) = expression_nodes value

abbrev mutual
  pub statement_nodes : StatementTree → ℕ
  statement_nodes (DeclareTree at base label name value) = 2 + (optional_label_nodes label + right_nodes value)
  statement_nodes (DeclareArrayTree at base label name size) = 3 + optional_label_nodes label
  statement_nodes (AssignTree target value) = 2 + right_nodes value
  statement_nodes (AssignElementTree array index value) = 2 + (expression_nodes index + expression_nodes value)
  statement_nodes (CallTree' call) = 1 + call_nodes call
  statement_nodes (ReceiveTree at channel) = 2
  statement_nodes (SendTree at channel value) = 2 + expression_nodes value
  statement_nodes (IfTree at condition body otherwise) =
      1 + (expression_nodes condition + (block_nodes body + block_nodes otherwise))
  statement_nodes (WhileTree at condition body) = 1 + (expression_nodes condition + block_nodes body)
  statement_nodes (BreakTree at) = 1
  statement_nodes (ContinueTree at) = 1
  statement_nodes (ThrowTree at exception) = 2
  statement_nodes (ReturnTree at value) = 1 + optional_expression_nodes value
  statement_nodes (TryTree at body catches) = 1 + (block_nodes body + catches_nodes catches)
  statement_nodes (NestedTree body) = 1 + block_nodes body

  pub block_nodes : BlockTree → ℕ
  block_nodes (BlockOf at statements) = 1 + statements_nodes statements

  pub statements_nodes : StatementTrees → ℕ
  statements_nodes NoStatement = 0
  statements_nodes (StatementThen statement rest) = statement_nodes statement + statements_nodes rest

  pub catches_nodes : CatchTrees → ℕ
  catches_nodes NoCatch = 0
  catches_nodes (CatchThen at exception body rest) = 2 + (block_nodes body + catches_nodes rest)

abbrev pub written_result_nodes : WrittenResultTree → ℕ
written_result_nodes None = 0
written_result_nodes (Some (base, label)) = label_nodes label

abbrev pub parameter_nodes : ParameterTree → ℕ
parameter_nodes parameter = 2 + label_nodes parameter.label

abbrev pub thrown_nodes : ThrownTree → ℕ
thrown_nodes thrown = 2 + label_nodes thrown.1

abbrev pub procedure_nodes : ProcedureTree → ℕ
procedure_nodes procedure =
    2 + written_result_nodes procedure.result + optional_label_nodes procedure.begin + sum_by parameter_nodes procedure.parameters + optional_label_nodes procedure.end + sum_by thrown_nodes procedure.throws + block_nodes procedure.body

abbrev pub item_nodes : ItemTree → ℕ
item_nodes (ChannelItem at direction label name) = 2 + label_nodes label
item_nodes (ExceptionItem at name) = 2
item_nodes (GlobalItem at base label name value) = 3 + label_nodes label
item_nodes (ProcedureItem procedure) = procedure_nodes procedure

abbrev pub program_nodes : ProgramTree → ℕ
program_nodes program = 1 + sum_by item_nodes program.items
