-- How deep a tree is nested: whether this many levels are enough to write it. A block opens a level, and so do the arguments of a
-- call, an index, the operand of a unary operator, and a binary operator, which keeps it open to the end of its chain: the right
-- operand stands in it, and what the chain has before the operator does not. So a walk over a tree that loops along left
-- operands and along lists, and calls itself for the rest, is at most this many calls deep. Parentheses leave no trace in a tree.
-- Source: our own.
use Rattle.std.specs.Prelude.{ℕ, pred, ◌<◌, Option, None, Some, All}
use Rattle.syntax.specs.Tree.{ExpressionTree, IntegerTree, TruthTree, VariableTree, ElementTree, UnaryTree, BinaryTree, CallTree, RightTree, ReceivedTree, CalledTree, ValueTree, StatementTree, DeclareTree, DeclareArrayTree, AssignTree, AssignElementTree, CallTree', ReceiveTree, SendTree, IfTree, WhileTree, BreakTree, ContinueTree, ThrowTree, ReturnTree, TryTree, NestedTree, BlockTree, BlockOf, StatementTrees, NoStatement, StatementThen, CatchTrees, NoCatch, CatchThen, ItemTree, ChannelItem, ExceptionItem, GlobalItem, ProcedureItem, ProgramTree}

abbrev pub IsNestedExpression : (room : ℕ) → ExpressionTree → Type 0
IsNestedExpression room (IntegerTree at value) = Unit {0}
IsNestedExpression room (TruthTree at value) = Unit {0}
IsNestedExpression room (VariableTree name) = Unit {0}
IsNestedExpression room (ElementTree array index) = (0 < room) × IsNestedExpression (pred room) index
IsNestedExpression room (UnaryTree at operator operand) = (0 < room) × IsNestedExpression (pred room) operand
IsNestedExpression room (BinaryTree at operator left right) =
    (0 < room) × IsNestedExpression room left × IsNestedExpression (pred room) right

abbrev pub IsNestedOptionalExpression : (room : ℕ) → Option ExpressionTree → Type 0
IsNestedOptionalExpression room None = Unit {0}
IsNestedOptionalExpression room (Some value) = IsNestedExpression room value

abbrev pub IsNestedCall : (room : ℕ) → CallTree → Type 0
IsNestedCall room call = (0 < room) × All (IsNestedExpression (pred room)) call.1

abbrev pub IsNestedRight : (room : ℕ) → RightTree → Type 0
IsNestedRight room (ReceivedTree at channel) = Unit {0}
IsNestedRight room (CalledTree call) = IsNestedCall room call
IsNestedRight room (ValueTree value) = IsNestedExpression room value

abbrev mutual
  pub IsNestedStatement : (room : ℕ) → StatementTree → Type 0
  IsNestedStatement room (DeclareTree at base label name value) = IsNestedRight room value
  IsNestedStatement room (DeclareArrayTree at base label name size) = Unit {0}
  IsNestedStatement room (AssignTree target value) = IsNestedRight room value
  IsNestedStatement room (AssignElementTree array index value) =
      (0 < room) × IsNestedExpression (pred room) index × IsNestedExpression room value
  IsNestedStatement room (CallTree' call) = IsNestedCall room call
  IsNestedStatement room (ReceiveTree at channel) = Unit {0}
  IsNestedStatement room (SendTree at channel value) = IsNestedExpression room value
  IsNestedStatement room (IfTree at condition body otherwise) =
      IsNestedExpression room condition × IsNestedBlock room body × IsNestedBlock room otherwise
  IsNestedStatement room (WhileTree at condition body) = IsNestedExpression room condition × IsNestedBlock room body
  IsNestedStatement room (BreakTree at) = Unit {0}
  IsNestedStatement room (ContinueTree at) = Unit {0}
  IsNestedStatement room (ThrowTree at exception) = Unit {0}
  IsNestedStatement room (ReturnTree at value) = IsNestedOptionalExpression room value
  IsNestedStatement room (TryTree at body catches) = IsNestedBlock room body × AreNestedCatches room catches
  IsNestedStatement room (NestedTree body) = IsNestedBlock room body

  pub IsNestedBlock : (room : ℕ) → BlockTree → Type 0
  IsNestedBlock room (BlockOf at statements) = (0 < room) × AreNestedStatements (pred room) statements

  pub AreNestedStatements : (room : ℕ) → StatementTrees → Type 0
  AreNestedStatements room NoStatement = Unit {0}
  AreNestedStatements room (StatementThen statement rest) = IsNestedStatement room statement × AreNestedStatements room rest

  pub AreNestedCatches : (room : ℕ) → CatchTrees → Type 0
  AreNestedCatches room NoCatch = Unit {0}
  AreNestedCatches room (CatchThen at exception body rest) = IsNestedBlock room body × AreNestedCatches room rest

abbrev pub IsNestedItem : (room : ℕ) → ItemTree → Type 0
IsNestedItem room (ChannelItem at direction label name) = Unit {0}
IsNestedItem room (ExceptionItem at name) = Unit {0}
IsNestedItem room (GlobalItem at base label name value) = Unit {0}
IsNestedItem room (ProcedureItem procedure) = IsNestedBlock room procedure.body

abbrev pub IsNested : (room : ℕ) → ProgramTree → Type 0
IsNested room program = All (IsNestedItem room) program.items
