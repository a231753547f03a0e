-- What holds of the tree of a text beside its form: its nodes stand at places that fit, its names have texts that fit, and its
-- integers fit too.
-- Source: our own.
use Rattle.std.specs.Prelude.{ℕ, ◌≤◌, List, Option, None, Some, length, IsTrue, All}
use Rattle.common.specs.declared.limits.TheConstants.{MAX_INTEGER}
use Rattle.lexer.specs.Words.{is_name_text}
use Rattle.syntax.specs.Tree.{NameTree, ComponentTree, PolicyComponent, VariableComponent, LabelTree, ExpressionTree, IntegerTree, TruthTree, VariableTree, ElementTree, UnaryTree, BinaryTree, CallTree, RightTree, ReceivedTree, CalledTree, ValueTree, SizeTree, StatementTree, DeclareTree, DeclareArrayTree, AssignTree, AssignElementTree, CallTree', ReceiveTree, SendTree, IfTree, WhileTree, BreakTree, ContinueTree, ThrowTree, ReturnTree, TryTree, NestedTree, BlockTree, BlockOf, StatementTrees, NoStatement, StatementThen, CatchTrees, NoCatch, CatchThen, ConstantTree, IntegerConstant, TruthConstant, GlobalValueTree, ScalarTree, ArrayTree, WrittenResultTree, ParameterTree, ThrownTree, ProcedureTree, ItemTree, ChannelItem, ExceptionItem, GlobalItem, ProcedureItem, ProgramTree}

-- no place is refused
abbrev pub Anywhere : ℕ → Type 0
Anywhere at = Unit {0}

-- a text that is a name, of at most this many bytes
abbrev pub IsNameWithin : (longest : ℕ) → List ℕ → Type 0
IsNameWithin longest text = IsTrue (is_name_text text) × (length text ≤ longest)

-- an integer that may be written
abbrev pub IsInteger : ℕ → Type 0
IsInteger value = value ≤ MAX_INTEGER

-- Places have to fit, and the texts of names, and integers.
module _ (fits : ℕ → Type 0) (word : List ℕ → Type 0) (number : ℕ → Type 0) where
  abbrev pub IsWrittenName : NameTree → Type 0
  IsWrittenName name = fits name.at × word name.text

  abbrev pub IsWrittenComponent : ComponentTree → Type 0
  IsWrittenComponent (PolicyComponent owner readers) = IsWrittenName owner × All IsWrittenName readers
  IsWrittenComponent (VariableComponent name) = IsWrittenName name

  abbrev pub IsWrittenLabel : LabelTree → Type 0
  IsWrittenLabel label = fits label.at × All IsWrittenComponent label.components

  abbrev pub IsWrittenOptionalLabel : Option LabelTree → Type 0
  IsWrittenOptionalLabel None = Unit {0}
  IsWrittenOptionalLabel (Some label) = IsWrittenLabel label

  abbrev pub IsWrittenExpression : ExpressionTree → Type 0
  IsWrittenExpression (IntegerTree at value) = fits at × number value
  IsWrittenExpression (TruthTree at value) = fits at
  IsWrittenExpression (VariableTree name) = IsWrittenName name
  IsWrittenExpression (ElementTree array index) = IsWrittenName array × IsWrittenExpression index
  IsWrittenExpression (UnaryTree at operator operand) = fits at × IsWrittenExpression operand
  IsWrittenExpression (BinaryTree at operator left right) = fits at × IsWrittenExpression left × IsWrittenExpression right

  abbrev pub IsWrittenOptionalExpression : Option ExpressionTree → Type 0
  IsWrittenOptionalExpression None = Unit {0}
  IsWrittenOptionalExpression (Some value) = IsWrittenExpression value

  abbrev pub IsWrittenCall : CallTree → Type 0
  IsWrittenCall call = IsWrittenName call.0 × All IsWrittenExpression call.1

  abbrev pub IsWrittenRight : RightTree → Type 0
  IsWrittenRight (ReceivedTree at channel) = fits at × IsWrittenName channel
  IsWrittenRight (CalledTree call) = IsWrittenCall call
  IsWrittenRight (ValueTree value) = IsWrittenExpression value

  abbrev pub IsWrittenSize : SizeTree → Type 0
  IsWrittenSize size = fits size.0 × number size.1

  abbrev mutual
    pub IsWrittenStatement : StatementTree → Type 0
    IsWrittenStatement (DeclareTree at base label name value) =
        fits at × IsWrittenOptionalLabel label × IsWrittenName name × IsWrittenRight value
    IsWrittenStatement (DeclareArrayTree at base label name size) =
        fits at × IsWrittenOptionalLabel label × IsWrittenName name × IsWrittenSize size
    IsWrittenStatement (AssignTree target value) = IsWrittenName target × IsWrittenRight value
    IsWrittenStatement (AssignElementTree array index value) =
        IsWrittenName array × IsWrittenExpression index × IsWrittenExpression value
    IsWrittenStatement (CallTree' call) = IsWrittenCall call
    IsWrittenStatement (ReceiveTree at channel) = fits at × IsWrittenName channel
    IsWrittenStatement (SendTree at channel value) = fits at × IsWrittenName channel × IsWrittenExpression value
    IsWrittenStatement (IfTree at condition body otherwise) =
        fits at × IsWrittenExpression condition × IsWrittenBlock body × IsWrittenBlock otherwise
    IsWrittenStatement (WhileTree at condition body) = fits at × IsWrittenExpression condition × IsWrittenBlock body
    IsWrittenStatement (BreakTree at) = fits at
    IsWrittenStatement (ContinueTree at) = fits at
    IsWrittenStatement (ThrowTree at exception) = fits at × IsWrittenName exception
    IsWrittenStatement (ReturnTree at value) = fits at × IsWrittenOptionalExpression value
    IsWrittenStatement (TryTree at body catches) = fits at × IsWrittenBlock body × AreWrittenCatches catches
    IsWrittenStatement (NestedTree body) = IsWrittenBlock body

    pub IsWrittenBlock : BlockTree → Type 0
    IsWrittenBlock (BlockOf at statements) = fits at × AreWrittenStatements statements

    pub AreWrittenStatements : StatementTrees → Type 0
    AreWrittenStatements NoStatement = Unit {0}
    AreWrittenStatements (StatementThen statement rest) = IsWrittenStatement statement × AreWrittenStatements rest

    pub AreWrittenCatches : CatchTrees → Type 0
    AreWrittenCatches NoCatch = Unit {0}
    AreWrittenCatches (CatchThen at exception body rest) =
        fits at × IsWrittenName exception × IsWrittenBlock body × AreWrittenCatches rest

  abbrev pub IsWrittenConstant : ConstantTree → Type 0
  IsWrittenConstant (IntegerConstant at negative value) = fits at × number value
  IsWrittenConstant (TruthConstant at value) = fits at

  abbrev pub IsWrittenGlobalValue : GlobalValueTree → Type 0
  IsWrittenGlobalValue (ScalarTree constant) = IsWrittenConstant constant
  IsWrittenGlobalValue (ArrayTree size) = IsWrittenSize size

  abbrev pub IsWrittenResult : WrittenResultTree → Type 0
  IsWrittenResult None = Unit {0}
  IsWrittenResult (Some (base, label)) = IsWrittenLabel label

  abbrev pub IsWrittenParameter : ParameterTree → Type 0
  IsWrittenParameter parameter = fits parameter.at × IsWrittenLabel parameter.label × IsWrittenName parameter.name

  abbrev pub IsWrittenThrown : ThrownTree → Type 0
  IsWrittenThrown thrown = IsWrittenName thrown.0 × IsWrittenLabel thrown.1

  pub record IsWrittenProcedure (procedure : ProcedureTree) : Type 0 where
    pub at : fits procedure.at
    pub result : IsWrittenResult procedure.result
    pub name : IsWrittenName procedure.name
    pub begin : IsWrittenOptionalLabel procedure.begin
    pub parameters : All IsWrittenParameter procedure.parameters
    pub end : IsWrittenOptionalLabel procedure.end
    pub throws : All IsWrittenThrown procedure.throws
    pub body : IsWrittenBlock procedure.body

  abbrev pub IsWrittenItem : ItemTree → Type 0
  IsWrittenItem (ChannelItem at direction label name) = fits at × IsWrittenLabel label × IsWrittenName name
  IsWrittenItem (ExceptionItem at name) = fits at × IsWrittenName name
  IsWrittenItem (GlobalItem at base label name value) =
      fits at × IsWrittenLabel label × IsWrittenName name × IsWrittenGlobalValue value
  IsWrittenItem (ProcedureItem procedure) = IsWrittenProcedure procedure

  -- a program as a text can have it
  abbrev pub IsWritten : ProgramTree → Type 0
  IsWritten program = All IsWrittenItem program.items
