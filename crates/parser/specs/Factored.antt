-- Statements as they are read, from the left: what follows the name of a local, or the name that a statement begins with, is one part
-- of its own, and a form for right sides is put in. Private; the grammar has a production for each statement.
-- Source: left factoring.
use Rattle.std.specs.Prelude.{ℕ, List, Option}
use Rattle.common.specs.declared.base_type.BaseType.{BaseType}
use Rattle.parser.specs.ReadForm.{Form, ◌·◌, ◌or◌, ◌gives◌}
use Rattle.parser.specs.ReadGrammar.{◌▸◌, ◌◂◌, base, label, name, size, index, expression, optional, block}
use Rattle.parser.specs.Parts.{arguments, receive, send, conditional, while_statement, break_statement, continue_statement, throw_statement, return_statement, attempt}
use Rattle.syntax.specs.Tree.{NameTree, LabelTree, ExpressionTree, RightTree, SizeTree, StatementTree, DeclareTree, DeclareArrayTree, AssignTree, AssignElementTree, CallTree', NestedTree}

-- what stands after the name of a local, and after the name that a statement begins with
pub data FirstTree : Type 0 where
  FirstValue : RightTree → FirstTree
  FirstSize : SizeTree → FirstTree

pub data AfterTree : Type 0 where
  AssignedTree : RightTree → AfterTree
  AtIndexTree : (index value : ExpressionTree) → AfterTree
  ArgumentsTree : List ExpressionTree → AfterTree

abbrev pub local_tree : (at : ℕ) → BaseType → Option LabelTree → NameTree → FirstTree → StatementTree
local_tree at base label name (FirstValue value) = DeclareTree at base label name value
local_tree at base label name (FirstSize size) = DeclareArrayTree at base label name size

abbrev pub named_tree : NameTree → AfterTree → StatementTree
named_tree name (AssignedTree value) = AssignTree name value
named_tree name (AtIndexTree index value) = AssignElementTree name index value
named_tree name (ArgumentsTree arguments) = CallTree' (name, arguments)

-- after the name of a local stands its first value, or its size
abbrev pub first_with : Form RightTree → Form FirstTree
first_with value =
    "=" ▸ value gives FirstValue
    or size gives FirstSize

abbrev pub declare_with : Form RightTree → Form StatementTree
declare_with value =
    base · optional label · name · first_with value ◂ ";"
    gives λ ((((at, base), label), name), first). local_tree at base label name first

-- after the name that a statement begins with stands a value, an index with a value, or arguments
abbrev pub after_with : Form RightTree → Form AfterTree
after_with value =
    "=" ▸ value gives AssignedTree
    or (index ◂ "=" · expression gives λ (index, value). AtIndexTree index value)
    or arguments gives ArgumentsTree

abbrev pub named_with : Form RightTree → Form StatementTree
named_with value = name · after_with value ◂ ";" gives λ (name, after). named_tree name after

-- a statement with right sides of this form
abbrev pub statement_with : Form RightTree → Form StatementTree
statement_with value =
    declare_with value
    or named_with value
    or receive
    or send
    or conditional
    or while_statement
    or break_statement
    or continue_statement
    or throw_statement
    or return_statement
    or attempt
    or block gives NestedTree
