-- Parts of the grammar's productions by names, as the functions of the parser read them. Each is an alternative or a part of a
-- production, as it stands there. Private.
-- Source: our own.
use Rattle.std.specs.Prelude.{ℕ, List, [], ◌∷◌, slice_get, Option, Some, unwrap_or, true}
use Rattle.syntax.specs.declared.tree.BinaryOperator.{BinaryOperator}
use Rattle.common.specs.declared.operator.Prefix.{Prefix}
use Rattle.parser.specs.ReadForm.{Form, level, ◌·◌, ◌or◌, many, ◌gives◌, only, table}
use Rattle.syntax.specs.Grammar.{signs, grouped, lines}
use Rattle.parser.specs.ReadGrammar.{at, ◌▸◌, ◌◂◌, optional, separated, some, name, label, base, integer, index, variable_tree, others_of, chains, unary, expression, call, right, size, block, condition, catch, direction, constant, written_result, parameter, throws}
use Rattle.parser.specs.ReadSymbol.{Expression, Unary, Arguments}
use Rattle.syntax.specs.Tree.{NameTree, ExpressionTree, UnaryTree, StatementTree, DeclareTree, DeclareArrayTree, AssignTree, AssignElementTree, CallTree', ReceiveTree, SendTree, if_tree, WhileTree, BreakTree, ContinueTree, ThrowTree, ReturnTree, TryTree, BlockTree, catches_of, ItemTree, ChannelItem, ExceptionItem, GlobalItem, ProcedureItem, ConstantTree, IntegerConstant, GlobalValueTree, ScalarTree, ArrayTree, WrittenResultTree, ThrownTree}

-- of labels
unfoldable pub readers : Form (Option (List NameTree))
readers = optional (":" ▸ some "," name)

-- of expressions
abbrev pub sign_of : List ℕ → Option Prefix
sign_of = table signs

abbrev pub operator_of : (line : ℕ) → List ℕ → Option BinaryOperator
operator_of line = table (unwrap_or (slice_get lines line) [])

unfoldable pub parenthesised : Form ExpressionTree
parenthesised = level (only "(") Expression ◂ ")" gives λ (parenthesis, opens, inner). inner

unfoldable pub variable : Form ExpressionTree
variable = name · optional index gives λ (name, index). variable_tree name index

unfoldable pub arguments : Form (List ExpressionTree)
arguments = level (only "(") Arguments ◂ ")" gives λ (parenthesis, opens, arguments). arguments

unfoldable pub signed : Form ExpressionTree
signed = level sign_of Unary gives λ (word, sign, operand). UnaryTree word.start sign operand

abbrev pub chain : (line : ℕ) → Form ExpressionTree → Form ExpressionTree
chain line operand = operand · others_of line gives λ (first, others). grouped first others

-- the operands of a line
unfoldable pub operand_of : (line : ℕ) → Form ExpressionTree
operand_of line = chains line unary

-- of statements
unfoldable pub declare : Form StatementTree
declare =
    base · optional label · name · "=" ▸ right ◂ ";"
    gives λ ((((at, base), label), name), value). DeclareTree at base label name value

unfoldable pub declare_array : Form StatementTree
declare_array =
    base · optional label · name · size ◂ ";"
    gives λ ((((at, base), label), name), size). DeclareArrayTree at base label name size

unfoldable pub assign : Form StatementTree
assign = name · "=" ▸ right ◂ ";" gives λ (target, value). AssignTree target value

unfoldable pub assign_element : Form StatementTree
assign_element =
    name · (index ◂ "=" · expression) ◂ ";"
    gives λ (array, (index, value)). AssignElementTree array index value

unfoldable pub call_statement : Form StatementTree
call_statement = call ◂ ";" gives CallTree'

unfoldable pub receive : Form StatementTree
receive = at "receive" · name ◂ ";" gives λ (at, channel). ReceiveTree at channel

unfoldable pub send : Form StatementTree
send = at "send" · name ◂ "," · expression ◂ ";" gives λ ((at, channel), value). SendTree at channel value

unfoldable pub conditional : Form StatementTree
conditional = at "if" · condition · block · optional ("else" ▸ block) gives λ (((at, condition), accepted), otherwise). if_tree at condition accepted otherwise

unfoldable pub while_statement : Form StatementTree
while_statement = at "while" · condition · block gives λ ((at, condition), body). WhileTree at condition body

unfoldable pub break_statement : Form StatementTree
break_statement = at "break" ◂ ";" gives BreakTree

unfoldable pub continue_statement : Form StatementTree
continue_statement = at "continue" ◂ ";" gives ContinueTree

unfoldable pub throw_statement : Form StatementTree
throw_statement = at "throw" · name ◂ ";" gives λ (at, exception). ThrowTree at exception

unfoldable pub return_statement : Form StatementTree
return_statement = at "return" · optional expression ◂ ";" gives λ (at, value). ReturnTree at value

abbrev pub CatchTree : Type 0
CatchTree = ℕ × NameTree × BlockTree

unfoldable pub catches : Form (List CatchTree)
catches = catch · many catch gives λ (first, others). first ∷ others

unfoldable pub attempt : Form StatementTree
attempt = at "try" · block · catches gives λ ((at, body), catches). TryTree at body (catches_of catches)

-- of items
unfoldable pub negative_constant : Form ConstantTree
negative_constant = at "-" · integer gives λ (at, (after, value)). IntegerConstant at true value

unfoldable pub global_value : Form GlobalValueTree
global_value = "=" ▸ constant gives ScalarTree or size gives ArrayTree

unfoldable pub valued : Form (ℕ × WrittenResultTree)
valued = base · label gives λ ((at, base), label). (at, Some (base, label))

unfoldable pub thrown : Form ThrownTree
thrown = name · label

unfoldable pub thrown_list : Form (List ThrownTree)
thrown_list = separated "," thrown

unfoldable pub some_throws : Form (List ThrownTree)
some_throws = at "throws" ◂ "(" · thrown_list ◂ ")" gives λ (word, thrown). thrown

unfoldable pub channel : Form ItemTree
channel = direction · label · name ◂ ";" gives λ (((at, direction), label), name). ChannelItem at direction label name

unfoldable pub exception : Form ItemTree
exception = at "exception" · name ◂ ";" gives λ (at, name). ExceptionItem at name

unfoldable pub global : Form ItemTree
global =
    at "global" · base · label · name · global_value ◂ ";"
    gives λ ((((at, (base_at, base)), label), name), value). GlobalItem at base label name value

unfoldable pub procedure : Form ItemTree
procedure =
    written_result · name · optional label ◂ "(" · some "," parameter ◂ ")" · optional (":" ▸ label) · throws · block
    gives λ (((((((at, result), name), begin), parameters), end), throws), body). ProcedureItem
    (record { at = at; result = result; name = name; begin = begin; parameters = parameters; end = end; throws = throws; body = body })
