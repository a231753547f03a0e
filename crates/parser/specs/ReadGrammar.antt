-- The grammar as the parser reads it: the same productions by forms whose trees are pairs, so that what is read of a production is read
-- part by part; where a production of the grammar begins with a part that others begin with too, it stands here once. Private; that
-- both grammars spell the same trees is proved.
-- Source: our own.
use Prim.Native.String.{String}
use Rattle.std.specs.Prelude.{ℕ, zero, suc, List, [], ◌∷◌, length, slice_get, Option, None, Some, Bool, true, false, unwrap_or, option_map}
use Rattle.common.specs.declared.base_type.BaseType.{BaseType}
use Rattle.common.specs.declared.base_type.BaseType.TheVariants as bases
use Rattle.syntax.specs.declared.tree.BinaryOperator.{BinaryOperator}
use Rattle.common.specs.declared.direction.Direction.{Direction}
use Rattle.common.specs.declared.direction.Direction.TheVariants.{Input, Output}
use Rattle.syntax.specs.Grammar.{lines, grouped, value_of, signs}
use Rattle.parser.specs.ReadForm.{Form, Phrase, give, one_of, level, ◌·◌, ◌or◌, many, ◌gives◌, only, table, means}
use Rattle.parser.specs.ReadSymbol.{Symbol, Expression, Unary, Operands, Arguments, Statements, tree_of}
use Rattle.syntax.specs.Tree.{NameTree, ComponentTree, PolicyComponent, VariableComponent, LabelTree, ExpressionTree, IntegerTree, TruthTree, VariableTree, ElementTree, UnaryTree, RightTree, ReceivedTree, CalledTree, ValueTree, StatementTree, DeclareTree, DeclareArrayTree, AssignTree, AssignElementTree, CallTree', ReceiveTree, SendTree, IfTree, WhileTree, BreakTree, ContinueTree, ThrowTree, ReturnTree, TryTree, NestedTree, BlockTree, BlockOf, NoStatement, statements_of, catches_of, ConstantTree, IntegerConstant, TruthConstant, ScalarTree, ArrayTree, ParameterTree, ItemTree, ChannelItem, ExceptionItem, GlobalItem, ProcedureItem, ProgramTree}

-- Forms that recur.

-- a token of one word, by the byte at which it begins
abbrev pub at : String → Form ℕ
at text = one_of (only text) gives λ found. found.0.start

-- a form with a token before it, or after it, of which the tree has nothing
infixr 30 ◌▸◌
abbrev pub ◌▸◌ : {A : Type 0} → String → Form A → Form A
text ▸ F = at text · F gives λ pair. pair.1

infixl 20 ◌◂◌
abbrev pub ◌◂◌ : {A : Type 0} → Form A → String → Form A
F ◂ text = F · at text gives λ pair. pair.0

abbrev pub optional : {A : Type 0} → Form A → Form (Option A)
optional F = F gives Some or give None

-- one or more with a token between them; any number of them
abbrev pub separated : {A : Type 0} → String → Form A → Form (List A)
separated text F = F · many (text ▸ F) gives λ (first, others). first ∷ others

abbrev pub some : {A : Type 0} → String → Form A → Form (List A)
some text F = separated text F or give []

-- Names, labels and base types.
unfoldable pub name : Form NameTree
name = one_of (only "a name") gives λ found. record { at = found.0.start; text = found.0.text }

unfoldable pub component : Form ComponentTree
component = name · optional (":" ▸ some "," name)
    gives λ (name, readers). unwrap_or (option_map (PolicyComponent name) readers) (VariableComponent name)

unfoldable pub label : Form LabelTree
label = at "{" · some ";" component ◂ "}" gives λ (at, components). record { at = at; components = components }

unfoldable pub base : Form (ℕ × BaseType)
base = one_of (table (("int", bases.Int) ∷ ("boolean", bases.Boolean) ∷ [])) gives λ (word, base). (word.start, base)

-- Expressions.
unfoldable pub integer : Form (ℕ × ℕ)
integer = one_of (only "an integer") gives λ found. (found.0.start, value_of found.0.kind)

unfoldable pub truth : Form (ℕ × Bool)
truth = one_of (table (("true", true) ∷ ("false", false) ∷ [])) gives λ (word, value). (word.start, value)

unfoldable pub index : Form ExpressionTree
index = level (only "[") Expression ◂ "]" gives λ (bracket, opens, index). index

unfoldable pub primary : Form ExpressionTree
primary =
    (integer gives λ (at, value). IntegerTree at value)
    or (truth gives λ (at, value). TruthTree at value)
    or (name · optional index gives λ (name, index). unwrap_or (option_map (ElementTree name) index) (VariableTree name))
    or (level (only "(") Expression ◂ ")" gives λ (parenthesis, opens, inner). inner)

unfoldable pub unary : Form ExpressionTree
unary = (level (table signs) Unary gives λ (word, sign, operand). UnaryTree word.start sign operand) or primary

-- Each operator opens a level, in which the rest of the chain stands.
abbrev pub others_by : (line : ℕ) → Option (List (String × BinaryOperator)) → Form (List (BinaryOperator × ExpressionTree))
others_by line None = give []
others_by line (Some operators) =
    (level (table operators) (Operands line) gives λ (word, operator, (right, others)). (operator, right) ∷ others) or give []

-- the rest of a chain of the line of this number
abbrev pub others_of : ℕ → Form (List (BinaryOperator × ExpressionTree))
others_of line = others_by line (slice_get lines line)

-- chains of this many lines; those of each have those of the line before it as their operands
abbrev pub chains : ℕ → Form ExpressionTree → Form ExpressionTree
chains zero operand = operand
chains (suc line) operand = chains line operand · others_of line gives λ (first, others). grouped first others

unfoldable pub expression : Form ExpressionTree
expression = chains (length lines) unary

-- Statements.
unfoldable pub call : Form (NameTree × List ExpressionTree)
call = name · (level (only "(") Arguments ◂ ")" gives λ (parenthesis, opens, arguments). arguments)

unfoldable pub right : Form RightTree
right =
    (at "receive" · name gives λ (at, channel). ReceivedTree at channel)
    or call gives CalledTree
    or expression gives ValueTree

unfoldable pub size : Form (ℕ × ℕ)
size = "[" ▸ integer ◂ "]"

unfoldable pub block : Form BlockTree
block = level (only "{") Statements ◂ "}" gives λ (brace, opens, statements). BlockOf brace.start (statements_of statements)

unfoldable pub condition : Form ExpressionTree
condition = "(" ▸ expression ◂ ")"

unfoldable pub catch : Form (ℕ × NameTree × BlockTree)
catch = at "catch" ◂ "(" · name ◂ ")" · block gives λ ((at, exception), body). (at, exception, body)

unfoldable pub statement : Form StatementTree
statement =
    (base · optional label · name · "=" ▸ right ◂ ";"
    gives λ ((((at, base), label), name), value). DeclareTree at base label name value)
    or (base · optional label · name · size ◂ ";"
    gives λ ((((at, base), label), name), size). DeclareArrayTree at base label name size)
    or (name · "=" ▸ right ◂ ";" gives λ (target, value). AssignTree target value)
    or (name · (index ◂ "=" · expression) ◂ ";" gives λ (array, (index, value)). AssignElementTree array index value)
    or (call ◂ ";" gives CallTree')
    or (at "receive" · name ◂ ";" gives λ (at, channel). ReceiveTree at channel)
    or (at "send" · name ◂ "," · expression ◂ ";" gives λ ((at, channel), value). SendTree at channel value)
    or (at "if" · condition · block · optional ("else" ▸ block)
    gives λ (((at, condition), accepted), otherwise). IfTree at condition accepted (unwrap_or otherwise (BlockOf at NoStatement)))
    or (at "while" · condition · block gives λ ((at, condition), body). WhileTree at condition body)
    or (at "break" ◂ ";" gives BreakTree)
    or (at "continue" ◂ ";" gives ContinueTree)
    or (at "throw" · name ◂ ";" gives λ (at, exception). ThrowTree at exception)
    or (at "return" · optional expression ◂ ";" gives λ (at, value). ReturnTree at value)
    or (at "try" · block · (catch · many catch gives λ (first, others). first ∷ others)
    gives λ ((at, body), catches). TryTree at body (catches_of catches))
    or (block gives NestedTree)

-- Items.
unfoldable pub direction : Form (ℕ × Direction)
direction = one_of (table (("input", Input) ∷ ("output", Output) ∷ [])) gives λ (word, direction). (word.start, direction)

unfoldable pub constant : Form ConstantTree
constant =
    (at "-" · integer gives λ (at, (after, value)). IntegerConstant at true value)
    or (integer gives λ (at, value). IntegerConstant at false value)
    or (truth gives λ (at, value). TruthConstant at value)

unfoldable pub written_result : Form (ℕ × Option (BaseType × LabelTree))
written_result = at "void" gives (λ at. (at, None)) or (base · label gives λ ((at, base), label). (at, Some (base, label)))

unfoldable pub parameter : Form ParameterTree
parameter = base · label · name gives λ (((at, base), label), name). record { at = at; base = base; label = label; name = name }

unfoldable pub throws : Form (List (NameTree × LabelTree))
throws = (at "throws" ◂ "(" · separated "," (name · label) ◂ ")" gives λ (word, thrown). thrown) or give []

unfoldable pub item : Form ItemTree
item =
    (direction · label · name ◂ ";" gives λ (((at, direction), label), name). ChannelItem at direction label name)
    or (at "exception" · name ◂ ";" gives λ (at, name). ExceptionItem at name)
    or (at "global" · base · label · name · ("=" ▸ constant gives ScalarTree or size gives ArrayTree) ◂ ";"
    gives λ ((((at, (base_at, base)), label), name), value). GlobalItem at base label name value)
    or (written_result · name · optional label ◂ "(" · some "," parameter ◂ ")" · optional (":" ▸ label) · throws · block
    gives λ (((((((at, result), name), begin), parameters), end), throws), body). ProcedureItem
    (record { at = at; result = result; name = name; begin = begin; parameters = parameters; end = end; throws = throws; body = body }))

unfoldable pub program : Form ProgramTree
program = many item ◂ "the end" gives λ items. record { items = items }

-- Spelling.

-- the form of each symbol
unfoldable pub production : (symbol : Symbol) → Form (tree_of symbol)
production Expression = expression
production Unary = unary
production (Operands line) = chains line unary · others_of line
production Arguments = some "," expression
production Statements = many statement

-- what a symbol means, where at most this many symbols are nested in one another
abbrev pub within : ℕ → (symbol : Symbol) → ℕ → Phrase (tree_of symbol)
within zero symbol room n tokens tree rest = ⊥
within (suc depth) symbol room n tokens tree rest = means (within depth) room (production symbol) n tokens tree rest

-- ---- parts of the rules, by which proofs speak of them

-- a variable, or an element of one
abbrev pub variable_tree : NameTree → Option ExpressionTree → ExpressionTree
variable_tree name index = unwrap_or (option_map (ElementTree name) index) (VariableTree name)

-- the tokens in front spell the tree by this form, and `room` levels may be opened
abbrev pub Spelled : {A : Type 0} → Form A → ℕ → Phrase A
Spelled F room n tokens tree rest = (depth : ℕ) × means (within depth) room F n tokens tree rest
