-- The tree and the program of the definitions that a tree and a program of the code stand for.
-- Source: our own.
use Rattle.std.specs.Prelude.{List, [], ◌∷◌, map, Option, Some, None}
use mathlib.Core.Former
use Rattle.resolved.specs.declared.expression.Expression as E
use Rattle.resolved.specs.declared.statement.Statement as S
use Rattle.resolved.specs.declared.statement.Handler.{Handler}
use Rattle.resolved.specs.Tree.{Expression, Integer, Logical, Read, Element, Unary, Binary, Short, Statement, Placed, Assign, Clear, Store, Receive, Send, Call, If, While, Leave, ReturnWith, Try, Nested, Block, Empty, Then, Handlers, NoMore, Catch}

abbrev pub expression_of : E.Expression → Expression
expression_of (E.Integer n) = Integer n
expression_of (E.Logical b) = Logical b
expression_of (E.Read x) = Read x
expression_of (E.Element' array length p index) = Element array length (expression_of index)
expression_of (E.Unary' prefix p e) = Unary prefix (expression_of e)
expression_of (E.Binary' operator p d e) = Binary operator (expression_of d) (expression_of e)
expression_of (E.Short' connective p d e) = Short connective (expression_of d) (expression_of e)

abbrev pub some_expression_of : Option E.Expression → Option Expression
some_expression_of None = None
some_expression_of (Some e) = Some (expression_of e)

abbrev mutual
  pub statement_of : S.Statement → Statement
  statement_of (S.Assign at x e) = Placed at (Assign x (expression_of e))
  statement_of (S.Clear at slot) = Placed at (Clear slot)
  statement_of (S.Store at array length index e) = Placed at (Store array length (expression_of index) (expression_of e))
  statement_of (S.Receive at channel target) = Placed at (Receive channel target)
  statement_of (S.Send at channel e) = Placed at (Send channel (expression_of e))
  statement_of (S.Call at procedure arguments target) = Placed at (Call procedure (map expression_of arguments.items) target)
  statement_of (S.If' at e shape then_block shape' else_block) = Placed at (If (expression_of e) (block_row then_block) (block_row else_block))
  statement_of (S.While' at loop e shape body) = Placed at (While loop (expression_of e) (block_row body))
  statement_of (S.Leave at exit) = Placed at (Leave exit)
  statement_of (S.Return at e) = Placed at (ReturnWith (some_expression_of e))
  statement_of (S.Try' at shape block shape' handlers) = Placed at (Try (block_row block) (handlers_row handlers))
  statement_of (S.Nested' at shape block) = Placed at (Nested (block_row block))

  pub block_row : {n : Former.Count} → S.Row_of-Statement n → Block
  block_row S.end_of-Statement = Empty
  block_row (S.more_of-Statement statement rest) = Then (statement_of statement) (block_row rest)

  pub handlers_row : {n : Former.Count} → S.Row_of-Handler n → Handlers
  handlers_row S.end_of-Handler = NoMore
  handlers_row (S.more_of-Handler at exception shape body rest) = Catch at exception (block_row body) (handlers_row rest)

-- a block and handlers by the lists of the code
abbrev pub block_of : List S.Statement → Block
block_of [] = Empty
block_of (statement ∷ rest) = Then (statement_of statement) (block_of rest)

abbrev pub handlers_of : List Handler → Handlers
handlers_of [] = NoMore
handlers_of (handler ∷ rest) = Catch handler.at handler.exception (block_of handler.body.items) (handlers_of rest)
