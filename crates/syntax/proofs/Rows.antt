-- The tree of a statement that holds blocks or handlers is that of its parts: rows of the declared types are lists.
use Rattle.std.proofs.Common.{◌≡◌, ℕ, List, map, None, Some, refl, sym, ◌∙◌, ap, Vec, Box, Global}
use Rattle.syntax.specs.declared.tree.Statement as declared_statement
use Rattle.syntax.specs.declared.tree.Statement.{Statement, Row_of-Statement, end_of-Statement, more_of-Statement, Row_of-Catch, end_of-Catch, more_of-Catch, items-the_row-Statement, items_hidden-the_row-Statement-0, items_shown-the_row-Statement-0, items-the_row-Catch, items_hidden-the_row-Catch-1}
use Rattle.syntax.specs.declared.tree.Statement.TheBlock.{hidden-the_row-Statement-0, hidden-the_row-Catch-1}
use Rattle.syntax.specs.declared.tree.Expression.{Expression}
use Rattle.syntax.specs.declared.tree.Block.{Block}
use Rattle.syntax.specs.declared.tree.Catch.{Catch}
use Rattle.syntax.specs.Tree.{CatchTrees, BlockTree, BlockOf, NoStatement, StatementThen, CatchThen, WhileTree, TryTree, NestedTree, NameTree, IfTree, if_tree, expression_tree, statements_of, catches_of, statement_tree, row_trees, catch_trees, block_tree, catch_tree}

row_is : (n : _) (row : Row_of-Statement n) → row_trees row ≡ statements_of (map statement_tree (items-the_row-Statement n row))
row_is n end_of-Statement = refl
row_is n (more_of-Statement statement rest) = ap (StatementThen (statement_tree statement)) (row_is _ rest)

row_in : (at : ℕ) (n : _) (row : Row_of-Statement n) (list : List Statement) → items-the_row-Statement n row ≡ list → BlockOf at (row_trees row) ≡ BlockOf at (statements_of (map statement_tree list))
row_in at n row list e = ap (BlockOf at) (row_is n row ∙ ap (λ list. statements_of (map statement_tree list)) e)

hidden_is : (block : Block) → BlockOf block.at (row_trees (hidden-the_row-Statement-0 block.statements)) ≡ block_tree block
hidden_is block =
    row_in block.at _ (hidden-the_row-Statement-0 block.statements) block.statements.items (items_hidden-the_row-Statement-0 block.statements)

pub while_is : (at : ℕ) (condition : Expression) (body : Block) → statement_tree (declared_statement.While at condition body) ≡ WhileTree at (expression_tree condition) (block_tree body)
while_is at condition body = ap (WhileTree at (expression_tree condition)) (hidden_is body)

pub nested_is : (body : Block) → statement_tree (declared_statement.Nested body) ≡ NestedTree (block_tree body)
nested_is body = ap NestedTree (hidden_is body)

pub if_is : (at : ℕ) (condition : Expression) (accepted : Block) → statement_tree (declared_statement.If at condition accepted) ≡ if_tree at (expression_tree condition) (block_tree accepted) None
if_is at condition accepted = ap (λ body. IfTree at (expression_tree condition) body (BlockOf at NoStatement)) (hidden_is accepted)

pub if_else_is : (at : ℕ) (condition : Expression) (accepted : Block) (otherwise : Box Block Global) → statement_tree (declared_statement.IfElse at condition accepted otherwise) ≡ if_tree at (expression_tree condition) (block_tree accepted) (Some (block_tree otherwise.value))
if_else_is at condition accepted otherwise = rw (hidden_is accepted, hidden_is otherwise.value) refl

same_catch : {at : ℕ} {exception : NameTree} {a b : BlockTree} {x y : CatchTrees} → a ≡ b → x ≡ y → CatchThen at exception a x ≡ CatchThen at exception b y
same_catch e f = cc

catch_row_is : (n : _) (row : Row_of-Catch n) → catch_trees row ≡ catches_of (map catch_tree (items-the_row-Catch n row))
catch_row_is n end_of-Catch = refl
catch_row_is n (more_of-Catch at exception first shape row rest) =
    same_catch (row_in first _ row _ (sym (items_shown-the_row-Statement-0 shape row))) (catch_row_is _ rest)

pub try_is : (at : ℕ) (body : Block) (catches : Vec Catch Global) → statement_tree (declared_statement.Try at body catches) ≡ TryTree at (block_tree body) (catches_of (map catch_tree catches.items))
try_is at body catches =
    ap (λ one. TryTree at one (catch_trees (hidden-the_row-Catch-1 catches))) (hidden_is body) ∙ ap (TryTree at (block_tree body)) (catch_row_is _ (hidden-the_row-Catch-1 catches) ∙ ap (λ list. catches_of (map catch_tree list)) (items_hidden-the_row-Catch-1 catches))
