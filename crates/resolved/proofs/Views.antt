-- What the tree of each statement of the code is, by the lists of the code.
use Rattle.std.proofs.Common.{◌≡◌, ℕ, ◌+◌, ◌<◌, List, drop, get_or, length, refl, ap, sym, ◌∙◌}
use Rattle.std.specs.Prelude.{Vec}
use Rattle.std.specs.declared.alloc.Global.{Global}
use Rattle.common.proofs.Cases.{drop_next}
use mathlib.Core.Former
use Rattle.resolved.specs.declared.expression.Expression.{Expression}
use Rattle.resolved.specs.declared.statement.Statement as S
use Rattle.resolved.specs.declared.statement.Statement.TheBlock.{hidden-the_row-Statement-0, hidden-the_row-Handler-1}
use Rattle.resolved.specs.declared.statement.Handler.{Handler}
use Rattle.resolved.specs.Tree.{Statement, Placed, If, While, Try, Nested, Then, Catch}
use Rattle.resolved.specs.TreeOf.{expression_of, statement_of, block_row, handlers_row, block_of, handlers_of}

block_row_is : {n : Former.Count} (row : S.Row_of-Statement n) → block_row row ≡ block_of (S.items-the_row-Statement n row)
block_row_is S.end_of-Statement = refl
block_row_is (S.more_of-Statement statement rest) = ap (Then (statement_of statement)) (block_row_is rest)

block_hidden : (statements : Vec S.Statement Global) → block_row (hidden-the_row-Statement-0 statements) ≡ block_of statements.items
block_hidden statements =
    block_row_is (hidden-the_row-Statement-0 statements) ∙ ap block_of (S.items_hidden-the_row-Statement-0 statements)

handlers_row_is : {n : Former.Count} (row : S.Row_of-Handler n) → handlers_row row ≡ handlers_of (S.items-the_row-Handler n row)
handlers_row_is S.end_of-Handler = refl
handlers_row_is (S.more_of-Handler at exception shape body rest) =
    ap (λ rows. Catch at exception (block_row body) rows) (handlers_row_is rest)
    ∙ ap (λ block. Catch at exception block (handlers_of (S.items-the_row-Handler _ rest)))
    (block_row_is body ∙ sym (ap block_of (S.items_shown-the_row-Statement-0 shape body)))

handlers_hidden : (handlers : Vec Handler Global) → handlers_row (hidden-the_row-Handler-1 handlers) ≡ handlers_of handlers.items
handlers_hidden handlers =
    handlers_row_is (hidden-the_row-Handler-1 handlers) ∙ ap handlers_of (S.items_hidden-the_row-Handler-1 handlers)

pub statement_of_if : (at : ℕ) (e : Expression) (then_block else_block : Vec S.Statement Global)
    → statement_of (S.If at e then_block else_block) ≡ Placed at (If (expression_of e) (block_of then_block.items) (block_of else_block.items))
statement_of_if at e then_block else_block =
    ap (λ block. Placed at (If (expression_of e) block (block_row (hidden-the_row-Statement-0 else_block)))) (block_hidden then_block)
    ∙ ap (λ block. Placed at (If (expression_of e) (block_of then_block.items) block)) (block_hidden else_block)

pub statement_of_while : (at loop : ℕ) (e : Expression) (body : Vec S.Statement Global)
    → statement_of (S.While at loop e body) ≡ Placed at (While loop (expression_of e) (block_of body.items))
statement_of_while at loop e body = ap (λ block. Placed at (While loop (expression_of e) block)) (block_hidden body)

pub statement_of_try : (at : ℕ) (block : Vec S.Statement Global) (handlers : Vec Handler Global)
    → statement_of (S.Try at block handlers) ≡ Placed at (Try (block_of block.items) (handlers_of handlers.items))
statement_of_try at block handlers =
    ap (λ tree. Placed at (Try tree (handlers_row (hidden-the_row-Handler-1 handlers)))) (block_hidden block)
    ∙ ap (λ tree. Placed at (Try (block_of block.items) tree)) (handlers_hidden handlers)

pub statement_of_nested : (at : ℕ) (block : Vec S.Statement Global)
    → statement_of (S.Nested at block) ≡ Placed at (Nested (block_of block.items))
statement_of_nested at block = ap (λ tree. Placed at (Nested tree)) (block_hidden block)

pub ruleset statement_views = (statement_of_if, statement_of_while, statement_of_try, statement_of_nested)

-- what a function of the tree is at a statement that was found to be of a form
pub at_if : {A : Type 0} (f : Statement → A) {s : S.Statement} {at : ℕ} {e : Expression} (then_block else_block : Vec S.Statement Global)
    → s ≡ S.If at e then_block else_block
    → f (statement_of s) ≡ f (Placed at (If (expression_of e) (block_of then_block.items) (block_of else_block.items)))
at_if f then_block else_block is = ap (λ t. f (statement_of t)) is ∙ ap f (statement_of_if _ _ then_block else_block)

pub at_while : {A : Type 0} (f : Statement → A) {s : S.Statement} {at loop : ℕ} {e : Expression} (body : Vec S.Statement Global)
    → s ≡ S.While at loop e body → f (statement_of s) ≡ f (Placed at (While loop (expression_of e) (block_of body.items)))
at_while f body is = ap (λ t. f (statement_of t)) is ∙ ap f (statement_of_while _ _ _ body)

pub at_try : {A : Type 0} (f : Statement → A) {s : S.Statement} {at : ℕ} (block : Vec S.Statement Global) (handlers : Vec Handler Global)
    → s ≡ S.Try at block handlers → f (statement_of s) ≡ f (Placed at (Try (block_of block.items) (handlers_of handlers.items)))
at_try f block handlers is = ap (λ t. f (statement_of t)) is ∙ ap f (statement_of_try _ block handlers)

pub at_nested : {A : Type 0} (f : Statement → A) {s : S.Statement} {at : ℕ} (block : Vec S.Statement Global)
    → s ≡ S.Nested at block → f (statement_of s) ≡ f (Placed at (Nested (block_of block.items)))
at_nested f block is = ap (λ t. f (statement_of t)) is ∙ ap f (statement_of_nested _ block)

-- the trees of statements, by lists of what stands in them
pub tree-if : (s : S.Statement) (at : ℕ) (e : Expression) (then_block else_block : Vec S.Statement Global) (ys ns : List S.Statement)
    → s ≡ S.If at e then_block else_block → ys ≡ then_block.items → ns ≡ else_block.items
    → statement_of s ≡ Placed at (If (expression_of e) (block_of ys) (block_of ns))
tree-if s at e then_block else_block ys ns is first second =
    at_if (λ t. t) then_block else_block is
    ∙ (ap (λ list. Placed at (If (expression_of e) (block_of list) (block_of else_block.items))) (sym first)
    ∙ ap (λ list. Placed at (If (expression_of e) (block_of ys) (block_of list))) (sym second))

pub tree-while : (s : S.Statement) (at loop : ℕ) (e : Expression) (body : Vec S.Statement Global) (list : List S.Statement)
    → s ≡ S.While at loop e body → list ≡ body.items → statement_of s ≡ Placed at (While loop (expression_of e) (block_of list))
tree-while s at loop e body list is lent =
    at_while (λ t. t) body is ∙ ap (λ l. Placed at (While loop (expression_of e) (block_of l))) (sym lent)

pub tree-try : (s : S.Statement) (at : ℕ) (block : Vec S.Statement Global) (handlers : Vec Handler Global) (bs : List S.Statement) (hs : List Handler)
    → s ≡ S.Try at block handlers → bs ≡ block.items → hs ≡ handlers.items → statement_of s ≡ Placed at (Try (block_of bs) (handlers_of hs))
tree-try s at block handlers bs hs is first second =
    at_try (λ t. t) block handlers is
    ∙ (ap (λ list. Placed at (Try (block_of list) (handlers_of handlers.items))) (sym first) ∙ ap (λ list. Placed at (Try (block_of bs) (handlers_of list))) (sym second))

pub tree-nested : (s : S.Statement) (at : ℕ) (block : Vec S.Statement Global) (list : List S.Statement)
    → s ≡ S.Nested at block → list ≡ block.items → statement_of s ≡ Placed at (Nested (block_of list))
tree-nested s at block list is lent = at_nested (λ t. t) block is ∙ ap (λ l. Placed at (Nested (block_of l))) (sym lent)

-- ---- what is next in a list

pub next-statement : (block : List S.Statement) (i : ℕ) (statement : S.Statement) → i < length block → statement ≡ get_or block i statement
    → block_of (drop i block) ≡ Then (statement_of statement) (block_of (drop (i + 1) block))
next-statement block i statement inside is = ap block_of (drop_next block i statement inside is)

pub next-handler : (handlers : List Handler) (i : ℕ) (handler : Handler) (body : List S.Statement) → i < length handlers → handler ≡ get_or handlers i handler
    → body ≡ handler.body.items
    → handlers_of (drop i handlers) ≡ Catch handler.at handler.exception (block_of body) (handlers_of (drop (i + 1) handlers))
next-handler handlers i handler body inside is lent =
    ap handlers_of (drop_next handlers i handler inside is)
    ∙ ap (λ list. Catch handler.at handler.exception (block_of list) (handlers_of (drop (i + 1) handlers))) (sym lent)
