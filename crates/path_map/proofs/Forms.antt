-- What a walk finds of each form of statement, from what it finds of the blocks in it.
use Rattle.std.proofs.Common.{◌≡◌, sym, ap, ◌∙◌, subst, ℕ, List, [], ◌∷◌, ◌++◌, Bool, false, ◌||◌, filter, length}
use Rattle.std.specs.Prelude.{◌==◌, Option, Some, None}
use Rattle.std.proofs.lemmas.List.Folds.{list_any-append}
use Rattle.resolved.specs.FaultParts.{inner_faults}
use Rattle.resolved.specs.declared.statement.Statement as S
use Rattle.resolved.specs.declared.statement.Exit.{Exit}
use Rattle.resolved.specs.declared.statement.Exit.TheVariants.{Normal, Return}
use Rattle.resolved.specs.Tree.{Expression, Statement, Placed, If, While, Try, ReturnWith, Block, Handlers}
use Rattle.resolved.specs.TreeOf.{statement_of}
use Rattle.resolved.specs.Program.{Program}
use Rattle.resolved.specs.Exits.{thrown_exits, leaves_loop, raises, index_can_raise, index_raises, statement_exits, block_exits, handlers_exits}
use Rattle.path_map.specs.declared.exits.Raised.{Raised}
use Rattle.path_map.specs.Exits.{Exits}
use Rattle.common.specs.declared.fault.OrNoMemory.{OrNoMemory}
use Rattle.common.specs.Answers.{IfRefused}
use Rattle.common.specs.declared.refusal.RefusalAt.{RefusalAt}
use Rattle.resolved.specs.declared.fault.ExitRefusalKind.{ExitRefusalKind}
use Rattle.path_map.specs.FirstFault.{IsFirstEndFault}
use Rattle.path_map.specs.Exceptions.{is_one_of, raised_list}
use Rattle.path_map.specs.Joins.{join, of_loop, raises_some}
use Rattle.path_map.specs.Paths.{inner_paths, block_paths, handlers_paths}
use Rattle.path_map.specs.Sets.{IsSum, IsSummaryOf, throws}
use Rattle.path_map.specs.Walks.{IsFound, AreThrown, AreLeft}
use Rattle.path_map.proofs.Summary.{loop-thrown}
use Rattle.path_map.proofs.Walking.{both, looped, try-found}

-- what is found of a tree is found of the statement that stands for it
module _ (program : Program) (s : S.Statement) (tree : Statement) (is : statement_of s ≡ tree) where
  pub found-at : (e0 e1 : List (List Exit)) (r0 r1 : ℕ → Bool) (x : Exits) → IsFound (statement_exits program tree) (inner_paths program tree) e0 e1 r0 r1 x
      → IsFound (statement_exits program (statement_of s)) (inner_paths program (statement_of s)) e0 e1 r0 r1 x
  found-at e0 e1 r0 r1 x found =
      subst (λ t. IsFound (statement_exits program t) (inner_paths program t) e0 e1 r0 r1 x) (sym is) found

  pub faults-at : (in_loop : Bool) → inner_faults program in_loop tree ≡ [] → inner_faults program in_loop (statement_of s) ≡ []
  faults-at in_loop none = ap (inner_faults program in_loop) is ∙ none

  pub first-at : (in_loop : Bool) (fault : OrNoMemory (RefusalAt ExitRefusalKind)) → IfRefused (IsFirstEndFault (inner_faults program in_loop tree)) fault
      → IfRefused (IsFirstEndFault (inner_faults program in_loop (statement_of s))) fault
  first-at in_loop fault first = subst (λ t. IfRefused (IsFirstEndFault (inner_faults program in_loop t)) fault) (sym is) first

pub found-same : (ends : List Exit) (paths : List (List Exit)) (e0 e1 : List (List Exit)) (r0 r1 : ℕ → Bool) (x y : Exits)
    → y ≡ x → IsFound ends paths e0 e1 r0 r1 x → IsFound ends paths e0 e1 r0 r1 y
found-same ends paths e0 e1 r0 r1 x y is found = subst (λ z. IsFound ends paths e0 e1 r0 r1 z) (sym is) found

-- a return, with a value or without one
pub return-found : (program : Program) (at : ℕ) (value : Option Expression) (e0 e1 : List (List Exit)) (r0 r1 : ℕ → Bool) (x : Exits)
    → IsFound (Return ∷ thrown_exits (raises_some value)) [] e0 e1 r0 r1 x
    → IsFound (statement_exits program (Placed at (ReturnWith value))) (inner_paths program (Placed at (ReturnWith value))) e0 e1 r0 r1 x
return-found program at None e0 e1 r0 r1 x found = found
return-found program at (Some e) e0 e1 r0 r1 x found = found

-- the exceptions of a store
pub store-same : (index value : Expression) (length : ℕ) (can : Bool) (first second both_first all : List ℕ) → can ≡ index_can_raise index length
    → ((e : ℕ) → is_one_of first e ≡ is_one_of (raises index) e) → ((e : ℕ) → is_one_of second e ≡ is_one_of (raises value) e)
    → ((e : ℕ) → is_one_of both_first e ≡ (is_one_of first e || is_one_of second e))
    → ((e : ℕ) → is_one_of all e ≡ (is_one_of both_first e || is_one_of (raised_list false can) e))
    → (e : ℕ) → is_one_of all e ≡ is_one_of (raises index ++ raises value ++ index_raises index length) e
store-same index value length can first second both_first all is p q r t e =
    t e
    ∙ ap (λ b. b || is_one_of (raised_list false can) e) (r e ∙ (ap (λ b. b || is_one_of second e) (p e) ∙ ap (λ b. is_one_of (raises index) e || b) (q e)))
    ∙ ap (λ b. (is_one_of (raises index) e || is_one_of (raises value) e) || is_one_of (raised_list false b) e) is
    ∙ ap (λ b. b || is_one_of (index_raises index length) e) (sym (list_any-append (λ other. e == other) (raises index) (raises value)))
    ∙ sym (list_any-append (λ other. e == other) (raises index ++ raises value) (index_raises index length))

-- the forms with blocks
pub if-found : (program : Program) (at : ℕ) (e : Expression) (then_block else_block : Block) (e0 e1 e2 : List (List Exit)) (r0 r1 r2 r3 : ℕ → Bool) (x y z j k : Exits)
    → IsFound (thrown_exits (raises e)) [] e0 e0 r0 r1 x
    → IsFound (block_exits program then_block) (block_paths program then_block) e0 e1 r1 r2 y
    → IsFound (block_exits program else_block) (block_paths program else_block) e1 e2 r2 r3 z
    → j ≡ join x y → k ≡ join j z
    → IsFound (statement_exits program (Placed at (If e then_block else_block))) (inner_paths program (Placed at (If e then_block else_block))) e0 e2 r0 r3 k
if-found program at e then_block else_block e0 e1 e2 r0 r1 r2 r3 x y z j k tested taken other first second =
    found-same (statement_exits program (Placed at (If e then_block else_block))) (inner_paths program (Placed at (If e then_block else_block))) e0 e2 r0 r3 (join (join x y) z) k
    (second ∙ ap (λ w. join w z) first)
    (both (thrown_exits (raises e) ++ block_exits program then_block) (block_exits program else_block) (block_paths program then_block) (block_paths program else_block) e0 e1 e2 r0 r2 r3 (join x y) z
    (both (thrown_exits (raises e)) (block_exits program then_block) [] (block_paths program then_block) e0 e0 e1 r0 r1 r2 x y tested taken) other)

pub while-found : (program : Program) (at loop : ℕ) (e : Expression) (body : Block) (e0 e1 : List (List Exit)) (r0 r1 r2 : ℕ → Bool) (x y j k : Exits)
    → IsFound (thrown_exits (raises e)) [] e0 e0 r0 r1 x
    → IsFound (block_exits program body) (block_paths program body) e0 e1 r1 r2 y
    → j ≡ join x y → k ≡ of_loop j
    → IsFound (statement_exits program (Placed at (While loop e body))) (inner_paths program (Placed at (While loop e body))) e0 e1 r0 r2 k
while-found program at loop e body e0 e1 r0 r1 r2 x y j k tested turned first second =
    subst (λ ends. IsFound (Normal ∷ ends) (block_paths program body) e0 e1 r0 r2 k) (loop-thrown (raises e) (block_exits program body))
    (found-same (Normal ∷ filter leaves_loop (thrown_exits (raises e) ++ block_exits program body)) (block_paths program body) e0 e1 r0 r2 (of_loop (join x y)) k
    (second ∙ ap of_loop first)
    (looped (thrown_exits (raises e) ++ block_exits program body) (block_paths program body) e0 e1 r0 r2 (join x y)
    (both (thrown_exits (raises e)) (block_exits program body) [] (block_paths program body) e0 e0 e1 r0 r1 r2 x y tested turned)))

module _ (program : Program) (at : ℕ) (block : Block) (handlers : Handlers) (e0 e1 : List (List Exit)) (none i1 : ℕ → Bool) (x : Exits)
    (empty : (e : ℕ) → none e ≡ false) (tried : IsFound (block_exits program block) (block_paths program block) e0 e1 none i1 x) where
  pub tried-throws : AreThrown i1 (block_exits program block)
  tried-throws = record { has = λ e. tried.raised.has e ∙ ap (λ z. z || throws (block_exits program block) e) (empty e) }

  pub try-is-found : (e2 : List (List Exit)) (i2 r0 r1 r2 : ℕ → Bool) (y w j : Exits) (k : Raised)
      → IsFound (handlers_exits program handlers) (handlers_paths program handlers) e1 e2 r0 r1 y → AreLeft i1 i2 handlers
      → IsSum r1 i2 r2 → IsSummaryOf i2 k → w ≡ record x { raised = k } → j ≡ join w y
      → IsFound (statement_exits program (Placed at (Try block handlers))) (inner_paths program (Placed at (Try block handlers))) e0 e2 r0 r2 j
  try-is-found e2 i2 r0 r1 r2 y w j k handled left united summary first second =
      found-same (statement_exits program (Placed at (Try block handlers))) (inner_paths program (Placed at (Try block handlers))) e0 e2 r0 r2 (join (record x { raised = k }) y) j
      (second ∙ ap (λ v. join v y) first)
      (try-found (block_exits program block) (handlers_exits program handlers) handlers (block_paths program block) (handlers_paths program handlers)
      e0 e1 e2 none i1 i2 r0 r1 r2 x y k empty tried handled left united summary)
