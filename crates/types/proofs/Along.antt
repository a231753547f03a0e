-- Along the statements of a block, and along handlers: what was found so far, with what is found of the rest, is the whole.
use Rattle.types.specs.declared.scope.ItemKind.TheVariants.{Exception}
use Rattle.std.proofs.Common.{◌≡◌, ℕ, ◌+◌, ◌<◌, ◌≤◌, List, [], ◌∷◌, ◌++◌, map, length, get_or, drop, Ok, Err, refl, sym, ◌∙◌, ap, subst, arith}
use Rattle.std.proofs.lemmas.List.{drop_more, drop_all}
use Rattle.syntax.specs.declared.tree.Statement.{Statement}
use Rattle.syntax.specs.declared.tree.Catch.{Catch as WrittenCatch}
use Rattle.syntax.specs.Nodes.{statement_nodes, statements_nodes, block_nodes, catches_nodes}
use Rattle.syntax.specs.Tree.{StatementThen, CatchThen, statement_tree, statements_of, name_tree, block_tree, catch_tree, catches_of}
use Rattle.resolved.specs.declared.statement.Statement as S
use Rattle.resolved.specs.declared.statement.Handler.{Handler}
use Rattle.resolved.specs.Tree.{Block, Empty, Then, Handlers, NoMore, Catch}
use Rattle.resolved.specs.TreeOf.{statement_of, block_of, handlers_of}
use Rattle.types.specs.declared.body.BodyScope.{BodyScope}
use Rattle.common.specs.Answers.{IfRefused}
use Rattle.common.specs.declared.fault.OrNoMemory.{OrNoMemory}
use Rattle.common.specs.declared.refusal.RefusalAt.{RefusalAt}
use Rattle.types.specs.declared.fault.TypeRefusalKind.{TypeRefusalKind}
use Rattle.types.specs.Finding.{IsRefusalOf, Finding}
use Rattle.types.specs.Environment.{use_as, item_of}
use Rattle.types.specs.Statements.{Point, statement_finding, block_finding, statements_finding, catches_finding}
use Rattle.types.specs.Views.{and_then, IsLater, names_of, point_of, setting_of, taken}
use Rattle.types.proofs.Later.{later_through, setting_same}
use Rattle.types.proofs.Loops.{fails_later, fails_second, then_ok}

-- ---- statements

-- what was made so far, and after it the rest of the block
abbrev pub before_block : List S.Statement → Block → Block
before_block [] rest = rest
before_block (statement ∷ others) rest = Then (statement_of statement) (before_block others rest)

before_none : (made : List S.Statement) → before_block made Empty ≡ block_of made
before_none [] = refl
before_none (statement ∷ others) = ap (Then (statement_of statement)) (before_none others)

before_push : (made : List S.Statement) (statement : S.Statement) (rest : Block)
    → before_block (made ++ statement ∷ []) rest ≡ before_block made (Then (statement_of statement) rest)
before_push [] statement rest = refl
before_push (one ∷ made) statement rest = ap (Then (statement_of one)) (before_push made statement rest)

abbrev pub with_rest : List S.Statement → Point × Block → Finding (Point × Block)
with_rest made others = Ok (others.0, before_block made others.1)

pub record AlongStatements (start now : BodyScope) (written : List Statement) (made : List S.Statement) (i : ℕ) : Type 0 where
  pub on : and_then (statements_finding (setting_of start) (point_of now) (statements_of (map statement_tree (drop i written)))) (with_rest made) ≡ statements_finding (setting_of start) (point_of start) (statements_of (map statement_tree written))
  pub later : IsLater start now
  pub few : taken now + statements_nodes (statements_of (map statement_tree (drop i written))) ≤ taken start + statements_nodes (statements_of (map statement_tree written))
  pub part : statements_nodes (statements_of (map statement_tree (drop i written))) ≤ statements_nodes (statements_of (map statement_tree written))

none_before : (found : Finding (Point × Block)) → and_then found (with_rest []) ≡ found
none_before (Ok others) = refl
none_before (Err fault) = refl

one_before : (made : List S.Statement) (statement : S.Statement) (found : Finding (Point × Block))
    → and_then found (with_rest (made ++ statement ∷ [])) ≡ and_then (and_then found (λ others. Ok (others.0, Then (statement_of statement) others.1))) (with_rest made)
one_before made statement (Ok others) = ap (λ block. Ok (others.0, block)) (before_push made statement others.1)
one_before made statement (Err fault) = refl

module _ {start now : BodyScope} {written : List Statement} {made : List S.Statement} {i : ℕ} (along : AlongStatements start now written made i) where
  module _ (statement : Statement) (is : statement ≡ get_or written i statement) (within : i < length written) where
    rest_is : statements_of (map statement_tree (drop i written)) ≡ StatementThen (statement_tree statement) (statements_of (map statement_tree (drop (i + 1) written)))
    rest_is = ap (λ list. statements_of (map statement_tree list)) (drop_more written i statement within ∙ ap (λ one. one ∷ drop (i + 1) written) (sym is))

    pub statement_fits : taken now + (statement_nodes (statement_tree statement) + statements_nodes (statements_of (map statement_tree (drop (i + 1) written)))) ≤ taken start + statements_nodes (statements_of (map statement_tree written))
    statement_fits = subst (λ trees. taken now + statements_nodes trees ≤ taken start + statements_nodes (statements_of (map statement_tree written))) rest_is along.few

    pub statement_part : statement_nodes (statement_tree statement) + statements_nodes (statements_of (map statement_tree (drop (i + 1) written))) ≤ statements_nodes (statements_of (map statement_tree written))
    statement_part = subst (λ trees. statements_nodes trees ≤ statements_nodes (statements_of (map statement_tree written))) rest_is along.part

    whole_is : and_then (statements_finding (setting_of start) (point_of now) (StatementThen (statement_tree statement) (statements_of (map statement_tree (drop (i + 1) written))))) (with_rest made) ≡ statements_finding (setting_of start) (point_of start) (statements_of (map statement_tree written))
    whole_is = subst (λ trees. and_then (statements_finding (setting_of start) (point_of now) trees) (with_rest made) ≡ statements_finding (setting_of start) (point_of start) (statements_of (map statement_tree written))) rest_is along.on

    pub statement_wrong : (fault : OrNoMemory (RefusalAt TypeRefusalKind)) → IfRefused (IsRefusalOf (statement_finding (setting_of now) (point_of now) (statement_tree statement))) fault
        → IfRefused (IsRefusalOf (statements_finding (setting_of start) (point_of start) (statements_of (map statement_tree written)))) fault
    unfolding statements_finding
    statement_wrong fault wrong =
        subst (λ found. IfRefused (IsRefusalOf found) fault) whole_is
        (fails_later _ (with_rest made) fault (fails_later _ _ fault
        (subst (λ setting. IfRefused (IsRefusalOf (statement_finding setting (point_of now) (statement_tree statement))) fault) (setting_same start now along.later) wrong)))

    pub statement_right : (after : BodyScope) (one : S.Statement) → statement_finding (setting_of now) (point_of now) (statement_tree statement) ≡ Ok (point_of after, statement_of one)
        → IsLater now after → taken after ≤ taken now + statement_nodes (statement_tree statement)
        → AlongStatements start after written (made ++ one ∷ []) (i + 1)
    unfolding statements_finding
    statement_right after one right later grows =
        let rest = statements_of (map statement_tree (drop (i + 1) written)) in
        let found : statement_finding (setting_of start) (point_of now) (statement_tree statement) ≡ Ok (point_of after, statement_of one) =
        subst (λ setting. statement_finding setting (point_of now) (statement_tree statement) ≡ Ok (point_of after, statement_of one)) (setting_same start now along.later) right in
        let fits = statement_fits in
        record {
          on = one_before made one (statements_finding (setting_of start) (point_of after) rest)
              ∙ sym (ap (λ found. and_then found (with_rest made)) (then_ok _ (λ first. and_then (statements_finding (setting_of start) first.0 rest) (λ others. Ok (others.0, Then first.1 others.1))) (point_of after, statement_of one) found))
              ∙ whole_is;
          later = later_through start now after along.later later;
          few = omega (arith, fits, grows);
          part = omega (arith, statement_part);
        }

  pub statements_done : length written ≤ i → statements_finding (setting_of start) (point_of start) (statements_of (map statement_tree written)) ≡ Ok (point_of now, block_of made)
  unfolding statements_finding
  statements_done all =
      sym along.on ∙ ap (λ list. and_then (statements_finding (setting_of start) (point_of now) (statements_of (map statement_tree list))) (with_rest made)) (drop_all i written all)
      ∙ ap (λ block. Ok (point_of now, block)) (before_none made)

-- ---- handlers

abbrev pub before_handlers : List Handler → Handlers → Handlers
before_handlers [] rest = rest
before_handlers (handler ∷ others) rest = Catch handler.at handler.exception (block_of handler.body.items) (before_handlers others rest)

before_no_more : (made : List Handler) → before_handlers made NoMore ≡ handlers_of made
before_no_more [] = refl
before_no_more (handler ∷ others) = ap (Catch handler.at handler.exception (block_of handler.body.items)) (before_no_more others)

before_handler : (made : List Handler) (handler : Handler) (rest : Handlers)
    → before_handlers (made ++ handler ∷ []) rest ≡ before_handlers made (Catch handler.at handler.exception (block_of handler.body.items) rest)
before_handler [] handler rest = refl
before_handler (one ∷ made) handler rest = ap (Catch one.at one.exception (block_of one.body.items)) (before_handler made handler rest)

abbrev pub with_handlers : List Handler → Point × Handlers → Finding (Point × Handlers)
with_handlers made others = Ok (others.0, before_handlers made others.1)

pub record AlongCatches (start now : BodyScope) (written : List WrittenCatch) (made : List Handler) (i : ℕ) : Type 0 where
  pub on : and_then (catches_finding (setting_of start) (point_of now) (catches_of (map catch_tree (drop i written)))) (with_handlers made) ≡ catches_finding (setting_of start) (point_of start) (catches_of (map catch_tree written))
  pub later : IsLater start now
  pub few : taken now + catches_nodes (catches_of (map catch_tree (drop i written))) ≤ taken start + catches_nodes (catches_of (map catch_tree written))
  pub part : catches_nodes (catches_of (map catch_tree (drop i written))) ≤ catches_nodes (catches_of (map catch_tree written))

handler_before : (made : List Handler) (handler : Handler) (found : Finding (Point × Handlers))
    → and_then found (with_handlers (made ++ handler ∷ [])) ≡ and_then (and_then found (λ others. Ok (others.0, Catch handler.at handler.exception (block_of handler.body.items) others.1))) (with_handlers made)
handler_before made handler (Ok others) = ap (λ handlers. Ok (others.0, handlers)) (before_handler made handler others.1)
handler_before made handler (Err fault) = refl

module _ {start now : BodyScope} {written : List WrittenCatch} {made : List Handler} {i : ℕ} (along : AlongCatches start now written made i) where
  module _ (one : WrittenCatch) (is : one ≡ get_or written i one) (within : i < length written) where
    catches_are : catches_of (map catch_tree (drop i written)) ≡ CatchThen one.at (name_tree one.exception) (block_tree one.body) (catches_of (map catch_tree (drop (i + 1) written)))
    catches_are = ap (λ list. catches_of (map catch_tree list)) (drop_more written i one within ∙ ap (λ first. first ∷ drop (i + 1) written) (sym is))

    pub catch_fits : taken now + (2 + (block_nodes (block_tree one.body) + catches_nodes (catches_of (map catch_tree (drop (i + 1) written))))) ≤ taken start + catches_nodes (catches_of (map catch_tree written))
    catch_fits = subst (λ trees. taken now + catches_nodes trees ≤ taken start + catches_nodes (catches_of (map catch_tree written))) catches_are along.few

    pub catch_part : 2 + (block_nodes (block_tree one.body) + catches_nodes (catches_of (map catch_tree (drop (i + 1) written)))) ≤ catches_nodes (catches_of (map catch_tree written))
    catch_part = subst (λ trees. catches_nodes trees ≤ catches_nodes (catches_of (map catch_tree written))) catches_are along.part

    all_are : and_then (catches_finding (setting_of start) (point_of now) (CatchThen one.at (name_tree one.exception) (block_tree one.body) (catches_of (map catch_tree (drop (i + 1) written))))) (with_handlers made) ≡ catches_finding (setting_of start) (point_of start) (catches_of (map catch_tree written))
    all_are = subst (λ trees. and_then (catches_finding (setting_of start) (point_of now) trees) (with_handlers made) ≡ catches_finding (setting_of start) (point_of start) (catches_of (map catch_tree written))) catches_are along.on

    pub exception_wrong : (fault : OrNoMemory (RefusalAt TypeRefusalKind)) → IfRefused (IsRefusalOf (use_as (item_of Exception) (names_of now (name_tree one.exception).text) one.exception.at)) fault
        → IfRefused (IsRefusalOf (catches_finding (setting_of start) (point_of start) (catches_of (map catch_tree written)))) fault
    unfolding catches_finding
    exception_wrong fault wrong = subst (λ found. IfRefused (IsRefusalOf found) fault) all_are (fails_later _ (with_handlers made) fault (fails_later _ _ fault wrong))

    module _ (number : ℕ) (found : use_as (item_of Exception) (names_of now (name_tree one.exception).text) one.exception.at ≡ Ok number) where
      pub body_wrong : (fault : OrNoMemory (RefusalAt TypeRefusalKind)) → IfRefused (IsRefusalOf (block_finding (setting_of now) (point_of now) (block_tree one.body))) fault
          → IfRefused (IsRefusalOf (catches_finding (setting_of start) (point_of start) (catches_of (map catch_tree written)))) fault
      unfolding catches_finding
      body_wrong fault wrong =
          subst (λ found. IfRefused (IsRefusalOf found) fault) all_are
          (fails_later _ (with_handlers made) fault (fails_second _ _ number fault found (fails_later _ _ fault
          (subst (λ setting. IfRefused (IsRefusalOf (block_finding setting (point_of now) (block_tree one.body))) fault) (setting_same start now along.later) wrong))))

      pub catch_right : (after : BodyScope) (handler : Handler) → handler.at ≡ one.exception.at → handler.exception ≡ number
          → block_finding (setting_of now) (point_of now) (block_tree one.body) ≡ Ok (point_of after, block_of handler.body.items)
          → IsLater now after → taken after ≤ taken now + block_nodes (block_tree one.body)
          → AlongCatches start after written (made ++ handler ∷ []) (i + 1)
      unfolding catches_finding
      catch_right after handler at exception right later grows =
          let rest = catches_of (map catch_tree (drop (i + 1) written)) in
          let body : block_finding (setting_of start) (point_of now) (block_tree one.body) ≡ Ok (point_of after, block_of handler.body.items) =
          subst (λ setting. block_finding setting (point_of now) (block_tree one.body) ≡ Ok (point_of after, block_of handler.body.items)) (setting_same start now along.later) right in
          let fits = catch_fits in
          record {
            on = handler_before made handler (catches_finding (setting_of start) (point_of after) rest)
                ∙ ap (λ a. and_then (and_then (catches_finding (setting_of start) (point_of after) rest) (λ others. Ok (others.0, Catch a handler.exception (block_of handler.body.items) others.1))) (with_handlers made)) at
                ∙ ap (λ e. and_then (and_then (catches_finding (setting_of start) (point_of after) rest) (λ others. Ok (others.0, Catch one.exception.at e (block_of handler.body.items) others.1))) (with_handlers made)) exception
                ∙ sym (ap (λ found. and_then found (with_handlers made)) (then_ok _ (λ done. and_then (catches_finding (setting_of start) done.0 rest) (λ others. Ok (others.0, Catch one.exception.at number done.1 others.1))) (point_of after, block_of handler.body.items) body))
                ∙ sym (ap (λ found. and_then found (with_handlers made)) (then_ok _ (λ number. and_then (block_finding (setting_of start) (point_of now) (block_tree one.body)) (λ done. and_then (catches_finding (setting_of start) done.0 rest) (λ others. Ok (others.0, Catch one.exception.at number done.1 others.1)))) number found))
                ∙ all_are;
            later = later_through start now after along.later later;
            few = omega (arith, fits, grows);
            part = omega (arith, catch_part);
          }

  pub catches_done : length written ≤ i → catches_finding (setting_of start) (point_of start) (catches_of (map catch_tree written)) ≡ Ok (point_of now, handlers_of made)
  unfolding catches_finding
  catches_done all =
      sym along.on ∙ ap (λ list. and_then (catches_finding (setting_of start) (point_of now) (catches_of (map catch_tree list))) (with_handlers made)) (drop_all i written all)
      ∙ ap (λ handlers. Ok (point_of now, handlers)) (before_no_more made)
