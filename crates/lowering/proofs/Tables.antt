-- The handlers that the table of a statement finds: none outside the statement, and in the block of a `try` its catches.
use Rattle.std.proofs.Common.{◌≡◌, ℕ, ◌+◌, ◌<◌, ◌≤◌, Bool, true, false, not, ◌&&◌, List, [], ◌∷◌, ◌++◌, refl, sym, ap, ◌∙◌, arith, nat_lt, eqb}
use Rattle.std.specs.Prelude.{Option, Some, None, if◌then◌else◌, ◌==◌}
use Rattle.std.proofs.lemmas.Bool.{ltb-true, ltb-false}
use Rattle.std.proofs.lemmas.Bool.Decides.{nat_tests}
use Rattle.resolved.specs.Tree.{Statement, Placed, Assign, Clear, Store, Receive, Send, Call, If, While, Leave, ReturnWith, Try, Nested, Block, Empty, Then, Handlers, NoMore, Catch}
use Rattle.resolved.specs.Program.{Program}
use Rattle.modules.specs.declared.declaration.Handler.{Handler}
use Rattle.modules.specs.Machine.{handler_for}
use Rattle.lowering.specs.Expressions.{branch_size}
use Rattle.lowering.specs.Code.{no_position, handlers_position, statement_size, block_size, handlers_size, entry_of, statement_table, block_table, handlers_table}
use Rattle.lowering.proofs.States.{Setting}
use Rattle.lowering.proofs.Values.{Finds}

-- the first that is there
abbrev pub first_found : Option ℕ → Option ℕ → Option ℕ
first_found None other = other
first_found (Some target) other = Some target

pub nothing_after : (o : Option ℕ) → first_found o None ≡ o
nothing_after None = refl
nothing_after (Some target) = refl

found_or : (b : Bool) (target : ℕ) (left right other : Option ℕ) → left ≡ first_found right other
    → (if b then Some target else left) ≡ first_found (if b then Some target else right) other
found_or true target left right other e = refl
found_or false target left right other e = e

pub found-in : (xs ys : List Handler) (i e : ℕ) → handler_for (xs ++ ys) i e ≡ first_found (handler_for xs i e) (handler_for ys i e)
found-in [] ys i e = refl
found-in (x ∷ xs) ys i e =
    found_or (not (nat_lt i x.start) && (nat_lt i x.end && x.exception == e)) x.target (handler_for (xs ++ ys) i e) (handler_for xs i e) (handler_for ys i e) (found-in xs ys i e)

none_in_both : (xs ys : List Handler) (i e : ℕ) → handler_for xs i e ≡ None → handler_for ys i e ≡ None → handler_for (xs ++ ys) i e ≡ None
none_in_both xs ys i e h k = found-in xs ys i e ∙ ap (λ (o : Option ℕ). first_found o (handler_for ys i e)) h ∙ k

-- a position that is not among the n from another on
abbrev pub Outside : (at n i : ℕ) → Type 0
Outside at n i = at ≤ i → at + n ≤ i

-- ---- the entry of a catch
pub entry-outside : (start end exception target i e : ℕ) → (start ≤ i → end ≤ i) → handler_for (entry_of start end exception target) i e ≡ None
entry-outside start end exception target i e out = go (nat_lt start end)
  where
    test : (b c d : Bool) → nat_lt i start ≡ b → nat_lt i end ≡ c → (if not b && (c && d) then Some target else None) ≡ None
    test true c d e' f = refl
    test false false d e' f = refl
    test false true d e' f =
        let low : start ≤ i = ltb-false i start e' in
        let high : i < end = ltb-true i end f in
        absurd (let most : end ≤ i = out low in omega (arith, most, high))

    go : (b : Bool) → handler_for (if b then (record { start = start; end = end; exception = exception; target = target } ∷ []) else []) i e ≡ None
    go true = test (nat_lt i start) (nat_lt i end) (exception == e) refl refl
    go false = refl

entry-inside : (start end exception target i e : ℕ) → start ≤ i → i < end
    → handler_for (entry_of start end exception target) i e ≡ (if e == exception then Some target else None)
entry-inside start end exception target i e low high =
    let some : nat_lt start end ≡ true = grind (arith, nat_tests) in
    let after : nat_lt i start ≡ false = grind (arith, nat_tests) in
    let before : nat_lt i end ≡ true = grind (arith, nat_tests) in
    let same : eqb exception e ≡ eqb e exception = swapped (eqb exception e) (eqb e exception) refl refl in
    rw (some, after, before, same) refl
  where
    swapped : (a b : Bool) → eqb exception e ≡ a → eqb e exception ≡ b → eqb exception e ≡ eqb e exception
    swapped true true h k = h ∙ sym k
    swapped false false h k = h ∙ sym k
    swapped true false h k = grind (arith, nat_tests)
    swapped false true h k = grind (arith, nat_tests)

-- ---- outside a statement
mutual
  pub statement-outside : (program : Program) (position : ℕ) (statement : Statement) (i e : ℕ) → Outside position (statement_size program statement) i
      → handler_for (statement_table program position statement) i e ≡ None
  statement-outside program position (Placed at (Assign x v)) i e out = refl
  statement-outside program position (Placed at (Clear slot)) i e out = refl
  statement-outside program position (Placed at (Store array n index v)) i e out = refl
  statement-outside program position (Placed at (Receive channel target)) i e out = refl
  statement-outside program position (Placed at (Send channel v)) i e out = refl
  statement-outside program position (Placed at (Call f arguments target)) i e out = refl
  statement-outside program position (Placed at (If v then_block else_block)) i e out =
      none_in_both (block_table program (position + branch_size false v) then_block) (block_table program (no_position program position v then_block else_block) else_block) i e
      (block-outside program (position + branch_size false v) then_block i e (λ low. omega (arith, low, out)))
      (block-outside program (no_position program position v then_block else_block) else_block i e (λ low. omega (arith, low, out)))
  statement-outside program position (Placed at (While number v body)) i e out = block-outside program (position + 1) body i e (λ low. omega (arith, low, out))
  statement-outside program position (Placed at (Leave exit)) i e out = refl
  statement-outside program position (Placed at (ReturnWith v)) i e out = refl
  statement-outside program position (Placed at (Try block handlers)) i e out =
      none_in_both (block_table program position block)
      (handlers_table program position (position + block_size program block) (handlers_position program position block handlers) handlers) i e
      (block-outside program position block i e (λ low. omega (arith, low, out)))
      (handlers-outside program position (position + block_size program block) (handlers_position program position block handlers) handlers i e
      (λ low. omega (arith, low, out)) (λ low. omega (arith, low, out)))
  statement-outside program position (Placed at (Nested block)) i e out = block-outside program position block i e out

  pub block-outside : (program : Program) (position : ℕ) (block : Block) (i e : ℕ) → Outside position (block_size program block) i
      → handler_for (block_table program position block) i e ≡ None
  block-outside program position Empty i e out = refl
  block-outside program position (Then statement rest) i e out =
      none_in_both (statement_table program position statement) (block_table program (position + statement_size program statement) rest) i e
      (statement-outside program position statement i e (λ low. omega (arith, low, out)))
      (block-outside program (position + statement_size program statement) rest i e (λ low. omega (arith, low, out)))

  pub handlers-outside : (program : Program) (start end position : ℕ) (handlers : Handlers) (i e : ℕ) → (start ≤ i → end ≤ i)
      → Outside position (handlers_size program handlers) i → handler_for (handlers_table program start end position handlers) i e ≡ None
  handlers-outside program start end position NoMore i e out away = refl
  handlers-outside program start end position (Catch at exception body rest) i e out away =
      none_in_both (entry_of start end exception position)
      (block_table program position body ++ handlers_table program start end (handlers_position program position body rest) rest) i e
      (entry-outside start end exception position i e out)
      (none_in_both (block_table program position body) (handlers_table program start end (handlers_position program position body rest) rest) i e
      (block-outside program position body i e (λ low. omega (arith, low, away)))
      (handlers-outside program start end (handlers_position program position body rest) rest i e out (λ low. omega (arith, low, away))))

-- ---- in the block of a `try`

-- where the first handler of an exception begins
abbrev pub catch_position : Program → (position : ℕ) → Handlers → (exception : ℕ) → Option ℕ
catch_position program position NoMore exception = None
catch_position program position (Catch at handled body rest) exception =
    if exception == handled then Some position else catch_position program (handlers_position program position body rest) rest exception

pub handlers-inside : (program : Program) (start end position : ℕ) (handlers : Handlers) (i e : ℕ) → start ≤ i → i < end → end ≤ position
    → handler_for (handlers_table program start end position handlers) i e ≡ catch_position program position handlers e
handlers-inside program start end position NoMore i e low high beyond = refl
handlers-inside program start end position (Catch at handled body rest) i e low high beyond =
    let next = handlers_position program position body rest in
    let more : handler_for (block_table program position body ++ handlers_table program start end next rest) i e ≡ catch_position program next rest e =
    found-in (block_table program position body) (handlers_table program start end next rest) i e
    ∙ ap (λ (o : Option ℕ). first_found o (handler_for (handlers_table program start end next rest) i e)) (block-outside program position body i e (λ least. omega (arith, least, high, beyond)))
    ∙ handlers-inside program start end next rest i e low high (omega (arith, beyond)) in
    found-in (entry_of start end handled position) (block_table program position body ++ handlers_table program start end next rest) i e
    ∙ ap (λ (o : Option ℕ). first_found o (handler_for (block_table program position body ++ handlers_table program start end next rest) i e)) (entry-inside start end handled position i e low high)
    ∙ ap (first_found (if e == handled then Some position else None)) more
    ∙ either (e == handled)
  where
    either : (b : Bool) → first_found (if b then Some position else None) (catch_position program (handlers_position program position body rest) rest e)
        ≡ (if b then Some position else catch_position program (handlers_position program position body rest) rest e)
    either true = refl
    either false = refl

-- ---- the search in the positions of a statement

-- in these positions the search for a handler comes to a table's, and else to what a function says
pub record Under (g : Setting) (table : List Handler) (at n : ℕ) (h : ℕ → Option ℕ) : Type 0 where
  pub finds : (i : ℕ) → at ≤ i → i < at + n → (e : ℕ) → g.p.find g.number i e ≡ first_found (handler_for table i e) (h e)

-- positions in which a table finds nothing
pub under-none : (g : Setting) (table : List Handler) (at n : ℕ) (h : ℕ → Option ℕ) (from m : ℕ) → Under g table at n h → at ≤ from → from + m ≤ at + n
    → ((i e : ℕ) → from ≤ i → i < from + m → handler_for table i e ≡ None) → Finds g from m h
under-none g table at n h from m under low high none = record {
  finds = λ i least most e.
      under.finds i (omega (arith, low, least)) (omega (arith, high, most)) e ∙ ap (λ (o : Option ℕ). first_found o (h e)) (none i e least most);
}

-- positions in which a table finds what another one finds
pub under-part : (g : Setting) (table part : List Handler) (at n : ℕ) (h : ℕ → Option ℕ) (from m : ℕ) → Under g table at n h → at ≤ from → from + m ≤ at + n
    → ((i e : ℕ) → from ≤ i → i < from + m → handler_for table i e ≡ handler_for part i e) → Under g part from m h
under-part g table part at n h from m under low high same = record {
  finds = λ i least most e.
      under.finds i (omega (arith, low, least)) (omega (arith, high, most)) e ∙ ap (λ (o : Option ℕ). first_found o (h e)) (same i e least most);
}

-- the first and the second of two tables, where the other finds nothing
pub only-first : (xs ys : List Handler) (i e : ℕ) → handler_for ys i e ≡ None → handler_for (xs ++ ys) i e ≡ handler_for xs i e
only-first xs ys i e h = found-in xs ys i e ∙ ap (first_found (handler_for xs i e)) h ∙ nothing_after (handler_for xs i e)

pub only-second : (xs ys : List Handler) (i e : ℕ) → handler_for xs i e ≡ None → handler_for (xs ++ ys) i e ≡ handler_for ys i e
only-second xs ys i e h = found-in xs ys i e ∙ ap (λ (o : Option ℕ). first_found o (handler_for ys i e)) h
