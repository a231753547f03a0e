-- There are meanings for the inner unknowns: in their order, what each stands for.
use Rattle.std.proofs.Common.{◌≡◌, refl, ap, ◌∙◌, subst, ℕ, zero, suc, ◌+◌, length, length-append, Bool, true, false, List, [], ◌∷◌, ◌++◌, ◌||◌, arith}
use Rattle.std.specs.Prelude.{if◌then◌else◌, ◌==◌, flat_map}
use Rattle.resolved.specs.declared.statement.Exit.TheVariants.{Normal, Continue, Throw}
use Rattle.resolved.specs.declared.target.Target.TheVariants.{ToLoop}
use Rattle.resolved.specs.Tree.{Statement, Placed, Assign, Clear, Store, Receive, Send, Call, If, While, Leave, ReturnWith, Try, Nested, Block, Empty, Then, Handlers, NoMore, Catch}
use Rattle.resolved.specs.Exits.{handles}
use Rattle.resolved.specs.Labelled.{Scope, Join, one, label_of, value_label, raise_label, ExitLabels}
use Rattle.resolved.specs.LabelRules.{statement_exit_labels, block_exit_labels}
use Rattle.gathering.specs.Walk.{handler_count, handler_number, made_by_statement, made_by_block, made_by_handlers}
use Rattle.gathering.proofs.Reached.{Agrees, AgreesIn, AgreesBy}

abbrev pub handled_at : ExitLabels → Handlers → List Join
handled_at x NoMore = []
handled_at x (Catch at handled body rest) = x (Throw handled) ∷ handled_at x rest

abbrev pub nth : List Join → ℕ → Join
nth [] k = []
nth (j ∷ js) zero = j
nth (j ∷ js) (suc k) = nth js k

module _ (m : ℕ → Join) where
  abbrev pub Starts : ℕ → List Join → Type 0
  Starts n [] = Unit {0}
  Starts n (j ∷ js) = (m n ≡ j) × Starts (suc n) js

  pub starts-left : (n : ℕ) (xs ys : List Join) → Starts n (xs ++ ys) → Starts n xs
  starts-left n [] ys h = tt
  starts-left n (x ∷ xs) ys h = (h.0, starts-left (suc n) xs ys h.1)

  pub starts-right : (n : ℕ) (xs ys : List Join) → Starts n (xs ++ ys) → Starts (n + length xs) ys
  starts-right n [] ys h = let e : n ≡ n + 0 = omega arith in subst (λ k. Starts k ys) e h
  starts-right n (x ∷ xs) ys h =
      let e : suc n + length xs ≡ n + suc (length xs) = omega arith in subst (λ k. Starts k ys) e (starts-right (suc n) xs ys h.1)

  pub starts-where : (js : List Join) (n : ℕ) → ((i : ℕ) → m (n + i) ≡ nth js i) → Starts n js
  starts-where [] n each = tt
  starts-where (j ∷ js) n each =
      let e : n + 0 ≡ n = omega arith in (
        subst (λ k. m k ≡ j) e (each 0),
        starts-where js (suc n) (λ i. let f : n + suc i ≡ suc n + i = omega arith in subst (λ k. m k ≡ nth js i) f (each (suc i))),
      )

module _ (scope : Scope) where
  abbrev mutual
    pub meanings : (pc : Join) → Statement → List Join
    meanings pc (Placed at (Assign x e)) = []
    meanings pc (Placed at (Clear slot)) = []
    meanings pc (Placed at (Store array length index e)) = []
    meanings pc (Placed at (Receive channel target)) = []
    meanings pc (Placed at (Send channel e)) = []
    meanings pc (Placed at (Call procedure arguments target)) = (pc ++ flat_map (raise_label scope) arguments) ∷ []
    meanings pc (Placed at (If e then_block else_block)) =
        let branch : Join = (pc ++ raise_label scope e) ++ value_label scope e in
        branch ∷ (meanings_in branch then_block ++ meanings_in branch else_block)
    meanings pc (Placed at (While loop e body)) =
        let b : Join = (one (label_of scope.program (ToLoop scope.number loop)) ++ raise_label scope e) ++ value_label scope e in
        b ∷ ((block_exit_labels scope b body Normal ++ block_exit_labels scope b body Continue) ∷ meanings_in b body)
    meanings pc (Placed at (Leave exit)) = []
    meanings pc (Placed at (ReturnWith value)) = []
    meanings pc (Placed at (Try block handlers)) =
        let x : ExitLabels = block_exit_labels scope pc block in
        handled_at x handlers ++ (meanings_in pc block ++ meanings_by x handlers)
    meanings pc (Placed at (Nested block)) = meanings_in pc block

    pub meanings_in : (pc : Join) → Block → List Join
    meanings_in pc Empty = []
    meanings_in pc (Then statement rest) =
        statement_exit_labels scope pc statement Normal ∷ (meanings pc statement ++ meanings_in (statement_exit_labels scope pc statement Normal) rest)

    pub meanings_by : ExitLabels → Handlers → List Join
    meanings_by x NoMore = []
    meanings_by x (Catch at handled body rest) = meanings_in (x (Throw handled)) body ++ meanings_by x rest

  pub handled-count : (handlers : Handlers) (x : ExitLabels) → length (handled_at x handlers) ≡ handler_count handlers
  handled-count NoMore x = refl
  handled-count (Catch at handled body rest) x = ap suc (handled-count rest x)

  mutual
    pub meanings-made : (s : Statement) (pc : Join) → length (meanings pc s) ≡ made_by_statement s
    meanings-made (Placed at (Assign x e)) pc = refl
    meanings-made (Placed at (Clear slot)) pc = refl
    meanings-made (Placed at (Store array len index e)) pc = refl
    meanings-made (Placed at (Receive channel target)) pc = refl
    meanings-made (Placed at (Send channel e)) pc = refl
    meanings-made (Placed at (Call procedure arguments target)) pc = refl
    meanings-made (Placed at (If e then_block else_block)) pc =
        let branch : Join = (pc ++ raise_label scope e) ++ value_label scope e in
        ap suc (length-append (meanings_in branch then_block) (meanings_in branch else_block)
        ∙ ap (λ k. k + length (meanings_in branch else_block)) (meanings_in-made then_block branch) ∙ ap (λ k. made_by_block then_block + k) (meanings_in-made else_block branch))
    meanings-made (Placed at (While loop e body)) pc =
        ap (λ k. suc (suc k)) (meanings_in-made body ((one (label_of scope.program (ToLoop scope.number loop)) ++ raise_label scope e) ++ value_label scope e))
    meanings-made (Placed at (Leave exit)) pc = refl
    meanings-made (Placed at (ReturnWith value)) pc = refl
    meanings-made (Placed at (Try block handlers)) pc =
        let x : ExitLabels = block_exit_labels scope pc block in
        length-append (handled_at x handlers) (meanings_in pc block ++ meanings_by x handlers)
        ∙ ap (λ k. k + length (meanings_in pc block ++ meanings_by x handlers)) (handled-count handlers x)
        ∙ ap (λ k. handler_count handlers + k) (length-append (meanings_in pc block) (meanings_by x handlers)
        ∙ ap (λ k. k + length (meanings_by x handlers)) (meanings_in-made block pc) ∙ ap (λ k. made_by_block block + k) (meanings_by-made handlers x))
    meanings-made (Placed at (Nested block)) pc = meanings_in-made block pc

    pub meanings_in-made : (block : Block) (pc : Join) → length (meanings_in pc block) ≡ made_by_block block
    meanings_in-made Empty pc = refl
    meanings_in-made (Then s rest) pc =
        ap suc (length-append (meanings pc s) (meanings_in (statement_exit_labels scope pc s Normal) rest)
        ∙ ap (λ k. k + length (meanings_in (statement_exit_labels scope pc s Normal) rest)) (meanings-made s pc)
        ∙ ap (λ k. made_by_statement s + k) (meanings_in-made rest (statement_exit_labels scope pc s Normal)))

    meanings_by-made : (handlers : Handlers) (x : ExitLabels) → length (meanings_by x handlers) ≡ made_by_handlers handlers
    meanings_by-made NoMore x = refl
    meanings_by-made (Catch at handled body rest) x =
        length-append (meanings_in (x (Throw handled)) body) (meanings_by x rest)
        ∙ ap (λ k. k + length (meanings_by x rest)) (meanings_in-made body (x (Throw handled))) ∙ ap (λ k. made_by_block body + k) (meanings_by-made rest x)

  module _ (m : ℕ → Join) where
    handled-named : (handlers : Handlers) (x : ExitLabels) (n : ℕ) → Starts m n (handled_at x handlers) → (y : ℕ) → handles handlers y ≡ true → m (handler_number handlers n y) ≡ x (Throw y)
    handled-named NoMore x n h y is = let i : false ≡ true = is in absurd (cc)
    handled-named (Catch at handled body rest) x n h y is = go (y == handled) refl is (handled-named rest x (suc n) h.1 y)
      where
        go : (b : Bool) → (y == handled) ≡ b → (b || handles rest y) ≡ true → (handles rest y ≡ true → m (handler_number rest (suc n) y) ≡ x (Throw y)) →
            m (if b then n else handler_number rest (suc n) y) ≡ x (Throw y)
        go true e k next = let same : handled ≡ y = grind (arith, e) in h.0 ∙ ap (λ z. x (Throw z)) same
        go false e k next = next k

    mutual
      agrees-from : (s : Statement) (n : ℕ) (pc : Join) → Starts m n (meanings pc s) → Agrees scope m n pc s
      agrees-from (Placed at (Assign x e)) n pc h = tt
      agrees-from (Placed at (Clear slot)) n pc h = tt
      agrees-from (Placed at (Store array len index e)) n pc h = tt
      agrees-from (Placed at (Receive channel target)) n pc h = tt
      agrees-from (Placed at (Send channel e)) n pc h = tt
      agrees-from (Placed at (Call procedure arguments target)) n pc h = h.0
      agrees-from (Placed at (If e then_block else_block)) n pc h =
          let branch : Join = (pc ++ raise_label scope e) ++ value_label scope e in (
            h.0,
            agrees_in-from then_block (suc n) branch (starts-left m (suc n) (meanings_in branch then_block) (meanings_in branch else_block) h.1),
            agrees_in-from else_block (suc n + made_by_block then_block) branch (subst (λ k. Starts m (suc n + k) (meanings_in branch else_block)) (meanings_in-made then_block branch)
                (starts-right m (suc n) (meanings_in branch then_block) (meanings_in branch else_block) h.1)),
          )
      agrees-from (Placed at (While loop e body)) n pc h =
          (h.0, h.1.0, agrees_in-from body (suc (suc n)) ((one (label_of scope.program (ToLoop scope.number loop)) ++ raise_label scope e) ++ value_label scope e) h.1.1)
      agrees-from (Placed at (Leave exit)) n pc h = tt
      agrees-from (Placed at (ReturnWith value)) n pc h = tt
      agrees-from (Placed at (Try block handlers)) n pc h =
          let x : ExitLabels = block_exit_labels scope pc block in
          let after : Starts m (n + handler_count handlers) (meanings_in pc block ++ meanings_by x handlers) =
          subst (λ k. Starts m (n + k) (meanings_in pc block ++ meanings_by x handlers)) (handled-count handlers x)
          (starts-right m n (handled_at x handlers) (meanings_in pc block ++ meanings_by x handlers) h) in (
            handled-named handlers x n (starts-left m n (handled_at x handlers) (meanings_in pc block ++ meanings_by x handlers) h),
            agrees_in-from block (n + handler_count handlers) pc (starts-left m (n + handler_count handlers) (meanings_in pc block) (meanings_by x handlers) after),
            agrees_by-from handlers ((n + handler_count handlers) + made_by_block block) x (subst (λ k. Starts m ((n + handler_count handlers) + k) (meanings_by x handlers)) (meanings_in-made block pc)
                (starts-right m (n + handler_count handlers) (meanings_in pc block) (meanings_by x handlers) after)),
          )
      agrees-from (Placed at (Nested block)) n pc h = agrees_in-from block n pc h

      pub agrees_in-from : (block : Block) (n : ℕ) (pc : Join) → Starts m n (meanings_in pc block) → AgreesIn scope m n pc block
      agrees_in-from Empty n pc h = tt
      agrees_in-from (Then s rest) n pc h =
          let after : Join = statement_exit_labels scope pc s Normal in (
            h.0,
            agrees-from s (suc n) pc (starts-left m (suc n) (meanings pc s) (meanings_in after rest) h.1),
            agrees_in-from rest (suc n + made_by_statement s) after (subst (λ k. Starts m (suc n + k) (meanings_in after rest)) (meanings-made s pc)
                (starts-right m (suc n) (meanings pc s) (meanings_in after rest) h.1)),
          )

      agrees_by-from : (handlers : Handlers) (n : ℕ) (x : ExitLabels) → Starts m n (meanings_by x handlers) → AgreesBy scope m n x handlers
      agrees_by-from NoMore n x h = tt
      agrees_by-from (Catch at handled body rest) n x h =
          let own : List Join = meanings_in (x (Throw handled)) body in (
            agrees_in-from body n (x (Throw handled)) (starts-left m n own (meanings_by x rest) h),
            agrees_by-from rest (n + made_by_block body) x (subst (λ k. Starts m (n + k) (meanings_by x rest)) (meanings_in-made body (x (Throw handled)))
                (starts-right m n own (meanings_by x rest) h)),
          )
