-- A statement that does not end normally by its form has no normal exit, so nothing stands after it.
use Rattle.std.proofs.Common.{◌≡◌, refl, sym, ap, subst, ◌∙◌, ◌⊎◌, inl, inr, Bool, true, false, ◌&&◌, ◌||◌, List, [], ◌∷◌, ◌++◌, not}
use Rattle.std.specs.Prelude.{Some, None, filter, if◌then◌else◌}
use Rattle.std.proofs.lemmas.List.Folds.{list_any-append}
use Rattle.std.proofs.lemmas.Bool.{or_parts, and_cases, and_parts}
use Rattle.std.proofs.Math.Bool.{and-false}
use Rattle.common.specs.declared.base_type.BaseType.TheVariants.{Boolean}
use Rattle.resolved.specs.declared.statement.Exit.{Exit}
use Rattle.resolved.specs.declared.statement.Exit.TheVariants.{Normal, Return, Break, Continue, Throw}
use Rattle.resolved.specs.Tree.{Statement, Placed, If, Leave, ReturnWith, Try, Nested, Block, Empty, Then, Handlers, NoMore, Catch}
use Rattle.resolved.specs.Program.{Program, ProcedureEntry}
use Rattle.resolved.specs.Exits.{same_exit, has_exit, raises, thrown_exits, passes, then_exits, statement_exits, block_exits, handlers_exits}
use Rattle.resolved.specs.WellFormed.{has_base, statement_fits, block_fits, handlers_fit, is_exception, may_leave_by}
use Rattle.lowering.specs.Code.{statement_falls, block_falls, handlers_fall}
use Rattle.resolved.proofs.Exits.{thrown-normal, end-filter}

none-of : (xs ys : List Exit) → has_exit xs Normal ≡ false → has_exit ys Normal ≡ false → has_exit (xs ++ ys) Normal ≡ false
none-of xs ys h k = list_any-append (same_exit Normal) xs ys ∙ (ap (λ b. b || has_exit ys Normal) h ∙ k)

none-left : (p : Exit → Bool) (xs : List Exit) → has_exit xs Normal ≡ false → has_exit (filter p xs) Normal ≡ false
none-left p xs h = end-filter p xs Normal ∙ (ap (λ b. p Normal && b) h ∙ and-false (p Normal))

then-first : (first rest : List Exit) → has_exit first Normal ≡ false → has_exit (then_exits first rest) Normal ≡ false
then-first first rest h = by (has_exit first Normal) h refl
  where
    by : (b : Bool) → b ≡ false → has_exit first Normal ≡ b → has_exit (then_exits first rest) Normal ≡ false
    by true k e = absurd (let no : true ≡ false = k in cc)
    by false k e = subst (λ (b : Bool). has_exit (if b then filter (λ exit. not (same_exit Normal exit)) first ++ rest else first) Normal ≡ false) (sym e) h

then-rest : (first rest : List Exit) → has_exit rest Normal ≡ false → has_exit (then_exits first rest) Normal ≡ false
then-rest first rest h = by (has_exit first Normal) refl
  where
    by : (b : Bool) → has_exit first Normal ≡ b → has_exit (then_exits first rest) Normal ≡ false
    by true e =
        subst (λ (b : Bool). has_exit (if b then filter (λ exit. not (same_exit Normal exit)) first ++ rest else first) Normal ≡ false) (sym e)
        (none-of (filter (λ exit. not (same_exit Normal exit)) first) rest (end-filter (λ exit. not (same_exit Normal exit)) first Normal) h)
    by false e =
        subst (λ (b : Bool). has_exit (if b then filter (λ exit. not (same_exit Normal exit)) first ++ rest else first) Normal ≡ false) (sym e) e

not-normal : (program : Program) (exit : Exit) → may_leave_by program exit ≡ true → has_exit (exit ∷ []) Normal ≡ false
not-normal program Normal h = absurd (let no : false ≡ true = h in cc)
not-normal program Return h = refl
not-normal program Break h = refl
not-normal program Continue h = refl
not-normal program (Throw exception) h = refl

module _ (program : Program) (procedure : ProcedureEntry) where
  mutual
    pub statement-none : (statement : Statement) → statement_fits program procedure statement ≡ true → statement_falls statement ≡ false
        → has_exit (statement_exits program statement) Normal ≡ false
    statement-none (Placed at (If e then_block else_block)) fits falls =
        let parts = and_parts (has_base program procedure Boolean e && block_fits program procedure then_block) (block_fits program procedure else_block) fits in
        let yes_fits : block_fits program procedure then_block ≡ true = (and_parts (has_base program procedure Boolean e) (block_fits program procedure then_block) parts.0).1 in
        let ends = or_parts (block_falls then_block) (block_falls else_block) falls in
        none-of (thrown_exits (raises e) ++ block_exits program then_block) (block_exits program else_block)
        (none-of (thrown_exits (raises e)) (block_exits program then_block) (thrown-normal (raises e)) (block-none then_block yes_fits ends.0))
        (block-none else_block parts.1 ends.1)
    statement-none (Placed at (Leave exit)) fits falls = not-normal program exit fits
    statement-none (Placed at (ReturnWith None)) fits falls = refl
    statement-none (Placed at (ReturnWith (Some e))) fits falls = thrown-normal (raises e)
    statement-none (Placed at (Try block handlers)) fits falls =
        let parts = and_parts (block_fits program procedure block) (handlers_fit program procedure handlers) fits in
        let ends = or_parts (block_falls block) (handlers_fall handlers) falls in
        none-of (filter (passes handlers) (block_exits program block)) (handlers_exits program handlers)
        (none-left (passes handlers) (block_exits program block) (block-none block parts.0 ends.0)) (handlers-none handlers parts.1 ends.1)
    statement-none (Placed at (Nested block)) fits falls = block-none block fits falls
    statement-none _ fits falls = absurd (let no : true ≡ false = falls in cc)

    pub block-none : (block : Block) → block_fits program procedure block ≡ true → block_falls block ≡ false → has_exit (block_exits program block) Normal ≡ false
    block-none Empty fits falls = absurd (let no : true ≡ false = falls in cc)
    block-none (Then statement rest) fits falls =
        let parts = and_parts (statement_fits program procedure statement) (block_fits program procedure rest) fits in
        by (and_cases (statement_falls statement) (block_falls rest) falls) (λ h. statement-none statement parts.0 h) (λ h. block-none rest parts.1 h)
      where
        by : (statement_falls statement ≡ false) ⊎ (block_falls rest ≡ false)
            → (statement_falls statement ≡ false → has_exit (statement_exits program statement) Normal ≡ false)
            → (block_falls rest ≡ false → has_exit (block_exits program rest) Normal ≡ false)
            → has_exit (block_exits program (Then statement rest)) Normal ≡ false
        by (inl h) first second = then-first (statement_exits program statement) (block_exits program rest) (first h)
        by (inr h) first second = then-rest (statement_exits program statement) (block_exits program rest) (second h)

    pub handlers-none : (handlers : Handlers) → handlers_fit program procedure handlers ≡ true → handlers_fall handlers ≡ false
        → has_exit (handlers_exits program handlers) Normal ≡ false
    handlers-none NoMore fits falls = refl
    handlers-none (Catch at handled body rest) fits falls =
        let parts = and_parts (is_exception program handled && block_fits program procedure body) (handlers_fit program procedure rest) fits in
        let body_fits : block_fits program procedure body ≡ true = (and_parts (is_exception program handled) (block_fits program procedure body) parts.0).1 in
        let ends = or_parts (block_falls body) (handlers_fall rest) falls in
        none-of (block_exits program body) (handlers_exits program rest) (block-none body body_fits ends.0) (handlers-none rest parts.1 ends.1)
