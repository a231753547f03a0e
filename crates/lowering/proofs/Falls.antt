-- A statement that does not end normally by its form does not do so in any run.
use Rattle.std.proofs.Common.{◌≡◌, ℕ, ◌⊎◌, inl, inr, Bool, true, false, ◌&&◌}
use Rattle.std.proofs.lemmas.Bool.{or_parts, and_cases, and_parts}
use Rattle.std.specs.Prelude.{Some, None, if◌then◌else◌, ◌==◌}
use Rattle.common.specs.declared.base_type.BaseType.TheVariants.{Boolean}
use Rattle.resolved.specs.declared.statement.Exit.{Exit}
use Rattle.resolved.specs.declared.statement.Exit.TheVariants.{Normal, Return, Break, Continue, Throw}
use Rattle.resolved.specs.Tree.{Statement, Placed, If, Leave, ReturnWith, Try, Nested, Block, Empty, Then, Handlers, NoMore, Catch}
use Rattle.resolved.specs.Program.{Program, ProcedureEntry}
use Rattle.resolved.specs.SourceState.{SourceState, value_of}
use Rattle.common.specs.Values.{truth_in}
use Rattle.resolved.specs.Value.{Evaluated, Yields, Raises}
use Rattle.resolved.specs.Meaning.{Outcome, Ended, Stopped, Calls, after, evaluated, caught, statement_meaning, block_meaning, handlers_meaning}
use Rattle.resolved.specs.WellFormed.{has_base, statement_fits, block_fits, handlers_fit, is_exception, may_leave_by}
use Rattle.lowering.specs.Code.{statement_falls, block_falls, handlers_fall}
use Rattle.lowering.proofs.Outcomes.{NotNormal}

not-first : (o : Outcome) (next : SourceState → Outcome) → NotNormal o → NotNormal (after o next)
not-first (Ended Normal returned t) next h = absurd h
not-first (Ended Return returned t) next h = tt
not-first (Ended Break returned t) next h = tt
not-first (Ended Continue returned t) next h = tt
not-first (Ended (Throw exception) returned t) next h = tt
not-first (Stopped stop t) next h = tt

not-rest : (o : Outcome) (next : SourceState → Outcome) → ((t : SourceState) → NotNormal (next t)) → NotNormal (after o next)
not-rest (Ended Normal returned t) next h = h t
not-rest (Ended Return returned t) next h = tt
not-rest (Ended Break returned t) next h = tt
not-rest (Ended Continue returned t) next h = tt
not-rest (Ended (Throw exception) returned t) next h = tt
not-rest (Stopped stop t) next h = tt

not-evaluated : {A : Type 0} (o : Evaluated A) (s : SourceState) (next : A → Outcome) → ((v : A) → NotNormal (next v)) → NotNormal (evaluated o s next)
not-evaluated (Yields v) s next h = h v
not-evaluated (Raises exception) s next h = tt

not-either : (b : Bool) (one other : Outcome) → NotNormal one → NotNormal other → NotNormal (if b then one else other)
not-either true one other h k = h
not-either false one other h k = k

not-caught : (o : Outcome) (handle : ℕ → SourceState → Outcome) → NotNormal o → ((exception : ℕ) (t : SourceState) → NotNormal (handle exception t)) → NotNormal (caught o handle)
not-caught (Ended Normal returned t) handle h each = absurd h
not-caught (Ended Return returned t) handle h each = tt
not-caught (Ended Break returned t) handle h each = tt
not-caught (Ended Continue returned t) handle h each = tt
not-caught (Ended (Throw exception) returned t) handle h each = each exception t
not-caught (Stopped stop t) handle h each = tt

not-left : (program : Program) (exit : Exit) (s : SourceState) → may_leave_by program exit ≡ true → NotNormal (Ended exit None s)
not-left program Normal s h = absurd (let no : false ≡ true = h in cc)
not-left program Return s h = tt
not-left program Break s h = tt
not-left program Continue s h = tt
not-left program (Throw exception) s h = tt

module _ (program : Program) (procedure : ProcedureEntry) (calls : Calls) (k : ℕ) where
  mutual
    pub statement-stays : (statement : Statement) → statement_fits program procedure statement ≡ true → statement_falls statement ≡ false → (s : SourceState) → NotNormal (statement_meaning calls k statement s)
    statement-stays (Placed at (If e then_block else_block)) fits falls s =
        let parts = and_parts (has_base program procedure Boolean e && block_fits program procedure then_block) (block_fits program procedure else_block) fits in
        let yes_fits : block_fits program procedure then_block ≡ true = (and_parts (has_base program procedure Boolean e) (block_fits program procedure then_block) parts.0).1 in
        let ends = or_parts (block_falls then_block) (block_falls else_block) falls in
        not-evaluated (value_of s e) s _ (λ v. not-either (truth_in v) _ _ (block-stays then_block yes_fits ends.0 s) (block-stays else_block parts.1 ends.1 s))
    statement-stays (Placed at (Leave exit)) fits falls s = not-left program exit s fits
    statement-stays (Placed at (ReturnWith None)) fits falls s = tt
    statement-stays (Placed at (ReturnWith (Some e))) fits falls s = not-evaluated (value_of s e) s _ (λ v. tt)
    statement-stays (Placed at (Try block handlers)) fits falls s =
        let parts = and_parts (block_fits program procedure block) (handlers_fit program procedure handlers) fits in
        let ends = or_parts (block_falls block) (handlers_fall handlers) falls in
        not-caught (block_meaning calls k block s) _ (block-stays block parts.0 ends.0 s) (λ exception t. handlers-stay handlers parts.1 ends.1 exception t)
    statement-stays (Placed at (Nested block)) fits falls s = block-stays block fits falls s
    statement-stays _ fits falls s = absurd (let no : true ≡ false = falls in cc)

    pub block-stays : (block : Block) → block_fits program procedure block ≡ true → block_falls block ≡ false → (s : SourceState) → NotNormal (block_meaning calls k block s)
    block-stays Empty fits falls s = absurd (let no : true ≡ false = falls in cc)
    block-stays (Then statement rest) fits falls s =
        let parts = and_parts (statement_fits program procedure statement) (block_fits program procedure rest) fits in
        either_stays (and_cases (statement_falls statement) (block_falls rest) falls) s (λ h. statement-stays statement parts.0 h s) (λ h t. block-stays rest parts.1 h t)
      where
        either_stays : (statement_falls statement ≡ false) ⊎ (block_falls rest ≡ false) → (s : SourceState)
            → (statement_falls statement ≡ false → NotNormal (statement_meaning calls k statement s))
            → (block_falls rest ≡ false → (t : SourceState) → NotNormal (block_meaning calls k rest t)) → NotNormal (block_meaning calls k (Then statement rest) s)
        either_stays (inl h) s first second = not-first (statement_meaning calls k statement s) _ (first h)
        either_stays (inr h) s first second = not-rest (statement_meaning calls k statement s) _ (second h)

    pub handlers-stay : (handlers : Handlers) → handlers_fit program procedure handlers ≡ true → handlers_fall handlers ≡ false → (exception : ℕ) (s : SourceState) → NotNormal (handlers_meaning calls k handlers exception s)
    handlers-stay NoMore fits falls exception s = tt
    handlers-stay (Catch at handled body rest) fits falls exception s =
        let parts = and_parts (is_exception program handled && block_fits program procedure body) (handlers_fit program procedure rest) fits in
        let body_fits : block_fits program procedure body ≡ true = (and_parts (is_exception program handled) (block_fits program procedure body) parts.0).1 in
        let ends = or_parts (block_falls body) (handlers_fall rest) falls in
        not-either (exception == handled) _ _ (block-stays body body_fits ends.0 s) (handlers-stay rest parts.1 ends.1 exception s)
