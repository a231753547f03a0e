-- Code of every statement does what the statement does, by recursion on the tree.
use Rattle.std.proofs.Common.{◌≡◌, ℕ, ◌+◌, ◌≤◌, ◌⊎◌, inl, inr, Bool, true, false, not, ◌&&◌, [], ◌∷◌, ◌++◌, refl, ap, ◌∙◌, arith, slice_get}
use Rattle.std.proofs.lemmas.Bool.{and_parts}
use Rattle.std.specs.Prelude.{Option, Some, None, if◌then◌else◌, ◌==◌}
use Rattle.common.specs.declared.base_type.BaseType.TheVariants as base
use Rattle.resolved.specs.declared.statement.Exit.TheVariants.{Return}
use Rattle.common.specs.declared.direction.Direction.TheVariants.{Input, Output}
use Rattle.resolved.specs.Tree.{Statement, Placed, Assign, Clear, Store, Receive, Send, Call, If, While, Leave, ReturnWith, Try, Nested, Block, Empty, Then, Handlers, NoMore, Catch}
use Rattle.resolved.specs.Program.{Program, procedure_at}
use Rattle.resolved.specs.SourceState as source
use Rattle.resolved.specs.SourceState.{value_of, values_of, assigned}
use Rattle.resolved.specs.Meaning.{Outcome, Calls, fuel, statement_meaning, block_meaning, handlers_meaning}
use Rattle.resolved.specs.WellFormed.{variable_type, has_base, same_base, array_by, target_by, channel_is, statement_fits, block_fits, handlers_fit, is_exception}
use Rattle.resolved.specs.Kinds.{StateFits, OutcomeFits}
use Rattle.resolved.proofs.Sound.Meanings.{CallsKeep, statement_keeps, block_keeps}
use Rattle.modules.specs.declared.instruction.Instruction.TheVariants as instruction
use Rattle.modules.specs.Machine as machine
use Rattle.modules.specs.Machine.{Machine}
use Rattle.lowering.specs.Expressions.{value_size, arguments_size, branch_size, branch_code}
use Rattle.lowering.specs.Code.{Loop, block_falls, is_empty, is_none_left, jump_size, jump_code, jumps_over, jumps_after, result_size, no_position, test_position, handlers_position, statement_size, block_size, handlers_size, statement_code, block_code, handlers_code, entry_of, statement_table, block_table, handlers_table}
use Rattle.lowering.proofs.CodePieces.{Stands, stands-front, stands-back}
use Rattle.lowering.proofs.Sizes.{branch-sized, jump-sized, statement-sized, block-sized}
use Rattle.lowering.proofs.Steps.{leads-itself}
use Rattle.lowering.proofs.States.{Setting, position, thrown_to}
use Rattle.lowering.proofs.Values.{Finds}
use Rattle.lowering.proofs.Expressions.{jump-runs}
use Rattle.lowering.proofs.Branches.{branch-runs}
use Rattle.lowering.proofs.Tables.{first_found, Under, under-none, under-part, only-first, only-second, statement-outside, block-outside, handlers-outside, catch_position, handlers-inside, entry-outside}
use Rattle.lowering.proofs.Outcomes.{Runs, NotNormal, runs-from, runs-at, runs-over, after-runs, branch-evaluated, fuel-run, caught-runs, first-handler}
use Rattle.lowering.proofs.Simple.{leaves-runs, returns-nothing}
use Rattle.lowering.proofs.Plain.{assign-runs, send-runs, return-runs, receive-runs, clear-runs, store-runs}
use Rattle.lowering.proofs.Falls.{block-stays}
use Rattle.lowering.proofs.Statements.{CallsRun, call-runs}

over_cases : (a b : Bool) → (a && not b) ≡ false → (a ≡ false) ⊎ (b ≡ true)
over_cases false b h = inl refl
over_cases true true h = inr refl
over_cases true false h = absurd (let no : true ≡ false = h in cc)

-- code that ends normally goes on where it is to, and nothing need be said of other code
end_or : (a b : Bool) (o : Outcome) (mid end : ℕ) → (a ≡ false) ⊎ (b ≡ true) → (a ≡ false → NotNormal o) → (b ≡ true → mid ≡ end)
    → NotNormal o ⊎ (mid ≡ end)
end_or a b o mid end (inl falls) one other = inl (one falls)
end_or a b o mid end (inr empty) one other = inr (other empty)

empty_size : (program : Program) (block : Block) → is_empty block ≡ true → block_size program block ≡ 0
empty_size program Empty h = refl
empty_size program (Then statement rest) h = absurd (let no : false ≡ true = h in cc)

none_size : (program : Program) (handlers : Handlers) → is_none_left handlers ≡ true → handlers_size program handlers ≡ 0
none_size program NoMore h = refl
none_size program (Catch at exception body rest) h = absurd (let no : false ≡ true = h in cc)

found_thrice : (a b c : Option ℕ) → first_found (first_found a b) c ≡ first_found a (first_found b c)
found_thrice None b c = refl
found_thrice (Some target) b c = refl

plain : (g : Setting) (at n : ℕ) (h : ℕ → Option ℕ) → Under g [] at n h → Finds g at n h
plain g at n h under = record { finds = under.finds }

module _ (g : Setting) (calls : Calls) (k : ℕ) (keep : CallsKeep g.program calls) (run : CallsRun g calls k) where
  mutual
    pub statement-runs : (statement : Statement) (loop : Loop) (h : ℕ → Option ℕ) (at : ℕ) (s : source.SourceState) → statement_fits g.program g.procedure statement ≡ true
        → Stands g.code (statement_code g.program loop at statement) at → Under g (statement_table g.program at statement) at (statement_size g.program statement) h
        → StateFits g.program g.procedure s
        → Runs g loop h k (position g at [] s) (at + statement_size g.program statement) (statement_meaning calls k statement s)
    statement-runs (Placed start (Assign x e)) loop h at s fits stands under fit = assign-runs g loop h k s fit x e at fits stands (plain g at (value_size e + 1) h under)
    statement-runs (Placed start (Clear slot)) loop h at s fits stands under fit = clear-runs g loop h k s fit slot at [] fits stands
    statement-runs (Placed start (Store array count index e)) loop h at s fits stands under fit =
        let parts = and_parts (array_by (variable_type g.program g.procedure array) count (λ b. has_base g.program g.procedure b e)) (has_base g.program g.procedure base.Int index) fits in
        store-runs g loop h k s fit array count index e at parts.0 parts.1 stands (plain g at (value_size index + (value_size e + 1)) h under)
    statement-runs (Placed start (Receive channel target)) loop h at s fits stands under fit =
        let parts = and_parts (channel_is (slice_get g.program.channels channel) Input) (target_by g.program g.procedure target (same_base base.Int)) fits in
        receive-runs g loop h k s fit channel at target parts.0 parts.1 stands (plain g at 2 h under)
    statement-runs (Placed start (Send channel e)) loop h at s fits stands under fit =
        let parts = and_parts (channel_is (slice_get g.program.channels channel) Output) (has_base g.program g.procedure base.Int e) fits in
        send-runs g loop h k s fit channel e at parts.0 parts.1 stands (plain g at (value_size e + 1) h under)
    statement-runs (Placed start (Call f arguments target)) loop h at s fits stands under fit =
        call-runs g loop h k calls run f at (slice_get g.program.procedures f) arguments target s fit refl fits stands
        (plain g at (arguments_size arguments + (1 + result_size (procedure_at g.program f).result)) h under)
    statement-runs (Placed start (If e then_block else_block)) loop h at s fits stands under fit =
        let outer = and_parts (has_base g.program g.procedure base.Boolean e && block_fits g.program g.procedure then_block) (block_fits g.program g.procedure else_block) fits in
        let inner = and_parts (has_base g.program g.procedure base.Boolean e) (block_fits g.program g.procedure then_block) outer.0 in
        let n = branch_size false e in
        let yes_at = at + n in
        let y = block_size g.program then_block in
        let over = jumps_over then_block else_block in
        let no_at = no_position g.program at e then_block else_block in
        let z = block_size g.program else_block in
        let first = block_code g.program loop yes_at then_block in
        let jump = jump_code over (no_at + z) in
        let second = block_code g.program loop no_at else_block in
        let stands1 = stands-back g.code (branch_code false at no_at e) (first ++ (jump ++ second)) at n (branch-sized e false at no_at) stands in
        let stands2 = stands-back g.code first (jump ++ second) yes_at y (block-sized g.program loop yes_at then_block) stands1 in
        let stands3 = stands-back g.code jump second (yes_at + y) (jump_size over) (jump-sized over (no_at + z)) stands2 in
        let low_table = block_table g.program yes_at then_block in
        let high_table = block_table g.program no_at else_block in
        let finds : Finds g at n h = under-none g (low_table ++ high_table) at (n + (y + (jump_size over + z))) h at n under (omega arith) (omega arith)
        (λ i x least most. only-first low_table high_table i x (block-outside g.program no_at else_block i x (λ low. omega (arith, low, most)))
        ∙ block-outside g.program yes_at then_block i x (λ low. omega (arith, low, most))) in
        let under_yes : Under g low_table yes_at y h = under-part g (low_table ++ high_table) low_table at (n + (y + (jump_size over + z))) h yes_at y under (omega arith) (omega arith)
        (λ i x least most. only-first low_table high_table i x (block-outside g.program no_at else_block i x (λ low. omega (arith, low, most)))) in
        let under_no : Under g high_table no_at z h = under-part g (low_table ++ high_table) high_table at (n + (y + (jump_size over + z))) h no_at z under (omega arith) (omega arith)
        (λ i x least most. only-second low_table high_table i x (block-outside g.program yes_at then_block i x (λ low. omega (arith, least)))) in
        let yes_runs : Runs g loop h k (position g yes_at [] s) (no_at + z) (block_meaning calls k then_block s) =
        runs-over g loop h k over (position g yes_at [] s) (yes_at + y) (no_at + z) second (block_meaning calls k then_block s) stands2
        (λ none. end_or (block_falls then_block) (is_empty else_block) (block_meaning calls k then_block s) (yes_at + y) (no_at + z) (over_cases (block_falls then_block) (is_empty else_block) none)
        (λ falls. block-stays g.program g.procedure calls k then_block inner.1 falls s)
        (λ empty. omega (arith, ap jump_size none, empty_size g.program else_block empty)))
        (block-runs then_block loop h yes_at s inner.1 (stands-front g.code first (jump ++ second) yes_at stands1) under_yes fit) in
        let no_runs : Runs g loop h k (position g no_at [] s) (no_at + z) (block_meaning calls k else_block s) = block-runs else_block loop h no_at s outer.1 stands3 under_no fit in
        runs-at g loop h k (position g at [] s) (no_at + z) (at + (n + (y + (jump_size over + z)))) (statement_meaning calls k (Placed start (If e then_block else_block)) s) (omega arith)
        (branch-evaluated g loop h k false no_at (position g at [] s) yes_at (no_at + z) s (value_of s e) (λ t. if t then block_meaning calls k then_block s else block_meaning calls k else_block s)
        (branch-runs g h s fit e false at no_at inner.0 (stands-front g.code (branch_code false at no_at e) (first ++ (jump ++ second)) at stands) finds)
        (λ t. either_runs yes_at no_at (no_at + z) t (block_meaning calls k then_block s) (block_meaning calls k else_block s) yes_runs no_runs))
      where
        either_runs : (yes_at no_at end : ℕ) (t : Bool) (one other : Outcome) → Runs g loop h k (position g yes_at [] s) end one → Runs g loop h k (position g no_at [] s) end other
            → Runs g loop h k (position g (Rattle.lowering.proofs.Branches.lead_by false t no_at yes_at) [] s) end (if t then one else other)
        either_runs yes_at no_at end true one other a b = a
        either_runs yes_at no_at end false one other a b = b
    statement-runs (Placed start (While number e body)) loop h at s fits stands under fit =
        let parts = and_parts (has_base g.program g.procedure base.Boolean e) (block_fits g.program g.procedure body) fits in
        let m = block_size g.program body in
        let b = branch_size true e in
        let test = test_position g.program at body in
        let inner : Loop = record { beyond = test + b; test = test } in
        let code = block_code g.program inner (at + 1) body in
        let branch = branch_code true test (at + 1) e in
        let stands1 = stands-back g.code (instruction.Jump test ∷ []) (code ++ branch) at 1 refl stands in
        let stands2 = stands-back g.code code branch (at + 1) m (block-sized g.program inner (at + 1) body) stands1 in
        let table = block_table g.program (at + 1) body in
        let finds : Finds g test b h = under-none g table at (1 + (m + b)) h test b under (omega arith) (omega arith)
        (λ i x least most. block-outside g.program (at + 1) body i x (λ low. omega (arith, least))) in
        let under_body : Under g table (at + 1) m h = under-part g table table at (1 + (m + b)) h (at + 1) m under (omega arith) (omega arith) (λ i x least most. refl) in
        runs-at g loop h k (position g at [] s) (test + b) (at + (1 + (m + b))) (statement_meaning calls k (Placed start (While number e body)) s) (omega arith)
        (runs-from g loop h k (position g at [] s) (position g test [] s) (test + b) (fuel k (λ t. value_of t e) (block_meaning calls k body) s)
        (jump-runs g h s test at [] (code ++ branch) stands)
        (fuel-run g loop inner h (at + 1) k (λ t. value_of t e) (block_meaning calls k body)
        (λ t fit'. branch-runs g h t fit' e true test (at + 1) parts.0 stands2 finds)
        (λ t fit'. block-runs body inner h (at + 1) t parts.1 (stands-front g.code code branch (at + 1) stands1) under_body fit')
        (λ t fit'. let kept : OutcomeFits g.program g.procedure Return g.procedure.result (block_meaning calls k body t) = block_keeps g.program g.procedure calls keep k body t fit' parts.1 in kept.state)
        k (omega arith) s fit))
    statement-runs (Placed start (Leave way)) loop h at s fits stands under fit =
        leaves-runs g loop h k s way at [] fits stands ((plain g at 1 h under).finds at (omega arith) (omega arith))
    statement-runs (Placed start (ReturnWith None)) loop h at s fits stands under fit = returns-nothing g loop h k s at [] fits stands
    statement-runs (Placed start (ReturnWith (Some e))) loop h at s fits stands under fit =
        return-runs g loop h k s fit e at (at + (value_size e + 1)) fits stands (plain g at (value_size e + 1) h under)
    statement-runs (Placed start (Try block handlers)) loop h at s fits stands under fit =
        let parts = and_parts (block_fits g.program g.procedure block) (handlers_fit g.program g.procedure handlers) fits in
        let m = block_size g.program block in
        let over = jumps_after block handlers in
        let next = handlers_position g.program at block handlers in
        let z = handlers_size g.program handlers in
        let end = next + z in
        let first = block_code g.program loop at block in
        let jump = jump_code over end in
        let second = handlers_code g.program loop end next handlers in
        let stands1 = stands-back g.code first (jump ++ second) at m (block-sized g.program loop at block) stands in
        let stands2 = stands-back g.code jump second (at + m) (jump_size over) (jump-sized over end) stands1 in
        let inside : ℕ → Option ℕ = λ x. first_found (catch_position g.program next handlers x) (h x) in
        let low_table = block_table g.program at block in
        let high_table = handlers_table g.program at (at + m) next handlers in
        let under_block : Under g low_table at m inside = record {
          finds = λ i least most x.
              under.finds i least (omega (arith, most)) x
              ∙ ap (λ (o : Option ℕ). first_found o (h x)) (Rattle.lowering.proofs.Tables.found-in low_table high_table i x)
              ∙ found_thrice (machine.handler_for low_table i x) (machine.handler_for high_table i x) (h x)
              ∙ ap (λ (o : Option ℕ). first_found (machine.handler_for low_table i x) (first_found o (h x))) (handlers-inside g.program at (at + m) next handlers i x least most (omega arith));
        } in
        let under_handlers : Under g high_table next z h = under-part g (low_table ++ high_table) high_table at (m + (jump_size over + z)) h next z under (omega arith) (omega arith)
        (λ i x least most. only-second low_table high_table i x (block-outside g.program at block i x (λ low. omega (arith, least)))) in
        let kept : OutcomeFits g.program g.procedure Return g.procedure.result (block_meaning calls k block s) = block_keeps g.program g.procedure calls keep k block s fit parts.0 in
        let block_run : Runs g loop inside k (position g at [] s) end (block_meaning calls k block s) =
        runs-over g loop inside k over (position g at [] s) (at + m) end second (block_meaning calls k block s) stands1
        (λ none. end_or (block_falls block) (is_none_left handlers) (block_meaning calls k block s) (at + m) end (over_cases (block_falls block) (is_none_left handlers) none)
        (λ falls. block-stays g.program g.procedure calls k block parts.0 falls s)
        (λ empty. omega (arith, ap jump_size none, none_size g.program handlers empty)))
        (block-runs block loop inside at s parts.0 (stands-front g.code first (jump ++ second) at stands) under_block fit) in
        runs-at g loop h k (position g at [] s) end (at + (m + (jump_size over + z))) (statement_meaning calls k (Placed start (Try block handlers)) s) (omega arith)
        (caught-runs g loop h inside k (position g at [] s) end (block_meaning calls k block s) (handlers_meaning calls k handlers) block_run kept.state
        (λ x t fit'. handlers-run handlers loop h at (at + m) next end x t parts.1 stands2 under_handlers (omega arith) refl fit'))
    statement-runs (Placed start (Nested block)) loop h at s fits stands under fit = block-runs block loop h at s fits stands under fit

    pub block-runs : (block : Block) (loop : Loop) (h : ℕ → Option ℕ) (at : ℕ) (s : source.SourceState) → block_fits g.program g.procedure block ≡ true
        → Stands g.code (block_code g.program loop at block) at → Under g (block_table g.program at block) at (block_size g.program block) h
        → StateFits g.program g.procedure s
        → Runs g loop h k (position g at [] s) (at + block_size g.program block) (block_meaning calls k block s)
    block-runs Empty loop h at s fits stands under fit = record { steps = 0; reached = ap (λ (q : ℕ). position g q [] s) (omega arith) }
    block-runs (Then statement rest) loop h at s fits stands under fit =
        let parts = and_parts (statement_fits g.program g.procedure statement) (block_fits g.program g.procedure rest) fits in
        let n = statement_size g.program statement in
        let m = block_size g.program rest in
        let mid = at + n in
        let first = statement_code g.program loop at statement in
        let second = block_code g.program loop mid rest in
        let low_table = statement_table g.program at statement in
        let high_table = block_table g.program mid rest in
        let under_first : Under g low_table at n h = under-part g (low_table ++ high_table) low_table at (n + m) h at n under (omega arith) (omega arith)
        (λ i x least most. only-first low_table high_table i x (block-outside g.program mid rest i x (λ low. omega (arith, low, most)))) in
        let under_rest : Under g high_table mid m h = under-part g (low_table ++ high_table) high_table at (n + m) h mid m under (omega arith) (omega arith)
        (λ i x least most. only-second low_table high_table i x (statement-outside g.program at statement i x (λ low. omega (arith, least)))) in
        let kept : OutcomeFits g.program g.procedure Return g.procedure.result (statement_meaning calls k statement s) = statement_keeps g.program g.procedure calls keep k statement s fit parts.0 in
        runs-at g loop h k (position g at [] s) (mid + m) (at + (n + m)) (block_meaning calls k (Then statement rest) s) (omega arith)
        (after-runs g loop h k (position g at [] s) mid (mid + m) (statement_meaning calls k statement s) (block_meaning calls k rest)
        (statement-runs statement loop h at s parts.0 (stands-front g.code first second at stands) under_first fit) kept.state
        (λ t fit'. block-runs rest loop h mid t parts.1 (stands-back g.code first second at n (statement-sized g.program loop at statement) stands) under_rest fit'))

    pub handlers-run : (handlers : Handlers) (loop : Loop) (h : ℕ → Option ℕ) (start stop at end exception : ℕ) (t : source.SourceState) → handlers_fit g.program g.procedure handlers ≡ true
        → Stands g.code (handlers_code g.program loop end at handlers) at → Under g (handlers_table g.program start stop at handlers) at (handlers_size g.program handlers) h
        → stop ≤ at → end ≡ at + handlers_size g.program handlers → StateFits g.program g.procedure t
        → Runs g loop h k (thrown_to g (first_found (catch_position g.program at handlers exception) (h exception)) exception t) end (handlers_meaning calls k handlers exception t)
    handlers-run NoMore loop h start stop at end exception t fits stands under most last fit = leads-itself g.p (thrown_to g (h exception) exception t)
    handlers-run (Catch begins handled body rest) loop h start stop at end exception t fits stands under most last fit =
        let outer = and_parts (is_exception g.program handled && block_fits g.program g.procedure body) (handlers_fit g.program g.procedure rest) fits in
        let inner = and_parts (is_exception g.program handled) (block_fits g.program g.procedure body) outer.0 in
        let m = block_size g.program body in
        let over = jumps_after body rest in
        let next = handlers_position g.program at body rest in
        let z = handlers_size g.program rest in
        let first = block_code g.program loop at body in
        let jump = jump_code over end in
        let second = handlers_code g.program loop end next rest in
        let stands1 = stands-back g.code first (jump ++ second) at m (block-sized g.program loop at body) stands in
        let stands2 = stands-back g.code jump second (at + m) (jump_size over) (jump-sized over end) stands1 in
        let entry = entry_of start stop handled at in
        let low_table = block_table g.program at body in
        let high_table = handlers_table g.program start stop next rest in
        let n = m + (jump_size over + z) in
        let under_body : Under g low_table at m h = under-part g (entry ++ (low_table ++ high_table)) low_table at n h at m under (omega arith) (omega arith)
        (λ i x least high. only-second entry (low_table ++ high_table) i x (entry-outside start stop handled at i x (λ low. omega (arith, least, most)))
        ∙ only-first low_table high_table i x (handlers-outside g.program start stop next rest i x (λ low. omega (arith, least, most)) (λ low. omega (arith, low, high)))) in
        let under_rest : Under g high_table next z h = under-part g (entry ++ (low_table ++ high_table)) high_table at n h next z under (omega arith) (omega arith)
        (λ i x least high. only-second entry (low_table ++ high_table) i x (entry-outside start stop handled at i x (λ low. omega (arith, least, most)))
        ∙ only-second low_table high_table i x (block-outside g.program at body i x (λ low. omega (arith, least)))) in
        let last_rest : end ≡ next + z = last ∙ omega arith in
        first-handler g loop h k at end exception (catch_position g.program next rest exception) t (exception == handled) (block_meaning calls k body t) (handlers_meaning calls k rest exception t)
        (runs-over g loop h k over (position g at [] t) (at + m) end second (block_meaning calls k body t) stands1
        (λ none. end_or (block_falls body) (is_none_left rest) (block_meaning calls k body t) (at + m) end (over_cases (block_falls body) (is_none_left rest) none)
        (λ falls. block-stays g.program g.procedure calls k body inner.1 falls t)
        (λ empty. omega (arith, ap jump_size none, none_size g.program rest empty, last)))
        (block-runs body loop h at t inner.1 (stands-front g.code first (jump ++ second) at stands) under_body fit))
        (handlers-run rest loop h start stop next end exception t outer.1 stands2 under_rest (omega (arith, most)) last_rest fit)
