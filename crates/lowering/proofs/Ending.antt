-- Code that does not end normally by its form does not go on after its last instruction; and a form that may end normally has a normal
-- exit, so that a procedure with a value, which has none, has no return without one.
use Rattle.std.proofs.Common.{◌≡◌, refl, sym, ap, ◌∙◌, subst, ℕ, zero, suc, ◌+◌, ◌<◌, ◌⊎◌, inl, inr, Bool, true, false, not, ◌&&◌, ◌||◌, List, [], ◌∷◌, ◌++◌, length, Option, Some, None, slice_get, arith, append-nil}
use Rattle.std.specs.Prelude.{filter, if◌then◌else◌}
use Rattle.std.proofs.lemmas.List.Folds.{list_any-append}
use Rattle.std.proofs.lemmas.Bool.{or_parts, and_parts, or_cases}
use Rattle.std.proofs.Math.Bool.{or-true}
use Rattle.resolved.specs.FaultParts.{place_of, may_stand, inner_faults}
use Rattle.resolved.specs.declared.statement.Exit.{Exit}
use Rattle.resolved.specs.declared.statement.Exit.TheVariants.{Normal, Return, Break, Continue, Throw}
use Rattle.common.specs.declared.base_type.BaseType.TheVariants.{Boolean}
use Rattle.resolved.specs.Tree.{Expression, Statement, Placed, Assign, Clear, Store, Receive, Send, Call, If, While, Leave, ReturnWith, Try, Nested, Block, Empty, Then, Handlers, NoMore, Catch}
use Rattle.resolved.specs.Program.{Program, ProcedureEntry}
use Rattle.resolved.specs.Exits.{same_exit, has_exit, raises, thrown_exits, passes, then_exits, statement_exits, block_exits, handlers_exits, fault_unless}
use Rattle.resolved.specs.ExitFaults.{block_faults, handlers_faults}
use Rattle.resolved.specs.declared.fault.ExitRefusalKind.TheVariants.{OutsideLoop, Unreachable, NeverRaised}
use Rattle.resolved.specs.WellFormed.{has_base, is_exception, statement_fits, block_fits, handlers_fit}
use Rattle.modules.specs.declared.instruction.Instruction.{Instruction}
use Rattle.modules.specs.declared.instruction.Instruction.TheVariants as instruction
use Rattle.modules.specs.Targets.{goes_on}
use Rattle.lowering.specs.Expressions.{value_code, branch_size, branch_code}
use Rattle.lowering.specs.Code.{Loop, statement_falls, block_falls, handlers_fall, jump_size, jump_code, jumps_over, jumps_after, leave_code, return_code, statement_size, block_size, handlers_size, statement_code, block_code, handlers_code}
use Rattle.lowering.proofs.Unreached.{statement-none}
use Rattle.common.proofs.Cases.{by_test, append_empty}
use Rattle.resolved.proofs.Exits.{no_fault-test, end-filter, faults-in_parts}

-- code that is not empty, and whose last instruction does not go on
pub record Stops (code : List Instruction) : Type 0 where
  pub filled : 0 < length code
  pub stays : (k : ℕ) (i : Instruction) → slice_get code k ≡ Some i → goes_on i ≡ true → k + 1 < length code

pub stops-one : (i : Instruction) → goes_on i ≡ false → Stops (i ∷ [])
stops-one i stops = record { filled = omega arith; stays = stay }
  where
    stay : (k : ℕ) (j : Instruction) → slice_get (i ∷ []) k ≡ Some j → goes_on j ≡ true → k + 1 < 1
    stay zero j e goes =
        let same : i ≡ j = cc in
        absurd (let no : false ≡ true = sym stops ∙ (ap goes_on same ∙ goes) in cc)
    stay (suc k) j e goes = absurd (let no : None ≡ Some j = e in cc)

stops-more : (x : Instruction) (code : List Instruction) → Stops code → Stops (x ∷ code)
stops-more x code h = record { filled = omega arith; stays = stay }
  where
    stay : (k : ℕ) (j : Instruction) → slice_get (x ∷ code) k ≡ Some j → goes_on j ≡ true → k + 1 < suc (length code)
    stay zero j e goes = omega (arith, h.filled)
    stay (suc k) j e goes = omega (arith, h.stays k j e goes)

pub stops-beyond : (xs ys : List Instruction) → Stops ys → Stops (xs ++ ys)
stops-beyond [] ys h = h
stops-beyond (x ∷ xs) ys h = stops-more x (xs ++ ys) (stops-beyond xs ys h)

pub stops-alone : (xs : List Instruction) → Stops xs → Stops (xs ++ [])
stops-alone xs h = subst Stops (sym (append-nil xs)) h

leave-stops : (loop : Loop) (exit : Exit) → Stops (leave_code loop exit ∷ [])
leave-stops loop Normal = stops-one instruction.Return refl
leave-stops loop Return = stops-one instruction.Return refl
leave-stops loop Break = stops-one (instruction.Jump loop.beyond) refl
leave-stops loop Continue = stops-one (instruction.Jump loop.test) refl
leave-stops loop (Throw exception) = stops-one (instruction.Throw exception) refl

return-stops : (position : ℕ) (e : Option Expression) → Stops (return_code position e)
return-stops position None = stops-one instruction.Return refl
return-stops position (Some e) = stops-beyond (value_code position e) (instruction.ReturnValue ∷ []) (stops-one instruction.ReturnValue refl)

module _ (program : Program) (procedure : ProcedureEntry) where
  -- a block that does not end normally, and the handlers after it, if there are any
  beyond-stops : (loop : Loop) (end position : ℕ) (block : Block) (code : List Instruction) (handlers : Handlers) → block_falls block ≡ false → Stops code
      → Stops (handlers_code program loop end position handlers) ⊎ (handlers ≡ NoMore)
      → Stops (code ++ (jump_code (jumps_after block handlers) end ++ handlers_code program loop end position handlers))
  beyond-stops loop end position block code handlers falls stops (inl more) =
      stops-beyond code (jump_code (jumps_after block handlers) end ++ handlers_code program loop end position handlers)
      (stops-beyond (jump_code (jumps_after block handlers) end) (handlers_code program loop end position handlers) more)
  beyond-stops loop end position block code handlers falls stops (inr none) =
      subst (λ (h : Handlers). Stops (code ++ (jump_code (jumps_after block h) end ++ handlers_code program loop end position h))) (sym none)
      (subst (λ (b : Bool). Stops (code ++ (jump_code (b && false) end ++ []))) (sym falls) (stops-alone code stops))

  -- nothing stands after a statement that does not end normally
  rest-stops : (in_loop : Bool) (loop : Loop) (position : ℕ) (goes : Bool) (code : List Instruction) (rest : Block) → goes ≡ false → block_faults program in_loop goes rest ≡ []
      → Stops code → Stops (code ++ block_code program loop position rest)
  rest-stops in_loop loop position goes code Empty none faults stops = stops-alone code stops
  rest-stops in_loop loop position goes code (Then statement rest) none faults stops =
      let first = fault_unless (may_stand in_loop statement) OutsideLoop (place_of statement) in
      let second = fault_unless goes Unreachable (place_of statement) in
      let later = append_empty (first ++ second ++ inner_faults program in_loop statement) _ (sym (faults-in_parts program in_loop goes rest statement) ∙ faults) in
      let here = append_empty (first ++ second) (inner_faults program in_loop statement) later.0 in
      let reached : goes ≡ true = no_fault-test goes Unreachable (place_of statement) (append_empty first second here.0).1 in
      absurd (let no : true ≡ false = sym reached ∙ none in cc)

  mutual
    statement-stops : (loop : Loop) (in_loop : Bool) (position : ℕ) (statement : Statement) → statement_fits program procedure statement ≡ true
        → inner_faults program in_loop statement ≡ [] → statement_falls statement ≡ false → Stops (statement_code program loop position statement)
    statement-stops loop in_loop position (Placed mark (If e then_block else_block)) fits faults falls =
        let b = branch_size false e in
        let j = jumps_over then_block else_block in
        let other = position + b + block_size program then_block + jump_size j in
        let jump = jump_code j (other + block_size program else_block) in
        let last = block_code program loop other else_block in
        let parts = and_parts (has_base program procedure Boolean e && block_fits program procedure then_block) (block_fits program procedure else_block) fits in
        let none = append_empty (block_faults program in_loop true then_block) (block_faults program in_loop true else_block) faults in
        stops-beyond (branch_code false position other e) (block_code program loop (position + b) then_block ++ (jump ++ last))
        (stops-beyond (block_code program loop (position + b) then_block) (jump ++ last)
        (stops-beyond jump last (block-stops loop in_loop true other else_block parts.1 none.1 (or_parts (block_falls then_block) (block_falls else_block) falls).1)))
    statement-stops loop in_loop position (Placed mark (Leave exit)) fits faults falls = leave-stops loop exit
    statement-stops loop in_loop position (Placed mark (ReturnWith e)) fits faults falls = return-stops position e
    statement-stops loop in_loop position (Placed mark (Try block handlers)) fits faults falls =
        let beyond = position + block_size program block + jump_size (jumps_after block handlers) in
        let end = beyond + handlers_size program handlers in
        let parts = and_parts (block_fits program procedure block) (handlers_fit program procedure handlers) fits in
        let none = append_empty (block_faults program in_loop true block) (handlers_faults program in_loop (block_exits program block) handlers) faults in
        let ends = or_parts (block_falls block) (handlers_fall handlers) falls in
        beyond-stops loop end beyond block (block_code program loop position block) handlers ends.0 (block-stops loop in_loop true position block parts.0 none.0 ends.0)
        (handlers-stop loop in_loop end beyond (block_exits program block) handlers parts.1 none.1 ends.1)
    statement-stops loop in_loop position (Placed mark (Nested block)) fits faults falls = block-stops loop in_loop true position block fits faults falls
    statement-stops loop in_loop position _ fits faults falls = absurd (let no : true ≡ false = falls in cc)

    pub block-stops : (loop : Loop) (in_loop reached : Bool) (position : ℕ) (block : Block) → block_fits program procedure block ≡ true
        → block_faults program in_loop reached block ≡ [] → block_falls block ≡ false → Stops (block_code program loop position block)
    block-stops loop in_loop reached position Empty fits faults falls = absurd (let no : true ≡ false = falls in cc)
    block-stops loop in_loop reached position (Then statement rest) fits faults falls =
        let beyond = position + statement_size program statement in
        let code = statement_code program loop position statement in
        let first = fault_unless (may_stand in_loop statement) OutsideLoop (place_of statement) in
        let second = fault_unless reached Unreachable (place_of statement) in
        let goes = has_exit (statement_exits program statement) Normal in
        let later = append_empty (first ++ second ++ inner_faults program in_loop statement) (block_faults program in_loop goes rest) (sym (faults-in_parts program in_loop reached rest statement) ∙ faults) in
        let here = append_empty (first ++ second) (inner_faults program in_loop statement) later.0 in
        let parts = and_parts (statement_fits program procedure statement) (block_fits program procedure rest) fits in
        by_test (statement_falls statement)
        (λ h.
        let last : block_falls rest ≡ false = sym (ap (λ (b : Bool). b && block_falls rest) h) ∙ falls in
        stops-beyond code (block_code program loop beyond rest) (block-stops loop in_loop goes beyond rest parts.1 later.1 last))
        (λ h. rest-stops in_loop loop beyond goes code rest (statement-none program procedure statement parts.0 h) later.1 (statement-stops loop in_loop position statement parts.0 here.1 h))

    handlers-stop : (loop : Loop) (in_loop : Bool) (end position : ℕ) (ends : List Exit) (handlers : Handlers) → handlers_fit program procedure handlers ≡ true
        → handlers_faults program in_loop ends handlers ≡ [] → handlers_fall handlers ≡ false
        → Stops (handlers_code program loop end position handlers) ⊎ (handlers ≡ NoMore)
    handlers-stop loop in_loop end position ends NoMore fits faults falls = inr refl
    handlers-stop loop in_loop end position ends (Catch mark exception body rest) fits faults falls =
        let beyond = position + block_size program body + jump_size (jumps_after body rest) in
        let parts = and_parts (is_exception program exception && block_fits program procedure body) (handlers_fit program procedure rest) fits in
        let body_fits : block_fits program procedure body ≡ true = (and_parts (is_exception program exception) (block_fits program procedure body) parts.0).1 in
        let raised = fault_unless (has_exit ends (Throw exception)) NeverRaised mark in
        let others = filter (λ exit. not (same_exit (Throw exception) exit)) ends in
        let later = append_empty (raised ++ block_faults program in_loop true body) (handlers_faults program in_loop others rest) faults in
        let here = append_empty raised (block_faults program in_loop true body) later.0 in
        let both_end = or_parts (block_falls body) (handlers_fall rest) falls in
        inl (beyond-stops loop end beyond body (block_code program loop position body) rest both_end.0
        (block-stops loop in_loop true position body body_fits here.1 both_end.0)
        (handlers-stop loop in_loop end beyond others rest parts.1 later.1 both_end.1))

-- ---- normal exits
some-left : (xs ys : List Exit) → has_exit xs Normal ≡ true → has_exit (xs ++ ys) Normal ≡ true
some-left xs ys h = list_any-append (same_exit Normal) xs ys ∙ ap (λ b. b || has_exit ys Normal) h

some-right : (xs ys : List Exit) → has_exit ys Normal ≡ true → has_exit (xs ++ ys) Normal ≡ true
some-right xs ys h = list_any-append (same_exit Normal) xs ys ∙ (ap (λ b. has_exit xs Normal || b) h ∙ or-true (has_exit xs Normal))

then-normal : (first rest : List Exit) → has_exit first Normal ≡ true → has_exit rest Normal ≡ true → has_exit (then_exits first rest) Normal ≡ true
then-normal first rest h k =
    subst (λ (b : Bool). has_exit (if b then filter (λ exit. not (same_exit Normal exit)) first ++ rest else first) Normal ≡ true) (sym h)
    (some-right (filter (λ exit. not (same_exit Normal exit)) first) rest k)

module _ (program : Program) where
  mutual
    statement-normal : (statement : Statement) → statement_falls statement ≡ true → has_exit (statement_exits program statement) Normal ≡ true
    statement-normal (Placed mark (Assign x e)) falls = refl
    statement-normal (Placed mark (Clear slot)) falls = refl
    statement-normal (Placed mark (Store array size index e)) falls = refl
    statement-normal (Placed mark (Receive channel target)) falls = refl
    statement-normal (Placed mark (Send channel e)) falls = refl
    statement-normal (Placed mark (Call f arguments target)) falls = refl
    statement-normal (Placed mark (If e then_block else_block)) falls =
        let raised = thrown_exits (raises e) in
        elim (or_cases (block_falls then_block) (block_falls else_block) falls) [
          | inl h ↦ some-left (raised ++ block_exits program then_block) (block_exits program else_block) (some-right raised (block_exits program then_block) (block-normal then_block h))
          | inr h ↦ some-right (raised ++ block_exits program then_block) (block_exits program else_block) (block-normal else_block h)
        ]
    statement-normal (Placed mark (While loop e body)) falls = refl
    statement-normal (Placed mark (Leave exit)) falls = absurd (let no : false ≡ true = falls in cc)
    statement-normal (Placed mark (ReturnWith e)) falls = absurd (let no : false ≡ true = falls in cc)
    statement-normal (Placed mark (Try block handlers)) falls =
        let tried = filter (passes handlers) (block_exits program block) in
        elim (or_cases (block_falls block) (handlers_fall handlers) falls) [
          | inl h ↦ some-left tried (handlers_exits program handlers) (end-filter (passes handlers) (block_exits program block) Normal ∙ block-normal block h)
          | inr h ↦ some-right tried (handlers_exits program handlers) (handlers-normal handlers h)
        ]
    statement-normal (Placed mark (Nested block)) falls = block-normal block falls

    pub block-normal : (block : Block) → block_falls block ≡ true → has_exit (block_exits program block) Normal ≡ true
    block-normal Empty falls = refl
    block-normal (Then statement rest) falls =
        let parts = and_parts (statement_falls statement) (block_falls rest) falls in
        then-normal (statement_exits program statement) (block_exits program rest) (statement-normal statement parts.0) (block-normal rest parts.1)

    handlers-normal : (handlers : Handlers) → handlers_fall handlers ≡ true → has_exit (handlers_exits program handlers) Normal ≡ true
    handlers-normal NoMore falls = absurd (let no : false ≡ true = falls in cc)
    handlers-normal (Catch mark exception body rest) falls =
        elim (or_cases (block_falls body) (handlers_fall rest) falls) [
          | inl h ↦ some-left (block_exits program body) (handlers_exits program rest) (block-normal body h)
          | inr h ↦ some-right (block_exits program body) (handlers_exits program rest) (handlers-normal rest h)
        ]
