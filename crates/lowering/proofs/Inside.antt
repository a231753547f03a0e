-- The jumps and handlers of a procedure go to positions of its code.
use Rattle.std.proofs.Common.{◌≡◌, refl, sym, ap, ◌∙◌, ℕ, zero, suc, ◌+◌, ◌<◌, ◌≤◌, Bool, true, false, not, ◌&&◌, List, [], ◌∷◌, ◌++◌, All, length, get_or, arith}
use Rattle.std.specs.Prelude.{Option, Some, None, filter, flat_map, nat_lt, is_some, if◌then◌else◌}
use Rattle.std.specs.List.{list_all}
use Rattle.std.proofs.lemmas.Bool.{ltb-true, or_right, or_left, or_parts, and_from, and_parts}
use Rattle.std.proofs.lemmas.List.Elements.{All-nil, All-cons, All-append, All-map}
use Rattle.std.proofs.lemmas.Option.{slice_get-get_or}
use Rattle.common.specs.declared.base_type.BaseType.TheVariants.{Boolean}
use Rattle.resolved.specs.FaultParts.{place_of, may_stand, inner_faults, may_exit}
use Rattle.resolved.specs.declared.expression.Variable.{Variable}
use Rattle.resolved.specs.declared.statement.Exit.{Exit}
use Rattle.resolved.specs.declared.statement.Exit.TheVariants.{Normal, Return, Break, Continue, Throw}
use Rattle.resolved.specs.Tree.{Expression, Statement, Placed, Assign, Clear, Store, Receive, Send, Call, If, While, Leave, ReturnWith, Try, Nested, Block, Empty, Then, Handlers, NoMore, Catch}
use Rattle.resolved.specs.Program.{Program, ProcedureEntry, ResultEntry, procedure_at}
use Rattle.resolved.specs.Exits.{same_exit, has_exit, statement_exits, block_exits, fault_unless}
use Rattle.resolved.specs.ExitFaults.{block_faults, handlers_faults, procedure_faults}
use Rattle.resolved.specs.Labelled.{exit_faults}
use Rattle.resolved.specs.declared.fault.ExitRefusalKind.TheVariants.{OutsideLoop, Unreachable, NeverRaised, NoValueReturned, Undeclared}
use Rattle.resolved.specs.WellFormed.{has_base, is_exception, statement_fits, block_fits, handlers_fit, procedure_fits}
use Rattle.resolved.proofs.WellFormedParts.{program_parts, procedure_parts, passes_at}
use Rattle.modules.specs.declared.instruction.Instruction.{Instruction}
use Rattle.modules.specs.declared.instruction.Instruction.TheVariants as instruction
use Rattle.modules.specs.declared.declaration.Handler.{Handler}
use Rattle.layout.specs.Graph.{IsHandlerIn, HasPositions}
use Rattle.lowering.specs.Expressions.{value_size, value_code, arguments_code, branch_size}
use Rattle.lowering.specs.Code.{Loop, statement_falls, block_falls, handlers_fall, is_empty, is_none_left, jump_size, jump_code, jumps_over, jumps_after, result_code, leave_code, return_code, return_size, entry_of, statement_size, block_size, handlers_size, statement_code, block_code, handlers_code, statement_table, block_table, handlers_table}
use Rattle.lowering.specs.Graphs.{end_code, no_loop, body_code, procedure_contents}
use Rattle.lowering.specs.Laws.{GraphsHavePositions}
use Rattle.lowering.proofs.Sizes.{both_sized, block-sized}
use Rattle.lowering.proofs.Unthreaded.{unthreaded_procedure}
use Rattle.lowering.proofs.Finals.{threaded-positioned}
use Rattle.lowering.proofs.Targets.{Below, Stays, none-below, more-below, one-below, both-below, store-below, store_element-below, kept-below, value-below, arguments-below, branch-filled, branch-below}
use Rattle.lowering.proofs.Unreached.{statement-none}
use Rattle.common.proofs.Cases.{by_test, append_empty}
use Rattle.resolved.proofs.Exits.{no_fault-test, faults-in_parts}
use Rattle.resolved.proofs.Judged.{faults-apart}

-- ---- truth values

-- ---- code with its handlers
record GoesWithin (n : ℕ) (made : List Instruction) (table : List Handler) : Type 0 where
  pub code : Stays n made
  pub entries : All (IsHandlerIn n) table

plain : {n : ℕ} {code : List Instruction} → Stays n code → GoesWithin n code []
plain {n = n} h = record { code = h; entries = All-nil (IsHandlerIn n) }

placed-both : {n : ℕ} {xs ys : List Instruction} {es fs : List Handler} → GoesWithin n xs es → GoesWithin n ys fs → GoesWithin n (xs ++ ys) (es ++ fs)
placed-both {n = n} {xs = xs} {ys = ys} {es = es} {fs = fs} h k =
    record { code = both-below n xs ys h.code k.code; entries = All-append (IsHandlerIn n) es fs h.entries k.entries }

-- where a part ends: within the code, and before its end if the part may end normally
record EndsIn (n end : ℕ) (falls : Bool) : Type 0 where
  pub within : end ≤ n
  pub strict : falls ≡ true → end < n

-- where a loop goes: to positions, if there is a loop
record LoopIn (n : ℕ) (in_loop : Bool) (loop : Loop) : Type 0 where
  pub beyond : in_loop ≡ true → loop.beyond < n
  pub test : in_loop ≡ true → loop.test < n

-- ---- a part that does not end normally has code
module _ (program : Program) where
  mutual
    statement-filled : (statement : Statement) → statement_falls statement ≡ false → 1 ≤ statement_size program statement
    statement-filled (Placed at (If e then_block else_block)) falls = omega (arith, branch-filled e false)
    statement-filled (Placed at (Leave exit)) falls = omega arith
    statement-filled (Placed at (ReturnWith None)) falls = omega arith
    statement-filled (Placed at (ReturnWith (Some e))) falls = omega arith
    statement-filled (Placed at (Try block handlers)) falls =
        omega (arith, block-filled block (or_parts (block_falls block) (handlers_fall handlers) falls).0)
    statement-filled (Placed at (Nested block)) falls = block-filled block falls
    statement-filled _ falls = absurd (let no : true ≡ false = falls in cc)

    block-filled : (block : Block) → block_falls block ≡ false → 1 ≤ block_size program block
    block-filled Empty falls = absurd (let no : true ≡ false = falls in cc)
    block-filled (Then statement rest) falls =
        by_test (statement_falls statement)
        (λ h. let k : block_falls rest ≡ false = sym (ap (λ (b : Bool). b && block_falls rest) h) ∙ falls in omega (arith, block-filled rest k))
        (λ h. omega (arith, statement-filled statement h))

  inside : (block : Block) (p n : ℕ) → EndsIn n (p + block_size program block) (block_falls block) → p < n
  inside block p n ends =
      by_test (block_falls block) (λ h. omega (arith, ends.strict h)) (λ h. omega (arith, ends.within, block-filled block h))

-- ---- pieces
jump-below : (n : ℕ) (wanted : Bool) (target : ℕ) → (wanted ≡ true → target < n) → Stays n (jump_code wanted target)
jump-below n true target h = one-below n (instruction.Jump target) (h refl)
jump-below n false target h = none-below n

result-below : (n : ℕ) (result : Option ResultEntry) (target : Option Variable) → Stays n (result_code result target)
result-below n None target = none-below n
result-below n (Some entry) target = one-below n _ (kept-below n target)

leave-below : (mark n : ℕ) (in_loop : Bool) (loop : Loop) (exit : Exit) → LoopIn n in_loop loop → may_stand in_loop (Placed mark (Leave exit)) ≡ true → Below n (leave_code loop exit)
leave-below mark n in_loop loop Normal loops h = tt
leave-below mark n in_loop loop Return loops h = tt
leave-below mark n in_loop loop Break loops h = loops.beyond h
leave-below mark n in_loop loop Continue loops h = loops.test h
leave-below mark n in_loop loop (Throw exception) loops h = tt

return-below : (n p : ℕ) (e : Option Expression) → p + return_size e ≤ n → Stays n (return_code p e)
return-below n p None room = one-below n instruction.Return tt
return-below n p (Some e) room =
    both-below n (value_code p e) _ (value-below e p n (omega (arith, room))) (one-below n instruction.ReturnValue tt)

end-below : (n : ℕ) (falls : Bool) → Stays n (end_code falls)
end-below n true = one-below n instruction.Return tt
end-below n false = none-below n

entry-in : (n start end exception target : ℕ) → end ≤ n → target < n → All (IsHandlerIn n) (entry_of start end exception target)
entry-in n start end exception target within inside_code = by (nat_lt start end) refl
  where
    by : (b : Bool) → nat_lt start end ≡ b
        → All (IsHandlerIn n) (if b then (record { start = start; end = end; exception = exception; target = target } ∷ []) else [])
    by true e =
        All-cons (IsHandlerIn n) (record { start = start; end = end; exception = exception; target = target }) []
        (record { not_empty = ltb-true start end e; within = within; target = inside_code }) (All-nil (IsHandlerIn n))
    by false e = All-nil (IsHandlerIn n)

module _ (program : Program) (procedure : ProcedureEntry) (n : ℕ) where
  -- nothing stands where no statement ends normally
  unreached : (loop : Loop) (in_loop reached : Bool) (p : ℕ) (block : Block) → reached ≡ false → block_faults program in_loop reached block ≡ []
      → GoesWithin n (block_code program loop p block) (block_table program p block)
  unreached loop in_loop reached p Empty h faults = plain (none-below n)
  unreached loop in_loop reached p (Then statement rest) h faults =
      let first = fault_unless (may_stand in_loop statement) OutsideLoop (place_of statement) in
      let second = fault_unless reached Unreachable (place_of statement) in
      let later = append_empty (first ++ second ++ inner_faults program in_loop statement) _ (sym (faults-in_parts program in_loop reached rest statement) ∙ faults) in
      let here = append_empty (first ++ second) (inner_faults program in_loop statement) later.0 in
      let reaches : reached ≡ true = no_fault-test reached Unreachable (place_of statement) (append_empty first second here.0).1 in
      absurd (let no : true ≡ false = sym reaches ∙ h in cc)

  mutual
    statement-placed : (loop : Loop) (in_loop : Bool) (p : ℕ) (statement : Statement) → statement_fits program procedure statement ≡ true
        → may_stand in_loop statement ≡ true → inner_faults program in_loop statement ≡ [] → LoopIn n in_loop loop
        → EndsIn n (p + statement_size program statement) (statement_falls statement)
        → GoesWithin n (statement_code program loop p statement) (statement_table program p statement)
    statement-placed loop in_loop p (Placed at (Assign x e)) fits stands faults loops ends =
        plain (both-below n (value_code p e) _ (value-below e p n (omega (arith, ends.within))) (one-below n _ (store-below n x)))
    statement-placed loop in_loop p (Placed at (Clear slot)) fits stands faults loops ends = plain (one-below n (instruction.Clear slot) tt)
    statement-placed loop in_loop p (Placed at (Store array size index e)) fits stands faults loops ends =
        plain (both-below n (value_code p index) _ (value-below index p n (omega (arith, ends.within)))
        (both-below n (value_code (p + value_size index) e) _ (value-below e (p + value_size index) n (omega (arith, ends.within))) (one-below n _ (store_element-below n array))))
    statement-placed loop in_loop p (Placed at (Receive channel target)) fits stands faults loops ends =
        plain (more-below n (instruction.Receive channel) _ tt (one-below n _ (kept-below n target)))
    statement-placed loop in_loop p (Placed at (Send channel e)) fits stands faults loops ends =
        plain (both-below n (value_code p e) _ (value-below e p n (omega (arith, ends.within))) (one-below n (instruction.Send channel) tt))
    statement-placed loop in_loop p (Placed at (Call f arguments target)) fits stands faults loops ends =
        plain (both-below n (arguments_code p arguments) _ (arguments-below arguments p n (omega (arith, ends.within)))
        (more-below n (instruction.Call f) _ tt (result-below n (procedure_at program f).result target)))
    statement-placed loop in_loop p (Placed at (If e then_block else_block)) fits stands faults loops ends =
        let b = branch_size false e in
        let y = block_size program then_block in
        let j = jumps_over then_block else_block in
        let k = jump_size j in
        let z = block_size program else_block in
        let parts = and_parts (has_base program procedure Boolean e && block_fits program procedure then_block) (block_fits program procedure else_block) fits in
        let yes_fits : block_fits program procedure then_block ≡ true = (and_parts (has_base program procedure Boolean e) (block_fits program procedure then_block) parts.0).1 in
        let no_fault = append_empty (block_faults program in_loop true then_block) (block_faults program in_loop true else_block) faults in
        let within : p + (b + (y + (k + z))) ≤ n = ends.within in
        let first : block_falls then_block ≡ true → p + (b + (y + (k + z))) < n = λ h. ends.strict (or_left (block_falls then_block) (block_falls else_block) h) in
        let second : block_falls else_block ≡ true → p + (b + (y + (k + z))) < n = λ h. ends.strict (or_right (block_falls then_block) (block_falls else_block) h) in
        let yes_exits : EndsIn n (p + b + y) (block_falls then_block) = record { within = omega (arith, within); strict = λ h. omega (arith, first h) } in
        let no_exits : EndsIn n (p + b + y + k + z) (block_falls else_block) = record { within = omega (arith, within); strict = λ h. omega (arith, second h) } in
        let over : j ≡ true → p + b + y + k + z < n = λ h. omega (arith, first (and_parts (block_falls then_block) (not (is_empty else_block)) h).0) in
        placed-both (plain (branch-below e false p (p + b + y + k) n (inside program then_block (p + b) n yes_exits) (inside program else_block (p + b + y + k) n no_exits)))
        (placed-both (block-placed loop in_loop true (p + b) then_block yes_fits no_fault.0 loops yes_exits)
        (placed-both (plain (jump-below n j (p + b + y + k + z) over))
        (block-placed loop in_loop true (p + b + y + k) else_block parts.1 no_fault.1 loops no_exits)))
    statement-placed loop in_loop p (Placed at (While number e body)) fits stands faults loops ends =
        let m = block_size program body in
        let b = branch_size true e in
        let strict : p + (1 + (m + b)) < n = ends.strict refl in
        let inner : Loop = record { beyond = p + 1 + m + b; test = p + 1 + m } in
        let placed = block-placed inner true true (p + 1) body (and_parts (has_base program procedure Boolean e) (block_fits program procedure body) fits).1 faults
        (record { beyond = λ h. omega (arith, strict); test = λ h. omega (arith, strict) })
        (record { within = omega (arith, strict); strict = λ h. omega (arith, strict) }) in
        record {
          code = more-below n (instruction.Jump (p + 1 + m)) _ (omega (arith, strict))
              (both-below n (block_code program inner (p + 1) body) _ placed.code (branch-below e true (p + 1 + m) (p + 1) n (omega (arith, strict)) (omega (arith, strict))));
          entries = placed.entries;
        }
    statement-placed loop in_loop p (Placed at (Leave exit)) fits stands faults loops ends = plain (one-below n _ (leave-below at n in_loop loop exit loops stands))
    statement-placed loop in_loop p (Placed at (ReturnWith e)) fits stands faults loops ends = plain (return-below n p e ends.within)
    statement-placed loop in_loop p (Placed at (Try block handlers)) fits stands faults loops ends =
        let m = block_size program block in
        let j = jumps_after block handlers in
        let k = jump_size j in
        let z = handlers_size program handlers in
        let parts = and_parts (block_fits program procedure block) (handlers_fit program procedure handlers) fits in
        let no_fault = append_empty (block_faults program in_loop true block) (handlers_faults program in_loop (block_exits program block) handlers) faults in
        let within : p + (m + (k + z)) ≤ n = ends.within in
        let first : block_falls block ≡ true → p + (m + (k + z)) < n = λ h. ends.strict (or_left (block_falls block) (handlers_fall handlers) h) in
        let second : handlers_fall handlers ≡ true → p + (m + (k + z)) < n = λ h. ends.strict (or_right (block_falls block) (handlers_fall handlers) h) in
        let over : j ≡ true → p + m + k + z < n = λ h. omega (arith, first (and_parts (block_falls block) (not (is_none_left handlers)) h).0) in
        placed-both (block-placed loop in_loop true p block parts.0 no_fault.0 loops (record { within = omega (arith, within); strict = λ h. omega (arith, first h) }))
        (placed-both (plain (jump-below n j (p + m + k + z) over))
        (handlers-placed loop in_loop p (p + m) (p + m + k + z) (p + m + k) (block_exits program block) handlers parts.1 no_fault.1 loops (omega (arith, within)) refl
        (record { within = omega (arith, within); strict = λ h. omega (arith, second h) })))
    statement-placed loop in_loop p (Placed at (Nested block)) fits stands faults loops ends = block-placed loop in_loop true p block fits faults loops ends

    block-placed : (loop : Loop) (in_loop reached : Bool) (p : ℕ) (block : Block) → block_fits program procedure block ≡ true
        → block_faults program in_loop reached block ≡ [] → LoopIn n in_loop loop → EndsIn n (p + block_size program block) (block_falls block)
        → GoesWithin n (block_code program loop p block) (block_table program p block)
    block-placed loop in_loop reached p Empty fits faults loops ends = plain (none-below n)
    block-placed loop in_loop reached p (Then statement rest) fits faults loops ends =
        let m = statement_size program statement in
        let z = block_size program rest in
        let first = fault_unless (may_stand in_loop statement) OutsideLoop (place_of statement) in
        let second = fault_unless reached Unreachable (place_of statement) in
        let goes_on = has_exit (statement_exits program statement) Normal in
        let later = append_empty (first ++ second ++ inner_faults program in_loop statement) (block_faults program in_loop goes_on rest) (sym (faults-in_parts program in_loop reached rest statement) ∙ faults) in
        let here = append_empty (first ++ second) (inner_faults program in_loop statement) later.0 in
        let stands = no_fault-test (may_stand in_loop statement) OutsideLoop (place_of statement) (append_empty first second here.0).0 in
        let parts = and_parts (statement_fits program procedure statement) (block_fits program procedure rest) fits in
        let within : p + (m + z) ≤ n = ends.within in
        let rest_ends : statement_falls statement ≡ true → EndsIn n (p + m + z) (block_falls rest) =
        λ h. record { within = omega (arith, within); strict = λ g. omega (arith, ends.strict (and_from (statement_falls statement) (block_falls rest) h g)) } in
        placed-both
        (statement-placed loop in_loop p statement parts.0 stands here.1 loops
        (record { within = omega (arith, within); strict = λ h. inside program rest (p + m) n (rest_ends h) }))
        (by_test (statement_falls statement)
        (λ h. block-placed loop in_loop goes_on (p + m) rest parts.1 later.1 loops (rest_ends h))
        (λ h. unreached loop in_loop goes_on (p + m) rest (statement-none program procedure statement parts.0 h) later.1))

    handlers-placed : (loop : Loop) (in_loop : Bool) (start end beyond p : ℕ) (ends : List Exit) (handlers : Handlers)
        → handlers_fit program procedure handlers ≡ true → handlers_faults program in_loop ends handlers ≡ [] → LoopIn n in_loop loop
        → end ≤ n → p + handlers_size program handlers ≡ beyond → EndsIn n beyond (handlers_fall handlers)
        → GoesWithin n (handlers_code program loop beyond p handlers) (handlers_table program start end p handlers)
    handlers-placed loop in_loop start end beyond p ends NoMore fits faults loops tried size last = plain (none-below n)
    handlers-placed loop in_loop start end beyond p ends (Catch at exception body rest) fits faults loops tried size last =
        let m = block_size program body in
        let j = jumps_after body rest in
        let k = jump_size j in
        let z = handlers_size program rest in
        let parts = and_parts (is_exception program exception && block_fits program procedure body) (handlers_fit program procedure rest) fits in
        let body_fits : block_fits program procedure body ≡ true = (and_parts (is_exception program exception) (block_fits program procedure body) parts.0).1 in
        let raised = fault_unless (has_exit ends (Throw exception)) NeverRaised at in
        let others = filter (λ exit. not (same_exit (Throw exception) exit)) ends in
        let later = append_empty (raised ++ block_faults program in_loop true body) (handlers_faults program in_loop others rest) faults in
        let here = append_empty raised (block_faults program in_loop true body) later.0 in
        let is : p + (m + (k + z)) ≡ beyond = size in
        let first : block_falls body ≡ true → beyond < n = λ h. last.strict (or_left (block_falls body) (handlers_fall rest) h) in
        let body_exits : EndsIn n (p + m) (block_falls body) = record { within = omega (arith, is, last.within); strict = λ h. omega (arith, is, first h) } in
        let placed = placed-both (block-placed loop in_loop true p body body_fits here.1 loops body_exits)
        (placed-both (plain (jump-below n j beyond (λ h. first (and_parts (block_falls body) (not (is_none_left rest)) h).0)))
        (handlers-placed loop in_loop start end beyond (p + m + k) others rest parts.1 later.1 loops tried (omega (arith, is))
        (record { within = last.within; strict = λ h. last.strict (or_right (block_falls body) (handlers_fall rest) h) }))) in
        record {
          code = placed.code;
          entries = All-append (IsHandlerIn n) (entry_of start end exception p) _ (entry-in n start end exception p tried (inside program body p n body_exits)) placed.entries;
        }

-- ---- procedures and programs
procedure-placed : (program : Program) (procedure : ProcedureEntry) → block_fits program procedure procedure.body ≡ true → block_faults program false true procedure.body ≡ []
    → HasPositions (unthreaded_procedure program procedure)
procedure-placed program procedure fits faults =
    let body = procedure.body in
    let n = length (body_code program body) in
    let size : n ≡ block_size program body + length (end_code (block_falls body)) =
    both_sized (block_code program no_loop 0 body) (end_code (block_falls body)) (block_size program body) (length (end_code (block_falls body))) (block-sized program no_loop 0 body) refl in
    let one : block_falls body ≡ true → length (end_code (block_falls body)) ≡ 1 = λ h. ap (λ (b : Bool). length (end_code b)) h in
    let placed = block-placed program procedure n no_loop false true 0 body fits faults
    (record { beyond = λ h. absurd (let no : false ≡ true = h in cc); test = λ h. absurd (let no : false ≡ true = h in cc) })
    (record { within = omega (arith, size); strict = λ h. omega (arith, size, one h) }) in
    record {
      targets = (both-below n (block_code program no_loop 0 body) (end_code (block_falls body)) placed.code (end-below n (block_falls body))).each;
      handlers = placed.entries;
    }

faultless-at : (program : Program) (procedures : List ProcedureEntry) (k : ℕ) (d : ProcedureEntry) → flat_map (procedure_faults program) procedures ≡ [] → k < length procedures
    → procedure_faults program (get_or procedures k d) ≡ []
faultless-at program [] k d h below = absurd (omega (arith, below))
faultless-at program (procedure ∷ rest) zero d h below = (append_empty (procedure_faults program procedure) (flat_map (procedure_faults program) rest) h).0
faultless-at program (procedure ∷ rest) (suc k) d h below =
    faultless-at program rest k d (append_empty (procedure_faults program procedure) (flat_map (procedure_faults program) rest) h).1 (omega (arith, below))

pub body-faultless : (program : Program) (k : ℕ) (d : ProcedureEntry) → exit_faults program ≡ [] → k < length program.procedures
    → block_faults program false true (get_or program.procedures k d).body ≡ []
body-faultless program k d none below =
    let procedure = get_or program.procedures k d in
    let ends = block_exits program procedure.body in
    let value = fault_unless (not (is_some procedure.result && has_exit ends Normal)) NoValueReturned procedure.at in
    let declared = fault_unless (list_all (may_exit procedure) ends) Undeclared procedure.at in
    let faults = append_empty (block_faults program false true procedure.body ++ value) declared (faultless-at program program.procedures k d (sym (faults-apart program) ∙ none) below) in
    (append_empty (block_faults program false true procedure.body) value faults.0).0

pub graphs-positioned : GraphsHavePositions
graphs-positioned program formed none =
    All-map HasPositions (procedure_contents program) program.procedures
    (λ k d below.
    let procedure = get_or program.procedures k d in
    threaded-positioned (unthreaded_procedure program procedure)
    (procedure-placed program procedure
    (procedure_parts program procedure (passes_at (procedure_fits program) program.procedures k (get_or program.procedures k d) (program_parts program formed).procedures_fit (slice_get-get_or program.procedures k d below))).body_fits
    (body-faultless program k d none below)))
