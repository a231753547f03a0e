-- The code of a statement begins and ends without operands, and so do the handlers in it.
use Rattle.std.proofs.Common.{◌≡◌, refl, sym, ap, ◌∙◌, subst, ℕ, ◌+◌, Bool, true, false, not, ◌&&◌, List, [], ◌∷◌, ◌++◌, All, length, map, reverse, Option, Some, None, slice_get}
use Rattle.std.specs.Prelude.{filter, nat_lt, is_none, if◌then◌else◌}
use Rattle.std.proofs.lemmas.List.Elements.{All-nil, All-cons, All-append}
use Rattle.std.proofs.lemmas.Bool.{and_parts}
use Rattle.common.specs.declared.base_type.BaseType.{BaseType}
use Rattle.common.specs.declared.base_type.BaseType.TheVariants as base
use Rattle.resolved.specs.FaultParts.{place_of, may_stand, inner_faults}
use Rattle.resolved.specs.declared.expression.Variable.{Variable}
use Rattle.resolved.specs.declared.expression.Variable.TheVariants.{Local}
use Rattle.resolved.specs.declared.statement.Exit.{Exit}
use Rattle.resolved.specs.declared.statement.Exit.TheVariants.{Normal, Return, Break, Continue, Throw}
use Rattle.common.specs.declared.direction.Direction.TheVariants.{Input, Output}
use Rattle.resolved.specs.Tree.{Expression, Statement, Placed, Assign, Clear, Store, Receive, Send, Call, If, While, Leave, ReturnWith, Try, Nested, Block, Empty, Then, Handlers, NoMore, Catch}
use Rattle.resolved.specs.Program.{Program, ProcedureEntry, ResultEntry, SlotEntry, procedure_at}
use Rattle.resolved.specs.Exits.{same_exit, has_exit, statement_exits, block_exits, fault_unless}
use Rattle.resolved.specs.ExitFaults.{block_faults, handlers_faults}
use Rattle.resolved.specs.declared.fault.ExitRefusalKind.TheVariants.{OutsideLoop, Unreachable, NeverRaised}
use Rattle.resolved.specs.WellFormed.{VariableType, variable_type, has_base, same_base, scalar_by, array_by, target_by, has_result, channel_is, parameters_of, arguments_match, call_matches, is_array, is_exception, may_leave_by, statement_fits, block_fits, handlers_fit}
use Rattle.resolved.proofs.WellFormedParts.{procedure_at_is}
use Rattle.resolved.proofs.Sound.Values.{same_base_is}
use Rattle.modules.specs.Contents.{ProcedureContents, ModuleContents}
use Rattle.modules.specs.Machine.{Header, machine_code, parameter_kinds}
use Rattle.common.specs.declared.direction.Direction.{Direction}
use Rattle.modules.specs.declared.declaration.Handler.{Handler}
use Rattle.modules.specs.declared.declaration.Slot.TheVariants as slot
use Rattle.modules.specs.declared.instruction.Instruction.{Instruction}
use Rattle.modules.specs.declared.instruction.Instruction.TheVariants as instruction
use Rattle.common.specs.declared.base_type.BaseType.TheVariants.{Int}
use Rattle.verifier.specs.Signatures.{is_input, is_output}
use Rattle.verifier.specs.SignatureParts.{pushed}
use Rattle.lowering.specs.Interface.{declared_slot, returned_kind}
use Rattle.lowering.specs.Expressions.{store_of, store_element_of, value_size, value_code, arguments_size, arguments_code, branch_size, branch_code}
use Rattle.lowering.specs.Code.{Loop, jump_size, jump_code, jumps_over, jumps_after, kept_code, result_code, leave_code, return_code, entry_of, statement_size, block_size, handlers_size, statement_code, block_code, handlers_code, statement_table, block_table, handlers_table}
use Rattle.lowering.proofs.States.{slot_of_type}
use Rattle.lowering.proofs.Sizes.{value-sized, arguments-sized, branch-sized, jump-sized, statement-sized, block-sized, handlers-sized}
use Rattle.lowering.proofs.Flowing.{Does, Flows, Here, kinds_at, here-front, here-back, here-end, flows-none, flows-both, flows-given, flows-free, flows-one, flows-jump}
use Rattle.lowering.proofs.Kinded.{scalar-type, array-type, input-is, output-is, Stated, store-does, store_element-does, clear-does, pop-does, receive-does, send-does, call-does, return-does, return_value-does, throw-does, parameters-are}
use Rattle.lowering.proofs.Pushing.{value-flows, arguments-flow, branch-flows}
use Rattle.common.proofs.Cases.{append_empty, none_there}
use Rattle.resolved.proofs.Exits.{no_fault-test, faults-in_parts}

-- an array that may be cleared
record Cleared (o : Option VariableType) : Type 0 where
  kind : BaseType
  count : ℕ
  is : slot_of_type o ≡ Some (slot.Array kind count)

array-is : (o : Option VariableType) → is_array o ≡ true → Cleared o
array-is None h = absurd (let no : false ≡ true = h in cc)
array-is (Some type) h = by type.size refl h
  where
    by : (size : Option ℕ) → type.size ≡ size → not (is_none size) ≡ true → Cleared (Some type)
    by None e h = absurd (let no : false ≡ true = h in cc)
    by (Some count) e h =
        record { kind = type.base; count = count; is = ap (λ (size : Option ℕ). Some (declared_slot type.base size)) e }

module _ (m : ModuleContents) (p : ProcedureContents) (whole : List Instruction) where
  -- a handler to which control goes without operands, and whose exception is there
  pub record Catches (handler : Handler) : Type 0 where
    pub empty : kinds_at m p whole handler.target ≡ []
    pub there : nat_lt handler.exception (machine_code m).exceptions ≡ true

  -- code with its handlers, without operands before and after it
  pub record Settles (at : ℕ) (code : List Instruction) (table : List Handler) (aims : Type 0) : Type 0 where
    pub flows : Flows m p whole at code aims [] []
    pub caught : Here m p whole code at [] → All Catches table

  settles-plain : {at : ℕ} {code : List Instruction} {aims : Type 0} → Flows m p whole at code aims [] [] → Settles at code [] aims
  settles-plain f = record { flows = f; caught = λ h. All-nil Catches }

  settles-both : {at : ℕ} {xs ys : List Instruction} {es fs : List Handler} {aims : Type 0} (n : ℕ) → length xs ≡ n
      → Settles at xs es aims → Settles (at + n) ys fs aims → Settles at (xs ++ ys) (es ++ fs) aims
  settles-both {at = at} {xs = xs} {ys = ys} {es = es} {fs = fs} n size first second = record {
    flows = flows-both m p whole n size first.flows second.flows;
    caught = λ h. All-append Catches es fs (first.caught (here-front m p whole xs ys at [] h))
        (second.caught (here-back m p whole xs ys at n [] [] size first.flows.passes h));
  }

  -- after code with handlers stands code without any
  pub settles-front : {at : ℕ} {xs ys : List Instruction} {es : List Handler} {aims : Type 0} (n : ℕ) → length xs ≡ n
      → Settles at xs es aims → Flows m p whole (at + n) ys aims [] [] → Settles at (xs ++ ys) es aims
  settles-front {at = at} {xs = xs} {ys = ys} n size first second = record {
    flows = flows-both m p whole n size first.flows second;
    caught = λ h. first.caught (here-front m p whole xs ys at [] h);
  }

  settles-given : {at : ℕ} {code : List Instruction} {table : List Handler} {given : Type 0} (aims : Type 0)
      → (Here m p whole code at [] → given → aims) → Settles at code table aims → Settles at code table given
  settles-given aims make s = record { flows = flows-given m p whole aims make s.flows; caught = s.caught }

  -- where a loop goes there are no operands, if there is a loop
  pub record LoopFlows (in_loop : Bool) (loop : Loop) : Type 0 where
    pub beyond : in_loop ≡ true → kinds_at m p whole loop.beyond ≡ []
    pub test : in_loop ≡ true → kinds_at m p whole loop.test ≡ []

  jump-flows : (wanted : Bool) (at target : ℕ) (aims : Type 0) → (aims → kinds_at m p whole target ≡ []) → Flows m p whole at (jump_code wanted target) aims [] []
  jump-flows true at target aims arrives = flows-jump m p whole target arrives
  jump-flows false at target aims arrives = flows-none m p whole

  -- ---- forms that have blocks
  -- a condition that goes after the first block and its jump, and a first block that jumps over the second
  if-settles : (position b y k z : ℕ) (j : Bool) (test first second : List Instruction) (es fs : List Handler) (aims : Type 0)
      → length test ≡ b → length first ≡ y → length (jump_code j (position + b + y + k + z)) ≡ k → length second ≡ z
      → Flows m p whole position test (kinds_at m p whole (position + b + y + k) ≡ []) [] []
      → Settles (position + b) first es aims → Settles (position + b + y + k) second fs aims
      → Settles position (test ++ (first ++ (jump_code j (position + b + y + k + z) ++ second))) (es ++ fs) aims
  if-settles position b y k z j test first second es fs aims test_size first_size jump_sized second_size tests one other =
      let jump = jump_code j (position + b + y + k + z) in
      let Else : Type 0 = (kinds_at m p whole (position + b + y + k) ≡ []) in
      let End : Type 0 = (kinds_at m p whole (position + b + y + k + z) ≡ []) in
      let jumps = jump-flows j (position + b + y) (position + b + y + k + z) (aims × Else × End) (λ g. g.2) in
      settles-given (aims × Else × End)
      (λ h g.
      let h1 = here-back m p whole test (first ++ (jump ++ second)) position b [] [] test_size tests.passes h in
      let h2 = here-back m p whole first (jump ++ second) (position + b) y [] [] first_size one.flows.passes h1 in
      let h3 = here-back m p whole jump second (position + b + y) k [] [] jump_sized jumps.passes h2 in
      (g, h3.kinds_are, here-end m p whole second (position + b + y + k) z [] [] second_size other.flows.passes h3))
      (settles-both b test_size (settles-plain (flows-given m p whole Else (λ h g. g.1) tests))
      (settles-both y first_size (settles-given aims (λ h g. g.0) one)
      (settles-both k jump_sized (settles-plain jumps) (settles-given aims (λ h g. g.0) other))))

  -- a loop: its test stands after its body
  while-settles : (position n b : ℕ) (body test : List Instruction) (es : List Handler) (aims : Type 0) → length body ≡ n → length test ≡ b
      → Settles (position + 1) body es (LoopFlows true (record { beyond = position + 1 + n + b; test = position + 1 + n }))
      → Flows m p whole (position + 1 + n) test (kinds_at m p whole (position + 1) ≡ []) [] []
      → Settles position (instruction.Jump (position + 1 + n) ∷ (body ++ test)) es aims
  while-settles position n b body test es aims body_size test_size inner tests =
      let Inner : Type 0 = LoopFlows true (record { beyond = position + 1 + n + b; test = position + 1 + n }) in
      let Start : Type 0 = (kinds_at m p whole (position + 1) ≡ []) in
      let Test : Type 0 = (kinds_at m p whole (position + 1 + n) ≡ []) in
      let begins : Settles (position + 1) (body ++ test) es (Inner × Start × Test) =
      settles-front n body_size (settles-given Inner (λ h g. g.0) inner) (flows-given m p whole Start (λ h g. g.1) tests) in
      let jumps : Flows m p whole position (instruction.Jump (position + 1 + n) ∷ []) (Inner × Start × Test) [] [] = flows-jump m p whole (position + 1 + n) (λ g. g.2) in
      settles-given (Inner × Start × Test)
      (λ h g.
      let h1 = here-back m p whole (instruction.Jump (position + 1 + n) ∷ []) (body ++ test) position 1 [] [] refl refl h in
      let h2 = here-back m p whole body test (position + 1) n [] [] body_size inner.flows.passes h1 in
      let end = here-end m p whole test (position + 1 + n) b [] [] test_size tests.passes h2 in
      (record { beyond = λ is. end; test = λ is. h2.kinds_are }, h1.kinds_are, h2.kinds_are))
      (settles-both 1 refl (settles-plain jumps) begins)

  -- a block, a jump after the handlers, and their bodies
  try-settles : (position n k z : ℕ) (j : Bool) (block handlers : List Instruction) (es fs : List Handler) (aims : Type 0)
      → length block ≡ n → length (jump_code j (position + n + k + z)) ≡ k → length handlers ≡ z
      → Settles position block es aims → Settles (position + n + k) handlers fs (aims × (kinds_at m p whole (position + n + k + z) ≡ []))
      → Settles position (block ++ (jump_code j (position + n + k + z) ++ handlers)) (es ++ fs) aims
  try-settles position n k z j block handlers es fs aims block_size jump_sized handlers_size tries handles =
      let jump = jump_code j (position + n + k + z) in
      let End : Type 0 = (kinds_at m p whole (position + n + k + z) ≡ []) in
      let jumps = jump-flows j (position + n) (position + n + k + z) (aims × End) (λ g. g.1) in
      settles-given (aims × End)
      (λ h g.
      let h1 = here-back m p whole block (jump ++ handlers) position n [] [] block_size tries.flows.passes h in
      let h2 = here-back m p whole jump handlers (position + n) k [] [] jump_sized jumps.passes h1 in
      (g, here-end m p whole handlers (position + n + k) z [] [] handlers_size handles.flows.passes h2))
      (settles-both n block_size (settles-given aims (λ h g. g.0) tries) (settles-both k jump_sized (settles-plain jumps) handles))

  entry-catches : (start end exception target : ℕ) → Catches (record { start = start; end = end; exception = exception; target = target })
      → All Catches (entry_of start end exception target)
  entry-catches start end exception target h = by (nat_lt start end)
    where
      by : (b : Bool) → All Catches (if b then (record { start = start; end = end; exception = exception; target = target } ∷ []) else [])
      by true = All-cons Catches (record { start = start; end = end; exception = exception; target = target }) [] h (All-nil Catches)
      by false = All-nil Catches

  -- the body of a handler, a jump after the handlers, and those that follow
  catch-settles : (position n k start end exception beyond : ℕ) (j : Bool) (body rest : List Instruction) (es fs : List Handler) (aims : Type 0)
      → length body ≡ n → length (jump_code j beyond) ≡ k → nat_lt exception (machine_code m).exceptions ≡ true
      → Settles position body es aims → Settles (position + n + k) rest fs (aims × (kinds_at m p whole beyond ≡ []))
      → Settles position (body ++ (jump_code j beyond ++ rest)) (entry_of start end exception position ++ (es ++ fs)) (aims × (kinds_at m p whole beyond ≡ []))
  catch-settles position n k start end exception beyond j body rest es fs aims body_size jump_sized there catches others =
      let jumps = jump-flows j (position + n) beyond (aims × (kinds_at m p whole beyond ≡ [])) (λ g. g.1) in
      let all = settles-both n body_size (settles-given aims (λ h g. g.0) catches) (settles-both k jump_sized (settles-plain jumps) others) in
      record {
        flows = all.flows;
        caught = λ h. All-append Catches (entry_of start end exception position) (es ++ fs)
            (entry-catches start end exception position (record { empty = h.kinds_are; there = there })) (all.caught h);
      }

module _ (program : Program) (procedure : ProcedureEntry) (m : ModuleContents) (p : ProcedureContents) (whole : List Instruction) (stated : Stated program procedure m p) where
  exception-there : (exception : ℕ) → is_exception program exception ≡ true → nat_lt exception (machine_code m).exceptions ≡ true
  exception-there exception h = ap (nat_lt exception) stated.exceptions_there ∙ h

  -- ---- forms without blocks
  kept-does : (target : Option Variable) (wanted : BaseType) (test : BaseType → Bool) → ((b : BaseType) → test b ≡ true → b ≡ wanted) → target_by program procedure target test ≡ true
      → Does m p (kept_code target) (wanted ∷ []) []
  kept-does None wanted test only h = pop-does m p wanted []
  kept-does (Some x) wanted test only h =
      let found = scalar-type (variable_type program procedure x) test h in
      subst (λ (b : BaseType). Does m p (store_of x) (b ∷ []) []) (only found.base found.passes)
      (store-does m p x found.base [] (stated.variables_there x ∙ found.is))

  result-flows : (at : ℕ) (result : Option ResultEntry) (target : Option Variable) → target_by program procedure target (λ b. has_result result (same_base b)) ≡ true
      → Flows m p whole at (result_code result target) (Unit {0}) (pushed (returned_kind result) []) []
  result-flows at None target h = flows-none m p whole
  result-flows at (Some entry) target h = flows-one m p whole (kept-does target entry.base (λ b. same_base b entry.base) (λ b e. same_base_is b entry.base e) h)

  -- a call of a procedure that is there
  called-flows : (at f : ℕ) (callee : ProcedureEntry) (arguments : List Expression) (target : Option Variable) → slice_get program.procedures f ≡ Some callee
      → call_matches program procedure (Some callee) arguments target ≡ true
      → Flows m p whole at (arguments_code at arguments ++ instruction.Call f ∷ result_code callee.result target) (Unit {0}) [] []
  called-flows at f callee arguments target there fits =
      let parts = and_parts (arguments_match program procedure (parameters_of callee) arguments) _ fits in
      let q = stated.called_there f callee there in
      let kinds = map (λ (s : SlotEntry). s.base) (parameters_of callee) in
      let same : parameter_kinds q.0 ≡ kinds = ap parameter_kinds q.2 ∙ parameters-are callee.parameters callee.slots in
      let gives : q.0.returned ≡ returned_kind callee.result = ap (λ (h : Header). h.returned) q.2 in
      let calls : Does m p (instruction.Call f) (reverse kinds ++ []) (pushed (returned_kind callee.result) []) =
      subst (λ (r : Option BaseType). Does m p (instruction.Call f) (reverse kinds ++ []) (pushed r [])) gives
      (subst (λ (l : List BaseType). Does m p (instruction.Call f) (reverse l ++ []) (pushed q.0.returned [])) same (call-does m p f q.0 [] q.1)) in
      flows-both m p whole (arguments_size arguments) (arguments-sized arguments at)
      (arguments-flow program procedure m p whole stated (parameters_of callee) arguments at [] parts.0)
      (flows-both m p whole 1 refl (flows-one m p whole calls) (result-flows (at + arguments_size arguments + 1) callee.result target parts.1))

  call-flows : (at f : ℕ) (o : Option ProcedureEntry) (arguments : List Expression) (target : Option Variable) → slice_get program.procedures f ≡ o
      → call_matches program procedure o arguments target ≡ true
      → Flows m p whole at (arguments_code at arguments ++ instruction.Call f ∷ result_code (procedure_at program f).result target) (Unit {0}) [] []
  call-flows at f None arguments target there fits = absurd (let no : false ≡ true = fits in cc)
  call-flows at f (Some callee) arguments target there fits =
      subst (λ (c : ProcedureEntry). Flows m p whole at (arguments_code at arguments ++ instruction.Call f ∷ result_code c.result target) (Unit {0}) [] [])
      (sym (procedure_at_is program f callee there)) (called-flows at f callee arguments target there fits)

  leave-flows : (mark : ℕ) (in_loop : Bool) (loop : Loop) (exit : Exit) (at : ℕ) → may_leave_by program exit ≡ true → may_stand in_loop (Placed mark (Leave exit)) ≡ true
      → Flows m p whole at (leave_code loop exit ∷ []) (LoopFlows m p whole in_loop loop) [] []
  leave-flows mark in_loop loop Normal at fits stands = absurd (let no : false ≡ true = fits in cc)
  leave-flows mark in_loop loop Return at fits stands = absurd (let no : false ≡ true = fits in cc)
  leave-flows mark in_loop loop Break at fits stands = flows-jump m p whole loop.beyond (λ loops. loops.beyond stands)
  leave-flows mark in_loop loop Continue at fits stands = flows-jump m p whole loop.test (λ loops. loops.test stands)
  leave-flows mark in_loop loop (Throw exception) at fits stands = flows-one m p whole (throw-does m p exception (exception-there exception fits))

  value-returned : (at : ℕ) (result : Option ResultEntry) (e : Expression) → procedure.result ≡ result → has_result result (λ b. has_base program procedure b e) ≡ true
      → Flows m p whole at (return_code at (Some e)) (Unit {0}) [] []
  value-returned at None e is fits = absurd (let no : false ≡ true = fits in cc)
  value-returned at (Some entry) e is fits =
      flows-both m p whole (value_size e) (value-sized e at) (value-flows program procedure m p whole stated e entry.base at [] fits)
      (flows-one m p whole (return_value-does m p entry.base (stated.returned_is ∙ ap returned_kind is)))

  return-flows : (at : ℕ) (e : Option Expression) (mark : ℕ) → statement_fits program procedure (Placed mark (ReturnWith e)) ≡ true
      → Flows m p whole at (return_code at e) (Unit {0}) [] []
  return-flows at None mark fits = flows-one m p whole (return-does m p (stated.returned_is ∙ ap returned_kind (none_there procedure.result fits)))
  return-flows at (Some e) mark fits = value-returned at procedure.result e refl fits

  assign-flows : (at : ℕ) (x : Variable) (e : Expression) → scalar_by (variable_type program procedure x) (λ b. has_base program procedure b e) ≡ true
      → Flows m p whole at (value_code at e ++ store_of x ∷ []) (Unit {0}) [] []
  assign-flows at x e fits =
      let found = scalar-type (variable_type program procedure x) (λ b. has_base program procedure b e) fits in
      flows-both m p whole (value_size e) (value-sized e at) (value-flows program procedure m p whole stated e found.base at [] found.passes)
      (flows-one m p whole (store-does m p x found.base [] (stated.variables_there x ∙ found.is)))

  store-flows : (at : ℕ) (array : Variable) (size : ℕ) (index e : Expression) (mark : ℕ) → statement_fits program procedure (Placed mark (Store array size index e)) ≡ true
      → Flows m p whole at (value_code at index ++ (value_code (at + value_size index) e ++ store_element_of array ∷ [])) (Unit {0}) [] []
  store-flows at array size index e mark fits =
      let test : BaseType → Bool = λ b. has_base program procedure b e in
      let parts = and_parts (array_by (variable_type program procedure array) size test) (has_base program procedure base.Int index) fits in
      let found = array-type (variable_type program procedure array) size test parts.0 in
      flows-both m p whole (value_size index) (value-sized index at) (value-flows program procedure m p whole stated index base.Int at [] parts.1)
      (flows-both m p whole (value_size e) (value-sized e (at + value_size index))
      (value-flows program procedure m p whole stated e found.base (at + value_size index) (Int ∷ []) found.passes)
      (flows-one m p whole (store_element-does m p array found.base found.count [] (stated.variables_there array ∙ found.is))))

  receive-flows : (at channel : ℕ) (target : Option Variable) (mark : ℕ) → statement_fits program procedure (Placed mark (Receive channel target)) ≡ true
      → Flows m p whole at (instruction.Receive channel ∷ kept_code target ∷ []) (Unit {0}) [] []
  receive-flows at channel target mark fits =
      let parts = and_parts (channel_is (slice_get program.channels channel) Input) (target_by program procedure target (same_base base.Int)) fits in
      flows-both m p whole 1 refl
      (flows-one m p whole (receive-does m p channel []
      (ap (λ (o : Option Direction). is_input o) (stated.channels_there channel) ∙ input-is (slice_get program.channels channel) parts.0)))
      (flows-one m p whole (kept-does target base.Int (same_base base.Int) (λ b e. sym (same_base_is base.Int b e)) parts.1))

  send-flows : (at channel : ℕ) (e : Expression) (mark : ℕ) → statement_fits program procedure (Placed mark (Send channel e)) ≡ true
      → Flows m p whole at (value_code at e ++ instruction.Send channel ∷ []) (Unit {0}) [] []
  send-flows at channel e mark fits =
      let parts = and_parts (channel_is (slice_get program.channels channel) Output) (has_base program procedure base.Int e) fits in
      flows-both m p whole (value_size e) (value-sized e at) (value-flows program procedure m p whole stated e base.Int at [] parts.1)
      (flows-one m p whole (send-does m p channel []
      (ap (λ (o : Option Direction). is_output o) (stated.channels_there channel) ∙ output-is (slice_get program.channels channel) parts.0)))

  clear-flows : (at k : ℕ) → is_array (variable_type program procedure (Local k)) ≡ true → Flows m p whole at (instruction.Clear k ∷ []) (Unit {0}) [] []
  clear-flows at k fits =
      let found = array-is (variable_type program procedure (Local k)) fits in
      flows-one m p whole (clear-does m p k found.kind found.count [] (stated.variables_there (Local k) ∙ found.is))

  free : {at : ℕ} {code : List Instruction} {aims : Type 0} → Flows m p whole at code (Unit {0}) [] [] → Settles m p whole at code [] aims
  free f = settles-plain m p whole (flows-free m p whole f)

  -- ---- statements, blocks and handlers
  mutual
    pub statement-settles : (loop : Loop) (in_loop : Bool) (position : ℕ) (statement : Statement) → statement_fits program procedure statement ≡ true
        → may_stand in_loop statement ≡ true → inner_faults program in_loop statement ≡ []
        → Settles m p whole position (statement_code program loop position statement) (statement_table program position statement) (LoopFlows m p whole in_loop loop)
    statement-settles loop in_loop position (Placed mark (Assign x e)) fits stands faults = free (assign-flows position x e fits)
    statement-settles loop in_loop position (Placed mark (Clear k)) fits stands faults = free (clear-flows position k fits)
    statement-settles loop in_loop position (Placed mark (Store array size index e)) fits stands faults = free (store-flows position array size index e mark fits)
    statement-settles loop in_loop position (Placed mark (Receive channel target)) fits stands faults = free (receive-flows position channel target mark fits)
    statement-settles loop in_loop position (Placed mark (Send channel e)) fits stands faults = free (send-flows position channel e mark fits)
    statement-settles loop in_loop position (Placed mark (Call f arguments target)) fits stands faults =
        free (call-flows position f (slice_get program.procedures f) arguments target refl fits)
    statement-settles loop in_loop position (Placed mark (If e then_block else_block)) fits stands faults =
        let b = branch_size false e in
        let y = block_size program then_block in
        let j = jumps_over then_block else_block in
        let k = jump_size j in
        let z = block_size program else_block in
        let parts = and_parts (has_base program procedure base.Boolean e && block_fits program procedure then_block) (block_fits program procedure else_block) fits in
        let first = and_parts (has_base program procedure base.Boolean e) (block_fits program procedure then_block) parts.0 in
        let none = append_empty (block_faults program in_loop true then_block) (block_faults program in_loop true else_block) faults in
        let other = position + b + y + k in
        if-settles m p whole position b y k z j (branch_code false position other e) (block_code program loop (position + b) then_block) (block_code program loop other else_block)
        (block_table program (position + b) then_block) (block_table program other else_block) (LoopFlows m p whole in_loop loop)
        (branch-sized e false position other) (block-sized program loop (position + b) then_block) (jump-sized j (other + z)) (block-sized program loop other else_block)
        (branch-flows program procedure m p whole stated e false position other [] first.0)
        (block-settles loop in_loop true (position + b) then_block first.1 none.0) (block-settles loop in_loop true other else_block parts.1 none.1)
    statement-settles loop in_loop position (Placed mark (While number e body)) fits stands faults =
        let n = block_size program body in
        let b = branch_size true e in
        let inner : Loop = record { beyond = position + 1 + n + b; test = position + 1 + n } in
        let parts = and_parts (has_base program procedure base.Boolean e) (block_fits program procedure body) fits in
        while-settles m p whole position n b (block_code program inner (position + 1) body) (branch_code true (position + 1 + n) (position + 1) e)
        (block_table program (position + 1) body) (LoopFlows m p whole in_loop loop)
        (block-sized program inner (position + 1) body) (branch-sized e true (position + 1 + n) (position + 1))
        (block-settles inner true true (position + 1) body parts.1 faults)
        (branch-flows program procedure m p whole stated e true (position + 1 + n) (position + 1) [] parts.0)
    statement-settles loop in_loop position (Placed mark (Leave exit)) fits stands faults = settles-plain m p whole (leave-flows mark in_loop loop exit position fits stands)
    statement-settles loop in_loop position (Placed mark (ReturnWith e)) fits stands faults = free (return-flows position e mark fits)
    statement-settles loop in_loop position (Placed mark (Try block handlers)) fits stands faults =
        let n = block_size program block in
        let j = jumps_after block handlers in
        let k = jump_size j in
        let z = handlers_size program handlers in
        let beyond = position + n + k + z in
        let parts = and_parts (block_fits program procedure block) (handlers_fit program procedure handlers) fits in
        let none = append_empty (block_faults program in_loop true block) (handlers_faults program in_loop (block_exits program block) handlers) faults in
        try-settles m p whole position n k z j (block_code program loop position block) (handlers_code program loop beyond (position + n + k) handlers)
        (block_table program position block) (handlers_table program position (position + n) (position + n + k) handlers) (LoopFlows m p whole in_loop loop)
        (block-sized program loop position block) (jump-sized j beyond) (handlers-sized program loop beyond (position + n + k) handlers)
        (block-settles loop in_loop true position block parts.0 none.0)
        (handlers-settle loop in_loop position (position + n) beyond (position + n + k) (block_exits program block) handlers parts.1 none.1)
    statement-settles loop in_loop position (Placed mark (Nested block)) fits stands faults = block-settles loop in_loop true position block fits faults

    pub block-settles : (loop : Loop) (in_loop reached : Bool) (position : ℕ) (block : Block) → block_fits program procedure block ≡ true
        → block_faults program in_loop reached block ≡ []
        → Settles m p whole position (block_code program loop position block) (block_table program position block) (LoopFlows m p whole in_loop loop)
    block-settles loop in_loop reached position Empty fits faults = settles-plain m p whole (flows-none m p whole)
    block-settles loop in_loop reached position (Then statement rest) fits faults =
        let first = fault_unless (may_stand in_loop statement) OutsideLoop (place_of statement) in
        let second = fault_unless reached Unreachable (place_of statement) in
        let goes_on = has_exit (statement_exits program statement) Normal in
        let later = append_empty (first ++ second ++ inner_faults program in_loop statement) (block_faults program in_loop goes_on rest) (sym (faults-in_parts program in_loop reached rest statement) ∙ faults) in
        let here = append_empty (first ++ second) (inner_faults program in_loop statement) later.0 in
        let stands = no_fault-test (may_stand in_loop statement) OutsideLoop (place_of statement) (append_empty first second here.0).0 in
        let parts = and_parts (statement_fits program procedure statement) (block_fits program procedure rest) fits in
        settles-both m p whole (statement_size program statement) (statement-sized program loop position statement)
        (statement-settles loop in_loop position statement parts.0 stands here.1)
        (block-settles loop in_loop goes_on (position + statement_size program statement) rest parts.1 later.1)

    pub handlers-settle : (loop : Loop) (in_loop : Bool) (start end beyond position : ℕ) (ends : List Exit) (handlers : Handlers)
        → handlers_fit program procedure handlers ≡ true → handlers_faults program in_loop ends handlers ≡ []
        → Settles m p whole position (handlers_code program loop beyond position handlers) (handlers_table program start end position handlers)
        ((LoopFlows m p whole in_loop loop) × (kinds_at m p whole beyond ≡ []))
    handlers-settle loop in_loop start end beyond position ends NoMore fits faults = settles-plain m p whole (flows-none m p whole)
    handlers-settle loop in_loop start end beyond position ends (Catch mark exception body rest) fits faults =
        let n = block_size program body in
        let j = jumps_after body rest in
        let k = jump_size j in
        let parts = and_parts (is_exception program exception && block_fits program procedure body) (handlers_fit program procedure rest) fits in
        let first = and_parts (is_exception program exception) (block_fits program procedure body) parts.0 in
        let raised = fault_unless (has_exit ends (Throw exception)) NeverRaised mark in
        let others = filter (λ exit. not (same_exit (Throw exception) exit)) ends in
        let later = append_empty (raised ++ block_faults program in_loop true body) (handlers_faults program in_loop others rest) faults in
        let here = append_empty raised (block_faults program in_loop true body) later.0 in
        catch-settles m p whole position n k start end exception beyond j (block_code program loop position body) (handlers_code program loop beyond (position + n + k) rest)
        (block_table program position body) (handlers_table program start end (position + n + k) rest) (LoopFlows m p whole in_loop loop)
        (block-sized program loop position body) (jump-sized j beyond) (exception-there exception first.0)
        (block-settles loop in_loop true position body first.1 here.1)
        (handlers-settle loop in_loop start end beyond (position + n + k) others rest parts.1 later.1)
