-- All unconditional jumps of a procedure go forward.
use Rattle.std.proofs.Common.{◌≡◌, refl, sym, ◌∙◌, ℕ, zero, suc, ◌+◌, ◌<◌, ◌≤◌, Bool, true, false, not, List, [], ◌∷◌, ◌++◌, length, Option, Some, None, slice_get, arith}
use Rattle.std.specs.Prelude.{filter}
use Rattle.std.proofs.lemmas.Option.{none-some}
use Rattle.resolved.specs.FaultParts.{place_of, may_stand, inner_faults}
use Rattle.resolved.specs.declared.expression.Variable.{Variable}
use Rattle.resolved.specs.declared.expression.Variable.TheVariants.{Global, Local}
use Rattle.common.specs.declared.operator.Prefix.{Prefix}
use Rattle.common.specs.declared.operator.Prefix.TheVariants as prefix
use Rattle.common.specs.declared.operator.Operator.{Operator}
use Rattle.common.specs.declared.operator.Operator.TheVariants as operator
use Rattle.common.specs.declared.operator.Connective.{Connective}
use Rattle.common.specs.declared.operator.Connective.TheVariants.{And, Or}
use Rattle.resolved.specs.declared.statement.Exit.{Exit}
use Rattle.resolved.specs.declared.statement.Exit.TheVariants.{Normal, Return, Break, Continue, Throw}
use Rattle.resolved.specs.Tree.{Expression, Integer, Logical, Read, Element, Unary, Binary, Short, Statement, Placed, Assign, Clear, Store, Receive, Send, Call, If, While, Leave, ReturnWith, Try, Nested, Block, Empty, Then, Handlers, NoMore, Catch}
use Rattle.resolved.specs.Program.{Program, ResultEntry, procedure_at}
use Rattle.resolved.specs.Exits.{same_exit, has_exit, statement_exits, block_exits, fault_unless}
use Rattle.resolved.specs.ExitFaults.{block_faults, handlers_faults}
use Rattle.resolved.specs.declared.fault.ExitRefusalKind.TheVariants.{OutsideLoop, Unreachable, NeverRaised}
use Rattle.modules.specs.declared.instruction.Instruction.{Instruction}
use Rattle.modules.specs.declared.instruction.Instruction.TheVariants as instruction
use Rattle.lowering.specs.Expressions.{load_of, store_of, load_element_of, store_element_of, prefix_instruction, operator_instruction, value_size, value_code, rest_of_short, arguments_size, arguments_code, tested, deciding, branch_size, branch_code, test_code}
use Rattle.lowering.specs.Code.{Loop, block_falls, jump_size, jump_code, jumps_over, jumps_after, kept_code, result_code, leave_code, return_code, statement_size, block_size, handlers_size, statement_code, block_code, handlers_code}
use Rattle.lowering.specs.Graphs.{end_code, no_loop, body_code}
use Rattle.lowering.specs.Direct.{jump_of}
use Rattle.lowering.proofs.Finals.{GoForward}
use Rattle.lowering.proofs.Sizes.{value-sized, arguments-sized, branch-sized, jump-sized, block-sized, statement-sized}
use Rattle.common.proofs.Cases.{append_empty}
use Rattle.resolved.proofs.Exits.{no_fault-test, faults-in_parts}

-- the unconditional jumps of code for a position go forward
record Ahead (at : ℕ) (code : List Instruction) : Type 0 where
  pub each : (k target : ℕ) → jump_of (slice_get code k) ≡ Some target → at + k < target

ahead-none : (at : ℕ) → Ahead at []
ahead-none at = record { each = λ k target e. absurd (none-some target e) }

ahead-first : (at : ℕ) (i : Instruction) (code : List Instruction) → ((target : ℕ) → jump_of (Some i) ≡ Some target → at < target) → Ahead (at + 1) code → Ahead at (i ∷ code)
ahead-first at i code first rest = record { each = each }
  where
    each : (k target : ℕ) → jump_of (slice_get (i ∷ code) k) ≡ Some target → at + k < target
    each zero target e = omega (arith, first target e)
    each (suc k) target e = omega (arith, rest.each k target e)

-- an instruction that is no unconditional jump, and one that is
ahead-more : (at : ℕ) (i : Instruction) (code : List Instruction) → jump_of (Some i) ≡ None → Ahead (at + 1) code → Ahead at (i ∷ code)
ahead-more at i code none rest = ahead-first at i code (λ target e. absurd (none-some target (sym none ∙ e))) rest

ahead-one : (at : ℕ) (i : Instruction) → jump_of (Some i) ≡ None → Ahead at (i ∷ [])
ahead-one at i none = ahead-more at i [] none (ahead-none (at + 1))

ahead-jump : (at target : ℕ) (code : List Instruction) → at < target → Ahead (at + 1) code → Ahead at (instruction.Jump target ∷ code)
ahead-jump at target code ahead rest = ahead-first at (instruction.Jump target) code (λ to e. let same : Some target ≡ Some to = e in let is : target ≡ to = cc in omega (arith, ahead, is)) rest

ahead-both : (at n : ℕ) (xs ys : List Instruction) → length xs ≡ n → Ahead at xs → Ahead (at + n) ys → Ahead at (xs ++ ys)
ahead-both at n [] ys size h k = record { each = λ j target e. omega (arith, size, k.each j target e) }
ahead-both at n (x ∷ xs) ys size h k =
    ahead-first at x (xs ++ ys) (λ target e. omega (arith, h.each 0 target e))
    (ahead-both (at + 1) (length xs) xs ys refl (record { each = λ j target e. omega (arith, h.each (suc j) target e) })
    (record { each = λ j target e. omega (arith, size, k.each j target e) }))

-- ---- single instructions
load-still : (x : Variable) → jump_of (Some (load_of x)) ≡ None
load-still (Global k) = refl
load-still (Local k) = refl

store-still : (x : Variable) → jump_of (Some (store_of x)) ≡ None
store-still (Global k) = refl
store-still (Local k) = refl

load_element-still : (x : Variable) → jump_of (Some (load_element_of x)) ≡ None
load_element-still (Global k) = refl
load_element-still (Local k) = refl

store_element-still : (x : Variable) → jump_of (Some (store_element_of x)) ≡ None
store_element-still (Global k) = refl
store_element-still (Local k) = refl

kept-still : (target : Option Variable) → jump_of (Some (kept_code target)) ≡ None
kept-still None = refl
kept-still (Some x) = store-still x

prefix-still : (sign : Prefix) → jump_of (Some (prefix_instruction sign)) ≡ None
prefix-still prefix.Negate = refl
prefix-still prefix.Not = refl

operator-still : (o : Operator) → jump_of (Some (operator_instruction o)) ≡ None
operator-still (operator.Compute computed) = refl
operator-still (operator.Compare compared) = refl
operator-still (operator.Match matched) = refl

-- ---- expressions
short-ahead : (connective : Connective) (at size : ℕ) (right : ℕ → List Instruction) → ((position : ℕ) → Ahead position (right position)) → ((position : ℕ) → length (right position) ≡ size)
    → Ahead at (rest_of_short connective at size right)
short-ahead And at size right h sized =
    ahead-more at (instruction.JumpIfFalse (at + 1 + size + 1)) _ refl
    (ahead-both (at + 1) size (right (at + 1)) _ (sized (at + 1)) (h (at + 1))
    (ahead-jump (at + 1 + size) (at + 1 + size + 1 + 1) _ (omega arith) (ahead-one (at + 1 + size + 1) (instruction.PushBoolean false) refl)))
short-ahead Or at size right h sized =
    ahead-more at (instruction.JumpIfFalse (at + 1 + 1 + 1)) _ refl
    (ahead-more (at + 1) (instruction.PushBoolean true) _ refl
    (ahead-jump (at + 1 + 1) (at + 1 + 1 + 1 + size) _ (omega arith) (h (at + 1 + 1 + 1))))

value-ahead : (e : Expression) (at : ℕ) → Ahead at (value_code at e)
value-ahead (Integer k) at = ahead-one at _ refl
value-ahead (Logical b) at = ahead-one at _ refl
value-ahead (Read x) at = ahead-one at _ (load-still x)
value-ahead (Element array count index) at =
    ahead-both at (value_size index) (value_code at index) _ (value-sized index at) (value-ahead index at) (ahead-one (at + value_size index) _ (load_element-still array))
value-ahead (Unary sign e) at =
    ahead-both at (value_size e) (value_code at e) _ (value-sized e at) (value-ahead e at) (ahead-one (at + value_size e) _ (prefix-still sign))
value-ahead (Binary o d e) at =
    ahead-both at (value_size d) (value_code at d) _ (value-sized d at) (value-ahead d at)
    (ahead-both (at + value_size d) (value_size e) (value_code (at + value_size d) e) _ (value-sized e (at + value_size d)) (value-ahead e (at + value_size d))
    (ahead-one (at + value_size d + value_size e) _ (operator-still o)))
value-ahead (Short connective d e) at =
    ahead-both at (value_size d) (value_code at d) _ (value-sized d at) (value-ahead d at)
    (short-ahead connective (at + value_size d) (value_size e) (λ position. value_code position e) (λ position. value-ahead e position) (λ position. value-sized e position))

arguments-ahead : (es : List Expression) (at : ℕ) → Ahead at (arguments_code at es)
arguments-ahead [] at = ahead-none at
arguments-ahead (e ∷ rest) at =
    ahead-both at (value_size e) (value_code at e) _ (value-sized e at) (value-ahead e at) (arguments-ahead rest (at + value_size e))

test-ahead : (wanted : Bool) (e : Expression) (at target : ℕ) → Ahead at (test_code wanted at target e)
test-ahead wanted e at target =
    ahead-both at (value_size (tested wanted e)) (value_code at (tested wanted e)) _ (value-sized (tested wanted e) at) (value-ahead (tested wanted e) at)
    (ahead-one (at + value_size (tested wanted e)) (instruction.JumpIfFalse target) refl)

branch-ahead : (e : Expression) (wanted : Bool) (at target : ℕ) → Ahead at (branch_code wanted at target e)
branch-ahead (Integer k) wanted at target = test-ahead wanted (Integer k) at target
branch-ahead (Logical b) wanted at target = test-ahead wanted (Logical b) at target
branch-ahead (Read x) wanted at target = test-ahead wanted (Read x) at target
branch-ahead (Element array count index) wanted at target = test-ahead wanted (Element array count index) at target
branch-ahead (Unary prefix.Negate e) wanted at target = test-ahead wanted (Unary prefix.Negate e) at target
branch-ahead (Unary prefix.Not e) wanted at target = branch-ahead e (not wanted) at target
branch-ahead (Binary o d e) wanted at target = test-ahead wanted (Binary o d e) at target
branch-ahead (Short connective d e) wanted at target =
    ahead-both at (branch_size (deciding connective) d) (branch_code (deciding connective) at _ d) _ (branch-sized d (deciding connective) at _)
    (branch-ahead d (deciding connective) at _) (branch-ahead e wanted (at + branch_size (deciding connective) d) target)

-- ---- pieces of statements
jump-ahead : (at : ℕ) (wanted : Bool) (target : ℕ) → at + jump_size wanted ≤ target → Ahead at (jump_code wanted target)
jump-ahead at true target h = ahead-jump at target [] (omega (arith, h)) (ahead-none (at + 1))
jump-ahead at false target h = ahead-none at

result-ahead : (at : ℕ) (result : Option ResultEntry) (target : Option Variable) → Ahead at (result_code result target)
result-ahead at None target = ahead-none at
result-ahead at (Some entry) target = ahead-one at _ (kept-still target)

return-ahead : (at : ℕ) (e : Option Expression) → Ahead at (return_code at e)
return-ahead at None = ahead-one at instruction.Return refl
return-ahead at (Some e) =
    ahead-both at (value_size e) (value_code at e) _ (value-sized e at) (value-ahead e at) (ahead-one (at + value_size e) instruction.ReturnValue refl)

-- where a loop goes: to positions after, if there is a loop
record LoopAhead (at : ℕ) (in_loop : Bool) (loop : Loop) : Type 0 where
  pub beyond : in_loop ≡ true → at ≤ loop.beyond
  pub test : in_loop ≡ true → at ≤ loop.test

sooner : (at end : ℕ) (in_loop : Bool) (loop : Loop) → at ≤ end → LoopAhead end in_loop loop → LoopAhead at in_loop loop
sooner at end in_loop loop less h = record { beyond = λ e. omega (arith, less, h.beyond e); test = λ e. omega (arith, less, h.test e) }

leave-ahead : (mark at : ℕ) (in_loop : Bool) (loop : Loop) (exit : Exit) → LoopAhead (at + 1) in_loop loop → may_stand in_loop (Placed mark (Leave exit)) ≡ true → Ahead at (leave_code loop exit ∷ [])
leave-ahead mark at in_loop loop Normal loops h = ahead-one at _ refl
leave-ahead mark at in_loop loop Return loops h = ahead-one at _ refl
leave-ahead mark at in_loop loop Break loops h = ahead-jump at loop.beyond [] (omega (arith, loops.beyond h)) (ahead-none (at + 1))
leave-ahead mark at in_loop loop Continue loops h = ahead-jump at loop.test [] (omega (arith, loops.test h)) (ahead-none (at + 1))
leave-ahead mark at in_loop loop (Throw exception) loops h = ahead-one at _ refl

-- ---- statements
module _ (program : Program) where
  mutual
    statement-ahead : (loop : Loop) (in_loop : Bool) (p : ℕ) (statement : Statement) → may_stand in_loop statement ≡ true → inner_faults program in_loop statement ≡ []
        → LoopAhead (p + statement_size program statement) in_loop loop → Ahead p (statement_code program loop p statement)
    statement-ahead loop in_loop p (Placed at (Assign x e)) stands faults loops =
        ahead-both p (value_size e) (value_code p e) _ (value-sized e p) (value-ahead e p) (ahead-one (p + value_size e) _ (store-still x))
    statement-ahead loop in_loop p (Placed at (Clear slot)) stands faults loops = ahead-one p (instruction.Clear slot) refl
    statement-ahead loop in_loop p (Placed at (Store array count index e)) stands faults loops =
        ahead-both p (value_size index) (value_code p index) _ (value-sized index p) (value-ahead index p)
        (ahead-both (p + value_size index) (value_size e) (value_code (p + value_size index) e) _ (value-sized e (p + value_size index)) (value-ahead e (p + value_size index))
        (ahead-one (p + value_size index + value_size e) _ (store_element-still array)))
    statement-ahead loop in_loop p (Placed at (Receive channel target)) stands faults loops =
        ahead-more p (instruction.Receive channel) _ refl (ahead-one (p + 1) _ (kept-still target))
    statement-ahead loop in_loop p (Placed at (Send channel e)) stands faults loops =
        ahead-both p (value_size e) (value_code p e) _ (value-sized e p) (value-ahead e p) (ahead-one (p + value_size e) (instruction.Send channel) refl)
    statement-ahead loop in_loop p (Placed at (Call f arguments target)) stands faults loops =
        ahead-both p (arguments_size arguments) (arguments_code p arguments) _ (arguments-sized arguments p) (arguments-ahead arguments p)
        (ahead-more (p + arguments_size arguments) (instruction.Call f) _ refl (result-ahead (p + arguments_size arguments + 1) (procedure_at program f).result target))
    statement-ahead loop in_loop p (Placed at (If e then_block else_block)) stands faults loops =
        let b = branch_size false e in
        let y = block_size program then_block in
        let j = jumps_over then_block else_block in
        let k = jump_size j in
        let z = block_size program else_block in
        let none = append_empty (block_faults program in_loop true then_block) (block_faults program in_loop true else_block) faults in
        ahead-both p b (branch_code false p (p + b + y + k) e) _ (branch-sized e false p (p + b + y + k)) (branch-ahead e false p (p + b + y + k))
        (ahead-both (p + b) y (block_code program loop (p + b) then_block) _ (block-sized program loop (p + b) then_block)
        (block-ahead loop in_loop true (p + b) then_block none.0 (sooner (p + b + y) (p + (b + (y + (k + z)))) in_loop loop (omega arith) loops))
        (ahead-both (p + b + y) k (jump_code j (p + b + y + k + z)) _ (jump-sized j (p + b + y + k + z)) (jump-ahead (p + b + y) j (p + b + y + k + z) (omega arith))
        (block-ahead loop in_loop true (p + b + y + k) else_block none.1 (sooner (p + b + y + k + z) (p + (b + (y + (k + z)))) in_loop loop (omega arith) loops))))
    statement-ahead loop in_loop p (Placed at (While number e body)) stands faults loops =
        let m = block_size program body in
        let b = branch_size true e in
        let inner : Loop = record { beyond = p + 1 + m + b; test = p + 1 + m } in
        ahead-jump p (p + 1 + m) _ (omega arith)
        (ahead-both (p + 1) m (block_code program inner (p + 1) body) _ (block-sized program inner (p + 1) body)
        (block-ahead inner true true (p + 1) body faults (record { beyond = λ h. omega arith; test = λ h. omega arith }))
        (branch-ahead e true (p + 1 + m) (p + 1)))
    statement-ahead loop in_loop p (Placed at (Leave exit)) stands faults loops = leave-ahead at p in_loop loop exit loops stands
    statement-ahead loop in_loop p (Placed at (ReturnWith e)) stands faults loops = return-ahead p e
    statement-ahead loop in_loop p (Placed at (Try block handlers)) stands faults loops =
        let m = block_size program block in
        let j = jumps_after block handlers in
        let k = jump_size j in
        let z = handlers_size program handlers in
        let none = append_empty (block_faults program in_loop true block) (handlers_faults program in_loop (block_exits program block) handlers) faults in
        ahead-both p m (block_code program loop p block) _ (block-sized program loop p block)
        (block-ahead loop in_loop true p block none.0 (sooner (p + m) (p + (m + (k + z))) in_loop loop (omega arith) loops))
        (ahead-both (p + m) k (jump_code j (p + m + k + z)) _ (jump-sized j (p + m + k + z)) (jump-ahead (p + m) j (p + m + k + z) (omega arith))
        (handlers-ahead loop in_loop (p + m + k + z) (p + m + k) (block_exits program block) handlers none.1 refl
        (sooner (p + m + k + z) (p + (m + (k + z))) in_loop loop (omega arith) loops)))
    statement-ahead loop in_loop p (Placed at (Nested block)) stands faults loops = block-ahead loop in_loop true p block faults loops

    block-ahead : (loop : Loop) (in_loop reached : Bool) (p : ℕ) (block : Block) → block_faults program in_loop reached block ≡ []
        → LoopAhead (p + block_size program block) in_loop loop → Ahead p (block_code program loop p block)
    block-ahead loop in_loop reached p Empty faults loops = ahead-none p
    block-ahead loop in_loop reached p (Then statement rest) faults loops =
        let m = statement_size program statement in
        let z = block_size program rest in
        let first = fault_unless (may_stand in_loop statement) OutsideLoop (place_of statement) in
        let second = fault_unless reached Unreachable (place_of statement) in
        let goes = has_exit (statement_exits program statement) Normal in
        let later = append_empty (first ++ second ++ inner_faults program in_loop statement) (block_faults program in_loop goes rest) (sym (faults-in_parts program in_loop reached rest statement) ∙ faults) in
        let here = append_empty (first ++ second) (inner_faults program in_loop statement) later.0 in
        let stands = no_fault-test (may_stand in_loop statement) OutsideLoop (place_of statement) (append_empty first second here.0).0 in
        ahead-both p m (statement_code program loop p statement) _ (statement-sized program loop p statement)
        (statement-ahead loop in_loop p statement stands here.1 (sooner (p + m) (p + (m + z)) in_loop loop (omega arith) loops))
        (block-ahead loop in_loop goes (p + m) rest later.1 (sooner (p + m + z) (p + (m + z)) in_loop loop (omega arith) loops))

    handlers-ahead : (loop : Loop) (in_loop : Bool) (beyond p : ℕ) (ends : List Exit) (handlers : Handlers) → handlers_faults program in_loop ends handlers ≡ []
        → p + handlers_size program handlers ≡ beyond → LoopAhead beyond in_loop loop → Ahead p (handlers_code program loop beyond p handlers)
    handlers-ahead loop in_loop beyond p ends NoMore faults size loops = ahead-none p
    handlers-ahead loop in_loop beyond p ends (Catch at exception body rest) faults size loops =
        let m = block_size program body in
        let j = jumps_after body rest in
        let k = jump_size j in
        let z = handlers_size program rest in
        let raised = fault_unless (has_exit ends (Throw exception)) NeverRaised at in
        let others = filter (λ exit. not (same_exit (Throw exception) exit)) ends in
        let later = append_empty (raised ++ block_faults program in_loop true body) (handlers_faults program in_loop others rest) faults in
        let here = append_empty raised (block_faults program in_loop true body) later.0 in
        let is : p + (m + (k + z)) ≡ beyond = size in
        ahead-both p m (block_code program loop p body) _ (block-sized program loop p body)
        (block-ahead loop in_loop true p body here.1 (sooner (p + m) beyond in_loop loop (omega (arith, is)) loops))
        (ahead-both (p + m) k (jump_code j beyond) _ (jump-sized j beyond) (jump-ahead (p + m) j beyond (omega (arith, is)))
        (handlers-ahead loop in_loop beyond (p + m + k) others rest later.1 (omega (arith, is)) loops))

end-ahead : (at : ℕ) (falls : Bool) → Ahead at (end_code falls)
end-ahead at true = ahead-one at instruction.Return refl
end-ahead at false = ahead-none at

pub body-forward : (program : Program) (body : Block) → block_faults program false true body ≡ [] → GoForward (body_code program body)
body-forward program body faults =
    let code = ahead-both 0 (block_size program body) (block_code program no_loop 0 body) (end_code (block_falls body)) (block-sized program no_loop 0 body)
    (block-ahead program no_loop false true 0 body faults
    (record { beyond = λ h. absurd (let no : false ≡ true = h in cc); test = λ h. absurd (let no : false ≡ true = h in cc) }))
    (end-ahead (0 + block_size program body) (block_falls body)) in
    λ position target e. omega (arith, code.each position target e)
