-- The code of statements has as many instructions as its size says.
use Rattle.common.specs.Functions.{same_truth}
use Rattle.std.proofs.Common.{◌≡◌, ℕ, ◌+◌, List, [], ◌∷◌, ◌++◌, length, Bool, true, false, ◌∙◌, refl, arith, length-append}
use Rattle.std.specs.Prelude.{Option, Some, None, not, if◌then◌else◌}
use Rattle.resolved.specs.declared.expression.Variable.{Variable}
use Rattle.common.specs.declared.operator.Prefix.TheVariants as prefix
use Rattle.common.specs.declared.operator.Connective.{Connective}
use Rattle.common.specs.declared.operator.Connective.TheVariants.{And, Or}
use Rattle.resolved.specs.Tree.{Expression, Integer, Logical, Read, Element, Unary, Binary, Short, Statement, Placed, Assign, Clear, Store, Receive, Send, Call, If, While, Leave, ReturnWith, Try, Nested, Block, Empty, Then, Handlers, NoMore, Catch}
use Rattle.resolved.specs.Program.{Program, ResultEntry, procedure_at}
use Rattle.modules.specs.declared.instruction.Instruction.{Instruction}
use Rattle.modules.specs.declared.instruction.Instruction.TheVariants as instruction
use Rattle.lowering.specs.Expressions.{store_of, store_element_of, load_element_of, prefix_instruction, operator_instruction, value_size, value_code, rest_of_short, arguments_size, arguments_code, tested, deciding, branch_size, branch_code, test_code}
use Rattle.lowering.specs.Code.{Loop, jump_size, jump_code, jumps_over, jumps_after, result_size, result_code, return_size, return_code, no_position, test_position, handlers_position, statement_size, block_size, handlers_size, statement_code, block_code, handlers_code}

-- two pieces of code
pub both_sized : (xs ys : List Instruction) (m n : ℕ) → length xs ≡ m → length ys ≡ n → length (xs ++ ys) ≡ m + n
both_sized xs ys m n h k = length-append xs ys ∙ omega (arith, h, k)

one_more : (x : Instruction) (xs : List Instruction) (n : ℕ) → length xs ≡ n → length (x ∷ xs) ≡ 1 + n
one_more x xs n h = omega (arith, h)

short_sized : (connective : Connective) (at n : ℕ) (right : ℕ → List Instruction) → ((position : ℕ) → length (right position) ≡ n)
    → length (rest_of_short connective at n right) ≡ 1 + (n + 2)
short_sized And at n right h =
    one_more (instruction.JumpIfFalse (at + 1 + n + 1)) _ (n + 2) (both_sized (right (at + 1)) (instruction.Jump (at + 1 + n + 1 + 1) ∷ instruction.PushBoolean false ∷ []) n 2 (h (at + 1)) refl)
short_sized Or at n right h = omega (arith, h (at + 1 + 1 + 1))

pub value-sized : (e : Expression) (at : ℕ) → length (value_code at e) ≡ value_size e
value-sized (Integer n) at = refl
value-sized (Logical b) at = refl
value-sized (Read x) at = refl
value-sized (Element array n index) at = both_sized (value_code at index) (load_element_of array ∷ []) (value_size index) 1 (value-sized index at) refl
value-sized (Unary sign e) at = both_sized (value_code at e) (prefix_instruction sign ∷ []) (value_size e) 1 (value-sized e at) refl
value-sized (Binary operator d e) at =
    both_sized (value_code at d) (value_code (at + value_size d) e ++ operator_instruction operator ∷ []) (value_size d) (value_size e + 1) (value-sized d at)
    (both_sized (value_code (at + value_size d) e) (operator_instruction operator ∷ []) (value_size e) 1 (value-sized e (at + value_size d)) refl)
value-sized (Short connective d e) at =
    both_sized (value_code at d) (rest_of_short connective (at + value_size d) (value_size e) (λ position. value_code position e)) (value_size d) (1 + (value_size e + 2))
    (value-sized d at) (short_sized connective (at + value_size d) (value_size e) (λ position. value_code position e) (λ position. value-sized e position))

pub arguments-sized : (es : List Expression) (at : ℕ) → length (arguments_code at es) ≡ arguments_size es
arguments-sized [] at = refl
arguments-sized (e ∷ rest) at =
    both_sized (value_code at e) (arguments_code (at + value_size e) rest) (value_size e) (arguments_size rest) (value-sized e at) (arguments-sized rest (at + value_size e))

test_sized : (wanted : Bool) (at target : ℕ) (e : Expression) → length (test_code wanted at target e) ≡ value_size (tested wanted e) + 1
test_sized wanted at target e =
    both_sized (value_code at (tested wanted e)) (instruction.JumpIfFalse target ∷ []) (value_size (tested wanted e)) 1 (value-sized (tested wanted e) at) refl

pub branch-sized : (e : Expression) (wanted : Bool) (at target : ℕ) → length (branch_code wanted at target e) ≡ branch_size wanted e
branch-sized (Integer n) wanted at target = test_sized wanted at target (Integer n)
branch-sized (Logical b) wanted at target = test_sized wanted at target (Logical b)
branch-sized (Read x) wanted at target = test_sized wanted at target (Read x)
branch-sized (Element array n index) wanted at target = test_sized wanted at target (Element array n index)
branch-sized (Unary prefix.Negate e) wanted at target = test_sized wanted at target (Unary prefix.Negate e)
branch-sized (Unary prefix.Not e) wanted at target = branch-sized e (not wanted) at target
branch-sized (Binary operator d e) wanted at target = test_sized wanted at target (Binary operator d e)
branch-sized (Short connective d e) wanted at target =
    let inner = (if same_truth wanted (deciding connective) then target else at + branch_size (deciding connective) d + branch_size wanted e) in
    both_sized (branch_code (deciding connective) at inner d) (branch_code wanted (at + branch_size (deciding connective) d) target e)
    (branch_size (deciding connective) d) (branch_size wanted e)
    (branch-sized d (deciding connective) at inner) (branch-sized e wanted (at + branch_size (deciding connective) d) target)

pub jump-sized : (wanted : Bool) (target : ℕ) → length (jump_code wanted target) ≡ jump_size wanted
jump-sized true target = refl
jump-sized false target = refl

result_sized : (result : Option ResultEntry) (target : Option Variable) → length (result_code result target) ≡ result_size result
result_sized None target = refl
result_sized (Some entry) target = refl

return_sized : (at : ℕ) (e : Option Expression) → length (return_code at e) ≡ return_size e
return_sized at None = refl
return_sized at (Some e) = both_sized (value_code at e) (instruction.ReturnValue ∷ []) (value_size e) 1 (value-sized e at) refl

mutual
  pub statement-sized : (program : Program) (loop : Loop) (position : ℕ) (statement : Statement) → length (statement_code program loop position statement) ≡ statement_size program statement
  statement-sized program loop position (Placed at (Assign x e)) = both_sized (value_code position e) (store_of x ∷ []) (value_size e) 1 (value-sized e position) refl
  statement-sized program loop position (Placed at (Clear slot)) = refl
  statement-sized program loop position (Placed at (Store array n index e)) =
      both_sized (value_code position index) (value_code (position + value_size index) e ++ store_element_of array ∷ []) (value_size index) (value_size e + 1) (value-sized index position)
      (both_sized (value_code (position + value_size index) e) (store_element_of array ∷ []) (value_size e) 1 (value-sized e (position + value_size index)) refl)
  statement-sized program loop position (Placed at (Receive channel target)) = refl
  statement-sized program loop position (Placed at (Send channel e)) = both_sized (value_code position e) (instruction.Send channel ∷ []) (value_size e) 1 (value-sized e position) refl
  statement-sized program loop position (Placed at (Call f arguments target)) =
      both_sized (arguments_code position arguments) (instruction.Call f ∷ result_code (procedure_at program f).result target)
      (arguments_size arguments) (1 + result_size (procedure_at program f).result) (arguments-sized arguments position)
      (one_more (instruction.Call f) _ (result_size (procedure_at program f).result) (result_sized (procedure_at program f).result target))
  statement-sized program loop position (Placed at (If e then_block else_block)) =
      let no = no_position program position e then_block else_block in
      let jump = jump_code (jumps_over then_block else_block) (no + block_size program else_block) in
      let first = block_code program loop (position + branch_size false e) then_block in
      let second = block_code program loop no else_block in
      let rest : length (first ++ (jump ++ second)) ≡ block_size program then_block + (jump_size (jumps_over then_block else_block) + block_size program else_block) =
      both_sized first (jump ++ second) (block_size program then_block) (jump_size (jumps_over then_block else_block) + block_size program else_block)
      (block-sized program loop (position + branch_size false e) then_block)
      (both_sized jump second (jump_size (jumps_over then_block else_block)) (block_size program else_block)
      (jump-sized (jumps_over then_block else_block) (no + block_size program else_block)) (block-sized program loop no else_block)) in
      both_sized (branch_code false position no e) (first ++ (jump ++ second)) (branch_size false e)
      (block_size program then_block + (jump_size (jumps_over then_block else_block) + block_size program else_block)) (branch-sized e false position no) rest
  statement-sized program loop position (Placed at (While number e body)) =
      let test = test_position program position body in
      let inner : Loop = record { beyond = test + branch_size true e; test = test } in
      one_more (instruction.Jump test) _ (block_size program body + branch_size true e)
      (both_sized (block_code program inner (position + 1) body) (branch_code true test (position + 1) e) (block_size program body) (branch_size true e)
      (block-sized program inner (position + 1) body) (branch-sized e true test (position + 1)))
  statement-sized program loop position (Placed at (Leave exit)) = refl
  statement-sized program loop position (Placed at (ReturnWith e)) = return_sized position e
  statement-sized program loop position (Placed at (Try block handlers)) =
      let start = handlers_position program position block handlers in
      let end = start + handlers_size program handlers in
      both_sized (block_code program loop position block) (jump_code (jumps_after block handlers) end ++ handlers_code program loop end start handlers)
      (block_size program block) (jump_size (jumps_after block handlers) + handlers_size program handlers) (block-sized program loop position block)
      (both_sized (jump_code (jumps_after block handlers) end) (handlers_code program loop end start handlers)
      (jump_size (jumps_after block handlers)) (handlers_size program handlers)
      (jump-sized (jumps_after block handlers) end) (handlers-sized program loop end start handlers))
  statement-sized program loop position (Placed at (Nested block)) = block-sized program loop position block

  pub block-sized : (program : Program) (loop : Loop) (position : ℕ) (block : Block) → length (block_code program loop position block) ≡ block_size program block
  block-sized program loop position Empty = refl
  block-sized program loop position (Then statement rest) =
      both_sized (statement_code program loop position statement) (block_code program loop (position + statement_size program statement) rest)
      (statement_size program statement) (block_size program rest) (statement-sized program loop position statement)
      (block-sized program loop (position + statement_size program statement) rest)

  pub handlers-sized : (program : Program) (loop : Loop) (end position : ℕ) (handlers : Handlers) → length (handlers_code program loop end position handlers) ≡ handlers_size program handlers
  handlers-sized program loop end position NoMore = refl
  handlers-sized program loop end position (Catch at exception body rest) =
      let next = handlers_position program position body rest in
      both_sized (block_code program loop position body) (jump_code (jumps_after body rest) end ++ handlers_code program loop end next rest)
      (block_size program body) (jump_size (jumps_after body rest) + handlers_size program rest) (block-sized program loop position body)
      (both_sized (jump_code (jumps_after body rest) end) (handlers_code program loop end next rest)
      (jump_size (jumps_after body rest)) (handlers_size program rest)
      (jump-sized (jumps_after body rest) end) (handlers-sized program loop end next rest))
