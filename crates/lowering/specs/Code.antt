-- Private: the code of statements, and the handlers that stand for their catches.
-- A loop has its test at the bottom: `jump test; body; test: go back to the body if true`. Each `try` has its block first and then its
-- handlers' bodies, which code jumps over that ends normally. No code is made for an exit that cannot occur.
-- Source: our own; the handler table is that of the Java virtual machine, inner handlers first.
use Rattle.std.specs.Prelude.{ℕ, ◌+◌, Bool, true, false, not, ◌&&◌, ◌||◌, List, [], ◌∷◌, ◌++◌, Option, Some, None, nat_lt, if◌then◌else◌}
use Rattle.resolved.specs.declared.expression.Variable.{Variable}
use Rattle.resolved.specs.declared.statement.Exit.{Exit}
use Rattle.resolved.specs.declared.statement.Exit.TheVariants as exit
use Rattle.resolved.specs.Tree.{Expression, Statement, Placed, Assign, Clear, Store, Receive, Send, Call, If, While, Leave, ReturnWith, Try, Nested, Block, Empty, Then, Handlers, NoMore, Catch}
use Rattle.resolved.specs.Program.{Program, ResultEntry, procedure_at}
use Rattle.modules.specs.declared.instruction.Instruction.{Instruction}
use Rattle.modules.specs.declared.instruction.Instruction.TheVariants as instruction
use Rattle.modules.specs.declared.declaration.Handler.{Handler}
use Rattle.lowering.specs.Expressions.{store_of, store_element_of, value_size, value_code, arguments_size, arguments_code, branch_size, branch_code}

-- where `break` and `continue` go: after the loop, and to its test
pub record Loop : Type 0 where
  pub beyond : ℕ
  pub test : ℕ

-- ---- normal exits
-- whether a statement, block or handler may end normally, by its form alone
abbrev mutual
  pub statement_falls : Statement → Bool
  statement_falls (Placed at (Assign x e)) = true
  statement_falls (Placed at (Clear slot)) = true
  statement_falls (Placed at (Store array length index e)) = true
  statement_falls (Placed at (Receive channel target)) = true
  statement_falls (Placed at (Send channel e)) = true
  statement_falls (Placed at (Call procedure arguments target)) = true
  statement_falls (Placed at (If e then_block else_block)) = block_falls then_block || block_falls else_block
  statement_falls (Placed at (While loop e body)) = true
  statement_falls (Placed at (Leave exit)) = false
  statement_falls (Placed at (ReturnWith e)) = false
  statement_falls (Placed at (Try block handlers)) = block_falls block || handlers_fall handlers
  statement_falls (Placed at (Nested block)) = block_falls block

  pub block_falls : Block → Bool
  block_falls Empty = true
  block_falls (Then statement rest) = statement_falls statement && block_falls rest

  pub handlers_fall : Handlers → Bool
  handlers_fall NoMore = false
  handlers_fall (Catch at exception body rest) = block_falls body || handlers_fall rest

abbrev pub is_empty : Block → Bool
is_empty Empty = true
is_empty (Then statement rest) = false

abbrev pub is_none_left : Handlers → Bool
is_none_left NoMore = true
is_none_left (Catch at exception body rest) = false

-- a jump, where one is wanted
abbrev pub jump_size : (wanted : Bool) → ℕ
jump_size true = 1
jump_size false = 0

abbrev pub jump_code : (wanted : Bool) → (target : ℕ) → List Instruction
jump_code true target = instruction.Jump target ∷ []
jump_code false target = []

-- ---- sizes
-- the value of a call, or what is received, is stored or dropped
abbrev pub kept_code : Option Variable → Instruction
kept_code None = instruction.Pop
kept_code (Some x) = store_of x

-- after a call: a procedure without a value leaves nothing to store or drop
abbrev pub result_size : Option ResultEntry → ℕ
result_size None = 0
result_size (Some entry) = 1

abbrev pub result_code : Option ResultEntry → Option Variable → List Instruction
result_code None target = []
result_code (Some entry) target = kept_code target ∷ []

-- `break`, `continue` and `throw`; no well-formed program leaves otherwise
abbrev pub leave_code : Loop → Exit → Instruction
leave_code loop exit.Normal = instruction.Return
leave_code loop exit.Return = instruction.Return
leave_code loop exit.Break = instruction.Jump loop.beyond
leave_code loop exit.Continue = instruction.Jump loop.test
leave_code loop (exit.Throw exception) = instruction.Throw exception

abbrev pub return_size : Option Expression → ℕ
return_size None = 1
return_size (Some e) = value_size e + 1

abbrev pub return_code : (at : ℕ) → Option Expression → List Instruction
return_code at None = instruction.Return ∷ []
return_code at (Some e) = value_code at e ++ instruction.ReturnValue ∷ []

-- whether the first block of an `if` jumps over the second one, and that of a `try` or a handler over the handlers after it
abbrev pub jumps_over : Block → Block → Bool
jumps_over then_block else_block = block_falls then_block && not (is_empty else_block)

abbrev pub jumps_after : Block → Handlers → Bool
jumps_after block handlers = block_falls block && not (is_none_left handlers)

-- how many instructions code has
abbrev mutual
  pub statement_size : Program → Statement → ℕ
  statement_size program (Placed at (Assign x e)) = value_size e + 1
  statement_size program (Placed at (Clear slot)) = 1
  statement_size program (Placed at (Store array length index e)) = value_size index + (value_size e + 1)
  statement_size program (Placed at (Receive channel target)) = 2
  statement_size program (Placed at (Send channel e)) = value_size e + 1
  statement_size program (Placed at (Call procedure arguments target)) =
      arguments_size arguments + (1 + result_size (procedure_at program procedure).result)
  statement_size program (Placed at (If e then_block else_block)) =
      branch_size false e
      + (block_size program then_block + (jump_size (jumps_over then_block else_block) + block_size program else_block))
  statement_size program (Placed at (While loop e body)) = 1 + (block_size program body + branch_size true e)
  statement_size program (Placed at (Leave exit)) = 1
  statement_size program (Placed at (ReturnWith e)) = return_size e
  statement_size program (Placed at (Try block handlers)) =
      block_size program block + (jump_size (jumps_after block handlers) + handlers_size program handlers)
  statement_size program (Placed at (Nested block)) = block_size program block

  pub block_size : Program → Block → ℕ
  block_size program Empty = 0
  block_size program (Then statement rest) = statement_size program statement + block_size program rest

  pub handlers_size : Program → Handlers → ℕ
  handlers_size program NoMore = 0
  handlers_size program (Catch at exception body rest) =
      block_size program body + (jump_size (jumps_after body rest) + handlers_size program rest)

-- ---- positions
-- where the second block of an `if` begins
abbrev pub no_position : Program → (position : ℕ) → Expression → Block → Block → ℕ
no_position program position e then_block else_block =
    position + branch_size false e + block_size program then_block + jump_size (jumps_over then_block else_block)

-- where the test of a loop begins
abbrev pub test_position : Program → (position : ℕ) → Block → ℕ
test_position program position body = position + 1 + block_size program body

-- where the handlers of a `try` begin, or those that follow a handler
abbrev pub handlers_position : Program → (position : ℕ) → Block → Handlers → ℕ
handlers_position program position block handlers = position + block_size program block + jump_size (jumps_after block handlers)

-- ---- code
-- `break` and `continue` go where the innermost loop says; code after a handler's body, where that ends normally, is at `end`
abbrev mutual
  pub statement_code : Program → Loop → (position : ℕ) → Statement → List Instruction
  statement_code program loop position (Placed at (Assign x e)) = value_code position e ++ store_of x ∷ []
  statement_code program loop position (Placed at (Clear slot)) = instruction.Clear slot ∷ []
  statement_code program loop position (Placed at (Store array length index e)) =
      value_code position index ++ (value_code (position + value_size index) e ++ store_element_of array ∷ [])
  statement_code program loop position (Placed at (Receive channel target)) = instruction.Receive channel ∷ kept_code target ∷ []
  statement_code program loop position (Placed at (Send channel e)) = value_code position e ++ instruction.Send channel ∷ []
  statement_code program loop position (Placed at (Call procedure arguments target)) =
      arguments_code position arguments
      ++ instruction.Call procedure ∷ result_code (procedure_at program procedure).result target
  statement_code program loop position (Placed at (If e then_block else_block)) =
      branch_code false position (no_position program position e then_block else_block) e
      ++ (block_code program loop (position + branch_size false e) then_block
      ++ (jump_code (jumps_over then_block else_block)
      (no_position program position e then_block else_block + block_size program else_block)
      ++ block_code program loop (no_position program position e then_block else_block) else_block))
  statement_code program loop position (Placed at (While number e body)) =
      instruction.Jump (test_position program position body)
      ∷ (block_code program
      (record { beyond = test_position program position body + branch_size true e; test = test_position program position body })
      (position + 1) body
      ++ branch_code true (test_position program position body) (position + 1) e)
  statement_code program loop position (Placed at (Leave exit)) = leave_code loop exit ∷ []
  statement_code program loop position (Placed at (ReturnWith e)) = return_code position e
  statement_code program loop position (Placed at (Try block handlers)) =
      block_code program loop position block
      ++ (jump_code (jumps_after block handlers)
      (handlers_position program position block handlers + handlers_size program handlers)
      ++ handlers_code program loop (handlers_position program position block handlers + handlers_size program handlers)
      (handlers_position program position block handlers) handlers)
  statement_code program loop position (Placed at (Nested block)) = block_code program loop position block

  pub block_code : Program → Loop → (position : ℕ) → Block → List Instruction
  block_code program loop position Empty = []
  block_code program loop position (Then statement rest) =
      statement_code program loop position statement
      ++ block_code program loop (position + statement_size program statement) rest

  pub handlers_code : Program → Loop → (end position : ℕ) → Handlers → List Instruction
  handlers_code program loop end position NoMore = []
  handlers_code program loop end position (Catch at exception body rest) =
      block_code program loop position body
      ++ (jump_code (jumps_after body rest) end
      ++ handlers_code program loop end (handlers_position program position body rest) rest)

-- ---- handlers
-- the entry of a catch: none where no instruction stands in the block
abbrev pub entry_of : (start end exception target : ℕ) → List Handler
entry_of start end exception target =
    if nat_lt start end then (record { start = start; end = end; exception = exception; target = target } ∷ []) else []

-- the entries of a block stand before those of the `try` that it belongs to
abbrev mutual
  pub statement_table : Program → (position : ℕ) → Statement → List Handler
  statement_table program position (Placed at (Assign x e)) = []
  statement_table program position (Placed at (Clear slot)) = []
  statement_table program position (Placed at (Store array length index e)) = []
  statement_table program position (Placed at (Receive channel target)) = []
  statement_table program position (Placed at (Send channel e)) = []
  statement_table program position (Placed at (Call procedure arguments target)) = []
  statement_table program position (Placed at (If e then_block else_block)) =
      block_table program (position + branch_size false e) then_block
      ++ block_table program (no_position program position e then_block else_block) else_block
  statement_table program position (Placed at (While number e body)) = block_table program (position + 1) body
  statement_table program position (Placed at (Leave exit)) = []
  statement_table program position (Placed at (ReturnWith e)) = []
  statement_table program position (Placed at (Try block handlers)) =
      block_table program position block
      ++ handlers_table program position (position + block_size program block)
      (handlers_position program position block handlers) handlers
  statement_table program position (Placed at (Nested block)) = block_table program position block

  pub block_table : Program → (position : ℕ) → Block → List Handler
  block_table program position Empty = []
  block_table program position (Then statement rest) =
      statement_table program position statement
      ++ block_table program (position + statement_size program statement) rest

  pub handlers_table : Program → (start end position : ℕ) → Handlers → List Handler
  handlers_table program start end position NoMore = []
  handlers_table program start end position (Catch at exception body rest) =
      entry_of start end exception position
      ++ (block_table program position body
      ++ handlers_table program start end (handlers_position program position body rest) rest)
