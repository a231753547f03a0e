-- The code of a program that is within the limits is within those of the machine: it is not longer than four times the program's nodes.
use Rattle.std.proofs.Common.{◌≡◌, ◌+◌, ◌*◌, ◌^◌, ◌<◌, ◌≤◌, ◌∙◌, ap, List, [], ◌∷◌, ◌++◌, All, Bool, true, false, get_or, length, length-append, arith}
use Rattle.std.specs.Prelude.{IsTrue, Option, Some, None, not, sum_by}
use Rattle.std.proofs.lemmas.Bool.{leb-true}
use Rattle.std.proofs.lemmas.List.Sums.{get_or-le-sum_by, sum_by-cons}
use Rattle.resolved.proofs.WellFormedParts.{program_parts}
use Rattle.common.specs.declared.operator.Prefix.TheVariants as prefix
use Rattle.resolved.specs.Tree.{Expression, Integer, Logical, Read, Element, Unary, Binary, Short, Statement, Placed, Assign, Clear, Store, Receive, Send, Call, If, While, Leave, ReturnWith, Try, Nested, Block, Empty, Then, Handlers, NoMore, Catch}
use Rattle.resolved.specs.Program.{Program, ProcedureEntry, ResultEntry, procedure_at}
use Rattle.resolved.specs.WellFormed.{expression_nodes, some_nodes, statement_nodes, block_nodes, handlers_nodes, procedure_nodes, program_nodes, node_limit, well_formed}
use Rattle.lowering.specs.Expressions.{value_size, arguments_size, branch_size, deciding}
use Rattle.modules.specs.declared.instruction.Instruction.{Instruction}
use Rattle.lowering.specs.Code.{Loop, block_code, jump_size, jumps_over, jumps_after, result_size, return_size, statement_size, block_size, handlers_size}
use Rattle.lowering.specs.Graphs.{end_code}
use Rattle.lowering.proofs.Sizes.{block-sized}

value-room : (e : Expression) → value_size e ≤ 4 * expression_nodes e
value-room (Integer n) = omega arith
value-room (Logical b) = omega arith
value-room (Read x) = omega arith
value-room (Element array n index) = omega (arith, value-room index)
value-room (Unary sign e) = omega (arith, value-room e)
value-room (Binary operator d e) = omega (arith, value-room d, value-room e)
value-room (Short connective d e) = omega (arith, value-room d, value-room e)

arguments-room : (es : List Expression) → arguments_size es ≤ 4 * sum_by expression_nodes es
arguments-room [] = omega arith
arguments-room (e ∷ rest) =
    let more : sum_by expression_nodes (e ∷ rest) ≡ expression_nodes e + sum_by expression_nodes rest = sum_by-cons expression_nodes e rest in
    omega (arith, more, value-room e, arguments-room rest)

branch-room : (e : Expression) (wanted : Bool) → branch_size wanted e ≤ 4 * expression_nodes e
branch-room (Integer n) true = omega arith
branch-room (Integer n) false = omega arith
branch-room (Logical b) true = omega arith
branch-room (Logical b) false = omega arith
branch-room (Read x) true = omega arith
branch-room (Read x) false = omega arith
branch-room (Element array n index) true = omega (arith, value-room index)
branch-room (Element array n index) false = omega (arith, value-room index)
branch-room (Unary prefix.Negate e) true = omega (arith, value-room e)
branch-room (Unary prefix.Negate e) false = omega (arith, value-room e)
branch-room (Unary prefix.Not e) wanted = omega (arith, branch-room e (not wanted))
branch-room (Binary operator d e) true = omega (arith, value-room d, value-room e)
branch-room (Binary operator d e) false = omega (arith, value-room d, value-room e)
branch-room (Short connective d e) wanted = omega (arith, branch-room d (deciding connective), branch-room e wanted)

jump-room : (wanted : Bool) → jump_size wanted ≤ 1
jump-room true = omega arith
jump-room false = omega arith

result-room : (result : Option ResultEntry) → result_size result ≤ 1
result-room None = omega arith
result-room (Some entry) = omega arith

return-room : (e : Option Expression) → return_size e ≤ 4 * some_nodes e + 1
return-room None = omega arith
return-room (Some e) = omega (arith, value-room e)

mutual
  statement-room : (program : Program) (statement : Statement) → statement_size program statement ≤ 4 * statement_nodes statement
  statement-room program (Placed at (Assign x e)) = omega (arith, value-room e)
  statement-room program (Placed at (Clear slot)) = omega arith
  statement-room program (Placed at (Store array n index e)) = omega (arith, value-room index, value-room e)
  statement-room program (Placed at (Receive channel target)) = omega arith
  statement-room program (Placed at (Send channel e)) = omega (arith, value-room e)
  statement-room program (Placed at (Call f arguments target)) = omega (arith, arguments-room arguments, result-room (procedure_at program f).result)
  statement-room program (Placed at (If e then_block else_block)) =
      omega (arith, branch-room e false, block-room program then_block, jump-room (jumps_over then_block else_block), block-room program else_block)
  statement-room program (Placed at (While number e body)) = omega (arith, block-room program body, branch-room e true)
  statement-room program (Placed at (Leave exit)) = omega arith
  statement-room program (Placed at (ReturnWith e)) = omega (arith, return-room e)
  statement-room program (Placed at (Try block handlers)) =
      omega (arith, block-room program block, jump-room (jumps_after block handlers), handlers-room program handlers)
  statement-room program (Placed at (Nested block)) = omega (arith, block-room program block)

  pub block-room : (program : Program) (block : Block) → block_size program block ≤ 4 * block_nodes block
  block-room program Empty = omega arith
  block-room program (Then statement rest) = omega (arith, statement-room program statement, block-room program rest)

  handlers-room : (program : Program) (handlers : Handlers) → handlers_size program handlers ≤ 4 * handlers_nodes handlers
  handlers-room program NoMore = omega arith
  handlers-room program (Catch at exception body rest) =
      omega (arith, block-room program body, jump-room (jumps_after body rest), handlers-room program rest)

-- the code of each procedure of a well-formed program
pub bodies-short : (program : Program) → IsTrue (well_formed program) → All (λ (p : ProcedureEntry). block_size program p.body + 1 < 2 ^ 32) program.procedures
bodies-short program formed k d inside =
    let procedure = get_or program.procedures k d in
    let few : program_nodes program ≤ node_limit = leb-true (program_nodes program) node_limit (program_parts program formed).nodes_fit in
    let least = get_or-le-sum_by procedure_nodes program.procedures k d inside in
    let room = block-room program procedure.body in
    let sum : 4 * block_nodes procedure.body ≤ 4194304 = omega (arith, few, least) in
    omega (arith, room, sum)

pub end-room : (falls : Bool) → length (end_code falls) ≤ 1
end-room true = omega arith
end-room false = omega arith

-- a body with the return after it
pub body-short : (program : Program) (loop : Loop) (body : Block) (falls : Bool) (none code whole read : List Instruction) → block_size program body + 1 < 2 ^ 32
    → none ≡ [] → code ≡ none ++ block_code program loop (length none) body → whole ≡ code ++ end_code falls → read ≡ whole → length read < 2 ^ 32
body-short program loop body falls none code whole read few empty made ended same =
    let nothing : length none ≡ 0 = ap length empty in
    let first : length code ≡ length none + block_size program body =
    ap length made ∙ length-append none (block_code program loop (length none) body) ∙ ap (λ n. length none + n) (block-sized program loop (length none) body) in
    let all : length read ≡ length code + length (end_code falls) = ap length (same ∙ ended) ∙ length-append code (end_code falls) in
    omega (arith, few, nothing, first, all, end-room falls)
