-- Where programs use the operators on bits.
-- Source: our own.
use Rattle.std.specs.Prelude.{List, Bool, true, false, Some, None, ◌||◌}
use Rattle.std.specs.List.{list_any}
use Rattle.common.specs.declared.operator.Operator.{Operator}
use Rattle.common.specs.declared.operator.Operator.TheVariants.{Compute}
use Rattle.common.specs.declared.operator.Arithmetic.TheVariants.{Bits}
use Rattle.resolved.specs.Tree.{Expression, Integer, Logical, Read, Element, Unary, Binary, Short, Statement, Placed, Assign, Clear, Store, Receive, Send, Call, If, While, Leave, ReturnWith, Try, Nested, Block, Empty, Then, Handlers, NoMore, Catch}
use Rattle.resolved.specs.Program.{Program, ProcedureEntry}
use Rattle.resolved.specs.Labelled.{program_judgement}

abbrev pub is_bit_operator : Operator → Bool
is_bit_operator (Compute (Bits operator)) = true
is_bit_operator other = false

-- whether one is in an expression
abbrev pub expression_uses_bits : Expression → Bool
expression_uses_bits (Integer n) = false
expression_uses_bits (Logical b) = false
expression_uses_bits (Read x) = false
expression_uses_bits (Element array length index) = expression_uses_bits index
expression_uses_bits (Unary prefix e) = expression_uses_bits e
expression_uses_bits (Binary operator d e) = is_bit_operator operator || expression_uses_bits d || expression_uses_bits e
expression_uses_bits (Short connective d e) = expression_uses_bits d || expression_uses_bits e

-- whether a program uses one somewhere
abbrev pub uses_bits : Program → Bool
uses_bits program = list_any expression_uses_bits (program_judgement program).expressions

-- ---- the same by a walk over the statements alone, as code goes; that both agree is a law (`parts_are_those_of_the_rules`)

-- whether one is in a statement, a block or handlers
abbrev mutual
  pub statement_uses_bits : Statement → Bool
  statement_uses_bits (Placed at (Assign x e)) = expression_uses_bits e
  statement_uses_bits (Placed at (Clear slot)) = false
  statement_uses_bits (Placed at (Store array length index e)) = expression_uses_bits index || expression_uses_bits e
  statement_uses_bits (Placed at (Receive channel target)) = false
  statement_uses_bits (Placed at (Send channel e)) = expression_uses_bits e
  statement_uses_bits (Placed at (Call procedure arguments target)) = list_any expression_uses_bits arguments
  statement_uses_bits (Placed at (If e then_block else_block)) = expression_uses_bits e || block_uses_bits then_block || block_uses_bits else_block
  statement_uses_bits (Placed at (While loop e body)) = expression_uses_bits e || block_uses_bits body
  statement_uses_bits (Placed at (Leave exit)) = false
  statement_uses_bits (Placed at (ReturnWith None)) = false
  statement_uses_bits (Placed at (ReturnWith (Some e))) = expression_uses_bits e
  statement_uses_bits (Placed at (Try block handlers)) = block_uses_bits block || handlers_use_bits handlers
  statement_uses_bits (Placed at (Nested block)) = block_uses_bits block

  pub block_uses_bits : Block → Bool
  block_uses_bits Empty = false
  block_uses_bits (Then statement rest) = statement_uses_bits statement || block_uses_bits rest

  pub handlers_use_bits : Handlers → Bool
  handlers_use_bits NoMore = false
  handlers_use_bits (Catch at handled body rest) = block_uses_bits body || handlers_use_bits rest

abbrev pub procedures_use_bits : List ProcedureEntry → Bool
procedures_use_bits procedures = list_any (λ (procedure : ProcedureEntry). block_uses_bits procedure.body) procedures
