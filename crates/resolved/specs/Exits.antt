-- What makes an exit of a statement possible: which exits there are, which exceptions an expression can raise, and what loops and
-- handlers take. The rules of statements give each its possible exits (`Labelled`).
-- Source: our own rules; several exits of a statement as in JFlow (Myers 1999).
use Rattle.std.specs.Prelude.{ℕ, List, [], ◌∷◌, ◌++◌, Bool, true, false, not, map, flat_map, filter, ◌==◌, ◌&&◌, ◌||◌, if◌then◌else◌, Some, None}
use Rattle.std.specs.List.{list_any, list_all}
use Rattle.common.specs.declared.operator.Prefix.TheVariants.{Negate}
use Rattle.common.specs.declared.operator.Operator.{Operator}
use Rattle.common.specs.declared.operator.Operator.TheVariants.{Compute}
use Rattle.common.specs.declared.operator.Arithmetic.TheVariants.{Divide, Remainder}
use Rattle.resolved.specs.declared.fault.ExitRefusalKind.{ExitRefusalKind}
use Rattle.common.specs.declared.refusal.RefusalAt.{RefusalAt}
use Rattle.resolved.specs.declared.statement.Exit.{Exit}
use Rattle.resolved.specs.declared.statement.Exit.TheVariants.{Normal, Return, Break, Continue, Throw}
use Rattle.resolved.specs.contracts.statement.ExitPartialEq.TheImpl.{eq-value}
use Rattle.resolved.specs.Tree.{Expression, Integer, Logical, Read, Element, Unary, Binary, Short, Statement, Placed, Assign, Clear, Store, Receive, Send, Call, If, While, Leave, ReturnWith, Try, Nested, Block, Empty, Then, Handlers, NoMore, Catch}
use Rattle.resolved.specs.Program.{Program, ThrownEntry, procedure_at}
use Rattle.resolved.specs.Value.{literal_number, in_range}
use Rattle.common.specs.Integers.{is_zero}
use Rattle.common.specs.declared.exceptions.TheConstants.{ARITH, BOUNDS, END}

-- whether two exits are the same
abbrev pub same_exit : Exit → Exit → Bool
same_exit one other = eq-value.it one other

-- whether an exit is among these
abbrev pub has_exit : List Exit → Exit → Bool
has_exit exits exit = list_any (same_exit exit) exits

-- whether these, which may name one several times, are one exit only
abbrev pub one_exit : List Exit → Bool
one_exit [] = false
one_exit (exit ∷ rest) = list_all (same_exit exit) rest

-- whether an index may be out of range: a literal is where it is not in range, and every other index may be
abbrev pub index_can_raise : Expression → (length : ℕ) → Bool
index_can_raise (Integer n) length = not (in_range (literal_number n) length)
index_can_raise other length = true

-- whether a divisor may be 0: a literal, or a minus sign before one, where it is 0, and every other divisor
abbrev pub divisor_can_raise : Expression → Bool
divisor_can_raise (Integer n) = is_zero (literal_number n)
divisor_can_raise (Unary Negate (Integer n)) = is_zero (literal_number n)
divisor_can_raise other = true

-- whether an operator divides
abbrev pub is_division : Operator → Bool
is_division (Compute Divide) = true
is_division (Compute Remainder) = true
is_division other = false

-- a list where a test holds, and none of it where it does not
abbrev pub list_if : {A : Type 0} → Bool → List A → List A
list_if test list = if test then list else []

-- the exceptions that an expression can raise: those of all its parts
abbrev pub raises : Expression → List ℕ
raises (Integer n) = []
raises (Logical b) = []
raises (Read x) = []
raises (Element array length index) = raises index ++ list_if (index_can_raise index length) (BOUNDS ∷ [])
raises (Unary prefix e) = raises e
raises (Binary operator d e) = raises d ++ raises e ++ list_if (is_division operator && divisor_can_raise e) (ARITH ∷ [])
raises (Short connective d e) = raises d ++ raises e

-- the exceptions that a procedure declares
abbrev pub declared_by : List ThrownEntry → List ℕ
declared_by entries = map (λ (entry : ThrownEntry). entry.exception) entries

-- the exceptions that handlers take
abbrev pub taken_by : Handlers → List Exit
taken_by NoMore = []
taken_by (Catch at handled body rest) = Throw handled ∷ taken_by rest

-- a fault, unless a test holds
abbrev pub fault_unless : Bool → ExitRefusalKind → (at : ℕ) → List (RefusalAt ExitRefusalKind)
fault_unless test kind at = if test then [] else (record { kind = kind; at = at } ∷ [])

-- ---- what the rules give of exits alone, by which code and proofs speak of them

-- the exits by exceptions
abbrev pub thrown_exits : List ℕ → List Exit
thrown_exits exceptions = map (λ exception. Throw exception) exceptions

-- the exceptions of an access with this index
abbrev pub index_raises : Expression → (length : ℕ) → List ℕ
index_raises index length = list_if (index_can_raise index length) (BOUNDS ∷ [])

-- the exceptions of an operator with this right operand
abbrev pub operator_raises : Operator → Expression → List ℕ
operator_raises operator e = list_if (is_division operator && divisor_can_raise e) (ARITH ∷ [])

-- whether an exit of a loop's body is one of the loop: every exit is but those that the loop takes
abbrev pub leaves_loop : Exit → Bool
leaves_loop exit = not (has_exit (Normal ∷ Break ∷ Continue ∷ []) exit)

-- whether one of the handlers takes an exception
abbrev pub handles : Handlers → (exception : ℕ) → Bool
handles NoMore exception = false
handles (Catch at handled body rest) exception = exception == handled || handles rest exception

-- whether an exit of the block of a `try` passes its handlers: every exit does but an exception that one of them takes
abbrev pub passes : Handlers → Exit → Bool
passes handlers (Throw exception) = not (handles handlers exception)
passes handlers other = true

-- the exits of a first part, its normal exit replaced by the exits of what follows
abbrev pub then_exits : List Exit → List Exit → List Exit
then_exits first rest = if has_exit first Normal then filter (λ exit. not (same_exit Normal exit)) first ++ rest else first

-- the possible exits of statements, blocks and handlers; one may be named several times
abbrev mutual
  pub statement_exits : Program → Statement → List Exit
  statement_exits program (Placed at (Assign x e)) = Normal ∷ thrown_exits (raises e)
  statement_exits program (Placed at (Clear slot)) = Normal ∷ []
  statement_exits program (Placed at (Store array length index e)) =
      Normal ∷ thrown_exits (raises index ++ raises e ++ index_raises index length)
  statement_exits program (Placed at (Receive channel target)) = Normal ∷ Throw END ∷ []
  statement_exits program (Placed at (Send channel e)) = Normal ∷ thrown_exits (raises e)
  statement_exits program (Placed at (Call procedure arguments target)) =
      Normal ∷ thrown_exits (flat_map raises arguments ++ declared_by (procedure_at program procedure).throws)
  statement_exits program (Placed at (If e then_block else_block)) =
      thrown_exits (raises e) ++ block_exits program then_block ++ block_exits program else_block
  statement_exits program (Placed at (While loop e body)) =
      Normal ∷ (thrown_exits (raises e) ++ filter leaves_loop (block_exits program body))
  statement_exits program (Placed at (Leave exit)) = exit ∷ []
  statement_exits program (Placed at (ReturnWith None)) = Return ∷ []
  statement_exits program (Placed at (ReturnWith (Some e))) = Return ∷ thrown_exits (raises e)
  statement_exits program (Placed at (Try block handlers)) =
      filter (passes handlers) (block_exits program block) ++ handlers_exits program handlers
  statement_exits program (Placed at (Nested block)) = block_exits program block

  pub block_exits : Program → Block → List Exit
  block_exits program Empty = Normal ∷ []
  block_exits program (Then statement rest) = then_exits (statement_exits program statement) (block_exits program rest)

  pub handlers_exits : Program → Handlers → List Exit
  handlers_exits program NoMore = []
  handlers_exits program (Catch at handled body rest) = block_exits program body ++ handlers_exits program rest
