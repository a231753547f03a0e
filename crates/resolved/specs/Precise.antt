-- Programs that the rules of labels accept, each of which a rule that is stricter by a little would refuse: what an expression that
-- raises nothing may leave open, a call of a procedure that declares no exception, a procedure that ends normally or by a return, and
-- a handler of an exception that one statement alone raises.
-- Source: our own; a label for each exit as in JFlow (Myers 1999).
use Rattle.std.specs.Prelude.{◌≡◌, ℕ, List, [], ◌∷◌, Some, None, IsTrue}
use Rattle.labels.specs.Label.{Label}
use Rattle.common.specs.declared.base_type.BaseType.TheVariants.{Int, Boolean}
use Rattle.common.specs.declared.operator.Connective.TheVariants.{And}
use Rattle.common.specs.declared.operator.Operator.TheVariants.{Compute, Compare}
use Rattle.common.specs.declared.operator.Arithmetic.TheVariants.{Divide}
use Rattle.common.specs.declared.operator.Comparison.TheVariants.{Ordered, Matched}
use Rattle.common.specs.declared.operator.Order.TheVariants.{LessThan, GreaterThan}
use Rattle.common.specs.declared.operator.Sameness.TheVariants.{Same}
use Rattle.resolved.specs.declared.expression.Variable.TheVariants.{Local}
use Rattle.resolved.specs.declared.statement.Exit.TheVariants.{Throw}
use Rattle.common.specs.declared.direction.Direction.TheVariants.{Output}
use Rattle.resolved.specs.Tree.{Expression, Integer, Read, Binary, Short, Statement, Placed, Assign, Send, Call, If, Leave, ReturnWith, Try, Block, Empty, Then, NoMore, Catch}
use Rattle.common.specs.declared.exceptions.TheConstants.{ARITH}
use Rattle.resolved.specs.Program.{Program, ProcedureEntry, SlotEntry}
use Rattle.resolved.specs.WellFormed.{well_formed}
use Rattle.resolved.specs.Labelled.{Labelled, exit_faults}

-- a program that is well formed, has no fault of its exits, and is labelled
pub record IsAcceptable (program : Program) : Type 0 where
  pub formed : IsTrue (well_formed program)
  pub ended : exit_faults program ≡ []
  pub labelled : Labelled program

-- the label `{Alice:}`
abbrev pub secret : Label
secret = record { owner = 0; readers = [] } ∷ []

abbrev pub int_slot : Label → SlotEntry
int_slot label = record { base = Int; size = None; written = Some label; at = 0; name = [] }

-- a procedure without a value and without exceptions, whose begin label is empty
abbrev pub procedure : (end_label : Label) → (parameters : ℕ) → List SlotEntry → Block → ProcedureEntry
procedure end_label parameters slots body = record {
  at = 0;
  name = [];
  result = None;
  begin_label = [];
  end_label = end_label;
  throws = [];
  parameters = parameters;
  slots = slots;
  loops = 0;
  body = body;
}

-- `main` and another procedure, under `principal Alice;`, `output{} pub;` and `exception Oops;`
abbrev pub program_with : (main other : ProcedureEntry) → Program
program_with main other = record {
  hierarchy = record { names = (65 ∷ []) ∷ []; pairs = [] };
  channels = record { direction = Output; name = []; label = [] } ∷ [];
  exceptions = (79 ∷ []) ∷ [];
  globals = [];
  procedures = main ∷ other ∷ [];
  main = 0;
}

abbrev pub oops : ℕ
oops = 3

abbrev pub nothing_else : ProcedureEntry
nothing_else = procedure [] 0 [] Empty

abbrev pub local : ℕ → Expression
local n = Read (Local n)

-- `send pub, 1;`
abbrev pub send_one : Statement
send_one = Placed 0 (Send 0 (Integer 1))

-- `int{} y = 3; int{Alice:} x = 0; try { boolean{Alice:} b = 1 / y == x && x < 9; send pub, 1; } catch (Arith) { }`: the division
-- raises, by y alone. The right side of `&&` raises nothing, so whether it is evaluated, which x decides, leaves no trace
abbrev pub short_circuit : Program
short_circuit = program_with
    (procedure [] 0
    (int_slot [] ∷ int_slot secret ∷ record { base = Boolean; size = None; written = Some secret; at = 0; name = [] } ∷ [])
    (Then (Placed 0 (Assign (Local 0) (Integer 3)))
    (Then (Placed 0 (Assign (Local 1) (Integer 0)))
    (Then (Placed 0 (Try
    (Then (Placed 0 (Assign (Local 2) (Short And
    (Binary (Compare (Matched Same)) (Binary (Compute Divide) (Integer 1) (local 0)) (local 1))
    (Binary (Compare (Ordered LessThan)) (local 1) (Integer 9)))))
    (Then send_one Empty))
    (Catch 0 ARITH Empty NoMore))) Empty))))
    nothing_else

-- `void f(int{} n) : {Alice:} { }` and `int{} y = 3; try { f(1 / y); send pub, 1; } catch (Arith) { }`: the argument raises, and f
-- declares no exception, so that it always ends normally and its end label says nothing
abbrev pub raising_argument : Program
raising_argument = program_with
    (procedure [] 0 (int_slot [] ∷ [])
    (Then (Placed 0 (Assign (Local 0) (Integer 3)))
    (Then (Placed 0 (Try
    (Then (Placed 0 (Call 1 (Binary (Compute Divide) (Integer 1) (local 0) ∷ []) None))
    (Then send_one Empty))
    (Catch 0 ARITH Empty NoMore))) Empty)))
    (procedure secret 1 (int_slot [] ∷ []) Empty)

-- `void g(int{Alice:} x) { if (x > 0) { return; } x = 1; }` and `g(5); send pub, 1;`: whether it returns or ends normally is secret,
-- and its caller sees the same of both
abbrev pub two_normal_exits : Program
two_normal_exits = program_with
    (procedure [] 0 [] (Then (Placed 0 (Call 1 (Integer 5 ∷ []) None)) (Then send_one Empty)))
    (procedure [] 1 (int_slot secret ∷ [])
    (Then (Placed 0 (If (Binary (Compare (Ordered GreaterThan)) (local 0) (Integer 0)) (Then (Placed 0 (ReturnWith None)) Empty) Empty))
    (Then (Placed 0 (Assign (Local 0) (Integer 1))) Empty)))

-- `int{} y = 3; int{Alice:} x = 0; try { y = 1 / y; if (x > 0) { throw Oops; } } catch (Arith) { send pub, 1; } catch (Oops) { }`: only
-- the division raises Arith, and it is reached and raises by what is public, though the block throws Oops by a secret
abbrev pub handler_of_one : Program
handler_of_one = program_with
    (procedure [] 0 (int_slot [] ∷ int_slot secret ∷ [])
    (Then (Placed 0 (Assign (Local 0) (Integer 3)))
    (Then (Placed 0 (Assign (Local 1) (Integer 0)))
    (Then (Placed 0 (Try
    (Then (Placed 0 (Assign (Local 0) (Binary (Compute Divide) (Integer 1) (local 0))))
    (Then (Placed 0 (If (Binary (Compare (Ordered GreaterThan)) (local 1) (Integer 0)) (Then (Placed 0 (Leave (Throw oops))) Empty) Empty)) Empty))
    (Catch 0 ARITH (Then send_one Empty)
    (Catch 0 oops Empty NoMore)))) Empty))))
    nothing_else
