-- What the worked cases are written with. Their programs stand under the principals Alice, Bob and Carol, of whom Carol acts for
-- Bob, with the channels `input{Alice:} s; input{} q; output{} pub;` and one declared exception, `Oops`.
use Rattle.std.proofs.Common.{ℕ, List, [], ◌∷◌, ◌++◌, Bool, true, false, ◌==◌}
use Rattle.std.specs.Prelude.{ℤ, Some, None, slice_index_or, if◌then◌else◌}
use Rattle.std.specs.List.{list_all}
use Rattle.principals.specs.ActsFor.{PrincipalHierarchy}
use Rattle.labels.specs.Label.{Label}
use Rattle.lattices.specs.Constraints.{holds}
use Rattle.labels.specs.LabelLattice.{label_lattice}
use Rattle.common.specs.declared.sent.Pair.{Pair}
use Rattle.common.specs.declared.base_type.BaseType.TheVariants.{Int}
use Rattle.resolved.specs.declared.expression.Variable.TheVariants.{Local}
use Rattle.common.specs.declared.operator.Operator.TheVariants.{Compare}
use Rattle.common.specs.declared.operator.Comparison.TheVariants.{Ordered}
use Rattle.common.specs.declared.operator.Order.TheVariants.{GreaterThan}
use Rattle.common.specs.declared.operator.Prefix.TheVariants.{Negate}
use Rattle.common.specs.declared.direction.Direction.TheVariants.{Input, Output}
use Rattle.resolved.specs.declared.statement.Exit.TheVariants.{Normal, Throw}
use Rattle.resolved.specs.Tree.{Expression, Integer, Unary, Binary, Statement, Placed, Assign, Receive, Send, If, While, Try, Block, Empty, Then, Handlers, NoMore, Catch}
use Rattle.resolved.specs.Program.{Program, ProcedureEntry, ThrownEntry, GlobalEntry, SlotEntry}
use Rattle.resolved.specs.SourceState.{World}
use Rattle.resolved.specs.Meaning.{Outcome, Ended, Stopped, Stop, run_within, state_after}
use Rattle.resolved.specs.declared.statement.Exit.{Exit}
use Rattle.resolved.specs.Labelled.{Demand, Labelling, OfLocal, OfLoop, rule_of, program_demands}
pub use Rattle.resolved.specs.Precise.{secret as alice, int_slot, oops, local as var}

abbrev pub three_principals : PrincipalHierarchy
three_principals = record { names = (65 ∷ []) ∷ (66 ∷ []) ∷ (67 ∷ []) ∷ []; pairs = (2, 1) ∷ [] }

-- {Bob:} and {Alice: Bob}
abbrev pub bob : Label
bob = record { owner = 1; readers = [] } ∷ []

abbrev pub alice_to_bob : Label
alice_to_bob = record { owner = 0; readers = 1 ∷ [] } ∷ []

-- exceptions
abbrev pub arith : ℕ
arith = 0

abbrev pub bounds : ℕ
bounds = 1

abbrev pub end : ℕ
end = 2

-- channels
abbrev pub s_channel : ℕ
s_channel = 0

abbrev pub q_channel : ℕ
q_channel = 1

abbrev pub pub_channel : ℕ
pub_channel = 2

-- slots of a frame: an `int` without a label, and an array
abbrev pub unlabelled_slot : SlotEntry
unlabelled_slot = record { base = Int; size = None; written = None; at = 0; name = [] }

abbrev pub array_slot : (length : ℕ) → Label → SlotEntry
array_slot length label = record { base = Int; size = Some length; written = Some label; at = 0; name = [] }

-- expressions and statements
abbrev pub int : ℕ → Expression
int n = Integer n

abbrev pub minus : ℕ → Expression
minus n = Unary Negate (Integer n)

abbrev pub set_to : ℕ → Expression → Statement
set_to n e = Placed 0 (Assign (Local n) e)

abbrev pub send_public : Expression → Statement
send_public e = Placed 0 (Send pub_channel e)

abbrev pub positive : Expression → Expression
positive e = Binary (Compare (Ordered GreaterThan)) e (Integer 0)

abbrev pub block : List Statement → Block
block [] = Empty
block (statement ∷ rest) = Then statement (block rest)

-- one handler
abbrev pub on : (exception : ℕ) → List Statement → Handlers
on exception statements = Catch 0 exception (block statements) NoMore

abbrev pub try_to : List Statement → Handlers → Statement
try_to statements handlers = Placed 0 (Try (block statements) handlers)

abbrev pub if_then : Expression → List Statement → Statement
if_then e statements = Placed 0 (If e (block statements) Empty)

abbrev pub while_loop : Expression → List Statement → Statement
while_loop e statements = Placed 0 (While 0 e (block statements))

-- `int{Alice:} x = 0; try { x = receive s; } catch (End) { }` in slot 0
abbrev pub receive_secret : List Statement
receive_secret = set_to 0 (int 0) ∷ try_to (Placed 0 (Receive s_channel (Some (Local 0))) ∷ []) (on end []) ∷ []

-- a procedure without value and parameters, and its variants
abbrev pub procedure : List SlotEntry → List Statement → ProcedureEntry
procedure slots statements = record {
  at = 0;
  name = [];
  result = None;
  begin_label = [];
  end_label = [];
  throws = [];
  parameters = 0;
  slots = slots;
  loops = 1;
  body = block statements;
}

abbrev pub thrown : (exception : ℕ) → Label → List ThrownEntry
thrown exception label = record { exception = exception; label = label } ∷ []

-- a program by its procedures, `main` being the first
abbrev pub program_with : List GlobalEntry → List ProcedureEntry → Program
program_with globals procedures = record {
  hierarchy = three_principals;
  channels = record { direction = Input; name = []; label = alice }
      ∷ record { direction = Input; name = []; label = [] }
      ∷ record { direction = Output; name = []; label = [] } ∷ [];
  exceptions = (79 ∷ []) ∷ [];
  globals = globals;
  procedures = procedures;
  main = 0;
}

abbrev pub program : List ProcedureEntry → Program
program procedures = program_with [] procedures

-- a program that is `main` alone
abbrev pub main_program : List SlotEntry → List Statement → Program
main_program slots statements = program (procedure slots statements ∷ [])

-- the same after `int{Alice:} x = 0; try { x = receive s; } catch (End) { }`, with further slots after that of x
abbrev pub secret_program : List SlotEntry → List Statement → Program
secret_program slots statements = main_program (int_slot alice ∷ slots) (receive_secret ++ statements)

-- worlds: no input, and these numbers in s
abbrev pub silence : World
silence channel = []

abbrev pub secret : List ℤ → World
secret numbers channel = if channel == s_channel then numbers else []

-- the numbers that were sent, and how a run ended
abbrev pub numbers_of : List Pair → List ℤ
numbers_of [] = []
numbers_of (pair ∷ rest) = pair.number ∷ numbers_of rest

pub data End : Type 0 where
  finished : End
  threw : ℕ → End
  stopped : Stop → End
  other : End

abbrev pub end_of : Outcome → End
end_of (Ended Normal returned s) = finished
end_of (Ended (Throw exception) returned s) = threw exception
end_of (Ended _ returned s) = other
end_of (Stopped stop s) = stopped stop

-- what a run sends and how it ends, with this many frames and so much fuel
abbrev pub run : (frames k : ℕ) → Program → World → List ℤ × End
run frames k p world =
    (numbers_of (state_after (run_within frames p world k)).sent, end_of (run_within frames p world k))

-- a labelling in which the locals and the loops of each procedure have these labels
abbrev pub labels_are : List Label → List Label → Labelling
labels_are locals loops (OfLocal f n) = slice_index_or locals n []
labels_are locals loops (OfLoop f n) = slice_index_or loops n []

-- nothing is left to choose
abbrev pub all_written : Labelling
all_written unwritten = []

-- a loop's label to choose
abbrev pub loop_is : Label → Labelling
loop_is label (OfLocal f n) = []
loop_is label (OfLoop f n) = label

-- a local's label to choose
abbrev pub locals_are : Label → Labelling
locals_are label (OfLocal f n) = label
locals_are label (OfLoop f n) = []

-- whether a program fits a labelling
abbrev pub fits : Program → Labelling → Bool
fits p labelling = list_all (λ (d : Demand). holds (label_lattice p.hierarchy) labelling d) (program_demands p)

-- the possible exits of a statement of the first procedure
abbrev pub exits_of : Program → Statement → List Exit
exits_of p statement = (rule_of (record { program = p; number = 0 }) false true [] statement).exits
