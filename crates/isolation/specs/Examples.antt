-- Programs that show what the laws are about: one that is labelled and sends what it received, the same with another label on its
-- output, which is refused, and one of which two runs that agree for a principal show it lists of different lengths.
-- Source: our own.
use Rattle.std.specs.Prelude.{ℕ, zero, suc, List, [], ◌∷◌, ℤ, Some, None}
use Rattle.principals.specs.ActsFor.{PrincipalHierarchy}
use Rattle.common.specs.declared.sent.Pair.{Pair}
use Rattle.labels.specs.Label.{Label}
use Rattle.labels.specs.Sent.{pairs_for}
use Rattle.common.specs.declared.base_type.BaseType.TheVariants.{Int}
use Rattle.resolved.specs.declared.expression.Variable.TheVariants.{Local}
use Rattle.common.specs.declared.operator.Operator.TheVariants.{Compare}
use Rattle.common.specs.declared.operator.Comparison.TheVariants.{Ordered}
use Rattle.common.specs.declared.operator.Order.TheVariants.{GreaterThan}
use Rattle.common.specs.declared.direction.Direction.TheVariants.{Input, Output}
use Rattle.resolved.specs.Tree.{Integer, Read, Binary, Placed, Assign, Receive, Send, While, Try, Block, Empty, Then, NoMore, Catch}
use Rattle.resolved.specs.Program.{Program, ThrownEntry}
use Rattle.common.specs.declared.exceptions.TheConstants.{END}
use Rattle.resolved.specs.SourceState.{World}
use Rattle.resolved.specs.Meaning.{sent_by}
use Rattle.resolved.specs.Labelled.{channel_label}

-- `principal Alice, Bob;`
abbrev pub two_principals : PrincipalHierarchy
two_principals = record { names = (65 ∷ []) ∷ (66 ∷ []) ∷ []; pairs = [] }

abbrev pub bob : ℕ
bob = 1

-- the label `{Alice:}`
abbrev pub for_alice : Label
for_alice = record { owner = 0; readers = [] } ∷ []

-- a program with the channels `input{Alice:} s; output OUT out;` and `main` alone, whose one slot is `int{Alice:} x`
abbrev pub program_with : (out : Label) → List ThrownEntry → (end_label : Label) → Block → Program
program_with out throws end_label body = record {
  hierarchy = two_principals;
  channels = record { direction = Input; name = 115 ∷ []; label = for_alice }
      ∷ record { direction = Output; name = 111 ∷ []; label = out } ∷ [];
  exceptions = [];
  globals = [];
  procedures = record {
    at = 0;
    name = 109 ∷ [];
    result = None;
    begin_label = [];
    end_label = end_label;
    throws = throws;
    parameters = 0;
    slots = record { base = Int; size = None; written = Some for_alice; at = 0; name = 120 ∷ [] } ∷ [];
    loops = 1;
    body = body;
  } ∷ [];
  main = 0;
}

-- `void main() throws (End{Alice:}) { int{Alice:} x = receive s; send out, x; }`
abbrev pub relay : (out : Label) → Program
relay out = program_with out (record { exception = END; label = for_alice } ∷ []) for_alice
    (Then (Placed 0 (Receive 0 (Some (Local 0)))) (Then (Placed 0 (Send 1 (Read (Local 0)))) Empty))

-- `void main() { int{Alice:} x = 0; try { x = receive s; } catch (End) { } while (x > 0) { } send out, 1; }`, with `output{} out;`
abbrev pub waiting : Program
waiting = program_with [] [] []
    (Then (Placed 0 (Assign (Local 0) (Integer 0)))
    (Then (Placed 0 (Try (Then (Placed 0 (Receive 0 (Some (Local 0)))) Empty) (Catch 0 END Empty NoMore)))
    (Then (Placed 0 (While 0 (Binary (Compare (Ordered GreaterThan)) (Read (Local 0)) (Integer 0)) Empty))
    (Then (Placed 0 (Send 1 (Integer 1))) Empty))))

-- the world in which one number comes on s
abbrev pub comes : ℤ → World
comes z zero = z ∷ []
comes z (suc channel) = []

-- one pair on out
abbrev pub sends : ℤ → List Pair
sends z = record { channel = 1; number = z } ∷ []

-- what Bob sees of the waiting program with fuel k
abbrev pub bob_sees : World → (k : ℕ) → List Pair
bob_sees world k = pairs_for two_principals (channel_label waiting) bob (sent_by waiting world k)
