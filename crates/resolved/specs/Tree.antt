-- The resolved tree: a program of the whole language in which names are numbers.
-- Source: our own language; statements with several exits as in JFlow (Myers 1999).
use Rattle.std.specs.Prelude.{ℕ, Bool, List, Option}
use Rattle.resolved.specs.declared.expression.Variable.{Variable}
use Rattle.common.specs.declared.operator.Prefix.{Prefix}
use Rattle.common.specs.declared.operator.Operator.{Operator}
use Rattle.common.specs.declared.operator.Connective.{Connective}
use Rattle.resolved.specs.declared.statement.Exit.{Exit}

-- an expression; an element has its array, the array's declared length, and the index
pub data Expression : Type 0 where
  Integer : (literal : ℕ) → Expression
  Logical : Bool → Expression
  Read : Variable → Expression
  Element : (array : Variable) (length : ℕ) → Expression → Expression
  Unary : Prefix → Expression → Expression
  Binary : Operator → Expression → Expression → Expression
  Short : Connective → Expression → Expression → Expression

-- statements, blocks and handlers. A statement begins with the byte at which its first token begins in the source, a handler
-- with that of its exception's name. A channel, a procedure, an exception and the slot of a local array are numbers. A loop has
-- its number among the loops of its procedure, in the order of the text. Exceptions 0, 1 and 2 are `Arith`, `Bounds` and `End`.
mutual
  pub data Statement : Type 0 where
    Placed : (at : ℕ) → StatementForm → Statement

  pub data StatementForm : Type 0 where
    -- `x = e;`, also as a declaration
    Assign : Variable → Expression → StatementForm
    -- the declaration of a local array
    Clear : (slot : ℕ) → StatementForm
    -- `a[i] = e;`
    Store : (array : Variable) (length : ℕ) (index value : Expression) → StatementForm
    -- `x = receive c;` or, without a target, `receive c;`
    Receive : (channel : ℕ) (target : Option Variable) → StatementForm
    -- `send c, e;`
    Send : (channel : ℕ) → Expression → StatementForm
    -- `x = f(..);` or, without a target, `f(..);`
    Call : (procedure : ℕ) (arguments : List Expression) (target : Option Variable) → StatementForm
    If : Expression → Block → Block → StatementForm
    While : (loop : ℕ) → Expression → Block → StatementForm
    -- `break;`, `continue;` or `throw E;`
    Leave : Exit → StatementForm
    -- `return e;` or `return;`
    ReturnWith : Option Expression → StatementForm
    Try : Block → Handlers → StatementForm
    Nested : Block → StatementForm

  pub data Block : Type 0 where
    Empty : Block
    Then : Statement → Block → Block

  pub data Handlers : Type 0 where
    NoMore : Handlers
    Catch : (at exception : ℕ) (body : Block) → Handlers → Handlers
