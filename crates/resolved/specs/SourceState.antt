-- The world in which a program runs, its state, and the value of an expression in a state.
-- Source: our own; the big-step meaning of expressions of textbooks, with exceptions.
use Rattle.common.specs.Functions.{updated}
use Rattle.common.specs.Results.{◌>>=◌}
use Rattle.std.specs.Prelude.{ℕ, List, [], ◌∷◌, ℤ, map, slice_index_or, slice_set, ok_or, if◌then◌else◌}
use Rattle.common.specs.declared.sent.Pair.{Pair}
use Rattle.resolved.specs.declared.expression.Variable.{Variable}
use Rattle.resolved.specs.declared.expression.Variable.TheVariants.{Global, Local}
use Rattle.common.specs.declared.base_type.BaseType.TheVariants.{Int}
use Rattle.common.specs.declared.value.Value.{Value}
use Rattle.common.specs.declared.value.Value.TheVariants as value
use Rattle.resolved.specs.Tree.{Expression, Integer, Logical, Read, Element, Unary, Binary, Short}
use Rattle.common.specs.Values.{zero_of, kind_of}
use Rattle.common.specs.Operators.{prefix_value, operator_value}
use Rattle.common.specs.declared.exceptions.TheConstants.{ARITH}
use Rattle.resolved.specs.Value.{Evaluated, Yields, literal_number, decides, checked_index}

-- a world: the numbers of each input channel
abbrev pub World : Type 0
World = ℕ → List ℤ

-- a state: the cells of each global and of each slot of the current frame, a scalar being a list of one; the numbers that are
-- left of each input; and the pairs sent so far
pub record SourceState : Type 0 where
  pub globals : ℕ → List Value
  pub locals : ℕ → List Value
  pub inputs : World
  pub sent : List Pair

-- the cells of a variable
abbrev pub cells : SourceState → Variable → List Value
cells s (Global n) = s.globals n
cells s (Local n) = s.locals n

abbrev pub with_cells : SourceState → Variable → List Value → SourceState
with_cells s (Global n) values = record s { globals = updated s.globals n values }
with_cells s (Local n) values = record s { locals = updated s.locals n values }

-- the value of an expression, or the exception of the first part that raises one, left operands first: an operator without a value
-- raises `Arith`. A cell that is read is there in every well-formed program
abbrev pub value_of : SourceState → Expression → Evaluated Value
value_of s (Integer n) = Yields (value.Int (literal_number n))
value_of s (Logical b) = Yields (value.Bool b)
value_of s (Read x) = Yields (slice_index_or (cells s x) 0 (zero_of Int))
value_of s (Element array length index) = do
  v ← value_of s index
  i ← checked_index v length
  Yields (slice_index_or (cells s array) i (zero_of Int))
value_of s (Unary prefix e) = value_of s e >>= λ v. Yields (prefix_value prefix v)
value_of s (Binary operator d e) = do
  v ← value_of s d
  w ← value_of s e
  ok_or (operator_value operator v w) ARITH
value_of s (Short connective d e) = value_of s d >>= λ v. if decides connective v then Yields v else value_of s e

-- the values of arguments, from the left
abbrev pub values_of : SourceState → List Expression → Evaluated (List Value)
values_of s [] = Yields []
values_of s (e ∷ rest) = do
  v ← value_of s e
  vs ← values_of s rest
  Yields (v ∷ vs)

-- ---- parts of the meaning of statements, by which proofs speak of them

-- a cell of a list, which in a well-formed program is there
abbrev pub cell_at : List Value → ℕ → Value
cell_at values i = slice_index_or values i (zero_of Int)

-- a state in which a scalar has another value, and one in which an element has
abbrev pub assigned : SourceState → Variable → Value → SourceState
assigned s x v = with_cells s x (v ∷ [])

abbrev pub stored : SourceState → Variable → ℕ → Value → SourceState
stored s array i v = with_cells s array (slice_set (cells s array) i v)

-- a state in which all elements of a local array are 0 or `false`
abbrev pub cleared : SourceState → ℕ → SourceState
cleared s slot = with_cells s (Local slot) (map (λ v. zero_of (kind_of v)) (s.locals slot))
