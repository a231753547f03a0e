-- What evaluation comes to, literals, connectives and indexes.
-- Source: our own language; whole numbers reduced to 32 bits.
use Rattle.common.specs.Operators.{wrapped, operator_value}
use Rattle.common.specs.Results.{◌>>=◌}
use Rattle.common.specs.Values.{number_in, truth_in}
use Rattle.std.specs.Prelude.{ℕ, Bool, false, not, ℤ, pos, negsuc, nat_abs, nat_lt, Option, option_map, ok_or, Result, if◌then◌else◌}
pub use Rattle.std.specs.Prelude.{Ok as Yields, Err as Raises}
use Rattle.common.specs.declared.exceptions.TheConstants.{ARITH, BOUNDS}
use Rattle.common.specs.declared.value.Value.{Value}
use Rattle.common.specs.declared.value.Value.TheVariants as value
use Rattle.common.specs.declared.operator.Operator.{Operator}
use Rattle.common.specs.declared.operator.Connective.{Connective}
use Rattle.common.specs.declared.operator.Connective.TheVariants.{And, Or}

-- what evaluation comes to: it yields a result, or raises an exception
abbrev pub Evaluated : Type 0 → Type 0
Evaluated A = Result A ℕ

-- the number that a literal means
abbrev pub literal_number : ℕ → ℤ
literal_number n = wrapped (pos n)

-- whether the left operand alone decides: `false` does for `&&` and `true` for `||`, and then it is the result
abbrev pub decides : Connective → Value → Bool
decides And v = not (truth_in v)
decides Or v = truth_in v

-- whether a number is an index of an array of this length
abbrev pub in_range : ℤ → ℕ → Bool
in_range (pos i) length = nat_lt i length
in_range (negsuc i) length = false

-- an index that is in range, or `Bounds`
abbrev pub checked_index : Value → ℕ → Evaluated ℕ
checked_index v length = if in_range (number_in v) length then Yields (nat_abs (number_in v)) else Raises BOUNDS

-- ---- parts, by which proofs speak of them

-- goes on with a result; an exception stays
abbrev pub then_with : {A B : Type 0} → Evaluated A → (A → Evaluated B) → Evaluated B
then_with first next = first >>= next

-- an operator on both its operands; where they have no result, it raises `Arith`
abbrev pub operator_evaluated : Operator → Value → Value → Evaluated Value
operator_evaluated operator v w = ok_or (operator_value operator v w) ARITH

-- a number, or `Arith` where there is none
abbrev pub or_arith : Option ℤ → Evaluated Value
or_arith found = ok_or (option_map value.Int found) ARITH
