-- The kind of a value, and the number or the truth in it.
-- Source: our own.
use Rattle.std.specs.Prelude.{Bool, false, ℤ, pos}
use Rattle.common.specs.declared.base_type.BaseType.{BaseType}
use Rattle.common.specs.declared.base_type.BaseType.TheVariants as kind
use Rattle.common.specs.declared.value.Value.{Value}
use Rattle.common.specs.declared.value.Value.TheVariants as value

abbrev pub kind_of : Value → BaseType
kind_of (value.Int n) = kind.Int
kind_of (value.Bool b) = kind.Boolean

-- what cells of a kind hold at first: 0 or `false`
abbrev pub zero_of : BaseType → Value
zero_of kind.Int = value.Int (pos 0)
zero_of kind.Boolean = value.Bool false

-- the number or the truth in a value; of the other kind, which no well-formed program and no verified module meets, 0 and `false`
abbrev pub number_in : Value → ℤ
number_in (value.Int n) = n
number_in (value.Bool b) = pos 0

abbrev pub truth_in : Value → Bool
truth_in (value.Int n) = false
truth_in (value.Bool b) = b
