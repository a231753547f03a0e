-- Private: the bytes that the functions that write add, value by value.
-- Source: our own.
use Rattle.std.specs.Prelude.{ℕ, ◌^◌, ◌<◌, List, [], ◌∷◌, ◌++◌, length, All, Option, Some, None, if◌then◌else◌}
use Rattle.std.specs.Int.{w32, cast_unsigned, to_be_bytes}
use Rattle.std.specs.List.{flat_map}
use Rattle.labels.specs.Label.{ReaderPolicy}
use Rattle.modules.specs.declared.declaration.Slot.{Slot}
use Rattle.modules.specs.declared.declaration.Global.{Global}
use Rattle.modules.specs.declared.declaration.Global.TheVariants as global
use Rattle.common.specs.declared.base_type.BaseType.{BaseType}
use Rattle.common.specs.declared.base_type.BaseType.TheVariants as kind
use Rattle.common.specs.declared.direction.Direction.{Direction}
use Rattle.common.specs.declared.direction.Direction.TheVariants.{Input, Output}
use Rattle.modules.specs.declared.declaration.Handler.{Handler}
use Rattle.labels.specs.Channel.{ChannelContents}
use Rattle.modules.specs.Contents.{ProcedureContents, ModuleContents}
use Rattle.modules.specs.Opcodes.{code_bytes}
use Rattle.modules.specs.Format.{slot_fields, version_number}
use Rattle.modules.specs.FormatParts.{magic}

-- the bytes of what is one of a few: the number of its place among them
abbrev pub direction_byte : Direction → ℕ
direction_byte Input = 0
direction_byte Output = 1

abbrev pub kind_byte : BaseType → ℕ
kind_byte kind.Int = 0
kind_byte kind.Boolean = 1

abbrev pub returned_byte : Option BaseType → ℕ
returned_byte None = 0
returned_byte (Some kind.Int) = 1
returned_byte (Some kind.Boolean) = 2

abbrev pub number_bytes : ℕ → List ℕ
number_bytes n = to_be_bytes w32 n

-- a count, and the values one after the other
abbrev pub list_bytes : {A : Type 0} → (A → List ℕ) → List A → List ℕ
list_bytes one xs = number_bytes (length xs) ++ flat_map one xs

abbrev pub text_bytes : List ℕ → List ℕ
text_bytes text = number_bytes (length text) ++ text

abbrev pub pair_bytes : ℕ × ℕ → List ℕ
pair_bytes pair = number_bytes pair.0 ++ number_bytes pair.1

unfoldable pub policy_bytes : ReaderPolicy → List ℕ
policy_bytes policy = number_bytes policy.owner ++ list_bytes number_bytes policy.readers

unfoldable pub channel_bytes : ChannelContents → List ℕ
channel_bytes channel =
    (direction_byte channel.direction ∷ []) ++ (text_bytes channel.name ++ list_bytes policy_bytes channel.label)

abbrev pub variable_bytes : Global → List ℕ
variable_bytes (global.Int n) = (kind_byte kind.Int ∷ []) ++ (number_bytes 0 ++ number_bytes (cast_unsigned w32 n))
variable_bytes (global.Boolean b) = (kind_byte kind.Boolean ∷ []) ++ (number_bytes 0 ++ number_bytes (if b then 1 else 0))
variable_bytes (global.Array kind size) = (kind_byte kind ∷ []) ++ number_bytes size

abbrev pub slot_bytes : Slot → List ℕ
slot_bytes slot = (kind_byte (slot_fields slot).0 ∷ []) ++ number_bytes (slot_fields slot).1

unfoldable pub handler_bytes : Handler → List ℕ
handler_bytes handler =
    number_bytes handler.start ++ (number_bytes handler.end ++ (number_bytes handler.exception ++ number_bytes handler.target))

unfoldable pub procedure_bytes : ProcedureContents → List ℕ
procedure_bytes p =
    (returned_byte p.returned ∷ []) ++ (number_bytes p.parameters ++ (list_bytes slot_bytes p.slots
    ++ ((number_bytes (length (code_bytes p.code)) ++ code_bytes p.code) ++ list_bytes handler_bytes p.handlers)))

unfoldable pub module_bytes : ModuleContents → List ℕ
module_bytes m =
    number_bytes magic ++ (number_bytes (version_number m.version)
    ++ ((list_bytes text_bytes m.hierarchy.names ++ list_bytes pair_bytes m.hierarchy.pairs)
    ++ ((list_bytes text_bytes m.exceptions ++ list_bytes channel_bytes m.channels)
    ++ (list_bytes variable_bytes m.globals ++ (list_bytes procedure_bytes m.procedures ++ number_bytes m.main)))))

-- ---- what has lengths and counts that fit four bytes

abbrev pub IsShort : {A : Type 0} → List A → Type 0
IsShort xs = length xs < 2 ^ 32

abbrev pub PolicyFits : ReaderPolicy → Type 0
PolicyFits policy = IsShort policy.readers

pub record ChannelFits (channel : ChannelContents) : Type 0 where
  pub name : IsShort channel.name
  pub label : IsShort channel.label
  pub policies : All PolicyFits channel.label

pub record ProcedureFits (p : ProcedureContents) : Type 0 where
  pub slots : IsShort p.slots
  pub code : IsShort (code_bytes p.code)
  pub handlers : IsShort p.handlers

pub record ModuleFits (m : ModuleContents) : Type 0 where
  pub names : IsShort m.hierarchy.names
  pub each_name : All IsShort m.hierarchy.names
  pub pairs : IsShort m.hierarchy.pairs
  pub exceptions : IsShort m.exceptions
  pub each_exception : All IsShort m.exceptions
  pub channels : IsShort m.channels
  pub each_channel : All ChannelFits m.channels
  pub globals : IsShort m.globals
  pub procedures : IsShort m.procedures
  pub each_procedure : All ProcedureFits m.procedures
