-- A resolved program: its hierarchy, and the tables in which the numbers of its tree are looked up.
-- Source: our own; procedures with begin, end and exception labels as in JFlow (Myers 1999).
use Rattle.std.specs.Prelude.{ℕ, List, [], Option, None, slice_index_or}
use Rattle.principals.specs.ActsFor.{PrincipalHierarchy}
use Rattle.labels.specs.Channel.{ChannelContents}
use Rattle.labels.specs.Label.{Label}
use Rattle.common.specs.declared.base_type.BaseType.{BaseType}
use Rattle.common.specs.declared.base_type.BaseType.TheVariants.{Int}
use Rattle.common.specs.declared.value.Value.{Value}
use Rattle.common.specs.Values.{zero_of}
use Rattle.common.specs.declared.direction.Direction.TheVariants.{Output}
use Rattle.resolved.specs.Tree.{Block, Empty}

-- a global: its name, its base type, its length if it is an array, its label, and what its cells hold at first
pub record GlobalEntry : Type 0 where
  pub name : List ℕ
  pub base : BaseType
  pub size : Option ℕ
  pub label : Label
  pub first : Value

-- a parameter or local: its base type, its length if it is an array, its written label if it has one, the byte at which its
-- declaration begins, and its name
pub record SlotEntry : Type 0 where
  pub base : BaseType
  pub size : Option ℕ
  pub written : Option Label
  pub at : ℕ
  pub name : List ℕ

-- the type of a procedure's value, and its label
pub record ResultEntry : Type 0 where
  pub base : BaseType
  pub label : Label

-- an exception that a procedure may let out, and its label
pub record ThrownEntry : Type 0 where
  pub exception : ℕ
  pub label : Label

-- a procedure: the byte at which its name begins, its name, its value if it gives one, its begin and end labels and the
-- exceptions that it declares, how many parameters it has, the slots of its frame with the parameters first, how many loops it
-- has, and its body
pub record ProcedureEntry : Type 0 where
  pub at : ℕ
  pub name : List ℕ
  pub result : Option ResultEntry
  pub begin_label : Label
  pub end_label : Label
  pub throws : List ThrownEntry
  pub parameters : ℕ
  pub slots : List SlotEntry
  pub loops : ℕ
  pub body : Block

-- a program; the names of exceptions are those of the declared ones, from number 3 on
pub record Program : Type 0 where
  pub hierarchy : PrincipalHierarchy
  pub channels : List ChannelContents
  pub exceptions : List (List ℕ)
  pub globals : List GlobalEntry
  pub procedures : List ProcedureEntry
  pub main : ℕ

-- what stands in a table under a number; one that is not there, as in no well-formed program, reads as an empty entry
abbrev pub channel_at : Program → ℕ → ChannelContents
channel_at program channel = slice_index_or program.channels channel (record { direction = Output; name = []; label = [] })

abbrev pub global_at : Program → ℕ → GlobalEntry
global_at program n = slice_index_or program.globals n (record { name = []; base = Int; size = None; label = []; first = zero_of Int })

abbrev pub slot_at : ProcedureEntry → ℕ → SlotEntry
slot_at procedure n = slice_index_or procedure.slots n (record { base = Int; size = None; written = None; at = 0; name = [] })

abbrev pub procedure_at : Program → ℕ → ProcedureEntry
procedure_at program f = slice_index_or program.procedures f
    (record { at = 0; name = []; result = None; begin_label = []; end_label = []; throws = []; parameters = 0; slots = []; loops = 0; body = Empty })
