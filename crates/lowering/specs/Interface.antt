-- What a program and its graph show of themselves before any run: the version, the hierarchy, the channels, the exceptions, the globals,
-- and what each procedure takes and gives.
-- Source: our own.
use Rattle.std.specs.Prelude.{◌≡◌, ◌↔◌, ℕ, Option, Some, None, if◌then◌else◌}
use Rattle.principals.specs.ActsFor.{ActsFor, PrincipalHierarchy}
use Rattle.labels.specs.Sets.{ascending_set}
use Rattle.common.specs.declared.base_type.BaseType.{BaseType}
use Rattle.common.specs.declared.value.Value.{Value}
use Rattle.common.specs.declared.value.Value.TheVariants as value
use Rattle.std.specs.List.{list_any}
use Rattle.resolved.specs.BitUse.{expression_uses_bits, uses_bits}
use Rattle.resolved.specs.Labelled.{program_judgement}
use Rattle.resolved.specs.Program.{Program, GlobalEntry, SlotEntry, ResultEntry}
use Rattle.modules.specs.declared.declaration.Slot.{Slot}
use Rattle.modules.specs.declared.declaration.Slot.TheVariants as slot
use Rattle.modules.specs.declared.declaration.Global.{Global}
use Rattle.modules.specs.declared.declaration.Global.TheVariants as global
use Rattle.modules.specs.declared.version.Version.{Version}
use Rattle.modules.specs.declared.version.Version.TheVariants.{One, Two}
use Rattle.modules.specs.Contents.{ModuleContents}
use Rattle.modules.specs.Format.{pair_cmp}

-- the same principals, and the written pairs in ascending order, each once
abbrev pub hierarchy_contents : PrincipalHierarchy → PrincipalHierarchy
hierarchy_contents h = record { names = h.names; pairs = ascending_set pair_cmp h.pairs }

-- a slot for values of a base type: one, or as many as an array has elements
abbrev pub declared_slot : BaseType → (size : Option ℕ) → Slot
declared_slot type None = slot.Scalar type
declared_slot type (Some count) = slot.Array type count

abbrev pub slot_contents : SlotEntry → Slot
slot_contents entry = declared_slot entry.base entry.size

-- a global that holds a value at first
abbrev pub scalar_global : Value → Global
scalar_global (value.Int z) = global.Int z
scalar_global (value.Bool b) = global.Boolean b

abbrev pub declared_global : BaseType → (size : Option ℕ) → (first : Value) → Global
declared_global type None first = scalar_global first
declared_global type (Some count) first = global.Array type count

abbrev pub global_contents : GlobalEntry → Global
global_contents entry = declared_global entry.base entry.size entry.first

-- the kind of value that a procedure gives, if it gives one
abbrev pub returned_kind : Option ResultEntry → Option BaseType
returned_kind None = None
returned_kind (Some entry) = Some entry.base

-- the version of the module file for a program
abbrev pub module_version : Program → Version
module_version program = if uses_bits program then Two else One

-- a graph or a module has the version of a program, the second exactly where the program uses an operator on bits; its principals with
-- the same numbers, of whom the same act for each other; its channels with the same numbers, and the names of its declared exceptions
-- with the same numbers
pub record HasInterfaceOf (program : Program) (m : ModuleContents) : Type 0 where
  pub version : m.version ≡ (if list_any expression_uses_bits (program_judgement program).expressions then Two else One)
  pub names : m.hierarchy.names ≡ program.hierarchy.names
  pub acts : (a b : ℕ) → ActsFor m.hierarchy.pairs a b ↔ ActsFor program.hierarchy.pairs a b
  pub channels : m.channels ≡ program.channels
  pub exceptions : m.exceptions ≡ program.exceptions
