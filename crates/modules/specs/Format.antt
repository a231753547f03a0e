-- The module file: the one spelling of each module, field by field, and with it the first refusal of other bytes.
-- Source: our own.
use Rattle.std.specs.Prelude.{ℕ, ◌+◌, ◌-◌, ◌==◌, nat_lt, nat_le, Bool, true, false, not, ◌&&◌, ◌||◌, if◌then◌else◌, List, [], ◌∷◌, length, map, sum_by, slice_get, Option, Some, None, is_none, bytes_eq}
use Rattle.common.specs.Exceptions.{built_in_names}
use Rattle.common.specs.declared.limits.TheConstants.{MAX_CELLS, MAX_ELEMENTS, MAX_PRINCIPALS}
use Rattle.std.specs.Int.{w32, cast_signed, cast_unsigned}
use Rattle.std.specs.List.{list_any}
use Rattle.std.specs.Option.{option_eq, option_map_or}
use Rattle.std.specs.Ordering.{is_lt, nat_cmp, on, then_cmp}
use Rattle.std.specs.Str.{chars, is_utf8}
use Rattle.std.specs.declared.cmp.Ordering.{Ordering}
use Rattle.lexer.specs.Words.{is_name}
use Rattle.principals.specs.ActsFor.{PrincipalHierarchy}
use Rattle.labels.specs.Label.{ReaderPolicy, Label}
use Rattle.labels.specs.Canonical.{policy_cmp}
use Rattle.modules.specs.declared.fault.FormatRefusalKind.TheVariants.{Magic, BadValue, NotCanonical}
use Rattle.modules.specs.declared.fault.FormatRefusalKind.TheVariants as refused
use Rattle.modules.specs.declared.version.Version.{Version}
use Rattle.modules.specs.declared.version.Version.TheVariants.{One, Two}
use Rattle.common.specs.declared.base_type.BaseType.{BaseType}
use Rattle.common.specs.declared.base_type.BaseType.TheVariants as kind
use Rattle.common.specs.contracts.base_type.BaseTypePartialEq.TheImpl.{eq-value as same_kind}
use Rattle.modules.specs.declared.declaration.Slot.{Slot}
use Rattle.modules.specs.declared.declaration.Slot.TheVariants as slot
use Rattle.modules.specs.declared.declaration.Global.{Global}
use Rattle.modules.specs.declared.declaration.Global.TheVariants as global
use Rattle.modules.specs.declared.declaration.Handler.{Handler}
use Rattle.common.specs.declared.direction.Direction.{Direction}
use Rattle.common.specs.declared.direction.Direction.TheVariants.{Input, Output}
use Rattle.common.specs.contracts.direction.DirectionPartialEq.TheImpl.{eq-value as same_direction}
use Rattle.labels.specs.Channel.{ChannelContents}
use Rattle.modules.specs.Contents.{ProcedureContents, ModuleContents}
use Rattle.modules.specs.ByteFormat.{ByteFormat, OneOf, Number, Text, Nothing, Marked, Checked, Then, Counted, Code, Named}

-- ---- numbers and lists

-- a count, and that many values, each above the one before it
abbrev pub ascending : {A : Type 0} → (A → A → Ordering) → ByteFormat A → ByteFormat (List A)
ascending cmp one =
    Counted (λ _. true) (λ before. Checked NotCanonical
    (λ x. option_map_or (λ last. is_lt (cmp last x)) (slice_get before (length before - 1)) true) one)

-- the number of one of this many things
unfoldable pub number_below : ℕ → ByteFormat ℕ
number_below count = Checked BadValue (λ n. nat_lt n count) Number

-- ---- names

-- a text is one of some names
abbrev pub is_among : List (List ℕ) → List ℕ → Bool
is_among names name = list_any (λ other. bytes_eq other name) names

-- a name that is neither taken nor one of those before it
unfoldable pub name_after : (List ℕ → Bool) → List (List ℕ) → ByteFormat (List ℕ)
name_after taken before =
    Checked BadValue (λ name. is_utf8 name && is_name (chars name) && not (taken name || is_among before name)) Text

-- ---- the hierarchy

-- the names of the principals, and the pairs of their numbers, which ascend by their first number, then by their second
unfoldable pub hierarchy : ByteFormat PrincipalHierarchy
hierarchy =
    Named (λ fields. record { names = fields.0; pairs = fields.1 }) (λ h. (h.names, h.pairs))
    (Then (Counted (λ count. nat_le count MAX_PRINCIPALS) (name_after (λ _. false)))
    (λ names. ascending (then_cmp (on (λ pair. pair.0) nat_cmp) (on (λ pair. pair.1) nat_cmp))
    (Then (number_below (length names)) (λ _. number_below (length names)))))

-- ---- exceptions and channels

unfoldable pub direction : ByteFormat Direction
direction = OneOf same_direction.it (Input ∷ Output ∷ [])

-- readers ascend, and the owner is none of them
unfoldable pub policy : ℕ → ByteFormat ReaderPolicy
policy count =
    Named (λ fields. record { owner = fields.0; readers = fields.1 }) (λ policy. (policy.owner, policy.readers))
    (Then (number_below count) (λ owner. ascending nat_cmp (Checked NotCanonical (λ reader. not (reader == owner)) (number_below count))))

-- policies ascend by owner, then by the list of readers, where a list that is a prefix of another one is the
-- smaller
unfoldable pub label : ℕ → ByteFormat Label
label count = ascending policy_cmp (policy count)

unfoldable pub channel_after : ℕ → (List ℕ → Bool) → List ChannelContents → ByteFormat ChannelContents
channel_after count taken before =
    Named (λ f. record { direction = f.0; name = f.1.0; label = f.1.1 }) (λ c. (c.direction, (c.name, c.label)))
    (Then direction (λ _. Then (name_after taken (map (λ channel. channel.name) before)) (λ _. label count)))

-- the names of the declared exceptions, and the channels; all of their names and those of the built-in exceptions are different
unfoldable pub declared : ℕ → ByteFormat (List (List ℕ) × List ChannelContents)
declared count =
    Then (Counted (λ _. true) (name_after (is_among built_in_names)))
    (λ names. Counted (λ _. true) (channel_after count (λ name. is_among built_in_names name || is_among names name)))

-- ---- globals and slots

unfoldable pub variable_kind : ByteFormat BaseType
variable_kind = OneOf same_kind.it (kind.Int ∷ kind.Boolean ∷ [])

-- a kind and a size, which is 0 for a scalar, as a slot, and back
abbrev pub slot_of : BaseType × ℕ → Slot
slot_of (kind, size) = if size == 0 then slot.Scalar kind else slot.Array kind size

abbrev pub slot_fields : Slot → BaseType × ℕ
slot_fields (slot.Scalar kind) = (kind, 0)
slot_fields (slot.Array kind size) = (kind, size)

-- the cells of a variable by its size, and those of some slots
abbrev pub cells_of_size : ℕ → ℕ
cells_of_size size = if size == 0 then 1 else size

abbrev pub slot_cells : List Slot → ℕ
slot_cells slots = sum_by (λ slot. cells_of_size (slot_fields slot).1) slots

-- a slot after this many cells: its size is not too large, nor are the cells with it, and it passes a test too
unfoldable pub slot_beside : ℕ → (ℕ → Bool) → ByteFormat Slot
slot_beside cells test =
    Named slot_of slot_fields (Then variable_kind (λ _. Checked BadValue (λ size.
    (nat_le size MAX_ELEMENTS && nat_le (cells + cells_of_size size) MAX_CELLS) && test size) Number))

-- a scalar's first value: an int, or 0 or 1 for a boolean. An array has none, where 0 stands for it
abbrev pub first_value : Slot → ByteFormat ℕ
first_value (slot.Scalar kind.Int) = Number
first_value (slot.Scalar kind.Boolean) = Checked BadValue (λ n. nat_lt n 2) Number
first_value (slot.Array kind size) = Nothing 0

-- a slot and a first value as a global, and back
abbrev pub global_of : Slot × ℕ → Global
global_of (slot.Scalar kind.Int, first) = global.Int (cast_signed w32 first)
global_of (slot.Scalar kind.Boolean, first) = global.Boolean (first == 1)
global_of (slot.Array kind size, first) = global.Array kind size

abbrev pub global_fields : Global → Slot × ℕ
global_fields (global.Int n) = (slot.Scalar kind.Int, cast_unsigned w32 n)
global_fields (global.Boolean b) = (slot.Scalar kind.Boolean, if b then 1 else 0)
global_fields (global.Array kind size) = (slot.Array kind size, 0)

unfoldable pub global_after : List Global → ByteFormat Global
global_after before =
    Named global_of global_fields (Then (slot_beside (slot_cells (map (λ global. (global_fields global).0) before)) (λ _. true)) first_value)

-- ---- procedures

-- the kind of value that a procedure returns, if any
unfoldable pub returned : ByteFormat (Option BaseType)
returned = OneOf (option_eq same_kind.it) (None ∷ Some kind.Int ∷ Some kind.Boolean ∷ [])

-- the slots, of which the parameters are scalars
unfoldable pub slots : ℕ → ByteFormat (List Slot)
slots parameters =
    Counted (λ count. nat_le parameters count)
    (λ before. slot_beside (slot_cells before) (λ size. nat_le parameters (length before) || size == 0))

unfoldable pub handler : ByteFormat Handler
handler =
    Named (λ f. record { start = f.0; end = f.1.0; exception = f.1.1.0; target = f.1.1.1 }) (λ h. (h.start, (h.end, (h.exception, h.target))))
    (Then Number (λ _. Then Number (λ _. Then Number (λ _. Number))))

unfoldable pub procedure : Version → ByteFormat ProcedureContents
procedure version =
    Named (λ f. record { returned = f.0; parameters = f.1.0; slots = f.1.1.0; code = f.1.1.1.0; handlers = f.1.1.1.1 })
    (λ p. (p.returned, (p.parameters, (p.slots, (p.code, p.handlers)))))
    (Then returned (λ _. Then Number (λ parameters. Then (slots parameters) (λ _. Then (Code version) (λ _. Counted (λ _. true) (λ _. handler))))))

-- ---- modules

-- the number of the procedure in which a run starts: one without parameters that returns no value
unfoldable pub main : List ProcedureContents → ByteFormat ℕ
main procedures =
    Checked BadValue (λ number. option_map_or (λ p. p.parameters == 0 && is_none p.returned) (slice_get procedures number) false) Number

abbrev pub version_number : Version → ℕ
version_number One = 1
version_number Two = 2

unfoldable pub version : ByteFormat Version
version = Named (λ n. if n == 1 then One else Two) version_number (Checked refused.Version (λ n. n == 1 || n == 2) Number)

-- the four bytes `FLOB`, the version, the hierarchy, the exceptions and channels, the globals, the procedures, and where a run starts
unfoldable pub module_file : ByteFormat ModuleContents
module_file =
    Marked Magic 0x464c4f42 (Named (λ f.
    record { version = f.0; hierarchy = f.1.0; exceptions = f.1.1.0.0; channels = f.1.1.0.1; globals = f.1.1.1.0; procedures = f.1.1.1.1.0; main = f.1.1.1.1.1 })
    (λ m. (m.version, (m.hierarchy, ((m.exceptions, m.channels), (m.globals, (m.procedures, m.main))))))
    (Then version (λ v. Then hierarchy (λ h. Then (declared (length h.names)) (λ _.
    Then (Counted (λ _. true) global_after) (λ _. Then (Counted (λ _. true) (λ _. procedure v)) main))))))

-- ---- parts of the rules, by which proofs speak of them

-- an element is above the last of those before it, if there are any
abbrev pub is_above : {A : Type 0} → (A → A → Ordering) → List A → A → Bool
is_above cmp before x = option_map_or (λ last. is_lt (cmp last x)) (slice_get before (length before - 1)) true

-- pairs ascend by their first number, then by their second
abbrev pub pair_cmp : ℕ × ℕ → ℕ × ℕ → Ordering
pair_cmp = then_cmp (on (λ pair. pair.0) nat_cmp) (on (λ pair. pair.1) nat_cmp)

-- a size is not too large, nor are the cells with it
abbrev pub is_size : ℕ → ℕ → Bool
is_size cells size = nat_le size MAX_ELEMENTS && nat_le (cells + cells_of_size size) MAX_CELLS

-- any count will do
abbrev pub any : ℕ → Bool
any n = true
