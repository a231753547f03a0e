-- Private: parts of the module file by names of their own, as code and lemmas speak of them. Each is what stands in its place in the file, so
-- that the two compute to the same.
-- Source: our own.
use Rattle.std.specs.Prelude.{ℕ, ◌==◌, nat_le, Bool, false, not, ◌&&◌, ◌||◌, List, length, map, Option, is_none}
use Rattle.common.specs.Exceptions.{built_in_names}
use Rattle.common.specs.declared.limits.TheConstants.{MAX_PRINCIPALS}
use Rattle.std.specs.Option.{option_map_or}
use Rattle.std.specs.Ordering.{nat_cmp}
use Rattle.std.specs.Str.{is_utf8}
use Rattle.lexer.specs.Words.{is_name_text}
use Rattle.principals.specs.ActsFor.{PrincipalHierarchy}
use Rattle.labels.specs.Label.{ReaderPolicy}
use Rattle.labels.specs.Canonical.{policy_cmp}
use Rattle.modules.specs.declared.fault.FormatRefusalKind.TheVariants.{NotCanonical}
use Rattle.modules.specs.declared.version.Version.{Version}
use Rattle.modules.specs.declared.declaration.Slot.{Slot}
use Rattle.modules.specs.declared.declaration.Global.{Global}
use Rattle.modules.specs.declared.declaration.Handler.{Handler}
use Rattle.labels.specs.Channel.{ChannelContents}
use Rattle.modules.specs.Contents.{ProcedureContents}
use Rattle.modules.specs.ByteFormat.{ByteFormat, Checked, Then, Counted}
use Rattle.modules.specs.Format.{any, is_above, is_among, number_below, name_after, pair_cmp, policy, channel_after, declared, hierarchy, slot_beside, slot_cells, global_fields, global_after, handler, procedure, main}

-- ---- names

abbrev pub is_new_name : (List ℕ → Bool) → List (List ℕ) → List ℕ → Bool
is_new_name taken before name = is_utf8 name && is_name_text name && not (taken name || is_among before name)

abbrev pub is_built_in : List ℕ → Bool
is_built_in name = is_among built_in_names name

abbrev pub channel_names : List ChannelContents → List (List ℕ)
channel_names channels = map (λ channel. channel.name) channels

-- ---- lists, and what follows in them

unfoldable pub principals : ByteFormat (List (List ℕ))
principals = Counted (λ count. nat_le count MAX_PRINCIPALS) (name_after (λ _. false))

unfoldable pub pair_after : ℕ → List (ℕ × ℕ) → ByteFormat (ℕ × ℕ)
pair_after count before =
    Checked NotCanonical (is_above pair_cmp before) (Then (number_below count) (λ _. number_below count))

unfoldable pub reader_after : ℕ → ℕ → List ℕ → ByteFormat ℕ
reader_after count owner before =
    Checked NotCanonical (is_above nat_cmp before) (Checked NotCanonical (λ reader. not (reader == owner)) (number_below count))

unfoldable pub policy_after : ℕ → List ReaderPolicy → ByteFormat ReaderPolicy
policy_after count before = Checked NotCanonical (is_above policy_cmp before) (policy count)

unfoldable pub exceptions : ByteFormat (List (List ℕ))
exceptions = Counted any (name_after is_built_in)

unfoldable pub channels : ℕ → List (List ℕ) → ByteFormat (List ChannelContents)
channels count names = Counted any (channel_after count (λ name. is_built_in name || is_among names name))

abbrev pub global_cells : List Global → ℕ
global_cells globals = slot_cells (map (λ global. (global_fields global).0) globals)

unfoldable pub globals : ByteFormat (List Global)
globals = Counted any global_after

unfoldable pub slot_after : ℕ → List Slot → ByteFormat Slot
slot_after parameters before = slot_beside (slot_cells before) (λ size. nat_le parameters (length before) || size == 0)

unfoldable pub handlers : ByteFormat (List Handler)
handlers = Counted any (λ _. handler)

unfoldable pub procedures : Version → ByteFormat (List ProcedureContents)
procedures version = Counted any (λ _. procedure version)

-- ---- modules

abbrev pub may_start : Option ProcedureContents → Bool
may_start procedure = option_map_or (λ p. p.parameters == 0 && is_none p.returned) procedure false

abbrev pub magic : ℕ
magic = 0x464c4f42

unfoldable pub program : Version → ByteFormat (List Global × (List ProcedureContents × ℕ))
program version = Then globals (λ _. Then (procedures version) main)

-- what stands after the version
abbrev pub FieldsOfVersion : Type 0
FieldsOfVersion = PrincipalHierarchy × ((List (List ℕ) × List ChannelContents) × (List Global × (List ProcedureContents × ℕ)))

unfoldable pub contents : Version → ByteFormat FieldsOfVersion
contents version = Then hierarchy (λ h. Then (declared (length h.names)) (λ _. program version))
