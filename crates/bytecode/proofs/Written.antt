-- What is written of a module is its spelling, and its lengths and counts fit four bytes.
use Rattle.std.proofs.Common.{◌≡◌, ℕ, Bool, false, cond, ◌||◌, List, [], ◌∷◌, ◌++◌, length, All, Option, Some, None, refl, sym, ap, ◌∙◌, append_assoc}
use Rattle.std.specs.Int.{w32, cast_unsigned}
use Rattle.std.specs.List.{flat_map, AllByRecursion}
use Rattle.std.proofs.lemmas.List.{append-nil, length-map}
use Rattle.std.proofs.lemmas.List.Elements.{All-from_recursion, recursion_from_All}
use Rattle.std.specs.Global.{Global as Allocator}
use Rattle.std.specs.Prelude.{String, string_bytes}
use Rattle.bytecode.specs.Reading.{texts}
use Rattle.labels.specs.Label.{ReaderPolicy, Label}
use Rattle.principals.specs.ActsFor.{PrincipalHierarchy}
use Rattle.modules.specs.declared.version.Version.{Version}
use Rattle.common.specs.declared.base_type.BaseType.{BaseType}
use Rattle.common.specs.declared.base_type.BaseType.TheVariants as kind
use Rattle.common.specs.declared.direction.Direction.{Direction}
use Rattle.common.specs.declared.direction.Direction.TheVariants.{Input, Output}
use Rattle.modules.specs.declared.declaration.Slot.{Slot}
use Rattle.modules.specs.declared.declaration.Slot.TheVariants as slot
use Rattle.modules.specs.declared.declaration.Global.{Global}
use Rattle.modules.specs.declared.declaration.Global.TheVariants as global
use Rattle.modules.specs.declared.declaration.Handler.{Handler}
use Rattle.labels.specs.Channel.{ChannelContents}
use Rattle.modules.specs.Contents.{ProcedureContents, ModuleContents}
use Rattle.modules.specs.ByteFormat.{ByteFormat, Fits, FitEach, spelled, spelled_each}
use Rattle.modules.specs.Opcodes.{code_bytes}
use Rattle.modules.specs.Format.{version, version_number, is_among, name_after, number_below, hierarchy, direction, policy, label, channel_after, declared, slot_beside, slot_fields, global_after, slots, variable_kind, returned, handler, procedure, main, module_file}
use Rattle.modules.specs.FormatParts.{magic, is_built_in, channel_names, principals, pair_after, exceptions, reader_after, policy_after, channels, globals, slot_after, procedures, program, contents}
use Rattle.bytecode.specs.Writing.{direction_byte, kind_byte, returned_byte, number_bytes, list_bytes, text_bytes, pair_bytes, policy_bytes, channel_bytes, variable_bytes, slot_bytes, handler_bytes, procedure_bytes, module_bytes, IsShort, PolicyFits, ChannelFits, ProcedureFits, ModuleFits}

-- ---- lists

-- values whose bytes do not depend on those before them
each_bytes : {A : Type 0} (one : List A → ByteFormat A) (f : A → List ℕ) → ((before : List A) (x : A) → Fits (one before) x → spelled (one before) x ≡ f x) → (before xs : List A) → FitEach (λ seen x. Fits (one seen) x) before xs
    → spelled_each (λ seen x. spelled (one seen) x) before xs ≡ flat_map f xs
each_bytes one f same before [] h = refl
each_bytes {A} one f same before (x ∷ xs) h =
    ap (λ (bytes : List ℕ). bytes ++ spelled_each (λ seen y. spelled (one seen) y) (before ++ x ∷ []) xs) (same before x h.0)
    ∙ ap (λ (bytes : List ℕ). f x ++ bytes) (each_bytes one f same (before ++ x ∷ []) xs h.1)

counted_bytes : {A : Type 0} (one : List A → ByteFormat A) (f : A → List ℕ) → ((before : List A) (x : A) → Fits (one before) x → spelled (one before) x ≡ f x) → (xs : List A) → FitEach (λ seen x. Fits (one seen) x) [] xs
    → number_bytes (length xs) ++ spelled_each (λ seen x. spelled (one seen) x) [] xs ≡ list_bytes f xs
counted_bytes one f same xs h = ap (λ (bytes : List ℕ). number_bytes (length xs) ++ bytes) (each_bytes one f same [] xs h)

-- what each element has, whatever stands before it
each_has : {A : Type 0} (one : List A → ByteFormat A) (P : A → Type 0) → ((before : List A) (x : A) → Fits (one before) x → P x) → (before xs : List A) → FitEach (λ seen x. Fits (one seen) x) before xs → AllByRecursion P xs
each_has one P has before [] h = tt
each_has one P has before (x ∷ xs) h = (has before x h.0, each_has one P has (before ++ x ∷ []) xs h.1)

all_have : {A : Type 0} (one : List A → ByteFormat A) (P : A → Type 0) → ((before : List A) (x : A) → Fits (one before) x → P x) → (xs : List A) → FitEach (λ seen x. Fits (one seen) x) [] xs → All P xs
all_have one P has xs h = All-from_recursion P xs (each_has one P has [] xs h)

two : {a b x y : List ℕ} → a ≡ x → b ≡ y → a ++ b ≡ x ++ y
two p q = λ i. p i ++ q i

after : (a : List ℕ) {b y : List ℕ} → b ≡ y → a ++ b ≡ a ++ y
after a q = λ i. a ++ q i

-- ---- names and the hierarchy

name_bytes : (taken : List ℕ → Bool) (before : List (List ℕ)) (x : List ℕ) → Fits (name_after taken before) x → spelled (name_after taken before) x ≡ text_bytes x
unfolding name_after
name_bytes taken before x h = refl

name_short : (taken : List ℕ → Bool) (before : List (List ℕ)) (x : List ℕ) → Fits (name_after taken before) x → IsShort x
unfolding name_after
name_short taken before x h = h.0

pair-bytes : (count : ℕ) (before : List (ℕ × ℕ)) (x : ℕ × ℕ) → Fits (pair_after count before) x → spelled (pair_after count before) x ≡ pair_bytes x
unfolding pair_after number_below
pair-bytes count before x h = refl

hierarchy-bytes : (h : PrincipalHierarchy) → Fits hierarchy h → spelled hierarchy h ≡ list_bytes text_bytes h.names ++ list_bytes pair_bytes h.pairs
unfolding hierarchy principals pair_after
hierarchy-bytes h f =
    two (counted_bytes (name_after (λ _. false)) text_bytes (name_bytes (λ _. false)) h.names f.0.0.2)
    (counted_bytes (pair_after (length h.names)) pair_bytes (pair-bytes (length h.names)) h.pairs f.0.1.2)

-- ---- labels and channels

reader-bytes : (count owner : ℕ) (before : List ℕ) (x : ℕ) → Fits (reader_after count owner before) x → spelled (reader_after count owner before) x ≡ number_bytes x
unfolding reader_after number_below
reader-bytes count owner before x h = refl

policy-bytes : (count : ℕ) (before : List ReaderPolicy) (x : ReaderPolicy) → Fits (policy_after count before) x → spelled (policy_after count before) x ≡ policy_bytes x
unfolding policy_after policy policy_bytes reader_after number_below
policy-bytes count before x h = ap (λ (bytes : List ℕ). number_bytes x.owner ++ bytes) (counted_bytes (reader_after count x.owner) number_bytes (reader-bytes count x.owner) x.readers h.0.0.1.2)

policy_short : (count : ℕ) (before : List ReaderPolicy) (x : ReaderPolicy) → Fits (policy_after count before) x → PolicyFits x
unfolding policy_after policy
policy_short count before x h = h.0.0.1.0

label-bytes : (count : ℕ) (x : Label) → Fits (label count) x → spelled (label count) x ≡ list_bytes policy_bytes x
unfolding label policy_after
label-bytes count x h = counted_bytes (policy_after count) policy_bytes (policy-bytes count) x h.2

label_short : (count : ℕ) (x : Label) → Fits (label count) x → IsShort x × All PolicyFits x
unfolding label policy_after
label_short count x h = (h.0, all_have (policy_after count) PolicyFits (policy_short count) x h.2)

direction-bytes : (d : Direction) → spelled direction d ≡ direction_byte d ∷ []
unfolding direction
direction-bytes Input = refl
direction-bytes Output = refl

channel-bytes : (count : ℕ) (taken : List ℕ → Bool) (before : List ChannelContents) (x : ChannelContents) → Fits (channel_after count taken before) x → spelled (channel_after count taken before) x ≡ channel_bytes x
unfolding channel_after channel_bytes
channel-bytes count taken before x h = two (direction-bytes x.direction) (two (name_bytes taken (channel_names before) x.name h.0.1.0) (label-bytes count x.label h.0.1.1))

channel_fits : (count : ℕ) (taken : List ℕ → Bool) (before : List ChannelContents) (x : ChannelContents) → Fits (channel_after count taken before) x → ChannelFits x
unfolding channel_after
channel_fits count taken before x h =
    let label_is = label_short count x.label h.0.1.1 in
    record { name = name_short taken (channel_names before) x.name h.0.1.0; label = label_is.0; policies = label_is.1 }

abbrev taken_by : List (List ℕ) → List ℕ → Bool
taken_by names name = is_built_in name || is_among names name

declared-bytes : (count : ℕ) (names : List (List ℕ)) (all : List ChannelContents) → Fits (declared count) (names, all) → spelled (declared count) (names, all) ≡ list_bytes text_bytes names ++ list_bytes channel_bytes all
unfolding declared exceptions channels
declared-bytes count names all h =
    two (counted_bytes (name_after is_built_in) text_bytes (name_bytes is_built_in) names h.0.2)
    (counted_bytes (channel_after count (taken_by names)) channel_bytes (channel-bytes count (taken_by names)) all h.1.2)

-- ---- globals and procedures

kind-bytes : (k : BaseType) → spelled variable_kind k ≡ kind_byte k ∷ []
unfolding variable_kind
kind-bytes kind.Int = refl
kind-bytes kind.Boolean = refl

slot_beside-bytes : (cells : ℕ) (test : ℕ → Bool) (x : Slot) → spelled (slot_beside cells test) x ≡ slot_bytes x
unfolding slot_beside
slot_beside-bytes cells test x = ap (λ (bytes : List ℕ). bytes ++ number_bytes (slot_fields x).1) (kind-bytes (slot_fields x).0)

global-bytes : (before : List Global) (x : Global) → Fits (global_after before) x → spelled (global_after before) x ≡ variable_bytes x
unfolding global_after
global-bytes before (global.Int n) h = ap (λ (bytes : List ℕ). bytes ++ number_bytes (cast_unsigned w32 n)) (slot_beside-bytes _ _ (slot.Scalar kind.Int))
global-bytes before (global.Boolean b) h = ap (λ (bytes : List ℕ). bytes ++ number_bytes (cond b 1 0)) (slot_beside-bytes _ _ (slot.Scalar kind.Boolean))
global-bytes before (global.Array kind size) h = append-nil (spelled (slot_beside _ _) (slot.Array kind size)) ∙ slot_beside-bytes _ _ (slot.Array kind size)

slot-bytes : (count : ℕ) (before : List Slot) (x : Slot) → Fits (slot_after count before) x → spelled (slot_after count before) x ≡ slot_bytes x
unfolding slot_after
slot-bytes count before x h = slot_beside-bytes _ _ x

returned-bytes : (result : Option BaseType) → spelled returned result ≡ returned_byte result ∷ []
unfolding returned
returned-bytes None = refl
returned-bytes (Some kind.Int) = refl
returned-bytes (Some kind.Boolean) = refl

handler-bytes : (before : List Handler) (x : Handler) → Fits handler x → spelled handler x ≡ handler_bytes x
unfolding handler handler_bytes
handler-bytes before x h = refl

procedure-bytes : (v : Version) (before : List ProcedureContents) (x : ProcedureContents) → Fits (procedure v) x → spelled (procedure v) x ≡ procedure_bytes x
unfolding procedure procedure_bytes slots slot_after
procedure-bytes v before x h =
    two (returned-bytes x.returned) (after (number_bytes x.parameters) (two (counted_bytes (slot_after x.parameters) slot_bytes (slot-bytes x.parameters) x.slots h.0.1.1.0.2)
    (after (number_bytes (length (code_bytes x.code)) ++ code_bytes x.code) (counted_bytes (λ _. handler) handler_bytes handler-bytes x.handlers h.0.1.1.1.1.2))))

procedure_fits : (v : Version) (before : List ProcedureContents) (x : ProcedureContents) → Fits (procedure v) x → ProcedureFits x
unfolding procedure slots
procedure_fits v before x h = record {
  slots = h.0.1.1.0.0;
  code = h.0.1.1.1.0.0;
  handlers = h.0.1.1.1.1.0;
}

program-bytes : (v : Version) (g : List Global) (ps : List ProcedureContents) (n : ℕ) → Fits (program v) (g, (ps, n)) → spelled (program v) (g, (ps, n)) ≡ list_bytes variable_bytes g ++ (list_bytes procedure_bytes ps ++ number_bytes n)
unfolding program globals procedures main
program-bytes v g ps n h = two (counted_bytes global_after variable_bytes global-bytes g h.0.2) (ap (λ (bytes : List ℕ). bytes ++ number_bytes n) (counted_bytes (λ _. procedure v) procedure_bytes (procedure-bytes v) ps h.1.0.2))

-- ---- modules

pub module-bytes : (m : ModuleContents) → Fits module_file m → spelled module_file m ≡ module_bytes m
unfolding module_file version contents program globals procedures module_bytes
module-bytes m h =
    after (number_bytes magic) (after (number_bytes (version_number m.version)) (two (hierarchy-bytes m.hierarchy h.0.1.0) (two (declared-bytes (length m.hierarchy.names) m.exceptions m.channels h.0.1.1.0) (program-bytes m.version m.globals m.procedures m.main h.0.1.1.1))))

record HierarchyFits (h : PrincipalHierarchy) : Type 0 where
  names : IsShort h.names
  each : All IsShort h.names
  pairs : IsShort h.pairs

hierarchy_fits : (h : PrincipalHierarchy) → Fits hierarchy h → HierarchyFits h
unfolding hierarchy principals
hierarchy_fits h f = record { names = f.0.0.0; each = all_have (name_after (λ _. false)) IsShort (name_short (λ _. false)) h.names f.0.0.2; pairs = f.0.1.0 }

record DeclaredFits (names : List (List ℕ)) (all : List ChannelContents) : Type 0 where
  names_short : IsShort names
  each : All IsShort names
  channels_short : IsShort all
  each_channel : All ChannelFits all

declared_fits : (count : ℕ) (names : List (List ℕ)) (all : List ChannelContents) → Fits (declared count) (names, all) → DeclaredFits names all
unfolding declared exceptions channels
declared_fits count names all h = record {
  names_short = h.0.0;
  each = all_have (name_after is_built_in) IsShort (name_short is_built_in) names h.0.2;
  channels_short = h.1.0;
  each_channel = all_have (channel_after count (taken_by names)) ChannelFits (channel_fits count (taken_by names)) all h.1.2;
}

record ProgramFits (g : List Global) (ps : List ProcedureContents) : Type 0 where
  globals_short : IsShort g
  procedures_short : IsShort ps
  each : All ProcedureFits ps

program_fits : (v : Version) (g : List Global) (ps : List ProcedureContents) (n : ℕ) → Fits (program v) (g, (ps, n)) → ProgramFits g ps
unfolding program globals procedures
program_fits v g ps n h = record { globals_short = h.0.0; procedures_short = h.1.0.0; each = all_have (λ _. procedure v) ProcedureFits (procedure_fits v) ps h.1.0.2 }

pub module_fits : (m : ModuleContents) → Fits module_file m → ModuleFits m
unfolding module_file contents program globals procedures
module_fits m h =
    let p = hierarchy_fits m.hierarchy h.0.1.0 in
    let d = declared_fits (length m.hierarchy.names) m.exceptions m.channels h.0.1.1.0 in
    let q = program_fits m.version m.globals m.procedures m.main h.0.1.1.1 in
    record {
      names = p.names;
      each_name = p.each;
      pairs = p.pairs;
      exceptions = d.names_short;
      each_exception = d.each;
      channels = d.channels_short;
      each_channel = d.each_channel;
      globals = q.globals_short;
      procedures = q.procedures_short;
      each_procedure = q.each;
    }

-- ---- what the functions that write have put together

each_text : (names : List (String Allocator)) → flat_map (λ text. text_bytes (string_bytes text)) names ≡ flat_map text_bytes (texts names)
each_text [] = refl
each_text (name ∷ names) = after (text_bytes (string_bytes name)) (each_text names)

each_short : (names : List (String Allocator)) → AllByRecursion IsShort (texts names) → AllByRecursion (λ text. IsShort (string_bytes text)) names
each_short [] h = tt
each_short (name ∷ names) h = (h.0, each_short names h.1)

pub texts-bytes : (names : List (String Allocator)) → list_bytes (λ text. text_bytes (string_bytes text)) names ≡ list_bytes text_bytes (texts names)
texts-bytes names = two (ap number_bytes (sym (length-map names string_bytes))) (each_text names)

pub texts-short : (names : List (String Allocator)) → All IsShort (texts names) → All (λ text. IsShort (string_bytes text)) names
texts-short names h = All-from_recursion (λ text. IsShort (string_bytes text)) names (each_short names (recursion_from_All IsShort (texts names) h))

regroup : (o a b c d e f g h : List ℕ) → (((((((o ++ a) ++ b) ++ c) ++ d) ++ e) ++ f) ++ g) ++ h ≡ o ++ (a ++ (b ++ (c ++ ((d ++ e) ++ (f ++ (g ++ h))))))
regroup o a b c d e f g h = simp append_assoc

pub module_written : (m : ModuleContents) (o0 o1 o2 o3 o4 o5 o6 o7 o8 : List ℕ) → o1 ≡ o0 ++ number_bytes magic → o2 ≡ o1 ++ number_bytes (version_number m.version)
    → o3 ≡ o2 ++ (list_bytes text_bytes m.hierarchy.names ++ list_bytes pair_bytes m.hierarchy.pairs) → o4 ≡ o3 ++ list_bytes text_bytes m.exceptions → o5 ≡ o4 ++ list_bytes channel_bytes m.channels
    → o6 ≡ o5 ++ list_bytes variable_bytes m.globals → o7 ≡ o6 ++ list_bytes procedure_bytes m.procedures → o8 ≡ o7 ++ number_bytes m.main → o8 ≡ o0 ++ module_bytes m
unfolding module_bytes
module_written m o0 o1 o2 o3 o4 o5 o6 o7 o8 e1 e2 e3 e4 e5 e6 e7 e8 =
    let authority = list_bytes text_bytes m.hierarchy.names ++ list_bytes pair_bytes m.hierarchy.pairs in
    e8 ∙ (λ i. e7 i ++ number_bytes m.main)
    ∙ (λ i. (e6 i ++ list_bytes procedure_bytes m.procedures) ++ number_bytes m.main)
    ∙ (λ i. ((e5 i ++ list_bytes variable_bytes m.globals) ++ list_bytes procedure_bytes m.procedures) ++ number_bytes m.main)
    ∙ (λ i. (((e4 i ++ list_bytes channel_bytes m.channels) ++ list_bytes variable_bytes m.globals) ++ list_bytes procedure_bytes m.procedures) ++ number_bytes m.main)
    ∙ (λ i. ((((e3 i ++ list_bytes text_bytes m.exceptions) ++ list_bytes channel_bytes m.channels) ++ list_bytes variable_bytes m.globals) ++ list_bytes procedure_bytes m.procedures) ++ number_bytes m.main)
    ∙ (λ i. (((((e2 i ++ authority) ++ list_bytes text_bytes m.exceptions) ++ list_bytes channel_bytes m.channels) ++ list_bytes variable_bytes m.globals) ++ list_bytes procedure_bytes m.procedures) ++ number_bytes m.main)
    ∙ (λ i. ((((((e1 i ++ number_bytes (version_number m.version)) ++ authority) ++ list_bytes text_bytes m.exceptions) ++ list_bytes channel_bytes m.channels) ++ list_bytes variable_bytes m.globals) ++ list_bytes procedure_bytes m.procedures) ++ number_bytes m.main)
    ∙ regroup o0 (number_bytes magic) (number_bytes (version_number m.version)) authority (list_bytes text_bytes m.exceptions) (list_bytes channel_bytes m.channels) (list_bytes variable_bytes m.globals) (list_bytes procedure_bytes m.procedures) (number_bytes m.main)
