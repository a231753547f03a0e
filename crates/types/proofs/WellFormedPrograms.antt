-- The program that a tree stands for is well formed.
use Rattle.std.proofs.Common.{◌≡◌, refl, sym, ◌∙◌, subst, ap, ℕ, zero, suc, ◌+◌, ◌<◌, ◌≤◌, List, [], ◌∷◌, ◌++◌, map, length, Bool, true, false, cond, IsTrue, arith}
use Rattle.std.specs.Prelude.{All, IfOk, IfSome, Option, Some, None, option_map, option_and_then, ◌==◌, ◌&&◌, ◌||◌, is_none, slice_get, slice_index_or, bytes_eq, codes, nat_le, nat_lt, sum_by}
use Rattle.std.specs.List.{list_all}
use Rattle.std.proofs.lemmas.Bool.{le-leb, leb-true, lt-ltb, and_from, and_parts}
use Rattle.std.proofs.lemmas.List.{length-append, length-map, map_push}
use Rattle.std.proofs.lemmas.List.Elements.{All-head, All-tail}
use Rattle.std.proofs.lemmas.List.Sums.{sum_by-append, sum_by-cons, sum_by_push}
use Rattle.std.proofs.lemmas.Option.{slice_get-map}
use Rattle.std.proofs.lemmas.Result.{IfOk-weaker}
use Rattle.principals.specs.ActsFor.{PrincipalHierarchy, IsHierarchy}
use Rattle.labels.specs.Label.{ReaderPolicy, Label}
use Rattle.common.specs.declared.direction.Direction.{Direction}
use Rattle.common.specs.declared.direction.Direction.TheVariants as directions
use Rattle.syntax.specs.Nodes as tree
use Rattle.syntax.specs.Tree.{IntegerConstant, TruthConstant, GlobalValueTree, ScalarTree, ArrayTree, GlobalTree, LabelTree, ChannelTree, ItemTree, ChannelItem, ExceptionItem, GlobalItem, ProcedureItem, ProgramTree}
use Rattle.syntax.specs.Written.{IsInteger, IsWritten, IsWrittenItem}
use Rattle.common.specs.declared.base_type.BaseType.{BaseType}
use Rattle.common.specs.declared.base_type.BaseType.TheVariants.{Int, Boolean}
use Rattle.common.specs.declared.value.Value.{Value}
use Rattle.common.specs.declared.value.Value.TheVariants.{Int as Number, Bool as Truth}
use Rattle.resolved.specs.declared.expression.Variable.TheVariants.{Global, Local}
use Rattle.labels.specs.Channel.{ChannelContents}
use Rattle.resolved.specs.Program.{SlotEntry, Program, GlobalEntry, ProcedureEntry}
use Rattle.common.specs.Values.{kind_of as base_of_value, zero_of}
use Rattle.resolved.specs.WellFormed.{same_base, VariableType, global_type, parameters_of, same_direction, channel_is, label_fits, is_zero_value, first_fits, main_fits, cell_count, node_limit, size_fits, label_nodes, procedure_nodes, program_nodes, procedure_fits, well_formed}
use Rattle.resolved.proofs.WellFormedParts.{program_from_parts}
use Rattle.types.specs.declared.scope.Meaning.{Meaning}
use Rattle.types.specs.declared.scope.ItemKind.TheVariants.{Channel, Exception, Procedure}
use Rattle.types.specs.declared.scope.Meaning.TheVariants as meanings
use Rattle.types.specs.declared.fault.TypeRefusalKind.TheVariants as refusals
use Rattle.common.specs.Results.{along, ◌>>=◌}
use Rattle.types.specs.Finding.{found_or, give_if}
use Rattle.types.specs.Environment.{Environment, declaring, fresh_finding, item_of}
use Rattle.types.specs.Labels.{label_finding}
use Rattle.types.specs.Statements.{Signature, signature_at, size_finding}
use Rattle.types.specs.Views.{program_with}
use Rattle.types.proofs.NextItems.{next_is, next_channel, next_global}
use Rattle.types.specs.Resolution.{TopLevel, nothing_declared, built_in, item_name, item_meaning, signature_of, counted, next_name, heads, channel_finding, first_finding, global_finding, next_item, procedure_entry_finding, main_finding, next_global_cells, next_frame, resolution, signed, size_of, empty_program}
use Rattle.types.proofs.Passing.{then_finds, if_finds, require_finds, any_finds}
use Rattle.types.proofs.WellFormedExpressions.{given_base, slot_base, Signed, Stands}
use Rattle.types.proofs.WellFormedLabels.{GlobalsFit, label_there, all_pushed}
use Rattle.types.proofs.LabelSizes.{policies_weight, IsOf, is_of_more, label_small, both_find, label_of}
use Rattle.types.proofs.WellFormedProcedures.{World, IsWellFormedProcedure, procedure_keeps}
use Rattle.common.proofs.Cases.{there_at}
use Rattle.common.specs.declared.limits.TheConstants.{MAX_ELEMENTS, MAX_CELLS, MAX_PRINCIPALS}

-- ---- lists

pub last_is : {X : Type 0} (xs : List X) (x : X) → slice_get (xs ++ x ∷ []) (length xs) ≡ Some x
last_is [] x = refl
last_is (y ∷ xs) x = last_is xs x

pub still_is : {X : Type 0} (xs ys : List X) (n : ℕ) (x : X) → slice_get xs n ≡ Some x → slice_get (xs ++ ys) n ≡ Some x
still_is [] ys n x e = absurd (cc)
still_is (y ∷ xs) ys zero x e = e
still_is (y ∷ xs) ys (suc n) x e = still_is xs ys n x e

index_mapped : {X Y : Type 0} (f : X → Y) (xs : List X) (n : ℕ) (x : X) (d : Y) → slice_get xs n ≡ Some x → slice_index_or (map f xs) n d ≡ f x
index_mapped f [] n x d e = absurd (cc)
index_mapped f (y ∷ xs) zero x d e =
    let same : y ≡ x = cc in
    ap f same
index_mapped f (y ∷ xs) (suc n) x d e = index_mapped f xs n x d e

-- each of a list
abbrev Each : {X : Type 0} → (X → Type 0) → List X → Type 0
Each P [] = Unit {0}
Each P (x ∷ xs) = P x × Each P xs

each_pushed : {X : Type 0} (P : X → Type 0) (xs : List X) (x : X) → Each P xs → P x → Each P (xs ++ x ∷ [])
each_pushed P [] x all one = (one, tt)
each_pushed P (y ∷ xs) x all one = (all.0, each_pushed P xs x all.1 one)

-- ---- what the items of a program are

abbrev signature_from : ProcedureEntry → Signature
signature_from entry = record { parameters = map slot_base (parameters_of entry); result = given_base entry.result }

abbrev way_of : ChannelContents → Direction
way_of entry = entry.direction

abbrev variable_of : GlobalEntry → VariableType
variable_of entry = record { base = entry.base; size = entry.size }

abbrev declared_variable : GlobalTree → VariableType
declared_variable global = record { base = global.base; size = size_of global.value }

-- the channels, how many exceptions there are, the globals and the procedures
record Shape : Type 0 where
  pub directions : List Direction
  pub exceptions : ℕ
  pub variables : List VariableType
  pub signatures : List Signature

abbrev shape_with : Shape → ItemTree → Shape
shape_with shape (ChannelItem at way label called) = record shape { directions = shape.directions ++ way ∷ [] }
shape_with shape (ExceptionItem at name) = record shape { exceptions = shape.exceptions + 1 }
shape_with shape (GlobalItem at typed label called value) = record shape { variables = shape.variables ++ declared_variable (record { at = at; base = typed; label = label; name = called; value = value }) ∷ [] }
shape_with shape (ProcedureItem procedure) = record shape { signatures = shape.signatures ++ signature_of procedure ∷ [] }

abbrev shape_all : Shape → List ItemTree → Shape
shape_all shape [] = shape
shape_all shape (item ∷ items) = shape_all (shape_with shape item) items

abbrev no_items : Shape
no_items = record { directions = []; exceptions = 3; variables = []; signatures = [] }

abbrev StandsIn : Shape → Meaning → Type 0
StandsIn shape (meanings.Item (Channel direction) channel) = slice_get shape.directions channel ≡ Some direction
StandsIn shape (meanings.Item Exception number) = number < shape.exceptions
StandsIn shape (meanings.Item Procedure number) = number < length shape.signatures
StandsIn shape (meanings.Variable (Global n) base size) = slice_get shape.variables n ≡ Some (record { base = base; size = size })
StandsIn shape (meanings.Variable (Local n) base size) = ⊥

abbrev MeansIn : Shape → Environment → Type 0
MeansIn shape names = (name : List ℕ) (meaning : Meaning) → names name ≡ Some meaning → StandsIn shape meaning

means_in_declaring : (shape : Shape) (name : List ℕ) (meaning : Meaning) (names : Environment) → StandsIn shape meaning → MeansIn shape names
    → MeansIn shape (declaring name meaning names)
means_in_declaring shape name meaning names stands means other found e = go (bytes_eq name other) e
  where
    go : (b : Bool) → ◌≡◌ {A = Option Meaning} (cond b (Some meaning) (names other)) (Some found) → StandsIn shape found
    go true e =
        let same : meaning ≡ found = cc in
        subst (StandsIn shape) same stands
    go false e = means other found e

stands_further : (shape : Shape) (item : ItemTree) (meaning : Meaning) → StandsIn shape meaning → StandsIn (shape_with shape item) meaning
stands_further shape (ChannelItem at way label called) (meanings.Item (Channel direction) n) e = still_is shape.directions (way ∷ []) n direction e
stands_further shape (ChannelItem at way label called) (meanings.Item Exception n) e = e
stands_further shape (ChannelItem at way label called) (meanings.Item Procedure n) e = e
stands_further shape (ChannelItem at way label called) (meanings.Variable (Global n) base size) e = e
stands_further shape (ChannelItem at way label called) (meanings.Variable (Local n) base size) e = e
stands_further shape (ExceptionItem at name) (meanings.Item (Channel direction) n) e = e
stands_further shape (ExceptionItem at name) (meanings.Item Exception n) e = omega (arith, e)
stands_further shape (ExceptionItem at name) (meanings.Item Procedure n) e = e
stands_further shape (ExceptionItem at name) (meanings.Variable (Global n) base size) e = e
stands_further shape (ExceptionItem at name) (meanings.Variable (Local n) base size) e = e
stands_further shape (GlobalItem at typed label called value) (meanings.Item (Channel direction) n) e = e
stands_further shape (GlobalItem at typed label called value) (meanings.Item Exception n) e = e
stands_further shape (GlobalItem at typed label called value) (meanings.Item Procedure n) e = e
stands_further shape (GlobalItem at typed label called value) (meanings.Variable (Global n) base size) e =
    still_is shape.variables (declared_variable (record { at = at; base = typed; label = label; name = called; value = value }) ∷ []) n (record { base = base; size = size }) e
stands_further shape (GlobalItem at typed label called value) (meanings.Variable (Local n) base size) e = e
stands_further shape (ProcedureItem procedure) (meanings.Item (Channel direction) n) e = e
stands_further shape (ProcedureItem procedure) (meanings.Item Exception n) e = e
stands_further shape (ProcedureItem procedure) (meanings.Item Procedure n) e =
    omega (arith, e, length-append shape.signatures (signature_of procedure ∷ []))
stands_further shape (ProcedureItem procedure) (meanings.Variable (Global n) base size) e = e
stands_further shape (ProcedureItem procedure) (meanings.Variable (Local n) base size) e = e

-- ---- the names of the items

record IsWellFormedTop (shape : Shape) (top : TopLevel) : Type 0 where
  pub channels : top.channels ≡ length shape.directions
  pub exceptions : top.exceptions ≡ shape.exceptions
  pub globals : top.globals ≡ length shape.variables
  pub signatures : top.signatures ≡ shape.signatures
  pub names : MeansIn shape top.names

new_stands : (shape : Shape) (top : TopLevel) (item : ItemTree) → IsWellFormedTop shape top → StandsIn (shape_with shape item) (item_meaning top item)
new_stands shape top (ChannelItem at way label called) kept =
    subst (λ n. slice_get (shape.directions ++ way ∷ []) n ≡ Some way) (sym kept.channels) (last_is shape.directions way)
new_stands shape top (ExceptionItem at name) kept = omega (arith, kept.exceptions)
new_stands shape top (GlobalItem at typed label called value) kept =
    let type = declared_variable (record { at = at; base = typed; label = label; name = called; value = value }) in
    subst (λ n. slice_get (shape.variables ++ type ∷ []) n ≡ Some type) (sym kept.globals) (last_is shape.variables type)
new_stands shape top (ProcedureItem procedure) kept =
    let long : length top.signatures ≡ length shape.signatures = ap length kept.signatures in
    omega (arith, long, length-append shape.signatures (signature_of procedure ∷ []))

counted_kept : (shape : Shape) (top : TopLevel) (item : ItemTree) (names : Environment) → IsWellFormedTop shape top → MeansIn (shape_with shape item) names
    → IsWellFormedTop (shape_with shape item) (record (counted top item) { names = names })
counted_kept shape top (ChannelItem at way label called) names kept means = record {
  channels = omega (arith, kept.channels, length-append shape.directions (way ∷ []));
  exceptions = kept.exceptions;
  globals = kept.globals;
  signatures = kept.signatures;
  names = means;
}
counted_kept shape top (ExceptionItem at name) names kept means = record {
  channels = kept.channels;
  exceptions = omega (arith, kept.exceptions);
  globals = kept.globals;
  signatures = kept.signatures;
  names = means;
}
counted_kept shape top (GlobalItem at typed label called value) names kept means = record {
  channels = kept.channels;
  exceptions = kept.exceptions;
  globals = omega (arith, kept.globals, length-append shape.variables (declared_variable (record { at = at; base = typed; label = label; name = called; value = value }) ∷ []));
  signatures = kept.signatures;
  names = means;
}
counted_kept shape top (ProcedureItem procedure) names kept means = record {
  channels = kept.channels;
  exceptions = kept.exceptions;
  globals = kept.globals;
  signatures = ap (λ one. one ++ signature_of procedure ∷ []) kept.signatures;
  names = means;
}

name_kept : (shape : Shape) (top : TopLevel) (item : ItemTree) → IsWellFormedTop shape top → IfOk (next_name top item) (IsWellFormedTop (shape_with shape item))
name_kept shape top item kept =
    subst (λ found. IfOk found (IsWellFormedTop (shape_with shape item))) (sym (next_is top item))
    (then_finds (fresh_finding (top.names (item_name item).text) (item_name item).at) _ (λ one. Unit {0}) _
    (any_finds (fresh_finding (top.names (item_name item).text) (item_name item).at)) (λ one nothing.
    counted_kept shape top item (declaring (item_name item).text (item_meaning top item) top.names) kept
    (means_in_declaring (shape_with shape item) (item_name item).text (item_meaning top item) top.names (new_stands shape top item kept)
    (λ name meaning e. stands_further shape item meaning (kept.names name meaning e)))))

names_kept : (shape : Shape) (top : TopLevel) (items : List ItemTree) → IsWellFormedTop shape top → IfOk (along next_name top items) (IsWellFormedTop (shape_all shape items))
names_kept shape top [] kept = kept
names_kept shape top (item ∷ items) kept =
    then_finds (next_name top item) (λ next. along next_name next items) (IsWellFormedTop (shape_with shape item)) _ (name_kept shape top item kept)
    (λ next kept_next. names_kept (shape_with shape item) next items kept_next)

built_in_kept : IsWellFormedTop no_items built_in
built_in_kept = record {
  channels = refl;
  exceptions = refl;
  globals = refl;
  signatures = refl;
  names =
      means_in_declaring no_items (codes "End") (meanings.Item Exception 2)
      (declaring (codes "Bounds") (meanings.Item Exception 1) (declaring (codes "Arith") (meanings.Item Exception 0) nothing_declared)) (omega arith)
      (means_in_declaring no_items (codes "Bounds") (meanings.Item Exception 1) (declaring (codes "Arith") (meanings.Item Exception 0) nothing_declared) (omega arith)
      (means_in_declaring no_items (codes "Arith") (meanings.Item Exception 0) nothing_declared (omega arith) (λ name meaning e. absurd (cc))));
}

-- ---- channels and globals

-- a label before which these policies are written: it is of them and of others, which are written in it
abbrev LabelThere : PrincipalHierarchy → List ReaderPolicy → LabelTree → Label → Type 0
LabelThere h written label found =
    (label_fits h found ≡ true) × (more : List ReaderPolicy) × (1 + policies_weight more ≤ tree.label_nodes label) × IsOf (written ++ more) found

-- what the labels of items may name: globals whose labels fit, and are of policies that are written before
record KnownGlobals (h : PrincipalHierarchy) (written : List ReaderPolicy) (globals : List GlobalEntry) : Type 0 where
  pub fit : GlobalsFit h globals
  pub known : (number : ℕ) → IfSome (slice_get globals number) (λ (entry : GlobalEntry). IsOf written entry.label)

head_label : (h : PrincipalHierarchy) (top : TopLevel) (globals : List GlobalEntry) (written : List ReaderPolicy) → KnownGlobals h written globals → (label : LabelTree)
    → IfOk (label_finding (heads h top globals) label) (LabelThere h written label)
head_label h top globals written known label =
    IfOk-weaker (label_finding (heads h top globals) label) _ (LabelThere h written label) (λ found parts. (parts.0, parts.1.0, parts.1.1, parts.1.2))
    (both_find (label_finding (heads h top globals) label) (λ found. label_fits h found ≡ true)
    (λ found. (more : List ReaderPolicy) × (1 + policies_weight more ≤ tree.label_nodes label) × IsOf (written ++ more) found)
    (label_there (heads h top globals) known.fit refl label) (label_of (heads h top globals) written known.known refl label))

channel_there : (h : PrincipalHierarchy) (top : TopLevel) (globals : List GlobalEntry) (written : List ReaderPolicy) → KnownGlobals h written globals → (channel : ChannelTree)
    → IfOk (channel_finding (heads h top globals) channel) (λ (entry : ChannelContents). LabelThere h written channel.label entry.label × (entry.direction ≡ channel.direction))
unfolding channel_finding
channel_there h top globals written known channel =
    then_finds (label_finding (heads h top globals) channel.label) _ (LabelThere h written channel.label) _ (head_label h top globals written known channel.label)
    (λ label there. (there, refl))

-- the first value is of the type, and that of an array is zero
abbrev IsWellFormedFirst : BaseType → GlobalValueTree → Option ℕ × Value → Type 0
IsWellFormedFirst base value found =
    (size_fits found.0 ≡ true)
    × ((same_base (base_of_value found.1) base && (is_none found.0 || is_zero_value found.1)) ≡ true) × (found.0 ≡ size_of value)

zero_fits : (base : BaseType) → (same_base (base_of_value (zero_of base)) base && is_zero_value (zero_of base)) ≡ true
zero_fits Int = refl
zero_fits Boolean = refl

first_there : (base : BaseType) (value : GlobalValueTree) → IfOk (first_finding base value) (IsWellFormedFirst base value)
unfolding first_finding size_finding
first_there base (ScalarTree (IntegerConstant at negative value)) =
    if_finds (same_base Int base) (None, Number (signed negative value)) _ at
    (IsWellFormedFirst base (ScalarTree (IntegerConstant at negative value))) (λ same. (refl, and_from (same_base Int base) true same refl, refl))
first_there base (ScalarTree (TruthConstant at value)) =
    if_finds (same_base Boolean base) (None, Truth value) _ at
    (IsWellFormedFirst base (ScalarTree (TruthConstant at value))) (λ same. (refl, and_from (same_base Boolean base) true same refl, refl))
first_there base (ArrayTree size) =
    then_finds (size_finding size) _ (λ long. (size_fits (Some long) ≡ true) × (long ≡ size.1)) _
    (if_finds (nat_lt 0 size.1 && nat_le size.1 MAX_ELEMENTS) size.1 _ size.0 (λ long. (size_fits (Some long) ≡ true) × (long ≡ size.1)) (λ fit. (fit, refl)))
    (λ long there. (there.0, zero_fits base, ap some_size there.1))
  where
    some_size : ℕ → Option ℕ
    some_size n = Some n

abbrev global_fits : PrincipalHierarchy → GlobalEntry → Bool
global_fits h entry = size_fits entry.size && label_fits h entry.label && first_fits entry

global_there : (h : PrincipalHierarchy) (top : TopLevel) (globals : List GlobalEntry) (written : List ReaderPolicy) → KnownGlobals h written globals → (global : GlobalTree)
    → IfOk (global_finding (heads h top globals) global)
    (λ (entry : GlobalEntry). (global_fits h entry ≡ true) × (variable_of entry ≡ declared_variable global) × LabelThere h written global.label entry.label)
unfolding global_finding
global_there h top globals written known global =
    let base = global.base in
    then_finds (label_finding (heads h top globals) global.label) _ (LabelThere h written global.label) _
    (head_label h top globals written known global.label) (λ label there.
    then_finds (first_finding base global.value) _ (IsWellFormedFirst base global.value) _ (first_there base global.value) (λ value kept. (
      and_from (size_fits value.0 && label_fits h label) (same_base (base_of_value value.1) base && (is_none value.0 || is_zero_value value.1))
          (and_from (size_fits value.0) (label_fits h label) kept.0 there.0) kept.1,
      (λ i. record { base = base; size = kept.2 i }),
      there,
    )))

-- ---- the tables

abbrev channel_fits : PrincipalHierarchy → ChannelContents → Bool
channel_fits h entry = label_fits h entry.label

abbrev frame_fits : ProcedureEntry → Bool
frame_fits entry = nat_le (sum_by (λ (slot : SlotEntry). cell_count slot.size) entry.slots) MAX_CELLS

-- a procedure that fits each program of the hierarchy, if its frame has few enough cells
abbrev ProcedureFits : PrincipalHierarchy → TopLevel → ProcedureEntry → Type 0
ProcedureFits h top entry = (world : World h top) → frame_fits entry ≡ true → procedure_fits world.program entry ≡ true

-- labels of these policies, and no label with more nodes than they have
abbrev ChannelOf : List ReaderPolicy → ChannelContents → Type 0
ChannelOf written entry = IsOf written entry.label

abbrev GlobalOf : List ReaderPolicy → GlobalEntry → Type 0
GlobalOf written entry = IsOf written entry.label

labels_small : (limit : ℕ) (written : List ReaderPolicy) (channels : List ChannelContents) → Each (ChannelOf written) channels → policies_weight written ≤ limit
    → list_all (λ (entry : ChannelContents). nat_le (label_nodes entry.label) limit) channels ≡ true
labels_small limit written [] each few = refl
labels_small limit written (entry ∷ channels) each few =
    and_from (nat_le (label_nodes entry.label) limit) _ (le-leb (label_nodes entry.label) limit (omega (arith, few, label_small written entry.label each.0)))
    (labels_small limit written channels each.1 few)

channels_of_more : (written more : List ReaderPolicy) (channels : List ChannelContents) → Each (ChannelOf written) channels → Each (ChannelOf (written ++ more)) channels
channels_of_more written more [] each = tt
channels_of_more written more (entry ∷ channels) each = (is_of_more written more entry.label each.0, channels_of_more written more channels each.1)

globals_of_more : (written more : List ReaderPolicy) (globals : List GlobalEntry) → Each (GlobalOf written) globals → Each (GlobalOf (written ++ more)) globals
globals_of_more written more [] each = tt
globals_of_more written more (entry ∷ globals) each = (is_of_more written more entry.label each.0, globals_of_more written more globals each.1)

-- what is counted of the tables: their entries, which the text has too
abbrev table_nodes : Program → ℕ
table_nodes tables =
    length tables.channels + length tables.exceptions + length tables.globals + sum_by procedure_nodes tables.procedures

record AreWellFormedTables (h : PrincipalHierarchy) (top : TopLevel) (shape : Shape) (nodes : ℕ) (tables : Program) : Type 0 where
  pub directions : map way_of tables.channels ≡ shape.directions
  pub exceptions : 3 + length tables.exceptions ≡ shape.exceptions
  pub variables : map variable_of tables.globals ≡ shape.variables
  pub signatures : map signature_from tables.procedures ≡ shape.signatures
  pub channels_fit : list_all (channel_fits h) tables.channels ≡ true
  pub globals_fit : list_all (global_fits h) tables.globals ≡ true
  pub procedures_fit : Each (ProcedureFits h top) tables.procedures
  pub few : table_nodes tables ≤ nodes
  pub written : List ReaderPolicy
  pub few_written : policies_weight written ≤ nodes
  pub channels_of : Each (ChannelOf written) tables.channels
  pub globals_of : Each (GlobalOf written) tables.globals

known_globals : (h : PrincipalHierarchy) (top : TopLevel) (shape : Shape) (nodes : ℕ) (tables : Program) (kept : AreWellFormedTables h top shape nodes tables)
    → KnownGlobals h kept.written tables.globals
known_globals h top shape nodes tables kept = record {
  fit = all_labels_fit tables.globals kept.globals_fit;
  known = λ number. each_there (GlobalOf kept.written) tables.globals number kept.globals_of;
}
  where
    each_there : {X : Type 0} (P : X → Type 0) (xs : List X) (n : ℕ) → Each P xs → IfSome (slice_get xs n) P
    each_there P [] n all = tt
    each_there P (x ∷ xs) zero all = all.0
    each_there P (x ∷ xs) (suc n) all = each_there P xs n all.1

    all_labels_fit : (globals : List GlobalEntry) → list_all (global_fits h) globals ≡ true → GlobalsFit h globals
    all_labels_fit [] fit = refl
    all_labels_fit (entry ∷ globals) fit =
        let parts = and_parts (global_fits h entry) (list_all (global_fits h) globals) fit in
        let own = and_parts (size_fits entry.size && label_fits h entry.label) (first_fits entry) parts.0 in
        and_from (label_fits h entry.label) _ (and_parts (size_fits entry.size) (label_fits h entry.label) own.0).1 (all_labels_fit globals parts.1)

signed_is : (entry : ProcedureEntry) (signature : Signature) → Signed entry signature → signature_from entry ≡ signature
signed_is entry signature signed = λ i. record { parameters = signed.parameters i; result = signed.value i }

module _ (placed : ℕ → Type 0) (word : List ℕ → Type 0) (h : PrincipalHierarchy) (top : TopLevel) where
  abbrev weight : ReaderPolicy → ℕ
  weight policy = 1 + length policy.readers

  item_kept : (shape : Shape) (nodes : ℕ) (tables : Program) (item : ItemTree) → IsWrittenItem placed word IsInteger item → AreWellFormedTables h top shape nodes tables
      → IfOk (next_item h top tables item) (AreWellFormedTables h top (shape_with shape item) (nodes + tree.item_nodes item))
  unfolding next_item
  item_kept shape nodes tables (ChannelItem at way label called) is kept =
      subst (λ found. IfOk found (AreWellFormedTables h top (shape_with shape (ChannelItem at way label called)) (nodes + tree.item_nodes (ChannelItem at way label called)))) (sym (next_channel h top tables (record { at = at; direction = way; label = label; name = called })))
      (then_finds (channel_finding (heads h top tables.globals) (record { at = at; direction = way; label = label; name = called })) _
      (λ (entry : ChannelContents). LabelThere h kept.written label entry.label × (entry.direction ≡ way)) _
      (channel_there h top tables.globals kept.written (known_globals h top shape nodes tables kept) (record { at = at; direction = way; label = label; name = called })) (λ entry there. record {
        directions = map_push way_of tables.channels entry ∙ (λ i. kept.directions i ++ there.1 i ∷ []);
        exceptions = kept.exceptions;
        variables = kept.variables;
        signatures = kept.signatures;
        channels_fit = all_pushed (channel_fits h) tables.channels entry kept.channels_fit there.0.0;
        globals_fit = kept.globals_fit;
        procedures_fit = kept.procedures_fit;
        few = omega (arith, kept.few, length-append tables.channels (entry ∷ []));
        written = kept.written ++ there.0.1;
        few_written = omega (arith, kept.few_written, there.0.2, sum_by-append weight kept.written there.0.1);
        channels_of =
            each_pushed (ChannelOf (kept.written ++ there.0.1)) tables.channels entry (channels_of_more kept.written there.0.1 tables.channels kept.channels_of) there.0.3;
        globals_of = globals_of_more kept.written there.0.1 tables.globals kept.globals_of;
      }))
  item_kept shape nodes tables (ExceptionItem at name) is kept = record {
    directions = kept.directions;
    exceptions = omega (arith, kept.exceptions, length-append tables.exceptions (name.text ∷ []));
    variables = kept.variables;
    signatures = kept.signatures;
    channels_fit = kept.channels_fit;
    globals_fit = kept.globals_fit;
    procedures_fit = kept.procedures_fit;
    few = omega (arith, kept.few, length-append tables.exceptions (name.text ∷ []));
    written = kept.written;
    few_written = omega (arith, kept.few_written);
    channels_of = kept.channels_of;
    globals_of = kept.globals_of;
  }
  item_kept shape nodes tables (GlobalItem at typed label called value) is kept =
      subst (λ found. IfOk found (AreWellFormedTables h top (shape_with shape (GlobalItem at typed label called value)) (nodes + tree.item_nodes (GlobalItem at typed label called value)))) (sym (next_global h top tables (record { at = at; base = typed; label = label; name = called; value = value })))
      (then_finds (global_finding (heads h top tables.globals) (record { at = at; base = typed; label = label; name = called; value = value })) _
      (λ (entry : GlobalEntry). (global_fits h entry ≡ true) × (variable_of entry ≡ declared_variable (record { at = at; base = typed; label = label; name = called; value = value })) × LabelThere h kept.written label entry.label) _
      (global_there h top tables.globals kept.written (known_globals h top shape nodes tables kept) (record { at = at; base = typed; label = label; name = called; value = value })) (λ entry there. record {
        directions = kept.directions;
        exceptions = kept.exceptions;
        variables = map_push variable_of tables.globals entry ∙ (λ i. kept.variables i ++ there.1 i ∷ []);
        signatures = kept.signatures;
        channels_fit = kept.channels_fit;
        globals_fit = all_pushed (global_fits h) tables.globals entry kept.globals_fit there.0;
        procedures_fit = kept.procedures_fit;
        few = omega (arith, kept.few, length-append tables.globals (entry ∷ []));
        written = kept.written ++ there.2.1;
        few_written = omega (arith, kept.few_written, there.2.2, sum_by-append weight kept.written there.2.1);
        channels_of = channels_of_more kept.written there.2.1 tables.channels kept.channels_of;
        globals_of =
            each_pushed (GlobalOf (kept.written ++ there.2.1)) tables.globals entry (globals_of_more kept.written there.2.1 tables.globals kept.globals_of) there.2.3;
      }))
  item_kept shape nodes tables (ProcedureItem procedure) is kept =
      then_finds (procedure_entry_finding (heads h top tables.globals) top.signatures procedure) _ (IsWellFormedProcedure h top procedure) _
      (procedure_keeps placed word h top tables.globals (known_globals h top shape nodes tables kept).fit procedure is)
      (λ entry there. record {
        directions = kept.directions;
        exceptions = kept.exceptions;
        variables = kept.variables;
        signatures =
            map_push signature_from tables.procedures entry
            ∙ (λ i. kept.signatures i ++ signed_is entry (signature_of procedure) there.signed i ∷ []);
        channels_fit = kept.channels_fit;
        globals_fit = kept.globals_fit;
        procedures_fit = each_pushed (ProcedureFits h top) tables.procedures entry kept.procedures_fit there.fits;
        few = omega (arith, kept.few, sum_by_push procedure_nodes tables.procedures entry, there.few);
        written = kept.written;
        few_written = omega (arith, kept.few_written);
        channels_of = kept.channels_of;
        globals_of = kept.globals_of;
      })

  items_kept : (shape : Shape) (before nodes : ℕ) (tables : Program) (items : List ItemTree) → nodes ≡ before + sum_by tree.item_nodes items
      → All (IsWrittenItem placed word IsInteger) items → AreWellFormedTables h top shape before tables
      → IfOk (along (next_item h top) tables items) (AreWellFormedTables h top (shape_all shape items) nodes)
  items_kept shape before nodes tables [] e all kept = record {
    directions = kept.directions;
    exceptions = kept.exceptions;
    variables = kept.variables;
    signatures = kept.signatures;
    channels_fit = kept.channels_fit;
    globals_fit = kept.globals_fit;
    procedures_fit = kept.procedures_fit;
    few = omega (arith, e, kept.few);
    written = kept.written;
    few_written = omega (arith, e, kept.few_written);
    channels_of = kept.channels_of;
    globals_of = kept.globals_of;
  }
  items_kept shape before nodes tables (item ∷ items) e all kept =
      then_finds (next_item h top tables item) (λ next. along (next_item h top) next items)
      (AreWellFormedTables h top (shape_with shape item) (before + tree.item_nodes item)) _
      (item_kept shape before tables item (All-head (IsWrittenItem placed word IsInteger) item items all) kept) (λ next kept_next.
      items_kept (shape_with shape item) (before + tree.item_nodes item) nodes next items (omega (arith, e, sum_by-cons tree.item_nodes item items))
      (All-tail (IsWrittenItem placed word IsInteger) item items all) kept_next)

-- ---- cells

abbrev variable_cells : VariableType → ℕ
variable_cells type = cell_count type.size

abbrev entry_cells : GlobalEntry → ℕ
entry_cells entry = cell_count entry.size

mapped_cells : (globals : List GlobalEntry) → sum_by entry_cells globals ≡ sum_by variable_cells (map variable_of globals)
mapped_cells [] = refl
mapped_cells (entry ∷ globals) =
    omega (arith, mapped_cells globals, sum_by-cons entry_cells entry globals, sum_by-cons variable_cells (variable_of entry) (map variable_of globals))

cells_kept : (shape : Shape) (cells : ℕ) (items : List ItemTree) → cells ≡ sum_by variable_cells shape.variables → cells ≤ MAX_CELLS
    → IfOk (along next_global_cells cells items) (λ all. (all ≡ sum_by variable_cells (shape_all shape items).variables) × (all ≤ MAX_CELLS))
cells_kept shape cells [] e few = (e, few)
cells_kept shape cells (ChannelItem at way label called ∷ items) e few = cells_kept (shape_with shape (ChannelItem at way label called)) cells items e few
cells_kept shape cells (ExceptionItem at name ∷ items) e few = cells_kept (shape_with shape (ExceptionItem at name)) cells items e few
cells_kept shape cells (ProcedureItem procedure ∷ items) e few = cells_kept (shape_with shape (ProcedureItem procedure)) cells items e few
cells_kept shape cells (GlobalItem at typed label called value ∷ items) e few =
    let next = cells + cell_count (size_of value) in
    then_finds (give_if (nat_le next MAX_CELLS) next _ called.at) (λ more. along next_global_cells more items)
    (λ more. (more ≡ sum_by variable_cells (shape_with shape (GlobalItem at typed label called value)).variables) × (more ≤ MAX_CELLS)) _
    (if_finds (nat_le next MAX_CELLS) next _ called.at
    (λ more. (more ≡ sum_by variable_cells (shape_with shape (GlobalItem at typed label called value)).variables) × (more ≤ MAX_CELLS))
    (λ within. (omega (arith, e, sum_by_push variable_cells shape.variables (declared_variable (record { at = at; base = typed; label = label; name = called; value = value }))), leb-true next MAX_CELLS within)))
    (λ more parts. cells_kept (shape_with shape (GlobalItem at typed label called value)) more items parts.0 parts.1)

frames_kept : (one : Unit {0}) (procedures : List ProcedureEntry) → IfOk (along next_frame one procedures) (λ done. list_all frame_fits procedures ≡ true)
frames_kept one [] = refl
frames_kept one (procedure ∷ procedures) =
    then_finds (next_frame one procedure) (λ next. along next_frame next procedures) (λ next. frame_fits procedure ≡ true) _
    (require_finds (frame_fits procedure) _ procedure.at) (λ next fit.
    IfOk-weaker (along next_frame next procedures) (λ done. list_all frame_fits procedures ≡ true) (λ done. list_all frame_fits (procedure ∷ procedures) ≡ true)
    (λ done rest. and_from (frame_fits procedure) (list_all frame_fits procedures) fit rest) (frames_kept next procedures))

all_fit : (h : PrincipalHierarchy) (top : TopLevel) (world : World h top) (procedures : List ProcedureEntry) → Each (ProcedureFits h top) procedures
    → list_all frame_fits procedures ≡ true → list_all (procedure_fits world.program) procedures ≡ true
all_fit h top world [] each frames = refl
all_fit h top world (procedure ∷ procedures) each frames =
    let parts = and_parts (frame_fits procedure) (list_all frame_fits procedures) frames in
    and_from (procedure_fits world.program procedure) (list_all (procedure_fits world.program) procedures) (each.0 world parts.0)
    (all_fit h top world procedures each.1 parts.1)

-- ---- main

main_found : (found : Option Meaning) (procedures : List ProcedureEntry) → IfOk (main_finding found procedures) (λ main. main_fits (slice_get procedures main) ≡ true)
unfolding main_finding
main_found found procedures = go (option_and_then (item_of Procedure) found)
  where
    at_entry : (number : ℕ) (entry : Option ProcedureEntry) → slice_get procedures number ≡ entry
        → IfOk (found_or refusals.NoProperMain 0 entry >>= λ procedure. give_if (procedure.parameters == 0 && is_none procedure.result) number refusals.NoProperMain procedure.at)
        (λ main. main_fits (slice_get procedures main) ≡ true)
    at_entry number None e = tt
    at_entry number (Some procedure) e =
        if_finds (procedure.parameters == 0 && is_none procedure.result) number _ procedure.at (λ main. main_fits (slice_get procedures main) ≡ true)
        (λ plain. subst (λ one. main_fits one ≡ true) (sym e) plain)

    go : (number : Option ℕ)
        → IfOk (found_or refusals.NoProperMain 0 number >>= λ number. found_or refusals.NoProperMain 0 (slice_get procedures number) >>= λ procedure. give_if (procedure.parameters == 0 && is_none procedure.result) number refusals.NoProperMain procedure.at)
        (λ main. main_fits (slice_get procedures main) ≡ true)
    go None = tt
    go (Some number) = at_entry number (slice_get procedures number) refl

-- ---- what the names of the items mean in the program

way_there : (found : Option ChannelContents) (way : Direction) → option_map way_of found ≡ Some way → channel_is found way ≡ true
way_there None way e = absurd (cc)
way_there (Some entry) way e =
    let same : entry.direction ≡ way = cc in
    subst (λ one. same_direction one way ≡ true) (sym same) (itself way)
  where
    itself : (way : Direction) → same_direction way way ≡ true
    itself directions.Input = refl
    itself directions.Output = refl

type_there : (found : Option GlobalEntry) → global_type found ≡ option_map variable_of found
type_there None = refl
type_there (Some entry) = refl

module _ (h : PrincipalHierarchy) (top : TopLevel) (shape : Shape) (nodes : ℕ) (tables : Program) (main : ℕ) (top_kept : IsWellFormedTop shape top) (kept : AreWellFormedTables h top shape nodes tables) where
  abbrev program : Program
  program = program_with h tables main

  way_at : (n : ℕ) (way : Direction) → slice_get shape.directions n ≡ Some way → channel_is (slice_get tables.channels n) way ≡ true
  way_at n way e =
      way_there (slice_get tables.channels n) way
      (sym (slice_get-map way_of tables.channels n) ∙ ap (λ one. slice_get one n) kept.directions ∙ e)

  type_at : (n : ℕ) (type : VariableType) → slice_get shape.variables n ≡ Some type → global_type (slice_get tables.globals n) ≡ Some type
  type_at n type e =
      type_there (slice_get tables.globals n) ∙ sym (slice_get-map variable_of tables.globals n) ∙ ap (λ one. slice_get one n) kept.variables ∙ e

  stands_there : (procedure : ProcedureEntry) (meaning : Meaning) → StandsIn shape meaning → Stands program procedure top.signatures meaning
  stands_there procedure (meanings.Item (Channel direction) n) e = way_at n direction e
  stands_there procedure (meanings.Item Exception n) e = lt-ltb n (3 + length tables.exceptions) (omega (arith, e, kept.exceptions))
  stands_there procedure (meanings.Item Procedure n) e =
      let long : length (map signature_from tables.procedures) ≡ length shape.signatures = ap length kept.signatures in
      let (callee, found) = there_at tables.procedures n (omega (arith, e, long, length-map tables.procedures signature_from)) in
      let none : Signature = record { parameters = []; result = None } in
      let same : signature_at top.signatures n ≡ signature_from callee =
      ap (λ one. slice_index_or one n none) (top_kept.signatures ∙ sym kept.signatures) ∙ index_mapped signature_from tables.procedures n callee none found in (
        callee,
        found,
        record {
          parameters = sym (ap (λ (one : Signature). one.parameters) same);
          value = sym (ap (λ (one : Signature). one.result) same);
        },
      )
  stands_there procedure (meanings.Variable (Global n) base size) e = type_at n (record { base = base; size = size }) e
  stands_there procedure (meanings.Variable (Local n) base size) e = absurd e

  world : World h top
  world = record {
    program = program;
    hierarchy = refl;
    means = λ procedure name meaning e. stands_there procedure meaning (top_kept.names name meaning e);
  }

  program_fits : IsHierarchy h → main_fits (slice_get tables.procedures main) ≡ true
      → (cells : ℕ) → cells ≡ sum_by variable_cells shape.variables → cells ≤ MAX_CELLS → list_all frame_fits tables.procedures ≡ true → nodes ≤ node_limit
      → IsTrue (well_formed program)
  unfolding world
  program_fits hierarchy main_is cells cells_are few_cells frames few_nodes =
      let same : sum_by variable_cells (map variable_of tables.globals) ≡ sum_by variable_cells shape.variables = ap (sum_by variable_cells) kept.variables in
      program_from_parts program (record {
        principals_fit = le-leb (length h.names) MAX_PRINCIPALS hierarchy.few;
        channels_fit = kept.channels_fit;
        globals_are =
            and_from (list_all (global_fits h) tables.globals) (nat_le (sum_by entry_cells tables.globals) MAX_CELLS) kept.globals_fit
            (le-leb (sum_by entry_cells tables.globals) MAX_CELLS (omega (arith, mapped_cells tables.globals, same, cells_are, few_cells)));
        procedures_fit = all_fit h top world tables.procedures kept.procedures_fit frames;
        main_is = main_is;
        nodes_fit = le-leb (program_nodes program) node_limit (omega (arith, kept.few, few_nodes));
        labels_fit = labels_small node_limit kept.written tables.channels kept.channels_of (omega (arith, kept.few_written, few_nodes));
      })

-- ---- the whole

pub resolution_keeps : (placed : ℕ → Type 0) (word : List ℕ → Type 0) (h : PrincipalHierarchy) (written : ProgramTree) → IsHierarchy h → IsWritten placed word IsInteger written
    → tree.program_nodes written ≤ 1048577 → IfOk (resolution h written) (λ found. IsTrue (well_formed found))
unfolding resolution
resolution_keeps placed word h written hierarchy is few =
    let shape = shape_all no_items written.items in
    let nodes = sum_by tree.item_nodes written.items in
    then_finds (along next_name built_in written.items) _ (IsWellFormedTop shape) _ (names_kept no_items built_in written.items built_in_kept) (λ top top_kept.
    then_finds (along (next_item h top) empty_program written.items) _ (AreWellFormedTables h top shape nodes) _
    (items_kept placed word h top no_items 0 nodes empty_program written.items (omega arith) is (record {
      directions = refl;
      exceptions = refl;
      variables = refl;
      signatures = refl;
      channels_fit = refl;
      globals_fit = refl;
      procedures_fit = tt;
      few = omega arith;
      written = [];
      few_written = omega arith;
      channels_of = tt;
      globals_of = tt;
    })) (λ tables kept.
    then_finds (main_finding (top.names (codes "main")) tables.procedures) _ (λ main. main_fits (slice_get tables.procedures main) ≡ true) _
    (main_found (top.names (codes "main")) tables.procedures) (λ main main_is.
    then_finds (along next_global_cells 0 written.items) _ (λ all. (all ≡ sum_by variable_cells shape.variables) × (all ≤ MAX_CELLS)) _
    (cells_kept no_items 0 written.items refl (omega arith)) (λ cells cells_are.
    then_finds (along next_frame tt tables.procedures) _ (λ done. list_all frame_fits tables.procedures ≡ true) _ (frames_kept tt tables.procedures)
    (λ done frames. program_fits h top shape nodes tables main top_kept kept hierarchy main_is cells cells_are.0 cells_are.1 frames (omega (arith, few)))))))
