-- The names of the items of a program are names and all different, and so are those of what it resolves to.
use Rattle.types.specs.declared.scope.ItemKind.TheVariants.{Exception}
use Rattle.std.proofs.Common.{◌≡◌, ◌≢◌, refl, sym, ◌∙◌, subst, ap, ℕ, List, [], ◌∷◌, ◌++◌, map, Bool, true, false, cond, append-nil, append_assoc, arith}
use Rattle.common.specs.Exceptions.{built_in_names}
use Rattle.std.specs.Prelude.{All, IfOk, Option, Some, None, bytes_eq, codes}
use Rattle.std.proofs.lemmas.List.{map_push}
use Rattle.std.proofs.lemmas.List.Elements.{All-nil, All-cons, All-head, All-tail}
use Rattle.std.proofs.lemmas.List.Kept.{AllPairs-cons}
use Rattle.std.proofs.lemmas.Slice.Eq.{bytes_eq-Decides}
use Rattle.principals.specs.ActsFor.{PrincipalHierarchy, AllDifferent}
use Rattle.common.specs.declared.limits.TheConstants.{MAX_TEXT}
use Rattle.syntax.specs.Tree.{ChannelTree, GlobalTree, ProcedureTree, ItemTree, ChannelItem, ExceptionItem, GlobalItem, ProcedureItem, ProgramTree}
use Rattle.syntax.specs.Written.{Anywhere, IsInteger, IsNameWithin, IsWrittenItem, IsWritten}
use Rattle.labels.specs.Channel.{ChannelContents}
use Rattle.resolved.specs.Program.{Program, GlobalEntry, ProcedureEntry}
use Rattle.types.specs.declared.scope.Meaning.{Meaning}
use Rattle.types.specs.declared.scope.Meaning.TheVariants as meanings
use Rattle.common.specs.Results.{along}
use Rattle.types.specs.Environment.{Environment, declaring, fresh_finding}
use Rattle.types.specs.Labels.{LabelScope, label_finding, optional_label_finding}
use Rattle.types.specs.Laws.{IsProperName, item_names}
use Rattle.types.specs.Statements.{Signature, block_finding}
use Rattle.types.proofs.NextItems.{next_is, next_channel, next_global}
use Rattle.types.specs.Resolution.{TopLevel, built_in, item_name, item_meaning, next_name, heads, channel_finding, first_finding, global_finding, result_finding, procedure_entry_finding, next_item, main_finding, resolution, next_thrown, empty_program, next_frame, next_global_cells}
use Rattle.types.proofs.Passing.{then_finds, any_finds}
use Rattle.types.proofs.Procedures.{parameters_finding}

-- ---- lists

abbrev EachName : (List ℕ → Type 0) → List (List ℕ) → Type 0
EachName P [] = Unit {0}
EachName P (name ∷ names) = P name × EachName P names

each_inserted : (P : List ℕ → Type 0) (before after : List (List ℕ)) (name : List ℕ) → EachName P (before ++ after) → P name → EachName P (before ++ name ∷ after)
each_inserted P [] after name all one = (one, all)
each_inserted P (other ∷ before) after name all one = (all.0, each_inserted P before after name all.1 one)

each_mapped : (P Q : List ℕ → Type 0) (names : List (List ℕ)) → ((name : List ℕ) → P name → Q name) → EachName P names → EachName Q names
each_mapped P Q [] further all = tt
each_mapped P Q (name ∷ names) further all = (further name all.0, each_mapped P Q names further all.1)

all_of_each : (P : List ℕ → Type 0) (names : List (List ℕ)) → EachName P names → All P names
all_of_each P [] all = All-nil P
all_of_each P (name ∷ names) all = All-cons P name names all.0 (all_of_each P names all.1)

abbrev Different : List (List ℕ) → Type 0
Different [] = Unit {0}
Different (name ∷ names) = EachName (λ other. name ≢ other) names × Different names

different_inserted : (before after : List (List ℕ)) (name : List ℕ) → Different (before ++ after) → EachName (λ other. name ≢ other) (before ++ after)
    → Different (before ++ name ∷ after)
different_inserted [] after name all apart = (apart, all)
different_inserted (other ∷ before) after name all apart =
    (each_inserted (λ one. other ≢ one) before after name all.0 (λ same. apart.0 (sym same)), different_inserted before after name all.1 apart.1)

all_different : (names : List (List ℕ)) → Different names → AllDifferent names
all_different [] all = λ i j d first second. absurd (omega (arith, second))
all_different (name ∷ names) all =
    AllPairs-cons (λ one other. one ≢ other) name names (all_of_each (λ other. name ≢ other) names all.0) (all_different names all.1)

-- a name that was put somewhere into a list
record Inserted (names : List (List ℕ)) (name : List ℕ) (longer : List (List ℕ)) : Type 0 where
  pub before : List (List ℕ)
  pub after : List (List ℕ)
  pub shorter_is : names ≡ before ++ after
  pub longer_is : longer ≡ before ++ name ∷ after

inserted_last : (names rest : List (List ℕ)) (name : List ℕ) → Inserted (names ++ rest) name ((names ++ name ∷ []) ++ rest)
inserted_last names rest name = record { before = names; after = rest; shorter_is = refl; longer_is = append_assoc names (name ∷ []) rest }

inserted_after : (first names : List (List ℕ)) (name : List ℕ) (longer : List (List ℕ)) → Inserted names name longer → Inserted (first ++ names) name (first ++ longer)
inserted_after first names name longer is = record {
  before = first ++ is.before;
  after = is.after;
  shorter_is = ap (λ one. first ++ one) is.shorter_is ∙ sym (append_assoc first is.before is.after);
  longer_is = ap (λ one. first ++ one) is.longer_is ∙ sym (append_assoc first is.before (name ∷ is.after));
}

-- ---- names that are declared

abbrev IsDeclared : Environment → List ℕ → Type 0
IsDeclared names name = (meaning : Meaning) × (names name ≡ Some meaning)

still_declared : (names : Environment) (new : List ℕ) (meaning : Meaning) (name : List ℕ) → IsDeclared names name → IsDeclared (declaring new meaning names) name
still_declared names new meaning name is = go (bytes_eq new name)
  where
    go : (b : Bool) → (found : Meaning) × (◌≡◌ {A = Option Meaning} (cond b (Some meaning) (names name)) (Some found))
    go true = (meaning, refl)
    go false = is

now_declared : (names : Environment) (name : List ℕ) (meaning : Meaning) → IsDeclared (declaring name meaning names) name
now_declared names name meaning = (meaning, ap (λ b. cond b (Some meaning) (names name)) ((bytes_eq-Decides name name).1 refl))

-- names that are declared and different, as are the built-in ones, and that are names
record AreWellFormedNames (names : Environment) (all : List (List ℕ)) : Type 0 where
  pub declared : EachName (IsDeclared names) (built_in_names ++ all)
  pub different : Different (built_in_names ++ all)
  pub proper : EachName IsProperName all

names_inserted : (names : Environment) (all : List (List ℕ)) (name : List ℕ) (longer : List (List ℕ)) (meaning : Meaning) → AreWellFormedNames names all → Inserted all name longer
    → names name ≡ None → IsProperName name → AreWellFormedNames (declaring name meaning names) longer
names_inserted names all name longer meaning kept is fresh proper =
    let moved = subst (AreWellFormedNames names) is.shorter_is kept in
    let before = built_in_names ++ is.before in
    let apart : EachName (λ other. name ≢ other) (before ++ is.after) =
    each_mapped (IsDeclared names) (λ other. name ≢ other) (before ++ is.after)
    (λ other there same. let (found, e) = there in is_nothing found (sym fresh ∙ ap names same ∙ e)) moved.declared in
    subst (AreWellFormedNames (declaring name meaning names)) (sym is.longer_is) (record {
      declared =
          each_inserted (IsDeclared (declaring name meaning names)) before is.after name
          (each_mapped (IsDeclared names) (IsDeclared (declaring name meaning names)) (before ++ is.after)
          (λ other there. still_declared names name meaning other there) moved.declared)
          (now_declared names name meaning);
      different = different_inserted before is.after name moved.different apart;
      proper = each_inserted IsProperName is.before is.after name moved.proper proper;
    })
  where
    is_nothing : (found : Meaning) → ◌≡◌ {A = Option Meaning} None (Some found) → ⊥
    is_nothing found e = cc

-- ---- the names of the items

pub record ItemNames : Type 0 where
  pub exceptions : List (List ℕ)
  pub channels : List (List ℕ)
  pub globals : List (List ℕ)
  pub procedures : List (List ℕ)

abbrev all_names : ItemNames → List (List ℕ)
all_names named = named.exceptions ++ (named.channels ++ (named.globals ++ named.procedures))

abbrev pub names_with : ItemNames → ItemTree → ItemNames
names_with named (ChannelItem at way label called) = record named { channels = named.channels ++ called.text ∷ [] }
names_with named (ExceptionItem at name) = record named { exceptions = named.exceptions ++ name.text ∷ [] }
names_with named (GlobalItem at typed label called value) = record named { globals = named.globals ++ called.text ∷ [] }
names_with named (ProcedureItem procedure) = record named { procedures = named.procedures ++ procedure.name.text ∷ [] }

abbrev pub names_all : ItemNames → List ItemTree → ItemNames
names_all named [] = named
names_all named (item ∷ items) = names_all (names_with named item) items

abbrev pub no_names : ItemNames
no_names = record { exceptions = []; channels = []; globals = []; procedures = [] }

item_inserted : (named : ItemNames) (item : ItemTree) → Inserted (all_names named) (item_name item).text (all_names (names_with named item))
item_inserted named (ExceptionItem at name) = inserted_last named.exceptions (named.channels ++ (named.globals ++ named.procedures)) name.text
item_inserted named (ChannelItem at way label called) =
    inserted_after named.exceptions (named.channels ++ (named.globals ++ named.procedures)) called.text
    ((named.channels ++ called.text ∷ []) ++ (named.globals ++ named.procedures))
    (inserted_last named.channels (named.globals ++ named.procedures) called.text)
item_inserted named (GlobalItem at typed label called value) =
    inserted_after named.exceptions (named.channels ++ (named.globals ++ named.procedures)) called.text
    (named.channels ++ ((named.globals ++ called.text ∷ []) ++ named.procedures))
    (inserted_after named.channels (named.globals ++ named.procedures) called.text ((named.globals ++ called.text ∷ []) ++ named.procedures)
    (inserted_last named.globals named.procedures called.text))
item_inserted named (ProcedureItem procedure) =
    inserted_after named.exceptions (named.channels ++ (named.globals ++ named.procedures)) procedure.name.text
    (named.channels ++ (named.globals ++ (named.procedures ++ procedure.name.text ∷ [])))
    (inserted_after named.channels (named.globals ++ named.procedures) procedure.name.text (named.globals ++ (named.procedures ++ procedure.name.text ∷ []))
    (inserted_after named.globals named.procedures procedure.name.text (named.procedures ++ procedure.name.text ∷ [])
    (record { before = named.procedures; after = []; shorter_is = sym (append-nil named.procedures); longer_is = refl })))

item_proper : (item : ItemTree) → IsWrittenItem Anywhere (IsNameWithin MAX_TEXT) IsInteger item → IsProperName (item_name item).text
item_proper (ChannelItem at way label called) is = is.2.1
item_proper (ExceptionItem at name) is = is.1.1
item_proper (GlobalItem at typed label called value) is = is.2.1
item_proper (ProcedureItem procedure) is = is.name.1

fresh_is : (found : Option Meaning) (at : ℕ) → IfOk (fresh_finding found at) (λ one. found ≡ None)
unfolding fresh_finding
fresh_is None at = refl
fresh_is (Some meaning) at = tt

names_kept : (named : ItemNames) (top : TopLevel) (items : List ItemTree) → All (IsWrittenItem Anywhere (IsNameWithin MAX_TEXT) IsInteger) items
    → AreWellFormedNames top.names (all_names named) → IfOk (along next_name top items) (λ after. AreWellFormedNames after.names (all_names (names_all named items)))
names_kept named top [] all kept = kept
names_kept named top (item ∷ items) all kept =
    then_finds (next_name top item) (λ next. along next_name next items) (λ next. AreWellFormedNames next.names (all_names (names_with named item))) _
    (subst (λ found. IfOk found (λ (next : TopLevel). AreWellFormedNames next.names (all_names (names_with named item)))) (sym (next_is top item))
    (then_finds (fresh_finding (top.names (item_name item).text) (item_name item).at) _ (λ one. top.names (item_name item).text ≡ None) _
    (fresh_is (top.names (item_name item).text) (item_name item).at) (λ one fresh.
    names_inserted top.names (all_names named) (item_name item).text (all_names (names_with named item)) (item_meaning top item) kept
    (item_inserted named item) fresh (item_proper item (All-head (IsWrittenItem Anywhere (IsNameWithin MAX_TEXT) IsInteger) item items all)))))
    (λ next kept_next. names_kept (names_with named item) next items (All-tail (IsWrittenItem Anywhere (IsNameWithin MAX_TEXT) IsInteger) item items all) kept_next)

built_in_kept : AreWellFormedNames built_in.names (all_names no_names)
built_in_kept = record {
  declared = ((meanings.Item Exception 0, refl), ((meanings.Item Exception 1, refl), ((meanings.Item Exception 2, refl), tt)));
  different = (((λ e. cc), ((λ e. cc), tt)), (((λ e. cc), tt), (tt, tt)));
  proper = tt;
}

-- ---- the tables

abbrev pub channel_name : ChannelContents → List ℕ
channel_name entry = entry.name

abbrev pub global_name : GlobalEntry → List ℕ
global_name entry = entry.name

abbrev procedure_name : ProcedureEntry → List ℕ
procedure_name entry = entry.name

pub record TableNames (named : ItemNames) (tables : Program) : Type 0 where
  pub exceptions : tables.exceptions ≡ named.exceptions
  pub channels : map channel_name tables.channels ≡ named.channels
  pub globals : map global_name tables.globals ≡ named.globals
  pub procedures : map procedure_name tables.procedures ≡ named.procedures

pub channel_named : (scope : LabelScope) (channel : ChannelTree) → IfOk (channel_finding scope channel) (λ (entry : ChannelContents). entry.name ≡ channel.name.text)
unfolding channel_finding
channel_named scope channel = then_finds (label_finding scope channel.label) _ (λ one. Unit {0}) _ (any_finds (label_finding scope channel.label)) (λ one nothing. refl)

pub global_named : (scope : LabelScope) (global : GlobalTree) → IfOk (global_finding scope global) (λ (entry : GlobalEntry). entry.name ≡ global.name.text)
unfolding global_finding
global_named scope global =
    then_finds (label_finding scope global.label) _ (λ one. Unit {0}) _ (any_finds (label_finding scope global.label)) (λ label nothing.
    then_finds (first_finding _ global.value) _ (λ one. Unit {0}) _ (any_finds (first_finding _ global.value)) (λ value nothing. refl))

procedure_named : (scope : LabelScope) (signatures : List Signature) (procedure : ProcedureTree)
    → IfOk (procedure_entry_finding scope signatures procedure) (λ (entry : ProcedureEntry). entry.name ≡ procedure.name.text)
unfolding procedure_entry_finding
procedure_named scope signatures procedure =
    then_finds (result_finding scope procedure.result) _ (λ one. Unit {0}) _ (any_finds (result_finding scope procedure.result)) (λ result nothing.
    then_finds (optional_label_finding scope procedure.begin) _ (λ one. Unit {0}) _ (any_finds (optional_label_finding scope procedure.begin)) (λ begin nothing.
    then_finds (parameters_finding scope procedure.parameters) _ (λ one. Unit {0}) _ (any_finds (parameters_finding scope procedure.parameters)) (λ point nothing.
    then_finds (optional_label_finding scope procedure.end) _ (λ one. Unit {0}) _ (any_finds (optional_label_finding scope procedure.end)) (λ end nothing.
    then_finds (along (next_thrown scope) [] procedure.throws) _ (λ one. Unit {0}) _ (any_finds (along (next_thrown scope) [] procedure.throws)) (λ throws nothing.
    then_finds (block_finding _ point procedure.body) _ (λ one. Unit {0}) _ (any_finds (block_finding _ point procedure.body)) (λ done nothing. refl))))))

item_named : (h : PrincipalHierarchy) (top : TopLevel) (named : ItemNames) (tables : Program) (item : ItemTree) → TableNames named tables
    → IfOk (next_item h top tables item) (TableNames (names_with named item))
unfolding next_item
item_named h top named tables (ChannelItem at way label called) kept =
    subst (λ found. IfOk found (TableNames (names_with named (ChannelItem at way label called)))) (sym (next_channel h top tables (record { at = at; direction = way; label = label; name = called })))
    (then_finds (channel_finding (heads h top tables.globals) (record { at = at; direction = way; label = label; name = called })) _ (λ (entry : ChannelContents). entry.name ≡ called.text) _ (channel_named (heads h top tables.globals) (record { at = at; direction = way; label = label; name = called })) (λ entry same. record {
      exceptions = kept.exceptions;
      channels = map_push channel_name tables.channels entry ∙ (λ i. kept.channels i ++ same i ∷ []);
      globals = kept.globals;
      procedures = kept.procedures;
    }))
item_named h top named tables (ExceptionItem at name) kept = record {
  exceptions = ap (λ one. one ++ name.text ∷ []) kept.exceptions;
  channels = kept.channels;
  globals = kept.globals;
  procedures = kept.procedures;
}
item_named h top named tables (GlobalItem at typed label called value) kept =
    subst (λ found. IfOk found (TableNames (names_with named (GlobalItem at typed label called value)))) (sym (next_global h top tables (record { at = at; base = typed; label = label; name = called; value = value })))
    (then_finds (global_finding (heads h top tables.globals) (record { at = at; base = typed; label = label; name = called; value = value })) _ (λ (entry : GlobalEntry). entry.name ≡ called.text) _ (global_named (heads h top tables.globals) (record { at = at; base = typed; label = label; name = called; value = value })) (λ entry same. record {
      exceptions = kept.exceptions;
      channels = kept.channels;
      globals = map_push global_name tables.globals entry ∙ (λ i. kept.globals i ++ same i ∷ []);
      procedures = kept.procedures;
    }))
item_named h top named tables (ProcedureItem procedure) kept =
    then_finds (procedure_entry_finding (heads h top tables.globals) top.signatures procedure) _ (λ (entry : ProcedureEntry). entry.name ≡ procedure.name.text) _ (procedure_named (heads h top tables.globals) top.signatures procedure)
    (λ entry same. record {
      exceptions = kept.exceptions;
      channels = kept.channels;
      globals = kept.globals;
      procedures = map_push procedure_name tables.procedures entry ∙ (λ i. kept.procedures i ++ same i ∷ []);
    })

pub items_named : (h : PrincipalHierarchy) (top : TopLevel) (named : ItemNames) (tables : Program) (items : List ItemTree) → TableNames named tables
    → IfOk (along (next_item h top) tables items) (TableNames (names_all named items))
items_named h top named tables [] kept = kept
items_named h top named tables (item ∷ items) kept =
    then_finds (next_item h top tables item) (λ next. along (next_item h top) next items) (TableNames (names_with named item)) _
    (item_named h top named tables item kept) (λ next kept_next. items_named h top (names_with named item) next items kept_next)

abbrev table_names : Program → List (List ℕ)
table_names tables = tables.exceptions ++ (map channel_name tables.channels ++ (map global_name tables.globals ++ map procedure_name tables.procedures))

same_names : (named : ItemNames) (tables : Program) → TableNames named tables → all_names named ≡ table_names tables
same_names named tables kept i = sym kept.exceptions i ++ (sym kept.channels i ++ (sym kept.globals i ++ sym kept.procedures i))

-- ---- what holds of the name of each item

each_item_name : (P : List ℕ → Type 0) (named : ItemNames) (items : List ItemTree) → All (λ (item : ItemTree). P (item_name item).text) items
    → EachName P (all_names named) → EachName P (all_names (names_all named items))
each_item_name P named [] all each = each
each_item_name P named (item ∷ items) all each =
    let is = item_inserted named item in
    each_item_name P (names_with named item) items (All-tail (λ (item : ItemTree). P (item_name item).text) item items all)
    (subst (EachName P) (sym is.longer_is)
    (each_inserted P is.before is.after (item_name item).text (subst (EachName P) is.shorter_is each)
    (All-head (λ (item : ItemTree). P (item_name item).text) item items all)))

-- ---- the whole

-- what holds of the name of each item of a tree holds of the names of the program
pub names_hold : (P : List ℕ → Type 0) (h : PrincipalHierarchy) (written : ProgramTree) → All (λ (item : ItemTree). P (item_name item).text) written.items
    → IfOk (resolution h written) (λ (program : Program). All P (item_names program))
unfolding resolution
names_hold P h written all =
    let named = names_all no_names written.items in
    then_finds (along next_name built_in written.items) _ (λ one. Unit {0}) _ (any_finds (along next_name built_in written.items)) (λ top nothing.
    then_finds (along (next_item h top) empty_program written.items) _ (TableNames named) _
    (items_named h top no_names empty_program written.items (record { exceptions = refl; channels = refl; globals = refl; procedures = refl })) (λ tables kept.
    then_finds (main_finding (top.names (codes "main")) tables.procedures) _ (λ one. Unit {0}) _
    (any_finds (main_finding (top.names (codes "main")) tables.procedures)) (λ main nothing.
    then_finds (along next_global_cells 0 written.items) _ (λ one. Unit {0}) _ (any_finds (along next_global_cells 0 written.items)) (λ cells nothing.
    then_finds (along next_frame tt tables.procedures) _ (λ one. Unit {0}) _ (any_finds (along next_frame tt tables.procedures)) (λ done nothing.
    subst (All P) (same_names named tables kept) (all_of_each P (all_names named) (each_item_name P no_names written.items all tt)))))))

pub record ProgramNames (program : Program) : Type 0 where
  pub proper : All IsProperName (item_names program)
  pub different : AllDifferent (built_in_names ++ item_names program)

pub program_names : (h : PrincipalHierarchy) (written : ProgramTree) → IsWritten Anywhere (IsNameWithin MAX_TEXT) IsInteger written → IfOk (resolution h written) ProgramNames
unfolding resolution
program_names h written is =
    let named = names_all no_names written.items in
    then_finds (along next_name built_in written.items) _ (λ after. AreWellFormedNames after.names (all_names named)) _
    (names_kept no_names built_in written.items is built_in_kept) (λ top top_kept.
    then_finds (along (next_item h top) empty_program written.items) _ (TableNames named) _
    (items_named h top no_names empty_program written.items (record { exceptions = refl; channels = refl; globals = refl; procedures = refl })) (λ tables kept.
    then_finds (main_finding (top.names (codes "main")) tables.procedures) _ (λ one. Unit {0}) _
    (any_finds (main_finding (top.names (codes "main")) tables.procedures)) (λ main nothing.
    then_finds (along next_global_cells 0 written.items) _ (λ one. Unit {0}) _ (any_finds (along next_global_cells 0 written.items)) (λ cells nothing.
    then_finds (along next_frame tt tables.procedures) _ (λ one. Unit {0}) _ (any_finds (along next_frame tt tables.procedures)) (λ done nothing.
    let same = same_names named tables kept in
    record {
      proper = subst (All IsProperName) same (all_of_each IsProperName (all_names named) top_kept.proper);
      different = subst (λ all. AllDifferent (built_in_names ++ all)) same (all_different (built_in_names ++ all_names named) top_kept.different);
    })))))
