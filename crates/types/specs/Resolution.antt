-- The resolved program that a syntax tree stands for under a hierarchy, or the first fault: first the names of the items, then the
-- items, each from left to right with its body, then `main` (304), and last the cells of the globals and of each procedure (704).
-- Source: our own; what is left out of the labels of a procedure as in JFlow (Myers 1999).
use Rattle.std.specs.Prelude.{ℕ, ◌+◌, List, [], ◌∷◌, ◌++◌, map, fold, length, sum_by, Bool, not, ◌==◌, ◌&&◌, nat_le, if◌then◌else◌, codes, is_none, Option, Some, None, Ok, unwrap_or, option_and_then, option_map, slice_get, ℤ, pos, neg_ℤ}
use Rattle.common.specs.declared.exceptions.TheConstants.{ARITH, ARITH_NAME, BOUNDS, BOUNDS_NAME, END, END_NAME, BUILT_IN}
use Rattle.std.specs.List.{list_any}
use Rattle.principals.specs.ActsFor.{PrincipalHierarchy}
use Rattle.labels.specs.Label.{Label}
use Rattle.labels.specs.Canonical.{written_label, joined}
use Rattle.syntax.specs.Tree.{NameTree, LabelTree, IntegerConstant, TruthConstant, GlobalValueTree, ScalarTree, ArrayTree, GlobalTree, ChannelTree, ParameterTree, ProcedureTree, ItemTree, ChannelItem, ExceptionItem, GlobalItem, ProcedureItem, ProgramTree}
use Rattle.common.specs.declared.base_type.BaseType.{BaseType}
use Rattle.common.specs.declared.base_type.BaseType.TheVariants.{Int, Boolean}
use Rattle.common.specs.declared.value.Value.{Value}
use Rattle.common.specs.declared.value.Value.TheVariants as values
use Rattle.resolved.specs.declared.expression.Variable.TheVariants.{Global}
use Rattle.labels.specs.Channel.{ChannelContents}
use Rattle.resolved.specs.Program.{Program, GlobalEntry, SlotEntry, ResultEntry, ThrownEntry, ProcedureEntry}
use Rattle.common.specs.Values.{zero_of}
use Rattle.resolved.specs.WellFormed.{same_base, cell_count}
use Rattle.types.specs.declared.fault.TypeRefusalKind.TheVariants as refusals
use Rattle.types.specs.declared.scope.ItemKind.TheVariants.{Channel, Exception, Procedure}
use Rattle.types.specs.declared.scope.Meaning.{Meaning}
use Rattle.types.specs.declared.scope.Meaning.TheVariants as meanings
use Rattle.common.specs.Results.{along, ◌>>=◌}
use Rattle.types.specs.Finding.{Finding, ◌gives◌, found_or, give_if, of_option, require}
use Rattle.types.specs.Environment.{Environment, declaring, fresh_finding, use_as, item_of}
use Rattle.types.specs.Labels.{LabelScope, label_finding}
use Rattle.types.specs.Statements.{Signature, Setting, Point, declared_finding, size_finding, block_finding}
use Rattle.common.specs.declared.limits.TheConstants.{MAX_CELLS}

-- ---- the names of the items

-- what the names of items stand for, how many there are of each kind, and the signatures of the procedures
pub record TopLevel : Type 0 where
  pub names : Environment
  pub channels : ℕ
  pub exceptions : ℕ
  pub globals : ℕ
  pub signatures : List Signature

abbrev pub built_in : TopLevel
built_in = record {
  names = declaring END_NAME.now (meanings.Item Exception END)
      (declaring BOUNDS_NAME.now (meanings.Item Exception BOUNDS)
      (declaring ARITH_NAME.now (meanings.Item Exception ARITH) (λ name. None)));
  channels = 0;
  exceptions = BUILT_IN;
  globals = 0;
  signatures = [];
}

-- the length of a global that is an array
abbrev pub size_of : GlobalValueTree → Option ℕ
size_of (ScalarTree constant) = None
size_of (ArrayTree size) = Some size.1

abbrev pub signature_of : ProcedureTree → Signature
signature_of tree =
    record { parameters = map (λ (one : ParameterTree). one.base) tree.parameters; result = option_map (λ (base, label). base) tree.result }

-- the top level with one more name, which nothing in scope has
abbrev pub with_name : TopLevel → NameTree → Meaning → Finding TopLevel
with_name top name meaning =
    fresh_finding (top.names name.text) name.at gives λ _. record top { names = declaring name.text meaning top.names }

-- the top level with the next item, which takes the next number of its kind
unfoldable pub next_name : TopLevel → ItemTree → Finding TopLevel
next_name top (ChannelItem at direction label name) =
    with_name (record top { channels = top.channels + 1 }) name (meanings.Item (Channel direction) top.channels)
next_name top (ExceptionItem at name) = with_name (record top { exceptions = top.exceptions + 1 }) name (meanings.Item Exception top.exceptions)
next_name top (GlobalItem at base label name value) =
    with_name (record top { globals = top.globals + 1 }) name (meanings.Variable (Global top.globals) base (size_of value))
next_name top (ProcedureItem procedure) =
    with_name (record top { signatures = top.signatures ++ signature_of procedure ∷ [] }) procedure.name
    (meanings.Item Procedure (length top.signatures))

-- ---- channels and globals

-- what the labels of an item may name, but for those within the body of a procedure: the globals that are declared before it
abbrev pub heads : PrincipalHierarchy → TopLevel → List GlobalEntry → LabelScope
heads h top globals = record { hierarchy = h; names = top.names; globals = globals; slots = [] }

-- the length of a global that is an array, and what its cells hold at first
unfoldable pub first_finding : BaseType → GlobalValueTree → Finding (Option ℕ × Value)
first_finding base (ScalarTree (IntegerConstant at negative value)) =
    give_if (same_base Int base) (None, values.Int (if negative then neg_ℤ (pos value) else pos value)) refusals.WrongType at
first_finding base (ScalarTree (TruthConstant at value)) = give_if (same_base Boolean base) (None, values.Bool value) refusals.WrongType at
first_finding base (ArrayTree size) = size_finding size gives λ length_of. (Some length_of, zero_of base)

-- ---- procedures

-- a parameter, which is in scope in the body; no label before the body names it
abbrev pub next_parameter : LabelScope → Point → ParameterTree → Finding Point
next_parameter scope point one = declared_finding scope point one.at one.base (Some one.label) one.name None

-- an exception that a procedure may let out, which is none of those that it names before (302)
abbrev pub next_thrown : LabelScope → List ThrownEntry → NameTree × LabelTree → Finding (List ThrownEntry)
next_thrown scope throws (name, written) = do
  exception ← use_as (item_of Exception) (scope.names name.text) name.at
  _ ← require (not (list_any (λ (one : ThrownEntry). one.exception == exception) throws)) refusals.DeclaredTwice name.at
  label_finding scope written gives λ label. throws ++ record { exception = exception; label = label } ∷ []

-- a begin label that is left out is the least one; an end label that is left out is the join of the begin label and of those of the
-- exceptions
unfoldable pub procedure_entry_finding : LabelScope → List Signature → ProcedureTree → Finding ProcedureEntry
procedure_entry_finding scope signatures procedure = do
  result ← of_option (λ (base, label). label_finding scope label gives λ written. record { base = base; label = written }) procedure.result
  begin ← of_option (label_finding scope) procedure.begin
  point ← along (next_parameter scope) (record { names = scope.names; slots = []; loops = 0 }) procedure.parameters
  end ← of_option (label_finding scope) procedure.end
  throws ← along (next_thrown scope) [] procedure.throws
  let setting : Setting = record { outer = scope; signatures = signatures; result = (signature_of procedure).result }
  block_finding setting point procedure.body gives λ inner. record {
    at = procedure.name.at;
    name = procedure.name.text;
    result = result;
    throws = throws;
    begin_label = unwrap_or begin [];
    end_label = unwrap_or end (fold (λ label (thrown : ThrownEntry). written_label (label ++ thrown.label)) (unwrap_or begin []) throws);
    parameters = length procedure.parameters;
    slots = inner.0.slots;
    loops = inner.0.loops;
    body = inner.1;
  }

-- ---- programs

-- a program without principals and without items
abbrev pub empty_program : Program
empty_program =
    record { hierarchy = record { names = []; pairs = [] }; channels = []; exceptions = []; globals = []; procedures = []; main = 0 }

-- with the next item
unfoldable pub next_item : PrincipalHierarchy → TopLevel → Program → ItemTree → Finding Program
next_item h top tables (ChannelItem at direction written name) = label_finding (heads h top tables.globals) written gives λ label. record tables {
  channels = tables.channels ++ record { direction = direction; name = name.text; label = label } ∷ [];
}
next_item h top tables (ExceptionItem at name) = Ok (record tables { exceptions = tables.exceptions ++ name.text ∷ [] })
next_item h top tables (GlobalItem at base written name value) = do
  label ← label_finding (heads h top tables.globals) written
  (size, first) ← first_finding base value
  let entry : GlobalEntry = record { name = name.text; base = base; size = size; label = label; first = first }
  Ok (record tables { globals = tables.globals ++ entry ∷ [] })
next_item h top tables (ProcedureItem procedure) =
    procedure_entry_finding (heads h top tables.globals) top.signatures procedure
    gives λ entry. record tables { procedures = tables.procedures ++ entry ∷ [] }

-- `main` is a procedure without parameters and a value; where it is none, the refusal stands at the begin of the text
unfoldable pub main_finding : Option Meaning → List ProcedureEntry → Finding ℕ
main_finding main procedures = do
  number ← found_or refusals.NoProperMain 0 (option_and_then (item_of Procedure) main)
  procedure ← found_or refusals.NoProperMain 0 (slice_get procedures number)
  give_if (procedure.parameters == 0 && is_none procedure.result) number refusals.NoProperMain procedure.at

-- the cells of the globals so far, with those of the next item
abbrev pub next_global_cells : (cells : ℕ) → ItemTree → Finding ℕ
next_global_cells cells (GlobalItem at base label name value) =
    let total = cells + cell_count (size_of value) in give_if (nat_le total MAX_CELLS) total refusals.TooManyCells name.at
next_global_cells cells (ChannelItem at direction label name) = Ok cells
next_global_cells cells (ExceptionItem at name) = Ok cells
next_global_cells cells (ProcedureItem procedure) = Ok cells

-- the cells of a frame
abbrev pub next_frame : Unit {0} → ProcedureEntry → Finding (Unit {0})
next_frame _ procedure =
    require (nat_le (sum_by (λ (slot : SlotEntry). cell_count slot.size) procedure.slots) MAX_CELLS) refusals.TooManyCells procedure.at

-- the resolved program, or the first fault
unfoldable pub resolution : PrincipalHierarchy → ProgramTree → Finding Program
resolution h program = do
  top ← along next_name built_in program.items
  tables ← along (next_item h top) empty_program program.items
  main ← main_finding (top.names (codes "main")) tables.procedures
  _ ← along next_global_cells 0 program.items
  along next_frame tt tables.procedures gives λ _. record tables { hierarchy = h; main = main }

-- ---- parts of the rules, by which proofs speak of them

-- a number with its sign
abbrev pub signed : (negative : Bool) → ℕ → ℤ
signed negative value = if negative then neg_ℤ (pos value) else pos value

-- the type and the label of a procedure's value
abbrev pub result_finding : LabelScope → Option (BaseType × LabelTree) → Finding (Option ResultEntry)
result_finding scope result =
    of_option (λ (base, label). label_finding scope label gives λ written. record { base = base; label = written }) result

-- the type of a procedure's value
abbrev pub result_base_of : Option (BaseType × LabelTree) → Option BaseType
result_base_of result = option_map (λ (base, label). base) result

abbrev pub nothing_declared : Environment
nothing_declared name = None

-- whether exceptions that a procedure may let out have one of this number
abbrev pub is_thrown : List ThrownEntry → ℕ → Bool
is_thrown throws exception = list_any (λ (one : ThrownEntry). one.exception == exception) throws

-- a label joined by those of exceptions
abbrev pub joined_all : Label → List ThrownEntry → Label
joined_all label throws = fold (λ label (thrown : ThrownEntry). joined label thrown.label) label throws

-- the name of an item, what it stands for, and the numbers after it
abbrev pub item_name : ItemTree → NameTree
item_name (ChannelItem at direction label name) = name
item_name (ExceptionItem at name) = name
item_name (GlobalItem at base label name value) = name
item_name (ProcedureItem procedure) = procedure.name

abbrev pub item_meaning : TopLevel → ItemTree → Meaning
item_meaning top (ChannelItem at direction label name) = meanings.Item (Channel direction) top.channels
item_meaning top (ExceptionItem at name) = meanings.Item Exception top.exceptions
item_meaning top (GlobalItem at base label name value) = meanings.Variable (Global top.globals) base (size_of value)
item_meaning top (ProcedureItem procedure) = meanings.Item Procedure (length top.signatures)

abbrev pub counted : TopLevel → ItemTree → TopLevel
counted top (ChannelItem at direction label name) = record top { channels = top.channels + 1 }
counted top (ExceptionItem at name) = record top { exceptions = top.exceptions + 1 }
counted top (GlobalItem at base label name value) = record top { globals = top.globals + 1 }
counted top (ProcedureItem procedure) = record top { signatures = top.signatures ++ signature_of procedure ∷ [] }

-- the entry of a channel, and of a global
unfoldable pub channel_finding : LabelScope → ChannelTree → Finding ChannelContents
channel_finding scope channel =
    label_finding scope channel.label gives λ label. record { direction = channel.direction; name = channel.name.text; label = label }

unfoldable pub global_finding : LabelScope → GlobalTree → Finding GlobalEntry
global_finding scope global = do
  label ← label_finding scope global.label
  (size, first) ← first_finding global.base global.value
  Ok (record { name = global.name.text; base = global.base; size = size; label = label; first = first })
