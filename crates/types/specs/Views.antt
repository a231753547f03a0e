-- Private: what the private functions work with, as the definitions see it, and what each of them gives: what is found, or the first
-- fault.
-- Source: our own.
use Rattle.std.specs.Prelude.{◌≡◌, ℕ, ◌+◌, List, [], length, map, sum_by, All, take, drop, bytes_eq, if◌then◌else◌, Option, Some, None, option_and_then, Result, Ok, String, Vec}
use Rattle.std.specs.declared.alloc.Global.{Global}
use Rattle.std.specs.BTreeMap.{BTreeMap, get_by_text}
use Rattle.std.specs.List.{list_any}
use Rattle.std.specs.Borrow.{Bor}
use Rattle.std.specs.String.{string_bytes}
use Rattle.resolved.specs.declared.expression.Expression.{Expression as CodeExpression}
use Rattle.resolved.specs.declared.statement.Statement.{Statement as CodeStatement}
use Rattle.resolved.specs.declared.statement.Handler.{Handler as CodeHandler}
use Rattle.resolved.specs.declared.tables.Channel.{Channel}
use Rattle.resolved.specs.declared.tables.Procedure.{Procedure}
use Rattle.resolved.specs.declared.tables.Slot.{Slot}
use Rattle.resolved.specs.declared.tables.Thrown.{Thrown}
use Rattle.resolved.specs.WellFormed.{cell_count}
use Rattle.common.specs.declared.value.Value.{Value}
use Rattle.common.specs.declared.base_type.BaseType.{BaseType}
use Rattle.resolved.specs.declared.expression.Variable.{Variable}
use Rattle.resolved.specs.Tree.{Expression, Block, Handlers}
use Rattle.principals.specs.ActsFor.{PrincipalHierarchy}
use Rattle.labels.specs.Label.{Label}
use Rattle.labels.specs.LabelTable.{Extends}
use Rattle.resolved.specs.Program.{Program, SlotEntry, ThrownEntry}
use Rattle.resolved.specs.ProgramOf.{channel_entry, slot_entry, thrown_entry, procedure_entry}
use Rattle.resolved.specs.TreeOf.{expression_of, block_of, handlers_of}
use Rattle.types.specs.declared.body.BodyScope.{BodyScope}
use Rattle.types.specs.declared.expression.TypedExpression.{TypedExpression}
use Rattle.common.specs.Answers.{Answers}
use Rattle.common.specs.declared.fault.OrNoMemory.{OrNoMemory}
use Rattle.common.specs.declared.refusal.RefusalAt.{RefusalAt}
use Rattle.types.specs.declared.fault.TypeRefusalKind.{TypeRefusalKind}
use Rattle.types.specs.declared.label.ItemContext.{ItemContext}
use Rattle.types.specs.declared.label.LabelContext.{LabelContext}
use Rattle.types.specs.declared.variables.NewSlot.{NewSlot}
use Rattle.types.specs.declared.program.ItemTables.{ItemTables}
use Rattle.types.specs.declared.scope.Meaning.{Meaning}
use Rattle.types.specs.declared.scope.Names.{Names}
use Rattle.types.specs.Buckets.{found_short}
use Rattle.types.specs.ShortNames.{number_of}
use Rattle.types.specs.declared.scope.FoundArray.{FoundArray}
use Rattle.types.specs.declared.scope.FoundScalar.{FoundScalar}
use Rattle.types.specs.declared.statement.UsedCall.{UsedCall}
use Rattle.types.specs.declared.top.CodeSignature.{CodeSignature}
use Rattle.types.specs.declared.top.TopNames.{TopNames}
use Rattle.syntax.specs.Tree.{ProcedureTree}
use Rattle.common.specs.Results.{◌>>=◌}
use Rattle.types.specs.Finding.{Finding, IsRefusalOf}
use Rattle.types.specs.Environment.{Environment}
use Rattle.types.specs.Labels.{LabelScope}
use Rattle.types.specs.Expressions.{Typed}
use Rattle.types.specs.Statements.{Signature, Setting, Point}
use Rattle.types.specs.Resolution.{TopLevel, empty_program, heads, result_base_of}
use Rattle.types.specs.VariableEntries.{VariableEntries, IsInside, IsProcedureInside, optional_label_with}

-- what a function gave is what is found: a value or a refusal, unless memory ran out
abbrev pub Resolves : {X A : Type 0} → (X → A) → Result X (OrNoMemory (RefusalAt TypeRefusalKind)) → Finding A → Type 0
Resolves view result finding = Answers (λ x. finding ≡ Ok (view x)) (IsRefusalOf finding) result

-- the first, and then the second with what the first found
abbrev pub and_then : {A B : Type 0} → Finding A → (A → Finding B) → Finding B
and_then first next = first >>= next

abbrev pub itself : {A : Type 0} → A → A
itself x = x

-- ---- names

-- what is found of a name: of a short one by its number, of any other one by its text
abbrev pub found_at : (short : ℕ → Option Meaning) → BTreeMap (String Global) Meaning → List ℕ → Option ℕ → Option Meaning
found_at short long name (Some number) = short number
found_at short long name None = get_by_text long name

-- what a table of names says of a name
abbrev pub found_in : Names → Environment
found_in table name = found_at (found_short table.short.shift table.short.buckets.items table.short.others) table.long name (number_of name)

abbrev pub texts_of : List (Bor (List ℕ)) → List (List ℕ)
texts_of names = map (λ name. name.now) names

-- the same where some names stand for nothing
abbrev pub without : List (List ℕ) → Environment → Environment
without removed names other = if list_any (λ name. bytes_eq name other) removed then None else names other

-- the names of one table, and after them those of another
abbrev pub or_else : {A : Type 0} → Option A → Option A → Option A
or_else (Some x) other = Some x
or_else None other = other

abbrev pub scalar_use : FoundScalar → Variable × BaseType
scalar_use scalar = (scalar.variable, scalar.base)

abbrev pub array_use : FoundArray → Variable × BaseType × ℕ
array_use array = (array.variable, array.base, array.size)

abbrev pub signature_view : CodeSignature → Signature
signature_view signature = record { parameters = signature.parameters.items; result = signature.result }

abbrev pub top_view : TopNames → TopLevel
top_view top = record {
  names = found_in top.names;
  channels = top.channels;
  exceptions = top.exceptions;
  globals = top.globals;
  signatures = map signature_view top.signatures.items;
}

-- the locals that a label may name, and else the items
abbrev pub label_scope_of : LabelContext → LabelScope
label_scope_of context = record {
  hierarchy = context.hierarchy.now;
  names = λ name. or_else (option_and_then (λ locals. found_in locals.now name) context.locals) (found_in context.top.now name);
  globals = context.variables.now.globals;
  slots = map (slot_entry context.variables.now.labels) context.slots.now;
}

-- what the labels of an item may name, where these variables are declared before it
abbrev pub item_scope : ItemContext → VariableEntries → LabelScope
item_scope context variables = heads context.hierarchy.now (top_view context.top.now) variables.globals

-- ---- bodies

-- a parameter or local that is to be declared, where these are the labels
abbrev pub new_slot_entry : List Label → NewSlot → SlotEntry
new_slot_entry labels slot = record {
  base = slot.base;
  size = slot.size;
  written = optional_label_with labels slot.label;
  at = slot.at;
  name = slot.name.now;
}

abbrev pub names_of : BodyScope → Environment
names_of body name = or_else (found_in body.locals name) (found_in body.top.now.names name)

abbrev pub signatures_of : BodyScope → List Signature
signatures_of body = map signature_view body.top.now.signatures.items

-- what the labels of the procedure before its body may name
abbrev pub item_scope_of : BodyScope → LabelScope
item_scope_of body = heads body.hierarchy.now (top_view body.top.now) body.variables.globals

abbrev pub setting_of : BodyScope → Setting
setting_of body = record { outer = item_scope_of body; signatures = signatures_of body; result = body.result }

abbrev pub point_of : BodyScope → Point
point_of body = record { names = names_of body; slots = body.variables.slots; loops = body.loops }

-- a later point of the same body: what was declared there is declared still and stands first, the table of locals says what it said
-- there, but for the names that were declared since, and labels keep their numbers
pub record IsLater (before after : BodyScope) : Type 0 where
  pub hierarchy : after.hierarchy.now ≡ before.hierarchy.now
  pub top : after.top.now ≡ before.top.now
  pub globals : after.variables.globals ≡ before.variables.globals
  pub labels : Extends before.variables.labels after.variables.labels
  pub result : after.result ≡ before.result
  pub declared : take (length before.declared.items) after.declared.items ≡ before.declared.items
  pub locals : (name : List ℕ) → found_in before.locals name ≡ without (texts_of (drop (length before.declared.items) after.declared.items)) (found_in after.locals) name

-- what is found together with the point after it
abbrev pub at_point : {X A : Type 0} → BodyScope → (X → A) → X → Point × A
at_point body view x = (point_of body, view x)

abbrev pub typed_view : TypedExpression → Typed
typed_view found = (expression_of found.expression, found.base)

abbrev pub expressions_of : Vec CodeExpression Global → List Expression
expressions_of expressions = map expression_of expressions.items

-- a call that is found: its procedure, the arguments, and the type of its value
abbrev pub CallUse : Type 0
CallUse = ℕ × List Expression × Option BaseType

abbrev pub call_use : UsedCall → CallUse
call_use call = (call.procedure, expressions_of call.arguments, call.result)

abbrev pub block_view : Vec CodeStatement Global → Block
block_view statements = block_of statements.items

abbrev pub handlers_view : Vec CodeHandler Global → Handlers
handlers_view handlers = handlers_of handlers.items

abbrev pub throws_view : List Label → Vec Thrown Global → List ThrownEntry
throws_view labels throws = map (thrown_entry labels) throws.items

-- what does not change within the body of a procedure whose labels before it may name this
abbrev pub setting_within : LabelScope → List Signature → ProcedureTree → Setting
setting_within scope signatures procedure = record { outer = scope; signatures = signatures; result = result_base_of procedure.result }

-- ---- programs

abbrev pub tables_view : ItemTables → Program
tables_view tables = record empty_program {
  channels = map (channel_entry tables.variables.labels) tables.channels.items;
  exceptions = map string_bytes tables.exceptions.items;
  globals = tables.variables.globals;
  procedures = map (procedure_entry tables.variables.labels) tables.procedures.items;
}

-- the program of these tables under a hierarchy
abbrev pub program_with : PrincipalHierarchy → Program → (main : ℕ) → Program
program_with h tables main = record tables { hierarchy = h; main = main }

-- how many labels and slots there are and loops have begun: never more than there are nodes, so that their numbers have 32 bits
abbrev pub taken : BodyScope → ℕ
taken body = length body.variables.labels + (length body.variables.slots + body.loops)

-- the cells of these slots
abbrev pub cells_of_slots : List Slot → ℕ
cells_of_slots slots = sum_by (λ (slot : Slot). cell_count slot.size) slots

-- each channel and procedure of the tables names labels that there are, and no slot is left
pub record AreTablesInside (tables : ItemTables) : Type 0 where
  pub of_channels : All (λ (channel : Channel). IsInside tables.variables.labels channel.label) tables.channels.items
  pub of_procedures : All (λ (procedure : Procedure). IsProcedureInside tables.variables.labels procedure) tables.procedures.items
  pub no_slots : tables.variables.slots ≡ []

abbrev pub first_view : Option ℕ × Value → Option ℕ × Value
first_view found = (found.0, found.1)
