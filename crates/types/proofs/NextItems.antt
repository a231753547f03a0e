-- The next item by its parts: its name and what this stands for, and its entry.
use Rattle.std.proofs.Common.{◌≡◌, Option, Ok, Err, [], ◌∷◌, ◌++◌, refl, sym, subst, ◌∙◌}
use Rattle.common.specs.Answers.{IfRefused}
use Rattle.common.specs.declared.fault.OrNoMemory.{OrNoMemory}
use Rattle.principals.specs.ActsFor.{PrincipalHierarchy}
use Rattle.resolved.specs.Program.{Program, GlobalEntry}
use Rattle.syntax.specs.Tree.{NameTree, ItemTree, ChannelItem, ExceptionItem, GlobalItem, ProcedureItem, ChannelTree, GlobalTree, channel_item, global_item}
use Rattle.common.specs.declared.refusal.RefusalAt.{RefusalAt}
use Rattle.types.specs.declared.fault.TypeRefusalKind.{TypeRefusalKind}
use Rattle.types.specs.declared.scope.Meaning.{Meaning}
use Rattle.types.specs.Finding.{Finding, IsRefusalOf, give}
use Rattle.types.specs.Environment.{declaring, fresh_finding}
use Rattle.types.specs.Labels.{label_finding}
use Rattle.types.specs.Resolution.{TopLevel, item_name, item_meaning, counted, next_name, heads, channel_finding, first_finding, global_finding, next_item}
use Rattle.types.specs.Views.{and_then}
use Rattle.types.proofs.Loops.{fails_later}

-- ---- names

-- the top level with the next item, by the name of the item and what it stands for
abbrev pub named_item : TopLevel → ItemTree → Finding TopLevel
named_item top item =
    and_then (fresh_finding (top.names (item_name item).text) (item_name item).at)
    (λ one. give (record (counted top item) { names = declaring (item_name item).text (item_meaning top item) top.names }))

pub next_is : (top : TopLevel) (item : ItemTree) → next_name top item ≡ named_item top item
unfolding next_name
next_is top (ChannelItem at way label called) = refl
next_is top (ExceptionItem at name) = refl
next_is top (GlobalItem at typed label called value) = refl
next_is top (ProcedureItem procedure) = refl

-- a name that is refused, where this is what was looked up
pub name_wrong : (top : TopLevel) (item : ItemTree) (name : NameTree) (looked : Option Meaning) (fault : OrNoMemory (RefusalAt TypeRefusalKind))
    → name ≡ item_name item → looked ≡ top.names name.text → IfRefused (IsRefusalOf (fresh_finding looked name.at)) fault
    → IfRefused (IsRefusalOf (next_name top item)) fault
name_wrong top item name looked fault n f wrong =
    subst (λ found. IfRefused (IsRefusalOf found) fault) (sym (next_is top item))
    (fails_later _ _ fault (subst (λ (one : NameTree). IfRefused (IsRefusalOf (fresh_finding (top.names one.text) one.at)) fault) n
    (subst (λ (one : Option Meaning). IfRefused (IsRefusalOf (fresh_finding one name.at)) fault) f wrong)))

-- ---- entries

-- what is looked at third may be looked at after the second
then_then : {A B C : Type 0} (looked : Finding A) (next : A → Finding B) (last : B → Finding C)
    → and_then (and_then looked next) last ≡ and_then looked (λ x. and_then (next x) last)
then_then (Ok x) next last = refl
then_then (Err fault) next last = refl

pub next_channel : (h : PrincipalHierarchy) (top : TopLevel) (tables : Program) (channel : ChannelTree)
    → next_item h top tables (channel_item channel)
    ≡ and_then (channel_finding (heads h top tables.globals) channel) (λ entry. give (record tables { channels = tables.channels ++ entry ∷ [] }))
unfolding next_item channel_finding
next_channel h top tables channel =
    sym (then_then (label_finding (heads h top tables.globals) channel.label)
    (λ label. give (record { direction = channel.direction; name = channel.name.text; label = label }))
    (λ entry. give (record tables { channels = tables.channels ++ entry ∷ [] })))

pub next_global : (h : PrincipalHierarchy) (top : TopLevel) (tables : Program) (global : GlobalTree)
    → next_item h top tables (global_item global)
    ≡ and_then (global_finding (heads h top tables.globals) global) (λ entry. give (record tables { globals = tables.globals ++ entry ∷ [] }))
unfolding next_item global_finding
next_global h top tables global =
    let put : GlobalEntry → Finding Program = λ entry. give (record tables { globals = tables.globals ++ entry ∷ [] }) in
    sym (
    then_then (label_finding (heads h top tables.globals) global.label)
    (λ label. and_then (first_finding global.base global.value)
    (λ value. give (record { name = global.name.text; base = global.base; size = value.0; label = label; first = value.1 }))) put
    ∙ (λ i. and_then (label_finding (heads h top tables.globals) global.label) (λ label.
    then_then (first_finding global.base global.value)
    (λ value. give (record { name = global.name.text; base = global.base; size = value.0; label = label; first = value.1 })) put i)))

pub channel_wrong : (h : PrincipalHierarchy) (top : TopLevel) (tables : Program) (channel : ChannelTree) (fault : OrNoMemory (RefusalAt TypeRefusalKind))
    → IfRefused (IsRefusalOf (channel_finding (heads h top tables.globals) channel)) fault
    → IfRefused (IsRefusalOf (next_item h top tables (channel_item channel))) fault
channel_wrong h top tables channel fault wrong =
    subst (λ found. IfRefused (IsRefusalOf found) fault) (sym (next_channel h top tables channel)) (fails_later _ _ fault wrong)

pub global_wrong : (h : PrincipalHierarchy) (top : TopLevel) (tables : Program) (global : GlobalTree) (fault : OrNoMemory (RefusalAt TypeRefusalKind))
    → IfRefused (IsRefusalOf (global_finding (heads h top tables.globals) global)) fault
    → IfRefused (IsRefusalOf (next_item h top tables (global_item global))) fault
global_wrong h top tables global fault wrong =
    subst (λ found. IfRefused (IsRefusalOf found) fault) (sym (next_global h top tables global)) (fails_later _ _ fault wrong)
