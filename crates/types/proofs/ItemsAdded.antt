-- The tables of items, with one item more.
use Rattle.std.proofs.Common.{◌≡◌, ℕ, [], ◌∷◌, ◌++◌, map, Ok, sym, ◌∙◌, ap, subst}
use Rattle.std.specs.Prelude.{All, String, Vec, string_bytes}
use Rattle.std.specs.declared.alloc.Global.{Global}
use Rattle.std.proofs.lemmas.List.{map_push}
use Rattle.std.proofs.lemmas.List.Elements.{All-push}
use Rattle.principals.specs.ActsFor.{PrincipalHierarchy}
use Rattle.labels.specs.LabelTable.{Extends}
use Rattle.syntax.specs.Tree.{NameTree, ChannelTree, GlobalTree, ProcedureTree, channel_item, global_item, ExceptionItem, ProcedureItem}
use Rattle.resolved.specs.declared.tables.Channel.{Channel}
use Rattle.resolved.specs.declared.tables.GlobalVariable.{GlobalVariable}
use Rattle.resolved.specs.declared.tables.Procedure.{Procedure}
use Rattle.resolved.specs.ProgramOf.{channel_entry, global_entry, procedure_entry}
use Rattle.types.specs.declared.program.ItemTables.{ItemTables}
use Rattle.types.proofs.NextItems.{next_channel, next_global}
use Rattle.types.specs.Resolution.{TopLevel, heads, channel_finding, global_finding, procedure_entry_finding, next_item}
use Rattle.types.specs.VariableEntries.{VariableEntries, IsInside, IsProcedureInside}
use Rattle.types.specs.Views.{AreTablesInside, tables_view}
use Rattle.types.proofs.LabelNumbers.{channels_still_inside, same_channels, procedures_still_inside, same_procedures}
use Rattle.types.proofs.Loops.{then_ok}

-- an exception, which has no label
module _ (h : PrincipalHierarchy) (top : TopLevel) (tables : ItemTables) where
  pub exception_added : (at : ℕ) (name : NameTree) (text : String Global) (exceptions : Vec (String Global) Global) → string_bytes text ≡ name.text
      → exceptions.items ≡ tables.exceptions.items ++ text ∷ []
      → next_item h top (tables_view tables) (ExceptionItem at name) ≡ Ok (tables_view (record tables { exceptions = exceptions }))
  unfolding next_item
  exception_added at name text exceptions named is =
      let all = ap (map string_bytes) is ∙ map_push string_bytes tables.exceptions.items text ∙ ap (λ one. map string_bytes tables.exceptions.items ++ one ∷ []) named in
      λ i. Ok (record (tables_view tables) { exceptions = sym all i })

  -- the others, after whose labels the tables stand for the same
  module _ (inside : AreTablesInside tables) (variables : VariableEntries) (extended : Extends tables.variables.labels variables.labels) (globals : variables.globals ≡ tables.variables.globals) where
    pub channel_added : (written : ChannelTree) (one : Channel) (channels : Vec Channel Global) → channel_finding (heads h top tables.variables.globals) written ≡ Ok (channel_entry variables.labels one)
        → channels.items ≡ tables.channels.items ++ one ∷ []
        → next_item h top (tables_view tables) (channel_item written) ≡ Ok (tables_view (record tables { variables = variables; channels = channels }))
    unfolding next_item
    channel_added written one channels found is =
        let same = same_channels tables.variables.labels variables.labels extended tables.channels.items inside.of_channels in
        let procedures = same_procedures tables.variables.labels variables.labels extended tables.procedures.items inside.of_procedures in
        let all = ap (map (channel_entry variables.labels)) is ∙ map_push (channel_entry variables.labels) tables.channels.items one
        ∙ ap (λ front. front ++ channel_entry variables.labels one ∷ []) same in
        next_channel h top (tables_view tables) written
        ∙ then_ok (channel_finding (heads h top tables.variables.globals) written) _ (channel_entry variables.labels one) found
        ∙ (λ i. Ok (record (tables_view tables) { channels = sym all i; globals = sym globals i; procedures = sym procedures i }))

    pub global_added : (written : GlobalTree) (one : GlobalVariable) (later : VariableEntries) → global_finding (heads h top tables.variables.globals) written ≡ Ok (global_entry variables.labels one)
        → later ≡ record variables { globals = variables.globals ++ global_entry variables.labels one ∷ [] }
        → next_item h top (tables_view tables) (global_item written) ≡ Ok (tables_view (record tables { variables = later }))
    unfolding next_item
    global_added written one later found is =
        let channels = same_channels tables.variables.labels variables.labels extended tables.channels.items inside.of_channels in
        let procedures = same_procedures tables.variables.labels variables.labels extended tables.procedures.items inside.of_procedures in
        next_global h top (tables_view tables) written
        ∙ then_ok (global_finding (heads h top tables.variables.globals) written) _ (global_entry variables.labels one) found
        ∙ (λ i. Ok (record (tables_view tables) { channels = sym channels i; globals = sym globals i ++ global_entry variables.labels one ∷ []; procedures = sym procedures i }))
        ∙ ap (λ (one : VariableEntries). Ok (tables_view (record tables { variables = one }))) (sym is)

    pub procedure_added : (written : ProcedureTree) (one : Procedure) (all : Vec Procedure Global)
        → procedure_entry_finding (heads h top tables.variables.globals) top.signatures written ≡ Ok (procedure_entry variables.labels one) → all.items ≡ tables.procedures.items ++ one ∷ []
        → next_item h top (tables_view tables) (ProcedureItem written) ≡ Ok (tables_view (record tables { variables = variables; procedures = all }))
    unfolding next_item
    procedure_added written one all found is =
        let channels = same_channels tables.variables.labels variables.labels extended tables.channels.items inside.of_channels in
        let same = same_procedures tables.variables.labels variables.labels extended tables.procedures.items inside.of_procedures in
        let procedures = ap (map (procedure_entry variables.labels)) is ∙ map_push (procedure_entry variables.labels) tables.procedures.items one
        ∙ ap (λ front. front ++ procedure_entry variables.labels one ∷ []) same in
        then_ok (procedure_entry_finding (heads h top tables.variables.globals) top.signatures written) _ (procedure_entry variables.labels one) found
        ∙ (λ i. Ok (record (tables_view tables) { channels = sym channels i; globals = sym globals i; procedures = sym procedures i }))

-- each table names labels that there are
module _ (tables : ItemTables) (inside : AreTablesInside tables) (variables : VariableEntries) (extended : Extends tables.variables.labels variables.labels)
    (slots : variables.slots ≡ tables.variables.slots) where
  pub same_inside : AreTablesInside (record tables { variables = variables })
  same_inside = record {
    of_channels = channels_still_inside tables.variables.labels variables.labels extended tables.channels.items inside.of_channels;
    of_procedures = procedures_still_inside tables.variables.labels variables.labels extended tables.procedures.items inside.of_procedures;
    no_slots = slots ∙ inside.no_slots;
  }

  pub channel_inside : (one : Channel) (channels : Vec Channel Global) → channels.items ≡ tables.channels.items ++ one ∷ [] → IsInside variables.labels one.label
      → AreTablesInside (record tables { variables = variables; channels = channels })
  channel_inside one channels is new = record {
    of_channels = subst (λ list. All (λ (channel : Channel). IsInside variables.labels channel.label) list) (sym is)
        (All-push (λ (channel : Channel). IsInside variables.labels channel.label) tables.channels.items one same_inside.of_channels new);
    of_procedures = same_inside.of_procedures;
    no_slots = same_inside.no_slots;
  }

  pub procedure_inside : (one : Procedure) (all : Vec Procedure Global) → all.items ≡ tables.procedures.items ++ one ∷ [] → IsProcedureInside variables.labels one
      → AreTablesInside (record tables { variables = variables; procedures = all })
  procedure_inside one all is new = record {
    of_channels = same_inside.of_channels;
    of_procedures = subst (λ list. All (λ (procedure : Procedure). IsProcedureInside variables.labels procedure) list) (sym is)
        (All-push (λ (procedure : Procedure). IsProcedureInside variables.labels procedure) tables.procedures.items one same_inside.of_procedures new);
    no_slots = same_inside.no_slots;
  }
