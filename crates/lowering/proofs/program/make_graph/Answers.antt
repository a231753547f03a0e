use Rattle.std.proofs.Common.{map, ◌∙◌, ap, sym, subst}
use Rattle.std.specs.Prelude.{All}
use Rattle.std.specs.String.{string_bytes}
use Rattle.layout.specs.Graph.{IsGraph}
use Rattle.resolved.specs.CoreOf.{program_of}
use Rattle.resolved.specs.Program.{GlobalEntry}
use Rattle.resolved.specs.ProgramOf.{channel_entry, global_entry}
use Rattle.lowering.specs.Fitting.{IsShortValue}
use Rattle.lowering.specs.Interface.{global_contents}
use Rattle.lowering.proofs.FittingFile.{graphs-fit}
use Rattle.lowering.proofs.Inside.{graphs-positioned}
use Rattle.lowering.proofs.Wholes.{graph-made}
use Rattle.lowering.proofs.program.make_graph.Goals as goal

pub new-requires : goal.new-requires
new-requires c =
    subst IsGraph
    (sym (graph-made (program_of c.args.core.now) _ _ _ _ _ _
    c.module_version.ensures
    c.in_ok-hierarchy_of.ensures
    (c.in_ok-copy_names.ensures ∙ ap (map (λ name. string_bytes name)) c.deref.ensures.value)
    (c.in_ok-channels_of.ensures ∙ ap (λ l. map (channel_entry c.args.core.now.labels) l) c.deref-2.ensures.value)
    (c.in_ok-globals_of.ensures.exact c.args.core.now.labels ∙ ap (λ l. map global_contents (map (global_entry c.args.core.now.labels) l)) c.deref-3.ensures.value)
    c.in_ok-procedures_of.ensures))
    (record {
      positions = graphs-positioned (program_of c.args.core.now) c.args.core.now.well_formed c.requires.ends;
      limits = graphs-fit (program_of c.args.core.now) c.args.core.now.well_formed c.requires.ends c.requires.names
          (subst (λ l. All (λ (entry : GlobalEntry). IsShortValue entry.first) (map (global_entry c.args.core.now.labels) l)) c.deref-3.ensures.value (c.in_ok-globals_of.ensures.short c.args.core.now.labels));
    })

pub returns : goal.returns
returns c =
    c.new.ensures
    ∙ graph-made (program_of c.args.core.now) _ _ _ _ _ _
    c.module_version.ensures
    c.in_ok-hierarchy_of.ensures
    (c.in_ok-copy_names.ensures ∙ ap (map (λ name. string_bytes name)) c.deref.ensures.value)
    (c.in_ok-channels_of.ensures ∙ ap (λ l. map (channel_entry c.args.core.now.labels) l) c.deref-2.ensures.value)
    (c.in_ok-globals_of.ensures.exact c.args.core.now.labels ∙ ap (λ l. map global_contents (map (global_entry c.args.core.now.labels) l)) c.deref-3.ensures.value)
    c.in_ok-procedures_of.ensures
