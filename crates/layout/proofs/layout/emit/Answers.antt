use Rattle.std.proofs.Common.{◌≡◌, ◌∙◌, ◌^◌, ◌<◌, ℕ, List, All, ap, map, sym, subst, rules}
use Rattle.std.specs.String.{string_bytes}
use Rattle.modules.specs.ContentsOf.{contents_of}
use Rattle.principals.specs.ActsFor.{PrincipalHierarchy}
use Rattle.labels.specs.Channel.{ChannelContents}
use Rattle.modules.specs.Contents.{ProcedureContents, ModuleContents}
use Rattle.modules.specs.declared.declaration.Global.{Global}
use Rattle.modules.specs.Code.{code_length}
use Rattle.modules.specs.ByteFormat.{Fits}
use Rattle.modules.specs.Format.{module_file}
use Rattle.layout.specs.Graph.{HasPositions}
use Rattle.layout.specs.Offsets.{laid_out, laid_out_procedure}
use Rattle.layout.specs.Starts.{HasStarts}
use Rattle.layout.specs.SameRuns.{SameRuns, SameInterface}
use Rattle.layout.proofs.Fitting.{codes-short, Fits-laid_out}
use Rattle.layout.proofs.Offsets.{runs-same, interface-same}
use Rattle.layout.proofs.Starts.{starts-laid_out}
use Rattle.layout.proofs.layout.emit.Goals as goal

pub lay_out_procedures-requires-clause-short : goal.lay_out_procedures-requires-clause-short
lay_out_procedures-requires-clause-short c =
    let same = c.deref-4.ensures.value ∙ ap (λ (m : ModuleContents). m.procedures) c.contents-contents.ensures.contents in
    subst (λ (ps : List ProcedureContents). All (λ (p : ProcedureContents). code_length p.code < 2 ^ 32) ps) (sym same)
    (codes-short c.args.graph.now c.contents-contents.ensures.graph)

pub lay_out_procedures-requires-clause-positions : goal.lay_out_procedures-requires-clause-positions
lay_out_procedures-requires-clause-positions c =
    let same = c.deref-4.ensures.value ∙ ap (λ (m : ModuleContents). m.procedures) c.contents-contents.ensures.contents in
    subst (λ (ps : List ProcedureContents). All HasPositions ps) (sym same) c.contents-contents.ensures.graph.positions

-- contents with the parts of others, whose procedures are laid out
laid : (from : ModuleContents) (hierarchy : PrincipalHierarchy) (exceptions : List (List ℕ)) (channels : List ChannelContents) (globals : List Global)
    (procedures : List ProcedureContents)
    → hierarchy ≡ from.hierarchy → exceptions ≡ from.exceptions → channels ≡ from.channels → globals ≡ from.globals
    → procedures ≡ map laid_out_procedure from.procedures
    → ◌≡◌ {A = ModuleContents} (record {
      version = from.version;
      hierarchy = hierarchy;
      exceptions = exceptions;
      channels = channels;
      globals = globals;
      procedures = procedures;
      main = from.main;
    }) (laid_out from)
laid from hierarchy exceptions channels globals procedures a b c d e = cc (a, b, c, d, e)

pub new-requires : goal.new-requires
new-requires c =
    let contents = c.contents-contents.result.now in
    let same_hierarchy : c.in_ok-clone.field-0 ≡ contents.hierarchy = search rules in
    let same_exceptions = c.in_ok-copy_names.ensures ∙ ap (map (λ name. string_bytes name)) c.deref.ensures.value in
    let same_channels : c.in_ok-copy_channels.field-0.items ≡ contents.channels.items = search rules in
    let same_globals : c.in_ok-from_slice.field-0.items ≡ contents.globals.items = search rules in
    let laid_procedures : c.in_ok-lay_out_procedures.field-0.items ≡ map laid_out_procedure contents.procedures.items = search rules in
    subst (Fits module_file)
    (sym (laid (contents_of contents) _ _ _ _ _ same_hierarchy same_exceptions same_channels same_globals laid_procedures
    ∙ ap laid_out c.contents-contents.ensures.contents))
    (Fits-laid_out c.args.graph.now c.contents-contents.ensures.graph)

pub returns-clause-contents : goal.returns-clause-contents
returns-clause-contents c =
    let contents = c.contents-contents.result.now in
    let same_hierarchy : c.in_ok-clone.field-0 ≡ contents.hierarchy = search rules in
    let same_exceptions = c.in_ok-copy_names.ensures ∙ ap (map (λ name. string_bytes name)) c.deref.ensures.value in
    let same_channels : c.in_ok-copy_channels.field-0.items ≡ contents.channels.items = search rules in
    let same_globals : c.in_ok-from_slice.field-0.items ≡ contents.globals.items = search rules in
    let laid_procedures : c.in_ok-lay_out_procedures.field-0.items ≡ map laid_out_procedure contents.procedures.items = search rules in
    c.new.ensures ∙ laid (contents_of contents) _ _ _ _ _ same_hierarchy same_exceptions same_channels same_globals laid_procedures
    ∙ ap laid_out c.contents-contents.ensures.contents

pub returns-clause-runs : goal.returns-clause-runs
returns-clause-runs c = subst (SameRuns c.args.graph.now) (sym (returns-clause-contents c)) (runs-same c.args.graph.now)

pub returns-clause-interface : goal.returns-clause-interface
returns-clause-interface c =
    subst (SameInterface c.args.graph.now) (sym (returns-clause-contents c)) (interface-same c.args.graph.now)

pub returns-clause-starts : goal.returns-clause-starts
returns-clause-starts c =
    subst (λ (m : ModuleContents). All HasStarts m.procedures) (sym (returns-clause-contents c)) (starts-laid_out c.args.graph.now c.contents-contents.ensures.graph)
