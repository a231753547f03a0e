use Rattle.std.proofs.Common.{◌≡◌, ◌∙◌, ap, sym, subst, []}
use Rattle.std.specs.Prelude.{All}
use Rattle.modules.specs.Contents.{ModuleContents}
use Rattle.modules.specs.ByteFormat.{Fits}
use Rattle.modules.specs.Format.{module_file}
use Rattle.layout.specs.Offsets.{laid_out}
use Rattle.layout.specs.Runs.{graph_after_steps}
use Rattle.resolved.specs.CoreOf.{program_of}
use Rattle.resolved.specs.Labelled.{exit_faults}
use Rattle.resolved.specs.Names.{HasNames}
use Rattle.resolved.specs.declared.program.Core.{Core}
use Rattle.verifier.specs.Refusals.{IsNotRefused}
use Rattle.verifier.specs.Safety.{IsNeverStuck}
use Rattle.lowering.specs.Direct.{HasDirectJumps}
use Rattle.lowering.specs.Graphs.{graph_of}
use Rattle.lowering.specs.Interface.{HasInterfaceOf}
use Rattle.lowering.specs.SameMeaning.{SameMeaning}
use Rattle.lowering.proofs.Directs.{graphs-direct}
use Rattle.lowering.proofs.Faultless.{modules-are-not-refused, modules-run}
use Rattle.lowering.proofs.Interfaces.{graph-interface}
use Rattle.lowering.proofs.Keeping.{graphs-keep}
use Rattle.lowering.proofs.program.lower.Goals as goal

-- the graph is that of the checked program
graph_is : (graph : ModuleContents) (lent core : Core) → graph ≡ graph_of (program_of lent) → lent ≡ core → graph ≡ graph_of (program_of core)
graph_is graph lent core is same = is ∙ ap (λ (one : Core). graph_of (program_of one)) same

pub make_graph-requires-clause-ends : goal.make_graph-requires-clause-ends
make_graph-requires-clause-ends c =
    subst (λ (core : Core). exit_faults (program_of core) ≡ []) (sym c.core.ensures.core) c.core.ensures.checked.ended

pub make_graph-requires-clause-names : goal.make_graph-requires-clause-names
make_graph-requires-clause-names c =
    subst (λ (core : Core). HasNames (program_of core)) (sym c.core.ensures.core) c.core.ensures.checked.names

pub returns-clause-kept : goal.returns-clause-kept
returns-clause-kept c =
    let core = c.args.checked.now.core in
    subst (λ (graph : ModuleContents). SameMeaning (program_of core) (graph_after_steps graph)) (sym (graph_is c.in_ok-graph.graph c.core.result.now core c.in_ok-graph.ensures c.core.ensures.core))
    (graphs-keep (program_of core) core.well_formed c.core.ensures.checked.ended)

pub returns-clause-interface : goal.returns-clause-interface
returns-clause-interface c =
    let core = c.args.checked.now.core in
    subst (HasInterfaceOf (program_of core)) (sym (graph_is c.in_ok-graph.graph c.core.result.now core c.in_ok-graph.ensures c.core.ensures.core)) (graph-interface (program_of core))

pub returns-clause-not_refused : goal.returns-clause-not_refused
returns-clause-not_refused c =
    let core = c.args.checked.now.core in
    subst (λ (graph : ModuleContents). IsNotRefused (laid_out graph)) (sym (graph_is c.in_ok-graph.graph c.core.result.now core c.in_ok-graph.ensures c.core.ensures.core))
    (modules-are-not-refused (program_of core) core.well_formed c.core.ensures.checked.ended)

pub returns-clause-never_stuck : goal.returns-clause-never_stuck
returns-clause-never_stuck c =
    let core = c.args.checked.now.core in
    subst (λ (graph : ModuleContents). IsNeverStuck (laid_out graph)) (sym (graph_is c.in_ok-graph.graph c.core.result.now core c.in_ok-graph.ensures c.core.ensures.core))
    (modules-run (program_of core) core.well_formed c.core.ensures.checked.ended
    (subst (Fits module_file) (graph_is c.in_ok-graph.graph c.core.result.now core c.in_ok-graph.ensures c.core.ensures.core) c.contents-contents.ensures.graph.limits))

pub returns-clause-direct : goal.returns-clause-direct
returns-clause-direct c =
    let core = c.args.checked.now.core in
    subst (λ (graph : ModuleContents). All HasDirectJumps graph.procedures) (sym (graph_is c.in_ok-graph.graph c.core.result.now core c.in_ok-graph.ensures c.core.ensures.core))
    (graphs-direct (program_of core) core.well_formed c.core.ensures.checked.ended)
