use Rattle.std.proofs.Common.{subst}
use Rattle.principals.specs.ActsFor.{IsHierarchy}
use Rattle.resolved.specs.CoreOf.{program_of}
use Rattle.resolved.specs.declared.program.Core.{Core}
use Rattle.compiler.proofs.Coding.{code_of_module}
use Rattle.compiler.proofs.compilation.compile_checked.Goals as goal

pub returns : goal.returns
returns c =
    let program = program_of c.args.checked.now.core in
    let graph = c.in_ok-graph.ensures in
    let module_is = c.in_ok-module.ensures in
    let promised = c.core-core.ensures.checked in
    let kept = subst (λ (core : Core). IsHierarchy core.hierarchy) c.core-core.ensures.core c.count-count.ensures.kept in
    let isolated = c.labelled_programs_stay_isolated.ensures.by_name program promised.ended promised.labelled kept in
    code_of_module program c.in_ok-graph.graph c.in_ok-module.module graph.interface module_is.interface
    c.in_ok-code.code.items module_is.contents module_is.runs graph.kept graph.not_refused graph.never_stuck c.in_ok-code.ensures isolated
