use Rattle.std.proofs.Common.{subst}
use Rattle.syntax.specs.Tree.{optional_label_tree}
use Rattle.types.specs.Labels.{optional_label_finding}
use Rattle.types.specs.VariableEntries.{VariableEntries, optional_label_with}
use Rattle.types.specs.Views.{Resolves, label_scope_of}
use Rattle.types.proofs.body.BodyScope.resolve_local_label.Goals as goal

pub returns-in-Some : goal.returns-in-Some
returns-in-Some c =
    let tree = optional_label_tree c.args.written.now in
    let context = c.label_context.result in
    subst (λ scope. Resolves (λ parts. optional_label_with c.args.self.now.variables.labels parts) c.resolve_optional.result (optional_label_finding scope tree)) c.label_context.ensures.scope
    (subst (λ (variables : VariableEntries). Resolves (λ parts. optional_label_with variables.labels parts) c.resolve_optional.result (optional_label_finding (label_scope_of context) tree))
    c.label_context.ensures.variables c.resolve_optional.ensures)
