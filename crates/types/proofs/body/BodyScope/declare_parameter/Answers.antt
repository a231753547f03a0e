use Rattle.std.proofs.Common.{None, Some, refl}
use Rattle.syntax.specs.Tree.{parameter_tree}
use Rattle.types.specs.VariableEntries.{label_with}
use Rattle.types.specs.Statements.{slot_of}
use Rattle.types.specs.Views.{item_scope_of, names_of, point_of}
use Rattle.types.proofs.Procedures.{item_labelled, parameter_declared}
use Rattle.types.proofs.body.BodyScope.declare_parameter.Goals as goal

pub returns-clause-made : goal.returns-clause-made
returns-clause-made c =
    let before = c.args.self.now in
    let tree = parameter_tree c.args.written.now in
    parameter_declared (item_scope_of before) (point_of before) (point_of c.declare.new.self) tree (label_with before.variables.labels c.in_ok-label.label) (names_of before tree.name.text) tree.base
    (slot_of tree.at tree.base (Some (label_with before.variables.labels c.in_ok-label.label)) tree.name.text None)
    (item_labelled tree.label c.in_ok-label.label _ _ _ _ c.item_label_context.ensures.scope c.item_label_context.ensures.variables c.in_ok-label.ensures)
    refl c.in_ok-require_unused.ensures.made refl
    refl c.in_ok-declare.ensures.made
