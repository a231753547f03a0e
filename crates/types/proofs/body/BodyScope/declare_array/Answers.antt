use Rattle.std.proofs.Common.{Some, length, refl}
use Rattle.types.specs.Statements.{slot_of}
use Rattle.syntax.specs.Tree.{name_tree, optional_label_tree, size_tree}
use Rattle.types.specs.VariableEntries.{optional_label_with}
use Rattle.types.specs.Views.{names_of, point_of, setting_of}
use Rattle.types.proofs.Declarations.{next_slot, array_declared}
use Rattle.types.proofs.body.BodyScope.declare_array.Goals as goal

pub returns-clause-made : goal.returns-clause-made
returns-clause-made c =
    let before = c.args.self.now in
    array_declared (setting_of before) (point_of before) c.args.at c.args.base (optional_label_tree c.args.written.now)
    (name_tree c.args.name.now) (optional_label_with before.variables.labels c.in_ok-label.label) (names_of before (name_tree c.args.name.now).text) (length c.slots.result.now)
    c.in_ok-label.ensures
    refl c.in_ok-require_unused.ensures.made (next_slot before.variables.labels c.slots.result.now before.variables.slots (length c.slots.result.now) c.slots.ensures refl)
    (point_of c.declare.new.self) (slot_of c.args.at c.args.base (optional_label_with before.variables.labels c.in_ok-label.label) (name_tree c.args.name.now).text (Some c.in_ok-length.length)) (size_tree c.args.size) c.in_ok-length.length c.in_ok-length.ensures refl c.in_ok-declare.ensures.made
