use Rattle.std.proofs.Common.{None, length, refl}
use Rattle.types.specs.Statements.{slot_of}
use Rattle.std.proofs.lemmas.Result.{err_from_is_err_and}
use Rattle.syntax.specs.Tree.{name_tree, optional_label_tree, right_tree}
use Rattle.resolved.specs.TreeOf.{statement_of}
use Rattle.types.specs.VariableEntries.{optional_label_with}
use Rattle.types.specs.Views.{names_of, point_of, setting_of}
use Rattle.types.proofs.Declarations.{next_slot, scalar_declared, scalar_refused}
use Rattle.types.proofs.body.BodyScope.declare_scalar.Goals as goal

pub returns-in_err-statement-clause-made : goal.returns-in_err-statement-clause-made
returns-in_err-statement-clause-made c =
    let before = c.args.self.now in
    let p = err_from_is_err_and c.from_residual-in_err-statement.result c.from_residual-in_err-statement.ensures.1 in
    rw (p.1, p.2) (scalar_refused (setting_of before) (point_of before) c.args.at c.args.base (optional_label_tree c.args.label.now)
    (name_tree c.args.name.now) (optional_label_with before.variables.labels c.in_ok-written.written) (names_of before (name_tree c.args.name.now).text) (length c.slots.result.now)
    c.in_ok-written.ensures
    refl c.in_ok-require_unused.ensures.made (next_slot before.variables.labels c.slots.result.now before.variables.slots (length c.slots.result.now) c.slots.ensures refl)
    (right_tree c.args.value.now) c.in_err-statement.field-0.0 c.in_err-statement.ensures)

pub returns-clause-made : goal.returns-clause-made
returns-clause-made c =
    let before = c.args.self.now in
    scalar_declared (setting_of before) (point_of before) c.args.at c.args.base (optional_label_tree c.args.label.now)
    (name_tree c.args.name.now) (optional_label_with before.variables.labels c.in_ok-written.written) (names_of before (name_tree c.args.name.now).text) (length c.slots.result.now)
    c.in_ok-written.ensures
    refl c.in_ok-require_unused.ensures.made (next_slot before.variables.labels c.slots.result.now before.variables.slots (length c.slots.result.now) c.slots.ensures refl)
    (point_of c.declare.new.self) (slot_of c.args.at c.args.base (optional_label_with before.variables.labels c.in_ok-written.written) (name_tree c.args.name.now).text None) (right_tree c.args.value.now) (statement_of c.in_ok-statement.statement) c.in_ok-statement.ensures refl c.in_ok-declare.ensures.made
