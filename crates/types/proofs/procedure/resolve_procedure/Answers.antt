use Rattle.std.proofs.Common.{◌≡◌, ◌+◌, ◌*◌, ◌≤◌, ◌∙◌, [], ap, sym, subst, map, length, arith, Ok}
use Rattle.std.specs.Prelude.{string_bytes, sum_by, unwrap_or}
use Rattle.std.proofs.lemmas.List.{length-map}
use Rattle.std.proofs.lemmas.Result.{err_from_is_err_and}
use Rattle.labels.specs.LabelTable.{Extends, label_at}
use Rattle.syntax.specs.Nodes.{optional_label_nodes, parameter_nodes, thrown_nodes, written_result_nodes}
use Rattle.syntax.specs.Tree.{parameter_tree, thrown_tree, procedure_tree}
use Rattle.resolved.specs.ProgramOf.{thrown_entry, written_at}
use Rattle.resolved.specs.TreeOf.{block_of}
use Rattle.common.specs.Answers.{IfRefused}
use Rattle.common.specs.Results.{along}
use Rattle.types.specs.Finding.{IsRefusalOf}
use Rattle.types.specs.Labels.{optional_label_finding}
use Rattle.types.specs.Resolution.{next_parameter, joined_all, next_thrown}
use Rattle.types.specs.Statements.{after_block, block_finding}
use Rattle.types.specs.VariableEntries.{VariableEntries}
use Rattle.types.specs.Views.{setting_within, item_scope, item_scope_of, point_of, setting_of, taken, throws_view, top_view}
use Rattle.types.proofs.LabelNumbers.{extends_through, still_inside, same_label, same_written, result_still_inside, same_result, thrown_still_inside, same_thrown}
use Rattle.types.proofs.Later.{setting_same}
use Rattle.types.proofs.Procedures.{same_scope, optional_in_scope, optional_wrong_in_scope, parameters_in_scope, parameters_few, parameters_need, throws_need, parameters_wrong, end_wrong, throws_wrong, block_wrong, procedure_found, parameters_finding}
use Rattle.types.proofs.procedure.resolve_procedure.Goals as goal
use Rattle.types.proofs.procedure.resolve_procedure.Goals.{After-deref, After-deref-2, After-deref-3, After-resolve_body, After-len}

-- ---- with the begin label: what it was found to be, and that the globals are as they were and no slot is taken

begun : (c : After-deref) → optional_label_finding (item_scope c.args.context.now c.args.variables) (procedure_tree c.args.written.now).begin
    ≡ Ok (written_at c.add_optional_label.new.variables.labels c.in_ok-begin.begin)
begun c =
    let scope = item_scope c.args.context.now c.args.variables in
    let first = c.resolve_result.new.variables in
    let same = same_scope c.args.context.now c.args.variables first c.in_ok-value.ensures.more.globals in
    optional_in_scope (item_scope c.args.context.now first) scope (procedure_tree c.args.written.now).begin _ same c.in_ok-begin.ensures.made

begun_globals : (c : After-deref) → c.add_optional_label.new.variables.globals ≡ c.args.variables.globals
begun_globals c = c.in_ok-begin.ensures.more.globals ∙ c.in_ok-value.ensures.more.globals

begun_slots : (c : After-deref) → c.add_optional_label.new.variables.slots ≡ []
begun_slots c = c.in_ok-begin.ensures.more.slots ∙ c.in_ok-value.ensures.more.slots ∙ c.requires.none

begun_labels : (c : After-deref) → Extends c.args.variables.labels c.add_optional_label.new.variables.labels
begun_labels c =
    extends_through c.args.variables.labels c.resolve_result.new.variables.labels c.add_optional_label.new.variables.labels c.in_ok-value.ensures.more.extended c.in_ok-begin.ensures.more.extended

begun_taken : (c : After-deref) → taken c.new-body.result
    ≤ length c.args.variables.labels + written_result_nodes (procedure_tree c.args.written.now).result + optional_label_nodes (procedure_tree c.args.written.now).begin
begun_taken c = omega (arith, ap length (begun_slots c), c.new-body.ensures.taken, c.in_ok-value.ensures.more.few, c.in_ok-begin.ensures.more.few)

parameters_are : (c : After-deref) → along (next_parameter (item_scope_of c.new-body.result)) (point_of c.new-body.result) (map parameter_tree c.deref.result.now)
    ≡ parameters_finding (item_scope c.args.context.now c.args.variables) (procedure_tree c.args.written.now).parameters
parameters_are c =
    let scope = item_scope c.args.context.now c.args.variables in
    let begins = c.new-body.result in
    let same = c.new-body.ensures.scope ∙ same_scope c.args.context.now c.args.variables c.add_optional_label.new.variables (begun_globals c) in
    let start = c.new-body.ensures.point ∙ ap (λ slots. record { names = scope.names; slots = slots; loops = 0 }) (begun_slots c) in
    parameters_in_scope (item_scope_of begins) scope (point_of begins) (map parameter_tree c.deref.result.now) (procedure_tree c.args.written.now).parameters
    same start (ap (map parameter_tree) c.deref.ensures.value)

parameters_room : (c : After-deref) → 2 * length c.deref.result.now ≤ sum_by parameter_nodes (procedure_tree c.args.written.now).parameters
parameters_room c = parameters_need parameter_tree c.deref.result.now c.args.written.now.parameters.items c.deref.ensures.value

-- ---- with the parameters and the end label

declared : (c : After-deref-2) → parameters_finding (item_scope c.args.context.now c.args.variables) (procedure_tree c.args.written.now).parameters
    ≡ Ok (point_of c.declare_parameters.new.self)
declared c = sym (parameters_are (goal.at.resolve_throws-requires c).After-deref) ∙ c.in_ok-declare_parameters.ensures.made

declared_globals : (c : After-deref-2) → c.declare_parameters.new.self.variables.globals ≡ c.args.variables.globals
declared_globals c =
    c.in_ok-declare_parameters.ensures.later.globals ∙ ap (λ (one : VariableEntries). one.globals) c.new-body.ensures.variables
    ∙ begun_globals (goal.at.resolve_throws-requires c).After-deref

declared_labels : (c : After-deref-2) → Extends c.add_optional_label.new.variables.labels c.declare_parameters.new.self.variables.labels
declared_labels c =
    subst (λ (one : VariableEntries). Extends one.labels c.declare_parameters.new.self.variables.labels) c.new-body.ensures.variables c.in_ok-declare_parameters.ensures.later.labels

declared_taken : (c : After-deref-2) → taken c.declare_parameters.new.self ≤ length c.args.variables.labels
    + written_result_nodes (procedure_tree c.args.written.now).result + optional_label_nodes (procedure_tree c.args.written.now).begin
    + sum_by parameter_nodes (procedure_tree c.args.written.now).parameters
declared_taken c =
    let at = (goal.at.resolve_throws-requires c).After-deref in
    omega (arith, begun_taken at, parameters_room at, c.in_ok-declare_parameters.ensures.grows)

ended : (c : After-deref-2) → optional_label_finding (item_scope c.args.context.now c.args.variables) (procedure_tree c.args.written.now).end
    ≡ Ok (written_at c.add_optional_label-2.new.variables.labels c.in_ok-end.end)
ended c =
    let scope = item_scope c.args.context.now c.args.variables in
    let third = c.declare_parameters.new.self.variables in
    optional_in_scope (item_scope c.args.context.now third) scope (procedure_tree c.args.written.now).end _ (same_scope c.args.context.now c.args.variables third (declared_globals c)) c.in_ok-end.ensures.made

throws_are : (c : After-deref-2) → along (next_thrown (item_scope c.args.context.now c.add_optional_label-2.new.variables)) [] (map thrown_tree c.deref-2.result.now)
    ≡ along (next_thrown (item_scope c.args.context.now c.args.variables)) [] (procedure_tree c.args.written.now).throws
throws_are c =
    let scope = item_scope c.args.context.now c.args.variables in
    let globals = c.in_ok-end.ensures.more.globals ∙ declared_globals c in
    ap (λ one. along (next_thrown one) [] (map thrown_tree c.deref-2.result.now)) (same_scope c.args.context.now c.args.variables c.add_optional_label-2.new.variables globals)
    ∙ ap (λ list. along (next_thrown scope) [] (map thrown_tree list)) c.deref-2.ensures.value

throws_room : (c : After-deref-2) → length c.deref-2.result.now ≤ sum_by thrown_nodes (procedure_tree c.args.written.now).throws
throws_room c = throws_need thrown_tree c.deref-2.result.now c.args.written.now.throws.items c.deref-2.ensures.value

-- ---- with the exceptions

thrown : (c : After-deref-3) → along (next_thrown (item_scope c.args.context.now c.args.variables)) [] (procedure_tree c.args.written.now).throws
    ≡ Ok (throws_view c.resolve_throws.new.variables.labels c.in_ok-throws.throws)
thrown c = sym (throws_are (goal.at.make_end_label-requires-clause-room c).After-deref-2) ∙ c.in_ok-throws.ensures.made

thrown_labels : (c : After-deref-3) → Extends c.add_optional_label.new.variables.labels c.resolve_throws.new.variables.labels
thrown_labels c =
    let second = c.add_optional_label.new.variables.labels in
    let third = c.declare_parameters.new.self.variables.labels in
    let fifth = c.resolve_throws.new.variables.labels in
    let since = extends_through third c.add_optional_label-2.new.variables.labels fifth c.in_ok-end.ensures.more.extended c.in_ok-throws.ensures.more.extended in
    extends_through second third fifth (declared_labels (goal.at.make_end_label-requires-clause-room c).After-deref-2) since

thrown_taken : (c : After-deref-3) → taken (record c.declare_parameters.new.self { variables = c.resolve_throws.new.variables }) ≤ length c.args.variables.labels
    + written_result_nodes (procedure_tree c.args.written.now).result + optional_label_nodes (procedure_tree c.args.written.now).begin
    + sum_by parameter_nodes (procedure_tree c.args.written.now).parameters + optional_label_nodes (procedure_tree c.args.written.now).end
    + sum_by thrown_nodes (procedure_tree c.args.written.now).throws
thrown_taken c =
    let at = (goal.at.make_end_label-requires-clause-room c).After-deref-2 in
    let slots = ap length (c.in_ok-throws.ensures.more.slots ∙ c.in_ok-end.ensures.more.slots) in
    omega (arith, declared_taken at, throws_room at, slots, c.in_ok-end.ensures.more.few, c.in_ok-throws.ensures.more.few)

-- ---- where the body begins

entered_globals : (c : After-resolve_body) → c.make_end_label.new.variables.globals ≡ c.declare_parameters.new.self.variables.globals
entered_globals c = c.in_ok-end_label.ensures.more.globals ∙ c.in_ok-throws.ensures.more.globals ∙ c.in_ok-end.ensures.more.globals

entered_slots : (c : After-resolve_body) → c.make_end_label.new.variables.slots ≡ c.declare_parameters.new.self.variables.slots
entered_slots c = c.in_ok-end_label.ensures.more.slots ∙ c.in_ok-throws.ensures.more.slots ∙ c.in_ok-end.ensures.more.slots

block_is : (c : After-resolve_body) → c.add_optional_label.new.variables.globals ≡ c.args.variables.globals →
    block_finding (setting_of (record c.declare_parameters.new.self { variables = c.make_end_label.new.variables }))
    (point_of (record c.declare_parameters.new.self { variables = c.make_end_label.new.variables })) (procedure_tree c.args.written.now).body
    ≡ block_finding (setting_within (item_scope c.args.context.now c.args.variables) (top_view c.args.context.now.top.now).signatures (procedure_tree c.args.written.now))
    (point_of c.declare_parameters.new.self) (procedure_tree c.args.written.now).body
block_is c globals =
    let tree = procedure_tree c.args.written.now in
    let signatures = (top_view c.args.context.now.top.now).signatures in
    let scope = item_scope c.args.context.now c.args.variables in
    let third = c.declare_parameters.new.self in
    let entered = record third { variables = c.make_end_label.new.variables } in
    let setting : setting_of entered ≡ setting_within scope signatures tree =
    (λ i. record (setting_of third) { outer = record (item_scope_of third) { globals = entered_globals c i } }) ∙ setting_same c.new-body.result third c.in_ok-declare_parameters.ensures.later ∙ c.new-body.ensures.setting
    ∙ (λ i. record { outer = record scope { globals = globals i }; signatures = signatures; result = c.result_of.ensures i }) in
    let point : point_of entered ≡ point_of third = λ i. record (point_of third) { slots = entered_slots c i } in
    λ i. block_finding (setting i) (point i) tree.body

-- ---- after the body: labels keep their numbers

last_of_fifth : (c : After-len) → Extends c.resolve_throws.new.variables.labels c.resolve_body.new.self.variables.labels
last_of_fifth c =
    extends_through c.resolve_throws.new.variables.labels c.make_end_label.new.variables.labels c.resolve_body.new.self.variables.labels
    c.in_ok-end_label.ensures.more.extended c.in_ok-statements.ensures.later.labels

last_of_second : (c : After-len) → Extends c.add_optional_label.new.variables.labels c.resolve_body.new.self.variables.labels
last_of_second c =
    extends_through c.add_optional_label.new.variables.labels c.resolve_throws.new.variables.labels c.resolve_body.new.self.variables.labels
    (thrown_labels (goal.at.overflow_cast-procedure c).After-deref-3) (last_of_fifth c)

last_of_first : (c : After-len) → Extends c.resolve_result.new.variables.labels c.resolve_body.new.self.variables.labels
last_of_first c =
    extends_through c.resolve_result.new.variables.labels c.add_optional_label.new.variables.labels c.resolve_body.new.self.variables.labels
    c.in_ok-begin.ensures.more.extended (last_of_second c)

-- ---- there is room

pub declare_parameters-requires : goal.declare_parameters-requires
declare_parameters-requires c = record { room = omega (arith, begun_taken c, parameters_room c, c.requires.room) }

pub add_optional_label-requires-2 : goal.add_optional_label-requires-2
add_optional_label-requires-2 c =
    let at = (goal.at.add_optional_label-requires-2 c).After-deref in
    record { room = omega (arith, begun_taken at, parameters_room at, c.in_ok-declare_parameters.ensures.grows, c.requires.room) }

pub resolve_throws-requires : goal.resolve_throws-requires
resolve_throws-requires c = record { room = omega (arith, declared_taken c, throws_room c, c.in_ok-end.ensures.more.few, c.requires.room) }

pub make_end_label-requires-clause-room : goal.make_end_label-requires-clause-room
make_end_label-requires-clause-room c = omega (arith, thrown_taken c, c.requires.room)

pub resolve_body-requires : goal.resolve_body-requires
resolve_body-requires c =
    let so_far = thrown_taken (goal.at.resolve_body-requires c).After-deref-3 in
    record { room = omega (arith, so_far, ap length c.in_ok-end_label.ensures.more.slots, c.in_ok-end_label.ensures.more.few, c.requires.room) }

pub overflow_cast-procedure : goal.overflow_cast-procedure
overflow_cast-procedure c =
    let parameters = parameters_few (map parameter_tree c.args.written.now.parameters.items) in
    let parameters_same = length-map c.args.written.now.parameters.items parameter_tree in
    omega (arith, parameters, parameters_same, c.requires.room)

-- ---- refusals

pub returns-in_err-declare_parameters-clause-made : goal.returns-in_err-declare_parameters-clause-made
returns-in_err-declare_parameters-clause-made c =
    let at = (goal.at.returns-in_err-declare_parameters-clause-made c).After-deref in
    let p = err_from_is_err_and c.from_residual-in_err-declare_parameters.result c.from_residual-in_err-declare_parameters.ensures.1 in
    let fault = c.in_err-declare_parameters.field-0.0 in
    rw (p.1, p.2) (parameters_wrong _ _ _ _ _ c.in_ok-value.ensures.made (begun at) fault
    (subst (λ one. IfRefused (IsRefusalOf one) fault) (parameters_are at) c.in_err-declare_parameters.ensures.made))

pub returns-in_err-end-clause-made : goal.returns-in_err-end-clause-made
returns-in_err-end-clause-made c =
    let at = (goal.at.returns-in_err-end-clause-made c).After-deref in
    let p = err_from_is_err_and c.from_residual-in_err-end.result c.from_residual-in_err-end.ensures.1 in
    let fault = c.in_err-end.field-0.0 in
    let third = c.declare_parameters.new.self.variables in
    let globals = c.in_ok-declare_parameters.ensures.later.globals ∙ ap (λ (one : VariableEntries). one.globals) c.new-body.ensures.variables ∙ begun_globals at in
    let same = same_scope c.args.context.now c.args.variables third globals in
    rw (p.1, p.2) (end_wrong _ _ _ _ _ c.in_ok-value.ensures.made (begun at) _ (sym (parameters_are at) ∙ c.in_ok-declare_parameters.ensures.made) fault
    (optional_wrong_in_scope (item_scope c.args.context.now third) (item_scope c.args.context.now c.args.variables) (procedure_tree c.args.written.now).end fault same c.in_err-end.ensures.made))

pub returns-in_err-throws-clause-made : goal.returns-in_err-throws-clause-made
returns-in_err-throws-clause-made c =
    let at = goal.at.returns-in_err-throws-clause-made c in
    let p = err_from_is_err_and c.from_residual-in_err-throws.result c.from_residual-in_err-throws.ensures.1 in
    let fault = c.in_err-throws.field-0.0 in
    rw (p.1, p.2) (throws_wrong _ _ _ _ _ c.in_ok-value.ensures.made (begun at.After-deref) _ (declared at.After-deref-2) _ (ended at.After-deref-2) fault
    (subst (λ one. IfRefused (IsRefusalOf one) fault) (throws_are at.After-deref-2) c.in_err-throws.ensures.made))

pub returns-in_err-statements-clause-made : goal.returns-in_err-statements-clause-made
returns-in_err-statements-clause-made c =
    let at = goal.at.returns-in_err-statements-clause-made c in
    let p = err_from_is_err_and c.from_residual-in_err-statements.result c.from_residual-in_err-statements.ensures.1 in
    let fault = c.in_err-statements.field-0.0 in
    rw (p.1, p.2) (block_wrong _ _ _ _ _ c.in_ok-value.ensures.made (begun at.After-deref) _ (declared at.After-deref-2) _ (ended at.After-deref-2) _ (thrown at.After-deref-3) fault
    (subst (λ one. IfRefused (IsRefusalOf one) fault) (block_is at.After-resolve_body (begun_globals at.After-deref)) c.in_err-statements.ensures.made))

-- ---- the procedure

pub returns-clause-made : goal.returns-clause-made
returns-clause-made c =
    let at = goal.at.returns-clause-made c in
    let first = c.resolve_result.new.variables.labels in
    let second = c.add_optional_label.new.variables.labels in
    let fourth = c.add_optional_label-2.new.variables.labels in
    let fifth = c.resolve_throws.new.variables.labels in
    let sixth = c.make_end_label.new.variables.labels in
    let last = c.resolve_body.new.self.variables.labels in
    let entered = label_at second c.make_begin_label-begin_label.result in
    let ends : label_at sixth c.in_ok-end_label.end_label ≡ unwrap_or (written_at fourth c.in_ok-end.end) (joined_all entered (throws_view fifth c.in_ok-throws.throws)) =
    c.in_ok-end_label.ensures.label
    ∙ (λ i. unwrap_or (same_written fourth fifth c.in_ok-throws.ensures.more.extended c.in_ok-end.end c.in_ok-end.ensures.inside i)
    (joined_all (same_label second fifth (thrown_labels at.After-deref-3) c.make_begin_label-begin_label.result c.make_begin_label-begin_label.ensures.inside i)
    (map (thrown_entry fifth) (c.deref-3.ensures.value i)))) in
    let counted : c.len.result ≡ length (procedure_tree c.args.written.now).parameters = omega (arith, length-map c.args.written.now.parameters.items parameter_tree) in
    let found = procedure_found _ _ _ _ _ c.in_ok-value.ensures.made (begun at.After-deref)
    _ (declared at.After-deref-2) _ (ended at.After-deref-2) _ (thrown at.After-deref-3) (after_block (point_of c.declare_parameters.new.self) (point_of c.resolve_body.new.self)) (block_of c.in_ok-statements.statements.items)
    (sym (block_is at.After-resolve_body (begun_globals at.After-deref)) ∙ c.in_ok-statements.ensures.made) (string_bytes c.in_ok-from_str.field-0) entered (label_at sixth c.in_ok-end_label.end_label) c.len.result
    c.in_ok-from_str.ensures.ok c.make_begin_label-begin_label.ensures.label ends counted in
    rw c.take_slots-slots.ensures.rest (found ∙ (λ i. Ok (record {
      at = c.args.written.now.name.at;
      name = string_bytes c.in_ok-from_str.field-0;
      result = sym (same_result first last (last_of_first at.After-len) c.in_ok-value.value c.in_ok-value.ensures.inside) i;
      begin_label = sym (same_label second last (last_of_second at.After-len) c.make_begin_label-begin_label.result c.make_begin_label-begin_label.ensures.inside) i;
      end_label = sym (same_label sixth last c.in_ok-statements.ensures.later.labels c.in_ok-end_label.end_label c.in_ok-end_label.ensures.inside) i;
      throws = sym (same_thrown fifth last (last_of_fifth at.After-len) c.in_ok-throws.throws.items c.in_ok-throws.ensures.inside) i;
      parameters = c.len.result;
      slots = sym c.take_slots-slots.ensures.slots i;
      loops = c.resolve_body.new.self.loops;
      body = block_of c.in_ok-statements.statements.items;
    })))

pub returns-clause-inside : goal.returns-clause-inside
returns-clause-inside c =
    let at = (goal.at.returns-clause-inside c).After-len in
    let last = c.resolve_body.new.self.variables.labels in
    rw c.take_slots-slots.ensures.rest (record {
      of_result = result_still_inside c.resolve_result.new.variables.labels last (last_of_first at) c.in_ok-value.value c.in_ok-value.ensures.inside;
      of_begin = still_inside c.add_optional_label.new.variables.labels last (last_of_second at) c.make_begin_label-begin_label.result c.make_begin_label-begin_label.ensures.inside;
      of_end = still_inside c.make_end_label.new.variables.labels last c.in_ok-statements.ensures.later.labels c.in_ok-end_label.end_label c.in_ok-end_label.ensures.inside;
      of_throws = thrown_still_inside c.resolve_throws.new.variables.labels last (last_of_fifth at) c.in_ok-throws.throws.items c.in_ok-throws.ensures.inside;
      of_slots = c.take_slots-slots.ensures.inside;
    })

pub returns-clause-more : goal.returns-clause-more
returns-clause-more c =
    let at = goal.at.returns-clause-more c in
    rw c.take_slots-slots.ensures.rest (record {
      extended = extends_through c.args.variables.labels c.add_optional_label.new.variables.labels c.resolve_body.new.self.variables.labels (begun_labels at.After-deref) (last_of_second at.After-len);
      few = omega (arith, thrown_taken at.After-deref-3, ap length c.in_ok-end_label.ensures.more.slots, c.in_ok-end_label.ensures.more.few, c.in_ok-statements.ensures.grows);
      globals = c.in_ok-statements.ensures.later.globals ∙ entered_globals at.After-resolve_body ∙ declared_globals at.After-deref-2;
      slots = sym c.requires.none;
    })
