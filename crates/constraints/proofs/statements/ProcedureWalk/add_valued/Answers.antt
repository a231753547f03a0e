use Rattle.std.proofs.Common.{List, ◌∷◌, ◌++◌}
use Rattle.resolved.specs.Exits.{raises}
use Rattle.resolved.specs.Labelled.{value_label}
use Rattle.resolved.specs.TreeOf.{expression_of}
use Rattle.gathering.specs.Names.{NamedAtom, named_atoms}
use Rattle.gathering.specs.Walk.{flow, raise_atoms, raised_flows, rule_constraint}
use Rattle.solver.specs.Rule.{rule_number}
use Rattle.constraints.specs.ExitUnknowns.{exit_unknowns_around}
use Rattle.constraints.specs.LeftSides.{scope_of}
use Rattle.constraints.proofs.Added.{added-nowhere, added-then, left-same}
use Rattle.constraints.proofs.statements.ProcedureWalk.add_valued.Goals as goal

pub returns : goal.returns
returns c = λ named stands.
    let core = c.args.self.now.table.now.core.now in
    let table = c.args.self.now.table.now.core.now.labels in
    let procedure = c.args.self.now.procedure in
    let scope = scope_of core procedure in
    let value = expression_of c.args.value.now in
    let exit_unknowns = exit_unknowns_around c.args.around.now in
    let p : List NamedAtom = named ∷ named_atoms (value_label scope value) in
    let q : List NamedAtom = named ∷ named_atoms (raise_atoms scope value) in
    added-then core table (rule_constraint scope c.args.demand.at (rule_number c.args.demand.rule) p c.args.demand.target) (flow q (exit_unknowns c.args.exit) ++ raised_flows q exit_unknowns (raises value)) _ _ _
    (c.in_ok-add_rule.ensures procedure p (c.in_ok-valued.ensures named stands))
    (c.in_ok-add_exits.ensures q (raises value) (left-same core table q c.in_ok-left.left.items c.deref.result.now c.deref.ensures (c.in_ok-left.ensures named stands)) c.raises_of-found.ensures)

pub returns-then-ends_nowhere : goal.returns-then-ends_nowhere
returns-then-ends_nowhere c = λ named stands.
    let core = c.args.self.now.table.now.core.now in
    let table = c.args.self.now.table.now.core.now.labels in
    let procedure = c.args.self.now.procedure in
    let scope = scope_of core procedure in
    let value = expression_of c.args.value.now in
    let exit_unknowns = exit_unknowns_around c.args.around.now in
    let p : List NamedAtom = named ∷ named_atoms (value_label scope value) in
    let q : List NamedAtom = named ∷ named_atoms (raise_atoms scope value) in
    added-then core table (rule_constraint scope c.args.demand.at (rule_number c.args.demand.rule) p c.args.demand.target) (flow q (exit_unknowns c.args.exit) ++ raised_flows q exit_unknowns (raises value)) _ _ _
    (c.in_ok-add_rule.ensures procedure p (c.in_ok-valued.ensures named stands))
    (added-nowhere core table q exit_unknowns c.args.exit (raises value) _ (c.ends_nowhere.ensures.exit c.if-ends_nowhere.true) (c.ends_nowhere.ensures.raised c.if-ends_nowhere.true q (raises value)))
