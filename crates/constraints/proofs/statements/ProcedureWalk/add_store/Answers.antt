use Rattle.std.proofs.Common.{List, ◌∷◌, ◌++◌}
use Rattle.resolved.specs.declared.statement.Exit.TheVariants.{Normal}
use Rattle.resolved.specs.declared.target.Target.TheVariants.{ToVariable}
use Rattle.resolved.specs.Exits.{raises, index_raises}
use Rattle.resolved.specs.Labelled.{value_label}
use Rattle.resolved.specs.TreeOf.{expression_of}
use Rattle.gathering.specs.Names.{NamedAtom, named_atoms}
use Rattle.gathering.specs.Walk.{flow, raised_flows, rule_constraint, store_atoms}
use Rattle.constraints.specs.ExitUnknowns.{exit_unknowns_around}
use Rattle.constraints.specs.LeftSides.{scope_of}
use Rattle.constraints.proofs.Added.{added-nowhere, added-then, left-same}
use Rattle.constraints.proofs.statements.ProcedureWalk.add_store.Goals as goal

pub returns : goal.returns
returns c = λ n named stands.
    let core = c.args.self.now.table.now.core.now in
    let table = c.args.self.now.table.now.core.now.labels in
    let procedure = c.args.self.now.procedure in
    let scope = scope_of core procedure in
    let index = expression_of c.args.index.now in
    let value = expression_of c.args.value.now in
    let exit_unknowns = exit_unknowns_around c.args.around.now in
    let p : List NamedAtom = named ∷ named_atoms (value_label scope index ++ value_label scope value) in
    let q : List NamedAtom = named ∷ named_atoms (store_atoms scope c.args.store.length index value) in
    let found = raises index ++ raises value ++ index_raises index c.args.store.length in
    added-then core table (rule_constraint scope c.args.store.at 3 p (ToVariable procedure c.args.store.array)) (flow q (exit_unknowns Normal) ++ raised_flows q exit_unknowns found) _ _ _
    (c.in_ok-add_rule.ensures procedure p (c.in_ok-stored.ensures named stands))
    (c.in_ok-add_exits.ensures q found (left-same core table q c.in_ok-left.left.items c.deref.result.now c.deref.ensures (c.in_ok-left.ensures named stands)) c.raises_of_store-found.ensures)

pub returns-then-ends_nowhere : goal.returns-then-ends_nowhere
returns-then-ends_nowhere c = λ n named stands.
    let walk = c.args.self.now in
    let core = walk.table.now.core.now in
    let scope = scope_of core walk.procedure in
    let index = expression_of c.args.index.now in
    let value = expression_of c.args.value.now in
    let found = raises index ++ raises value ++ index_raises index c.args.store.length in
    let p : List NamedAtom = named ∷ named_atoms (value_label scope index ++ value_label scope value) in
    let q : List NamedAtom = named ∷ named_atoms (store_atoms scope c.args.store.length index value) in
    let exit_unknowns = exit_unknowns_around c.args.around.now in
    added-then core core.labels (rule_constraint scope c.args.store.at 3 p (ToVariable walk.procedure c.args.store.array)) (flow q (exit_unknowns Normal) ++ raised_flows q exit_unknowns found) _ _ _
    (c.in_ok-add_rule.ensures walk.procedure p (c.in_ok-stored.ensures named stands))
    (added-nowhere core core.labels q exit_unknowns Normal found _ (c.ends_nowhere.ensures.exit c.if-ends_nowhere.true) (c.ends_nowhere.ensures.raised c.if-ends_nowhere.true q found))
