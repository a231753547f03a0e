use Rattle.std.proofs.Common.{List, [], ◌∷◌, ◌++◌, map, refl}
use Rattle.resolved.specs.CoreOf.{program_of}
use Rattle.resolved.specs.Labelled.{label_of, one}
use Rattle.resolved.specs.TreeOf.{expression_of}
use Rattle.resolved.specs.declared.statement.Exit.TheVariants.{Normal}
use Rattle.resolved.specs.declared.target.Target.TheVariants.{ToBegin, ToValue}
use Rattle.gathering.specs.Names.{NamedAtom, named_atoms}
use Rattle.gathering.specs.Walk.{argument_constraints, call_atoms, call_flows, inner_atom, inner_constraint, raise_atoms_all, rule_constraint, target_constraint}
use Rattle.solver.specs.declared.constraints.Atom.TheVariants as stored
use Rattle.constraints.specs.LeftSides.{scope_of}
use Rattle.constraints.specs.ExitUnknowns.{exit_unknowns_around}
use Rattle.constraints.specs.Walks.{kept_exits}
use Rattle.constraints.proofs.Added.{added-then, alone-left}
use Rattle.constraints.proofs.statements.ProcedureWalk.add_call.Goals as goal

pub returns : goal.returns
returns c = λ named stands.
    let core = c.args.self.now.table.now.core.now in
    let table = c.args.self.now.table.now.core.now.labels in
    let procedure = c.args.self.now.procedure in
    let program = program_of core in
    let scope = scope_of core procedure in
    let k = c.args.number in
    let arguments = map expression_of c.args.arguments.now in
    let exit_unknowns = exit_unknowns_around c.args.around.now in
    let raised : List NamedAtom = named ∷ named_atoms (raise_atoms_all scope arguments) in
    let own : List NamedAtom = inner_atom k ∷ [] in
    let received : List NamedAtom = inner_atom k ∷ named_atoms (call_atoms program c.args.site.callee Normal ++ one (label_of program (ToValue c.args.site.callee))) in
    let ends = call_flows program c.args.site.callee k exit_unknowns (kept_exits arguments) in
    let demands = target_constraint scope c.args.site.at 6 received c.args.site.target in
    let passed = argument_constraints scope c.args.site.at k c.args.site.callee 0 arguments in
    let begun = rule_constraint scope c.args.site.at 6 own (ToBegin c.args.site.callee) in
    added-then core table (inner_constraint raised k) (begun ++ (passed ++ (demands ++ ends))) _ _ _ (c.in_ok-add_inner.ensures raised (c.in_ok-raised.ensures named stands))
    (added-then core table begun (passed ++ (demands ++ ends)) _ _ _
    (c.in_ok-add_rule.ensures procedure own (alone-left core table (inner_atom k) (stored.Unknown k) c.in_ok-begin.begin.items c.in_ok-begin.ensures refl))
    (added-then core table passed (demands ++ ends) _ _ _ (c.in_ok-add_arguments.ensures k refl)
    (added-then core table demands ends _ _ _ (c.in_ok-add_target.ensures received (c.in_ok-received.ensures (inner_atom k) refl))
    (c.in_ok-add_call_exits.ensures k refl))))
