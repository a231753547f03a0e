use Rattle.std.proofs.Common.{List, [], ◌∷◌}
use Rattle.resolved.specs.Exits.{raises}
use Rattle.resolved.specs.TreeOf.{expression_of}
use Rattle.gathering.specs.Names.{NamedAtom, named_atoms}
use Rattle.gathering.specs.Walk.{raise_atoms}
use Rattle.constraints.specs.LeftSides.{scope_of}
use Rattle.constraints.proofs.Added.{added-none, added-same, left-same}
use Rattle.constraints.proofs.statements.ProcedureWalk.add_condition.Goals as goal

pub returns : goal.returns
returns c = λ named stands.
    let core = c.args.self.now.table.now.core.now in
    let table = c.args.self.now.table.now.core.now.labels in
    let procedure = c.args.self.now.procedure in
    let e = expression_of c.args.condition.now in
    let q : List NamedAtom = named ∷ named_atoms (raise_atoms (scope_of core procedure) e) in
    c.in_ok-add_raised.ensures q (raises e) (left-same core table q c.in_ok-left.left.items c.deref.result.now c.deref.ensures (c.in_ok-left.ensures named stands)) c.raises_of-found.ensures

pub returns-then-raises_nowhere : goal.returns-then-raises_nowhere
returns-then-raises_nowhere c = λ named stands.
    let core = c.args.self.now.table.now.core.now in
    let table = c.args.self.now.table.now.core.now.labels in
    let procedure = c.args.self.now.procedure in
    let e = expression_of c.args.condition.now in
    let q : List NamedAtom = named ∷ named_atoms (raise_atoms (scope_of core procedure) e) in
    added-same core table _ [] _ _ (c.raises_nowhere.ensures c.if-raises_nowhere.true q (raises e)) (added-none core table _)
