use Rattle.std.proofs.Common.{[], ◌∷◌}
use Rattle.constraints.proofs.Added.{alone-left}
use Rattle.constraints.proofs.statements.ProcedureWalk.add_turn.Goals as goal

pub returns : goal.returns
returns c = λ named stands.
    let core = c.args.self.now.table.now.core.now in
    let table = c.args.self.now.table.now.core.now.labels in
    let procedure = c.args.self.now.procedure in
    c.in_ok-add_rule.ensures procedure (named ∷ []) (alone-left core table named c.args.pc c.in_ok-left.left.items c.in_ok-left.ensures stands)
