use Rattle.std.proofs.Common.{refl, arith, [], ◌∷◌}
use Rattle.resolved.specs.declared.target.Target.TheVariants.{ToLoop}
use Rattle.gathering.specs.Walk.{inner_atom, rule_constraint}
use Rattle.constraints.specs.Ready.{entries_of}
use Rattle.constraints.specs.LeftSides.{scope_of}
use Rattle.constraints.proofs.Passed.{alone-walked}
use Rattle.constraints.proofs.statements.ProcedureWalk.end_loop.Goals as goal

pub returns : goal.returns
returns c = λ pc exit_unknowns.
    let scope = scope_of c.args.self.now.table.now.core.now c.args.self.now.procedure in
    alone-walked c.args.self.now.table.now.core.now c.args.self.now.table.now.core.now.labels (entries_of c.args.self.now.map.now)
    pc exit_unknowns (λ named. rule_constraint scope c.args.site.at 8 (inner_atom c.args.back ∷ []) (ToLoop c.args.self.now.procedure c.args.site.number)) 0 c.args.progress.now _ refl (omega arith) refl refl
    (λ named stands. c.in_ok-add_turn.ensures (inner_atom c.args.back) refl)
