use Rattle.std.proofs.Common.{refl, sym, ◌∙◌, subst}
use Rattle.gathering.specs.Walk.{onward_pc}
use Rattle.solver.specs.declared.constraints.Atom.TheVariants as stored
use Rattle.constraints.specs.Added.{IsPart}
use Rattle.constraints.proofs.statements.ProcedureWalk.onward_pc.Goals as goal

pub returns-then-is_single : goal.returns-then-is_single
returns-then-is_single c = λ ends named kept stands.
    subst (λ b. IsPart c.args.self.now.table.now.core.now c.args.self.now.table.now.core.now.labels (onward_pc b named c.args.number) c.args.pc)
    (sym c.if-is_single.true ∙ c.is_single.ensures ends kept) stands

pub returns : goal.returns
returns c = λ ends named kept stands.
    subst (λ b. IsPart c.args.self.now.table.now.core.now c.args.self.now.table.now.core.now.labels (onward_pc b named c.args.number) (stored.Unknown c.args.number))
    (sym c.if-is_single.false ∙ c.is_single.ensures ends kept) refl
