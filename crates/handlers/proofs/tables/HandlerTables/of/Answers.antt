use Rattle.std.proofs.Common.{◌≡◌, List, map, take, ap, ◌∙◌}
use Rattle.std.proofs.lemmas.List.{take_all}
use Rattle.modules.specs.Contents.{ProcedureContents}
use Rattle.modules.specs.Machine.{handler_for}
use Rattle.handlers.proofs.Numbers.{tables_find}
use Rattle.handlers.proofs.tables.HandlerTables.of.Goals as goal

pub returns : goal.returns
returns c =
    let all : take c.loop-procedure.procedure-index c.args.procedures.now ≡ c.args.procedures.now = take_all c.loop-procedure.procedure-index c.args.procedures.now c.loop-procedure-test.false in
    tables_find c.loop-procedure.tables c.args.procedures.now
    (c.loop-procedure.invariant ∙ ap (λ (ps : List ProcedureContents). map (λ (p : ProcedureContents). handler_for p.handlers) ps) all)
