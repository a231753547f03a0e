use Rattle.std.proofs.Common.{sym, subst}
use Rattle.std.proofs.lemmas.List.Elements.{All-get_or}
use Rattle.layout.specs.Graph.{HasPositions}
use Rattle.layout.proofs.layout.lay_out_procedures.Goals as goal

pub lay_out_procedure-requires-clause-positions : goal.lay_out_procedure-requires-clause-positions
lay_out_procedure-requires-clause-positions c =
    subst HasPositions (sym c.procedure-item.is)
    (All-get_or HasPositions c.args.procedures.now c.loop-procedure.procedure-index c.procedure-item.result c.loop-procedure-test.true c.requires.positions)
