use Rattle.std.proofs.Common.{sym, ◌∙◌}
use Rattle.path_map.proofs.Procedures.{several-stays}
use Rattle.path_map.proofs.calls.summary_of.Goals as goal

pub returns-in-Several : goal.returns-in-Several
returns-in-Several c =
    c.in-Several.is ∙ several-stays c.args.throws.now c.loop-thrown.thrown-index (sym c.loop-thrown.invariant ∙ c.in-Several.is)
