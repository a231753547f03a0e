use Rattle.std.proofs.Common.{ap, arith, length}
use Rattle.solver.proofs.EdgeCursors.{rows-count}
use Rattle.solver.proofs.edges.EdgeRows.len.Goals as goal

pub returns : goal.returns
returns c =
    let count = rows-count 0 c.self.inside.ends.items c.self.inside.list.items in
    let len = ap length c.self.view_is in
    omega (arith, c.len.ensures, c.self.inside.ends.ok.0, count, len)
