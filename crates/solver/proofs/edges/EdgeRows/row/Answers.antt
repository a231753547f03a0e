use Rattle.std.proofs.Common.{ap, arith, length, ◌∙◌}
use Rattle.solver.proofs.EdgeCursors.{row-bounds, row-inside, row-is}
use Rattle.solver.proofs.edges.EdgeRows.row.Goals as goal

pub start_of-start-requires : goal.start_of-start-requires
start_of-start-requires c =
    let h = row-inside c.self.inside.ends.items c.self.inside.list.items c.args.self.now c.args.part c.self.view_is c.requires in
    let len = ap length c.as_slice.ensures.value in
    omega (arith, h, len)

pub index-requires : goal.index-requires
index-requires c =
    let h = row-inside c.self.inside.ends.items c.self.inside.list.items c.args.self.now c.args.part c.self.view_is c.requires in
    omega (arith, h, c.self.inside.ends.ok.0)

pub edges_between-requires-clause-start : goal.edges_between-requires-clause-start
edges_between-requires-clause-start c =
    let h = row-inside c.self.inside.ends.items c.self.inside.list.items c.args.self.now c.args.part c.self.view_is c.requires in
    (row-bounds c.self.inside.ends.items c.as_slice.result.now (length c.self.inside.list.items) c.args.part c.start_of-start.result c.index.result.now c.self.invariant
    c.as_slice.ensures.value h c.start_of-start.ensures c.index.ensures).0

pub edges_between-requires-clause-end : goal.edges_between-requires-clause-end
edges_between-requires-clause-end c =
    let h = row-inside c.self.inside.ends.items c.self.inside.list.items c.args.self.now c.args.part c.self.view_is c.requires in
    let low = (row-bounds c.self.inside.ends.items c.as_slice.result.now (length c.self.inside.list.items) c.args.part c.start_of-start.result c.index.result.now c.self.invariant
    c.as_slice.ensures.value h c.start_of-start.ensures c.index.ensures).1 in
    let len = ap length c.as_slice-2.ensures.value in
    omega (arith, low, len)

pub returns : goal.returns
returns c =
    let h = row-inside c.self.inside.ends.items c.self.inside.list.items c.args.self.now c.args.part c.self.view_is c.requires in
    c.edges_between.ensures
    ∙ row-is c.self.inside.ends.items c.as_slice.result.now c.self.inside.list.items c.as_slice-2.result.now c.args.self.now c.args.part c.start_of-start.result c.index.result.now c.self.view_is
    c.as_slice.ensures.value c.as_slice-2.ensures.value h c.start_of-start.ensures c.index.ensures
