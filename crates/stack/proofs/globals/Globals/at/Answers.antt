use Rattle.std.proofs.Common.{◌<◌, length, arith}
use Rattle.stack.proofs.OfGlobals.{among_cells, read_at}
use Rattle.stack.proofs.globals.Globals.at.Goals as goal

pub index-requires : goal.index-requires
index-requires c =
    let inside : c.args.cell_index < length c.self.inside.cells.items = among_cells c.self.inside.shape c.self.inside.cells.items c.self.invariant c.args.self.now c.self.view_is c.args.cell_index c.requires in
    omega arith

pub returns : goal.returns
returns c = read_at c.self.inside.shape c.self.inside.cells.items c.self.invariant c.args.self.now c.self.view_is c.args.cell_index c.requires c.index.result.now c.index.ensures
