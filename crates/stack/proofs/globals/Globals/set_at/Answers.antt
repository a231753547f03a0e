use Rattle.std.proofs.Common.{◌<◌, List, length, ap, ◌∙◌, arith}
use Rattle.common.specs.declared.value.Value.{Value as Cell}
use Rattle.stack.specs.Slab.{with_cell_at}
use Rattle.stack.proofs.CellsByIndex.{with_cell_at-cut}
use Rattle.stack.proofs.OfGlobals.{among_cells}
use Rattle.stack.proofs.globals.Globals.set_at.Goals as goal

pub index_mut-requires : goal.index_mut-requires
index_mut-requires c =
    let inside : c.args.cell_index < length c.self.inside.cells.items = among_cells c.self.inside.shape c.self.inside.cells.items c.self.invariant c.args.self.now c.self.view_is c.args.cell_index c.requires in
    omega arith

pub returns : goal.returns
returns c =
    with_cell_at-cut c.self.inside.shape c.self.inside.cells.items c.args.cell_index c.args.value c.self.invariant
    ∙ ap (λ (ps : List (List Cell)). with_cell_at ps c.args.cell_index c.args.value) c.self.view_is
