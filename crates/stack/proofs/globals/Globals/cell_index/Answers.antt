use Rattle.std.proofs.Common.{ℕ, List, length, map, sym, ap, ◌∙◌}
use Rattle.common.specs.declared.value.Value.{Value as Cell}
use Rattle.stack.specs.Slab.{cell_index_in}
use Rattle.stack.proofs.Cuts.{lengths-cut}
use Rattle.stack.proofs.globals.Globals.cell_index.Goals as goal

pub returns : goal.returns
returns c =
    c.cell_index.ensures
    ∙ ap (λ (ns : List ℕ). cell_index_in ns c.args.global c.args.index)
    (sym (lengths-cut c.self.inside.shape c.self.inside.cells.items c.self.invariant) ∙ ap (λ (ps : List (List Cell)). map length ps) c.self.view_is)
