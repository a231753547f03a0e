use Rattle.std.proofs.Common.{List, length, map, sym, ap, ◌∙◌}
use Rattle.common.specs.declared.value.Value.{Value as Cell}
use Rattle.stack.specs.Slab.{total}
use Rattle.stack.proofs.Cuts.{lengths-cut}
use Rattle.stack.proofs.globals.Globals.count.Goals as goal

pub returns : goal.returns
returns c =
    c.count.ensures
    ∙ ap total (sym (lengths-cut c.self.inside.shape c.self.inside.cells.items c.self.invariant) ∙ ap (λ (ps : List (List Cell)). map length ps) c.self.view_is)
