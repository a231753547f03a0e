use Rattle.std.proofs.Common.{ap, ◌∙◌, map}
use Rattle.solver.specs.Sharing.{bits_of}
use Rattle.solver.proofs.Standing.{bits-first, map-none}
use Rattle.solver.proofs.sharing.SharedRows.new.Goals as goal

pub returns : goal.returns
returns c =
    ap (map (bits_of _)) (c.in_ok-of.ensures.items_if_clones_equal (λ y e. e))
    ∙ map-none (bits_of _) c.args.unknowns
    (bits-first _ _ _ c.in_ok-nothing.nothing _ c.new-kept.ensures.items c.in_ok-push.ensures.items c.in_ok-push-2.ensures.items ∙ c.in_ok-nothing.ensures)
