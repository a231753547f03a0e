use Rattle.std.proofs.Common.{[], ◌∷◌}
use Rattle.constraints.specs.Following.{IsOver}
use Rattle.constraints.proofs.Paths.{over-same, over-then}
use Rattle.constraints.proofs.PartRows.{more-back, more-front, on-ok}
use Rattle.constraints.proofs.merging.add.Goals as goal

pub returns-in-Unknown : goal.returns-in-Unknown
returns-in-Unknown c =
    let over = IsOver c.args.following.now in
    let parts = c.args.parts.now in
    on-ok c.add_part.result
    (more-front over (over-same c.args.following.now) (over-then c.args.following.now) (c.args.part ∷ []) parts.unknowns.items c.add_part.new.parts.items parts.written.items) c.add_part.ensures

pub returns-in-Written : goal.returns-in-Written
returns-in-Written c =
    let over = IsOver c.args.following.now in
    let parts = c.args.parts.now in
    on-ok c.add_part-in-Written.result
    (more-back over (over-same c.args.following.now) (over-then c.args.following.now) (c.args.part ∷ []) parts.written.items c.add_part-in-Written.new.parts.items parts.unknowns.items) c.add_part-in-Written.ensures
