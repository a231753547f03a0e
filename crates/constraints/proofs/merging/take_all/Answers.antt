use Rattle.std.proofs.Common.{refl, ◌∙◌, [], ◌∷◌}
use Rattle.constraints.specs.Following.{IsOver}
use Rattle.constraints.specs.Merging.{rows_of}
use Rattle.constraints.proofs.Paths.{over-same, over-then}
use Rattle.constraints.proofs.PartRows.{taken-both, taken-none}
use Rattle.constraints.proofs.merging.take_all.Goals as goal

pub loop-constraint-init : goal.loop-constraint-init
loop-constraint-init c = record {
  taken = taken-none (IsOver c.args.following.now) (over-same c.args.following.now) (rows_of c.args.kept.now.items) c.args.rest.now.items;
  count = refl;
}

pub loop-constraint-preserved : goal.loop-constraint-preserved
loop-constraint-preserved c = record {
  taken =
      taken-both (IsOver c.args.following.now) (over-same c.args.following.now) (over-then c.args.following.now)
      c.loop-constraint.yielded (c.in-Some.constraint ∷ []) (rows_of c.args.kept.now.items) (rows_of c.loop-constraint.kept.items) (rows_of c.take.new.kept.items)
      c.args.rest.now.items c.loop-constraint.rest.items c.take.new.rest.items c.loop-constraint.invariant.taken c.in_ok-take.ensures.taken;
  count = c.in_ok-take.ensures.count ∙ c.loop-constraint.invariant.count;
}
