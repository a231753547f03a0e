use Rattle.std.proofs.Common.{sym, subst, take, get_or, [], ◌∷◌}
use Rattle.std.proofs.lemmas.List.{take_more}
use Rattle.solver.specs.declared.constraints.Atom.{Atom}
use Rattle.solver.specs.declared.constraints.Atom.TheVariants.{Written}
use Rattle.constraints.specs.Following.{IsOver}
use Rattle.constraints.specs.Merging.{HasMore, parts_of}
use Rattle.constraints.proofs.Paths.{over-same, over-then}
use Rattle.constraints.proofs.PartRows.{more-both, more-none}
use Rattle.constraints.proofs.merging.add_all.Goals as goal

pub loop-part-init : goal.loop-part-init
loop-part-init c = record { more = more-none (IsOver c.args.following.now) (over-same c.args.following.now) (over-then c.args.following.now) (parts_of c.args.parts.now) }

pub loop-part-preserved : goal.loop-part-preserved
loop-part-preserved c =
    let none : Atom = Written 0 in
    let i = c.loop-part.part-index in
    let left = c.args.left.now in
    let following = c.args.following.now in
    record {
      more = subst (λ list. HasMore (IsOver following) list (parts_of c.args.parts.now) (parts_of c.add.new.parts)) (sym (take_more left i none c.loop-part-test.true))
          (more-both (IsOver following) (over-same following) (over-then following) (take i left) (get_or left i none ∷ [])
          (parts_of c.args.parts.now) (parts_of c.loop-part.parts) (parts_of c.add.new.parts) c.loop-part.invariant.more c.in_ok-add.ensures);
    }
