use Rattle.std.proofs.Common.{refl, subst, sym}
use Rattle.solver.specs.declared.constraints.Atom.TheVariants.{Unknown}
use Rattle.constraints.specs.Following.{AreFollowed}
use Rattle.constraints.specs.Merging.{itself}
use Rattle.constraints.proofs.Paths.{followed-after, followed-then}
use Rattle.constraints.proofs.following.CallPath.far_from.Goals as goal

pub returns-then-saturating_sub : goal.returns-then-saturating_sub
returns-then-saturating_sub c = λ real base way.
    followed-then real base (Unknown c.args.next) (Unknown c.after-far.result) (Unknown c.after-farther.result)
    (followed-after real base c.deref.result.now c.args.next c.after-far.result (subst (AreFollowed real base) (sym c.deref.ensures.value) way.1) c.after-far.ensures)
    (followed-after real base c.deref-2.result.now c.after-far.result c.after-farther.result (subst (AreFollowed real base) (sym c.deref-2.ensures.value) way.1) c.after-farther.ensures)

pub returns : goal.returns
returns c = λ real base way. itself (Unknown c.args.next) refl
