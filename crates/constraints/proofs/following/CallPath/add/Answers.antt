use Rattle.std.proofs.Common.{subst, sym}
use Rattle.solver.specs.declared.constraints.Atom.TheVariants.{Unknown}
use Rattle.constraints.specs.Following.{AreFollowed}
use Rattle.constraints.proofs.Paths.{followed-set, followed-then}
use Rattle.constraints.proofs.following.CallPath.add.Goals as goal

pub returns : goal.returns
returns c = λ real base on way. (
  subst (AreFollowed real base) (sym c.put-2.ensures) (followed-set real base c.args.self.now.next.items c.args.from c.args.next way.0 on),
  subst (AreFollowed real base) (sym c.put-3.ensures)
      (followed-set real base c.args.self.now.far.items c.args.from c.far_from-far.result way.1
      (followed-then real base (Unknown c.args.from) (Unknown c.args.next) (Unknown c.far_from-far.result) on (c.far_from-far.ensures real base way))),
)
