use Rattle.std.proofs.Common.{refl, subst}
use Rattle.std.proofs.lemmas.Bool.{eqb-true}
use Rattle.solver.specs.declared.constraints.Atom.TheVariants.{Unknown}
use Rattle.constraints.specs.Merging.{IsFollowed, itself}
use Rattle.constraints.proofs.Paths.{followed-then}
use Rattle.constraints.proofs.following.CallPath.leads.Goals as goal

pub loop-round-init : goal.loop-round-init
loop-round-init c = record { at = λ real base way. itself (Unknown c.args.from) refl }

pub loop-round-preserved : goal.loop-round-preserved
loop-round-preserved c = record {
  at = λ real base way. followed-then real base (Unknown c.args.from) (Unknown c.loop-round.at) (Unknown c.step_toward-next.result)
      (c.loop-round.invariant.at real base way) (c.step_toward-next.ensures real base way);
}

pub returns-then-at-to : goal.returns-then-at-to
returns-then-at-to c = λ e real base way. subst (λ k. IsFollowed real base (Unknown c.args.from) (Unknown k)) (eqb-true c.loop-round.at c.args.to e) (c.loop-round.invariant.at real base way)

pub returns : goal.returns
returns c = λ e real base way. subst (λ k. IsFollowed real base (Unknown c.args.from) (Unknown k)) (eqb-true c.loop-round.at c.args.to e) (c.loop-round.invariant.at real base way)
