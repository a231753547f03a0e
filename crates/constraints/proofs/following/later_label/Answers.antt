use Rattle.std.proofs.Common.{refl}
use Rattle.solver.specs.declared.constraints.Atom.TheVariants.{Unknown}
use Rattle.constraints.specs.Merging.{itself}
use Rattle.constraints.proofs.Paths.{followed-then}
use Rattle.constraints.proofs.following.later_label.Goals as goal

pub loop-step-init : goal.loop-step-init
loop-step-init c = record { at = λ real base rows others. itself (Unknown c.args.from) refl }

pub loop-step-preserved : goal.loop-step-preserved
loop-step-preserved c = record {
  at = λ real base rows others. followed-then real base (Unknown c.args.from) (Unknown c.loop-step.at) (Unknown c.step-at.result)
      (c.loop-step.invariant.at real base rows others) (c.step-at.ensures real base rows others);
}

pub returns-then-is_marked : goal.returns-then-is_marked
returns-then-is_marked c = λ real base rows others. followed-then real base (Unknown c.args.from) (Unknown c.loop-step.at) (Unknown c.step-at.result)
    (c.loop-step.invariant.at real base rows others) (c.step-at.ensures real base rows others)

pub returns : goal.returns
returns c = λ real base rows others. itself (Unknown c.args.from) refl
