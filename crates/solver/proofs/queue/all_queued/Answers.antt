use Rattle.std.proofs.Common.{ap, ◌∙◌, sym, subst, length, arith, List, Bool, false, ⊎_elim}
use Rattle.std.specs.Prelude.{IsTrue}
use Rattle.std.proofs.lemmas.List.{length-replicate}
use Rattle.labels.specs.Row.{has}
use Rattle.solver.specs.Queue.{RightIsUnknown, flag}
use Rattle.solver.proofs.Bits.{has-none, size, size-none}
use Rattle.solver.proofs.Comparing.{slice_get-inside}
use Rattle.solver.proofs.Queued.{seeded-none}
use Rattle.solver.proofs.queue.all_queued.Goals as goal
use Rattle.common.proofs.Cases.{last_cases}

pub ordered-init : goal.ordered-init
ordered-init g c =
    let waits = c.in_ok-vec.field-0.items in
    let is = c.in_ok-vec.ensures.items_if_clones_equal (λ y e. e) in
    record {
      seeded = rw (c.in_ok-with_capacity.ensures)
          (seeded-none c.args.constraints.now waits (ap length is ∙ length-replicate _ false)
          (λ i. ap (λ (r : List Bool). has r i) is ∙ has-none _ i) (ap size is ∙ size-none _));
    }

pub ordered-preserved : goal.ordered-preserved
ordered-preserved g c = record { seeded = c.in_ok-seed.ensures.seeded }

pub all-init : goal.all-init
all-init g c = record { seeded = c.ordered.invariant.seeded; all = λ i h. absurd (omega (arith, h)) }

pub all-preserved : goal.all-preserved
all-preserved g c = record {
  seeded = c.in_ok-seed-2.ensures.seeded;
  all = λ i h r. ⊎_elim (λ before. c.in_ok-seed-2.ensures.kept.kept i (c.all.invariant.all i before r))
      (λ last. subst (λ j. IsTrue (flag c.seed-in-all.new.self.waits.items j)) (sym last)
      (c.in_ok-seed-2.ensures.kept.marked (subst (λ j. RightIsUnknown c.args.constraints.now j) last r)))
      (last_cases i c.all.by h);
}

pub returns : goal.returns
returns g c = record {
  seeded = c.all.invariant.seeded;
  all = λ i r. c.all.invariant.all i (let inside = slice_get-inside c.args.constraints.now i r.constraint r.at in omega (arith, inside, c.all-test.false)) r;
}
