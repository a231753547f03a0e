use Rattle.std.proofs.Common.{sym, ap, ◌∙◌, subst, ◌<◌, ◌+◌, length, set, true, arith}
use Rattle.labels.specs.Comparing.{HaveAll, Told}
use Rattle.labels.specs.Entries.{own_at}
use Rattle.labels.proofs.Compared.{all-set, slot-inside, told-at}
use Rattle.labels.proofs.under.Under.add_those.Goals.{then-holds, else-holds}
use Rattle.labels.proofs.under.Under.add_those.Goals as goal

pub overflow_add-from : goal.overflow_add-from
overflow_add-from c =
    let es = c.args.self.now.entries.now in
    omega (arith, slot-inside es c.args.part c.requires.part, c.requires.from, c.requires.row.count, c.loop-k-test.true, ap length c.own_at-own.ensures, c.bound-bound.ensures)

pub set-requires : goal.set-requires
set-requires c =
    let es = c.args.self.now.entries.now in
    omega (arith, slot-inside es c.args.part c.requires.part, c.requires.from, c.loop-k.invariant.count, c.loop-k-test.true, ap length c.own_at-own.ensures)

pub loop-k-preserved : goal.loop-k-preserved
loop-k-preserved c =
    let es = c.args.self.now.entries.now in
    let P = Told c.args.self.now.hierarchy.now c.args.role c.args.principal in
    let inside : c.loop-k.k < length (own_at es c.args.part) = omega (arith, c.loop-k-test.true, ap length c.own_at-own.ensures) in
    elim c.if-holds.branch [
      | then-holds w ↦ all-set es P c.loop-k.row c.if-holds.row c.args.part c.loop-k.k c.requires.part inside
          (w.row-is ∙ (w.set.ensures ∙ ap (λ n. set c.loop-k.row (n + c.loop-k.k) true) c.requires.from))
          (told-at es P c.args.part c.loop-k.k c.own_at-own.result.now c.index-own-k.result inside c.own_at-own.ensures c.index-own-k.is (c.holds.ensures w.if-holds.true))
          c.loop-k.invariant
      | else-holds w ↦ subst (HaveAll es P) (sym w.row-is) c.loop-k.invariant
    ]
