use Rattle.std.proofs.Common.{◌≡◌, ◌<◌, All, ap, sym, ◌∙◌, subst, List, Bool, true, length, set, arith}
use Rattle.std.proofs.lemmas.List.Elements.{All-push}
use Rattle.solver.specs.Sharing.{with_numbers}
use Rattle.solver.proofs.Standing.{with-length, with-more}
use Rattle.solver.proofs.sharing.come_near.Goals as goal

pub set-requires : goal.set-requires
set-requires c =
    let lt = c.in-Some.ensures.inside in
    let len : length c.loop-i.near ≡ length c.args.base = ap length c.loop-i.invariant.row ∙ with-length c.args.base c.loop-i.more.items in
    omega (arith, lt, len, c.requires)

pub loop-i-preserved : goal.loop-i-preserved
loop-i-preserved c =
    let n = c.in-Some.number in
    let lt = c.in-Some.ensures.inside in
    let pushed = c.in_ok-push.ensures.ok in
    record {
      row = c.set.ensures ∙ (ap (λ (r : List Bool). set r n true) c.loop-i.invariant.row ∙ (sym (with-more c.args.base c.loop-i.more.items n) ∙ sym (ap (with_numbers c.args.base) pushed)));
      inside = subst (All (λ m. m < length c.args.base)) (sym pushed)
          (All-push (λ m. m < length c.args.base) c.loop-i.more.items n c.loop-i.invariant.inside (omega (arith, lt, c.requires)));
    }
