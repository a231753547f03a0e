use Rattle.std.proofs.Common.{◌≤◌, length, get_or, take, refl, sym, arith}
use Rattle.std.proofs.lemmas.List.{take_all}
use Rattle.std.proofs.lemmas.List.Elements.{All-more, All-same}
use Rattle.principals.specs.ActsFor.{ActsFor}
use Rattle.principals.proofs.Hierarchy.relates_all.Goals as goal

pub loop-left-preserved : goal.loop-left-preserved
loop-left-preserved c =
    let pairs = c.args.pairs.now in
    let i = c.loop-left.left-index in
    All-more (λ pair. ActsFor c.args.self.now.pairs (get_or c.args.here.now pair.0 0) (get_or c.args.here.now pair.1 0)) pairs i (0, 0) c.loop-left-test.true c.loop-left.invariant
    (c.if-not-acts_for.ensures.acts.0 refl)

pub returns : goal.returns
returns c =
    let pairs = c.args.pairs.now in
    let past : length pairs ≤ c.loop-left.left-index = omega arith in (
      λ _. All-same (λ pair. ActsFor c.args.self.now.pairs (get_or c.args.here.now pair.0 0) (get_or c.args.here.now pair.1 0)) pairs (take c.loop-left.left-index pairs)
          (sym (take_all c.loop-left.left-index pairs past)) c.loop-left.invariant,
      λ _. refl,
    )
