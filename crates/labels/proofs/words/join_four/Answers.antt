use Rattle.std.proofs.Common.{ap, ◌%◌, ◌^◌, not, nat_eq, w64}
use Rattle.std.proofs.lemmas.Simd.{tops_compared}
use lib.Lanes.{mask_l}
use Rattle.labels.proofs.FourWords.{before, four-grow, four-joined, joined}
use Rattle.labels.proofs.words.join_four.Goals as goal

pub returns : goal.returns
returns c =
    let words = c.args.words.now in
    let others = c.args.others.now in
    let at = c.args.at in
    four-joined words others at c.requires.words c.requires.others _
    (four-grow words others at c.requires.words c.requires.others _
    (ap (λ ms. mask_l ms % 2 ^ 64) (tops_compared w64 (λ a b. not (nat_eq a b)) (joined words others at c.requires.words c.requires.others) (before words others at c.requires.words c.requires.others))))
