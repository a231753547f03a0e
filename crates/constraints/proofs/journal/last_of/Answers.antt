use Rattle.std.proofs.Common.{suc, ◌≡◌, arith}
use Rattle.constraints.proofs.Moments.{found-last, found-none}
use Rattle.constraints.proofs.journal.last_of.Goals as goal

pub returns-in_default : goal.returns-in_default
returns-in_default c = found-none c.args.moments.now c.args.call c.count.result c.count.ensures.parted (omega (arith, c.in_default.ensures))

pub returns : goal.returns
returns c =
    let is : c.count.result ≡ suc c.in-Some.last = omega (arith, c.in-Some.ensures) in
    found-last c.args.moments.now c.args.call c.count.result c.in-Some.last c.count.ensures.parted is c.count.ensures.within _
