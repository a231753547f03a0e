use Rattle.std.proofs.Common.{◌/◌, ◌<◌, length, arith}
use Rattle.principals.proofs.Bits.{bit_among-set}
use Rattle.principals.proofs.principal_set.PrincipalSet.insert.Goals as goal

pub returns : goal.returns
returns c member =
    let within : c.args.number / 64 < length c.args.self.now.words = omega arith in
    bit_among-set c.args.self.now.words c.args.number member within
