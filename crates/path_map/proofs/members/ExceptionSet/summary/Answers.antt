use Rattle.std.proofs.Common.{◌≡◌, arith, length}
use Rattle.path_map.proofs.members.ExceptionSet.summary.Goals as goal

pub summary_of_row-requires : goal.summary_of_row-requires
summary_of_row-requires c =
    let same : length c.in-Many.row ≡ c.args.self.now.bound = c.args.self.now.inside.1 c.in-Many.row c.in-Many.is in
    omega (arith, same, c.args.self.now.short)
