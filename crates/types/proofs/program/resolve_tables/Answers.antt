use Rattle.std.proofs.Common.{arith}
use Rattle.types.proofs.Within.{items_within}
use Rattle.types.proofs.program.resolve_tables.Goals as goal

pub of-requires : goal.of-requires
of-requires c = omega (arith, items_within c.args.items.now, c.requires.room)
