use Rattle.std.proofs.Common.{◌≡◌, ◌∙◌, ap, arith}
use Rattle.principals.specs.Table.{has_path_below, is_written}
use Rattle.principals.proofs.Paths.{has_path_below-all}
use Rattle.principals.proofs.table.close_table.Goals as goal

pub returns-clause-closed : goal.returns-clause-closed
returns-clause-closed c a b h =
    let e : c.loop-between.between ≡ c.args.count = omega arith in
    c.loop-between.invariant.each a b h
    ∙ ap (λ x. has_path_below x (is_written c.args.pairs.now) a b) e
    ∙ has_path_below-all c.args.count c.args.pairs.now c.requires.there a b
