use Rattle.std.proofs.Common.{ap, ◌∙◌, sym, arith}
use Rattle.resolved.specs.Value.{in_range}
use Rattle.std.proofs.lemmas.Bool.{lt-leb}
use Rattle.path_map.proofs.Rows.{large-literal}
use Rattle.path_map.proofs.raises.is_in_range.Goals as goal

pub returns-else-literal-le-MAX_INTEGER : goal.returns-else-literal-le-MAX_INTEGER
returns-else-literal-le-MAX_INTEGER c =
    lt-leb c.args.literal 2147483647 (omega arith)
    ∙ sym (ap (λ z. in_range z c.args.length) (large-literal c.args.literal (omega arith) (omega (arith, c.ranges.literal.fits))))
