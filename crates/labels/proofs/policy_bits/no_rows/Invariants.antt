use Rattle.std.proofs.Common.{◌≡◌, None, Option, List, Bool}
use Rattle.std.specs.Prelude.{All}
use Rattle.labels.proofs.policy_bits.no_rows.Given as goal

abbrev pub invariant-loop-n : goal.invariant-loop-n
invariant-loop-n l = All (λ (row : Option (List Bool)). row ≡ None) l.kept.items
