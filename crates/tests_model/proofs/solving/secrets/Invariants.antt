use Rattle.std.proofs.Common.{◌≡◌, length}
use Rattle.tests_model.proofs.solving.secrets.Given as goal

abbrev pub invariant-loop-owner : goal.invariant-loop-owner
invariant-loop-owner l = record { count : length l.labels.items ≡ l.owner }
