use Rattle.std.proofs.Common.{subst}
use Rattle.verifier.specs.Safety.{IsNeverStuck}
use Rattle.verifier.proofs.verified.verify.Goals as goal

pub returns-clause-safe : goal.returns-clause-safe
returns-clause-safe c = subst IsNeverStuck c.in_ok-packed.ensures c.in_ok-placed.ensures.accepted.verified.never_stuck
