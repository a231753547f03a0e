use Rattle.std.proofs.Common.{subst}
use Rattle.verifier.specs.Safety.{IsNeverStuck}
use Rattle.verifier.proofs.verified.Verified.into_parts.Goals as goal

pub returns-clause-never_stuck : goal.returns-clause-never_stuck
returns-clause-never_stuck c = subst IsNeverStuck c.self.view_is c.self.invariant.verified.never_stuck
