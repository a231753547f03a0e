use Rattle.std.proofs.Common.{subst}
use Rattle.std.specs.Prelude.{All}
use Rattle.principals.specs.Named.{IsKeptName}
use Rattle.principals.proofs.Hierarchy.count.Goals as goal

pub returns-clause-named : goal.returns-clause-named
returns-clause-named c = subst (λ h. All IsKeptName h.names) c.self.view_is c.self.invariant.named
