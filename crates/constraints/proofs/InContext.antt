-- What stands around a statement, from its context.
use Rattle.std.proofs.Common.{◌≡◌, subst, List}
use Rattle.labels.specs.Label.{Label}
use Rattle.resolved.specs.declared.program.Core.{Core}
use Rattle.gathering.specs.Names.{NamedAtom, NamedConstraint}
use Rattle.gathering.specs.Walk as walk
use Rattle.solver.specs.declared.constraints.Atom.{Atom}
use Rattle.constraints.specs.Added.{IsGatheredAt, Stored}
use Rattle.constraints.specs.ExitUnknowns.{exit_unknowns_around}
use Rattle.constraints.specs.declared.around.Around.{Around}

-- what is gathered at the same pc and with the same exit unknowns
pub gathered-around : (core : Core) (table : List Label) (gathered : walk.ExitUnknowns → NamedAtom → List NamedConstraint) (around : Around) (pc : Atom) (exit_unknowns : walk.ExitUnknowns)
    (old new : List Stored) → around.pc ≡ pc → exit_unknowns_around around ≡ exit_unknowns
    → IsGatheredAt core table around.pc (gathered (exit_unknowns_around around)) old new → IsGatheredAt core table pc (gathered exit_unknowns) old new
gathered-around core table gathered around pc exit_unknowns old new pc_is exit_unknowns_are added =
    subst (λ p. IsGatheredAt core table p (gathered exit_unknowns) old new) pc_is
    (subst (λ t. IsGatheredAt core table around.pc (gathered t) old new) exit_unknowns_are added)
