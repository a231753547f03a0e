use Rattle.std.proofs.Common.{map, take}
use Rattle.gathering.specs.Walk.{inner_atom}
use Rattle.constraints.specs.Added.{IsLeft}
use Rattle.constraints.specs.declared.journal.Called.{Called}
use Rattle.constraints.proofs.spreading.Spreading.owns.Given as goal

abbrev pub invariant-loop-called : goal.invariant-loop-called
invariant-loop-called l =
    IsLeft l.self.table.now.core.now l.self.table.now.core.now.labels (map (λ (called : Called). inner_atom called.own) (take l.called-index l.calls)) l.atoms.items
