use Rattle.constraints.specs.Journals.{HasOneExitUnknown}
use Rattle.constraints.specs.declared.rows.ThrownLabel.{ThrownLabel}
use Rattle.constraints.proofs.OneExitUnknown.{IsParted}
use Rattle.constraints.proofs.spreading.Spreading.parted.Given as goal

abbrev pub invariant-loop-thrown : goal.invariant-loop-thrown
invariant-loop-thrown l =
    IsParted (λ (x : ThrownLabel). HasOneExitUnknown l.self.journal.now l.calls x.exception) l.labels l.fixed.items l.varied.items l.thrown-index
