use Rattle.types.specs.Views.{label_scope_of}
use Rattle.types.proofs.GatheredLabels.{Gathers}
use Rattle.types.proofs.label.LabelContext.resolve.Given as goal

abbrev pub invariant-loop-component : goal.invariant-loop-component
invariant-loop-component l = Gathers (label_scope_of l.self) l.self.variables.now.labels l.component-items l.own.items l.named.items l.component-index
