use Rattle.std.proofs.Common.{◌≡◌, filter, take}
use Rattle.channels.specs.View.{is_shown}
use Rattle.channels.proofs.view.select_pairs.Given as goal

-- the pairs that are shown of those so far
abbrev pub invariant-loop-pair : goal.invariant-loop-pair
invariant-loop-pair l = l.pairs.items ≡ filter (is_shown l.observer.hierarchy.now l.observer.program.now l.observer.principal) (take l.pair-index l.sent)
