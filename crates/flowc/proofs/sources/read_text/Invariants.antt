use Rattle.std.proofs.Common.{◌≡◌, ◌+◌, ◌-◌, ◌≤◌, length}
use Rattle.common.specs.declared.limits.TheConstants.{MAX_TEXT}
use Rattle.std.specs.Io.KnownBytes.{Consumes}
use Rattle.flowc.proofs.sources.read_text.Given as goal

-- what was read stands in the text, no read has failed, and the text is not too long
abbrev pub invariant-loop-chunk : goal.invariant-loop-chunk
invariant-loop-chunk g l =
    Consumes (g.R.Source.left l.fn.source) (g.R.Source.left l.source) l.text.items
    × (length l.text.items ≤ MAX_TEXT + 1)
    × (g.R.Source.has_failed l.source ≡ g.R.Source.has_failed l.fn.source)

abbrev pub decreases-loop-chunk : goal.decreases-loop-chunk
decreases-loop-chunk g l = MAX_TEXT + 1 - length l.text.items
