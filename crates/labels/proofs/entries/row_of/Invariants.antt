use Rattle.std.proofs.Common.{◌≡◌, ℕ, ◌<◌, ◌≤◌, length, take}
use Rattle.std.specs.Prelude.{All}
use Rattle.labels.specs.Entries.{some_made_of}
use Rattle.labels.specs.Row.{has}
use Rattle.labels.proofs.entries.row_of.Given as goal

-- of the labels so far
abbrev pub invariant-loop-label : goal.invariant-loop-label
invariant-loop-label l = record {
  above : All (λ label. label < length l.row) l.named;
  short : length l.row ≤ length l.entries;
  parts : (part : ℕ) → has l.row part ≡ some_made_of l.entries (take l.label-index l.named) part;
}
