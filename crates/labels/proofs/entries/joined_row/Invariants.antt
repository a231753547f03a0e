use Rattle.std.proofs.Common.{◌≡◌, ℕ, ◌<◌, length, take}
use Rattle.labels.specs.Entries.{some_made_of}
use Rattle.labels.specs.Row.{has}
use Rattle.labels.proofs.entries.joined_row.Given as goal

-- of the labels so far
abbrev pub invariant-loop-label : goal.invariant-loop-label
invariant-loop-label l = record {
  bound : length l.row ≡ length l.entries;
  parts : (part : ℕ) → part < length l.entries → has l.row part ≡ some_made_of l.entries (take l.label-index l.labels) part;
}
