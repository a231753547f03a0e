use Rattle.std.proofs.Common.{◌≡◌, ℕ, List, take}
use Rattle.channels.specs.Table.{table_of}
use Rattle.channels.specs.WorldText.{IsRightBefore, lines_of, table_after, texts_of}
use Rattle.channels.proofs.world_read.read_lines.Given as goal

-- the lines so far are right, and the table has what they give
abbrev pub invariant-loop-line : goal.invariant-loop-line
invariant-loop-line l = record {
  counted : l.number ≡ l.line-index;
  right : IsRightBefore (texts_of l.names) (lines_of l.text) l.line-index;
  table : (name : List ℕ) → table_of l.inputs name ≡ table_after (texts_of l.names) (take l.line-index (lines_of l.text)) name;
}
