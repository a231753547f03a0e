-- What holds of the tree of a text of at most 1 MiB.
-- Source: our own; such a text has at most that many tokens and the end marker.
use Rattle.std.specs.Prelude.{ℕ, ◌+◌, ◌≤◌}
use Rattle.common.specs.declared.limits.TheConstants.{MAX_TEXT}
use Rattle.syntax.specs.Nodes.{program_nodes}
use Rattle.syntax.specs.Tree.{ProgramTree}
use Rattle.syntax.specs.Written.{Anywhere, IsInteger, IsNameWithin, IsWritten}

-- the most nodes of a program
abbrev pub most_nodes : ℕ
most_nodes = MAX_TEXT + 1

-- its names are names of at most 1 MiB, its integers are small enough, and it has no more nodes than such a text has tokens
pub record IsOfText (program : ProgramTree) : Type 0 where
  pub written : IsWritten Anywhere (IsNameWithin MAX_TEXT) IsInteger program
  pub few : program_nodes program ≤ most_nodes
