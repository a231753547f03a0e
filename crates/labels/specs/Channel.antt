-- A channel: of a program, and of a module.
-- Source: our own.
use Rattle.std.specs.Prelude.{ℕ, List}
use Rattle.common.specs.declared.direction.Direction.{Direction}
use Rattle.labels.specs.Label.{Label}

-- a channel: its direction, its name as bytes, and the label of what it carries
pub record ChannelContents : Type 0 where
  pub direction : Direction
  pub name : List ℕ
  pub label : Label
