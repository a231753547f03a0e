-- The names of a program and the form of its channels' labels, beside its being well-formed: what a file that holds them wants.
-- Source: our own.
use Rattle.std.specs.Prelude.{ℕ, List, ◌++◌, map, All}
use Rattle.common.specs.Exceptions.{built_in_names}
use Rattle.common.specs.declared.limits.TheConstants.{MAX_TEXT}
use Rattle.principals.specs.ActsFor.{AllDifferent, IsHierarchy}
use Rattle.principals.specs.Named.{IsUtf8NameWithin, IsKeptName}
use Rattle.labels.specs.Canonical.{IsCanonicalLabel}
use Rattle.labels.specs.Channel.{ChannelContents}
use Rattle.resolved.specs.Program.{Program}

-- a name in UTF-8 of at most 1 MiB
abbrev pub IsShortName : List ℕ → Type 0
IsShortName name = IsUtf8NameWithin MAX_TEXT name

-- the names that a module file keeps: those of declared exceptions, then those of channels
abbrev pub kept_names : Program → List (List ℕ)
kept_names program = program.exceptions ++ map (λ (entry : ChannelContents). entry.name) program.channels

-- the principals have different names such as a file holds, and pairs are of principals that are there; exceptions and channels have different names,
-- which no built-in exception has; and the labels of channels are in the one form in which labels are kept
pub record HasNames (program : Program) : Type 0 where
  pub hierarchy : IsHierarchy program.hierarchy
  pub principals : All IsKeptName program.hierarchy.names
  pub items : All IsShortName (kept_names program)
  pub different : AllDifferent (built_in_names ++ kept_names program)
  pub labels : All (λ (entry : ChannelContents). IsCanonicalLabel entry.label) program.channels
