-- A hierarchy under which a session is viewed, as it is kept.
-- Source: our own.
use Rattle.std.specs.Prelude.{◌≡◌}
use Rattle.principals.specs.ActsFor.{ContainsHierarchy}
use Rattle.labels.specs.Carried.{number_by_name, numbered}
use Rattle.modules.specs.Contents.{ModuleContents}
use Rattle.host.specs.declared.session.Larger.{Larger}

-- it contains the module's, and the numbers are those that the module's principals have there by name
pub record IsNumberedFor (m : ModuleContents) (larger : Larger) : Type 0 where
  pub contains : ContainsHierarchy larger.hierarchy m.hierarchy
  pub numbered_so : numbered larger.numbers ≡ number_by_name m.hierarchy larger.hierarchy
