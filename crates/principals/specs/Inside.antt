-- What a hierarchy keeps inside. Our own.
use Rattle.std.specs.Prelude.{◌≡◌, ℕ, ◌<◌, length, All}
use Rattle.principals.specs.ActsFor.{PrincipalHierarchy, IsHierarchy, acts_for}
use Rattle.principals.specs.Named.{IsKeptName}
use Rattle.principals.specs.Table.{names_of, related}
use Rattle.principals.specs.declared.Hierarchy.TheInside.{Inside}

-- the names in the order of their numbers, and the written pairs
abbrev pub hierarchy_of : Inside → PrincipalHierarchy
hierarchy_of inside = record { names = names_of inside.names; pairs = inside.pairs.items }

-- the names are such as a module file holds, and the table has a row for each principal, which answers acts-for
pub record IsStoredHierarchy (inside : Inside) : Type 0 where
  pub hierarchy : IsHierarchy (hierarchy_of inside)
  pub named : All IsKeptName (names_of inside.names)
  pub rows : length inside.table.items ≡ length inside.names.keys
  pub answers : (a b : ℕ) → a < length inside.names.keys → related inside.table.items a b ≡ acts_for inside.pairs.items a b
