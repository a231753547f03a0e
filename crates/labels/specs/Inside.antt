-- What a policy keeps inside, and what of it it means. Our own.
use Rattle.std.specs.Prelude.{ℕ, ◌<◌, ◌↔◌, List, Contains, IsTrue}
use Rattle.common.specs.declared.limits.TheConstants.{MAX_PRINCIPALS}
use Rattle.principals.specs.Table.{has}
use Rattle.principals.specs.declared.principal_set.PrincipalSet.{PrincipalSet}
use Rattle.labels.specs.Canonical.{IsCanonicalPolicy}
use Rattle.labels.specs.Label.{ReaderPolicy}
use Rattle.labels.specs.declared.policies.Policy.TheInside.{Inside}

-- its owner and its readers
abbrev pub policy_of : Inside → ReaderPolicy
policy_of inside = record { owner = inside.owner; readers = inside.readers.items }

-- a row of bits has of these numbers those that a principal can have, and no others
abbrev pub IsRowOf : List ℕ → PrincipalSet → Type 0
IsRowOf numbers row = (number : ℕ) → IsTrue (has row number) ↔ ((number < MAX_PRINCIPALS) × Contains numbers number)

-- the policy is canonical, and the row is that of its readers
pub record IsStoredPolicy (inside : Inside) : Type 0 where
  pub canonical : IsCanonicalPolicy (policy_of inside)
  pub row : IsRowOf inside.readers.items inside.row
