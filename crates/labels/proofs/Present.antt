-- A policy of a label is covered by it.
use Rattle.std.proofs.Common.{◌≡◌, ℕ, length, true, Result, Ok, Err}
use Rattle.std.specs.Prelude.{Contains, IfOk, IsTrue, is_ok, slice_index_or}
use Rattle.std.specs.List.{HoldsAt}
use Rattle.std.specs.List.Sorted.{IsSearchInRange}
use Rattle.std.specs.declared.cmp.Ordering.TheVariants as orderings
use Rattle.principals.specs.ActsFor.{PrincipalHierarchy}
use Rattle.labels.specs.Label.{ReaderPolicy, Label, Covers, covers}
use Rattle.labels.specs.Canonical.{policy_cmp}
use Rattle.labels.proofs.Elements.{each_from_All}
use Rattle.labels.proofs.Flow.{FlowsTo-itself}
use Rattle.labels.proofs.Order.{policy_cmp-exact}
use Rattle.labels.proofs.Tests.{covers-decides}

pub present-covers : (h : PrincipalHierarchy) (to : Label) (policy : ReaderPolicy) → Contains to policy → Covers h to policy
present-covers h to policy there = each_from_All (λ one. Covers h to one) to (FlowsTo-itself h to) policy there

pub present-covered : (h : PrincipalHierarchy) (to : Label) (policy : ReaderPolicy) → Contains to policy → covers h to policy ≡ true
present-covered h to policy there = (covers-decides h to policy).1 (present-covers h to policy there)

-- what is found by the order of policies is there
pub searched-present : (to : Label) (policy : ReaderPolicy) (found : Result ℕ ℕ) → IsSearchInRange found (length to)
    → IfOk found (HoldsAt (λ one. policy_cmp one policy ≡ orderings.Equal) to) → IsTrue (is_ok found) → Contains to policy
searched-present to policy (Ok at) inside equal holds = (at, inside, policy_cmp-exact (slice_index_or to at policy) policy (equal policy))
searched-present to policy (Err at) inside equal holds = absurd (cc)
