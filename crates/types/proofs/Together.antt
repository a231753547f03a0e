-- A component that is a policy, by the policy that is found.
use Rattle.std.proofs.Common.{◌≡◌, ℕ, List, [], ◌∷◌, Ok, Err, refl}
use Rattle.common.specs.Results.{◌>>=◌}
use Rattle.labels.specs.Canonical.{written_policy}
use Rattle.syntax.specs.Tree.{NameTree, PolicyComponent}
use Rattle.types.specs.Finding.{Finding, ◌gives◌, of_each}
use Rattle.types.specs.Labels.{LabelScope, principal_finding, policy_finding, component_finding}

pub policy_together : (scope : LabelScope) (owner : NameTree) (readers : List NameTree)
    → component_finding scope (PolicyComponent owner readers) ≡ (policy_finding scope.hierarchy owner readers gives λ policy. policy ∷ [])
unfolding component_finding policy_finding
policy_together scope owner readers = steps (principal_finding scope.hierarchy owner) (of_each (principal_finding scope.hierarchy) readers)
  where
    steps : (looked : Finding ℕ) (read : Finding (List ℕ))
        → (looked >>= λ number. (read gives λ found. written_policy number found ∷ []))
        ≡ ((looked >>= λ number. (read gives written_policy number)) gives λ policy. policy ∷ [])
    steps (Ok number) (Ok found) = refl
    steps (Ok number) (Err refusal) = refl
    steps (Err refusal) read = refl
