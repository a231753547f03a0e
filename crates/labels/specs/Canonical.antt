-- The one form in which a policy and a label are kept, so that equal sets are equal lists, and what a written policy and a
-- written label stand for.
-- Source: our own.
use Rattle.std.specs.Prelude.{ℕ, List, ◌++◌, ◌==◌, not, filter, All, Contains}
use Rattle.std.specs.declared.cmp.Ordering.{Ordering}
use Rattle.std.specs.Ordering.{nat_cmp, on, then_cmp}
use Rattle.std.specs.Cmp.Lexicographic.{slice_cmp}
use Rattle.std.specs.List.Sorted.{IsStrictlyIncreasing, IsStrictlySortedBy}
use Rattle.labels.specs.Label.{ReaderPolicy, Label}
use Rattle.labels.specs.Sets.{ascending_set}

-- the order of policies: by owner, then by the list of readers, where a list that is a prefix of another one is the smaller
abbrev pub policy_cmp : ReaderPolicy → ReaderPolicy → Ordering
policy_cmp = then_cmp (on (λ policy. policy.owner) nat_cmp) (on (λ policy. policy.readers) (slice_cmp nat_cmp))

-- a policy as it is kept: its readers ascend, and its owner, who reads anyway, is left out of them
pub record IsCanonicalPolicy (policy : ReaderPolicy) : Type 0 where
  pub readers_ascend : IsStrictlyIncreasing policy.readers
  pub owner_left_out : ¬ Contains policy.readers policy.owner

-- a label as it is kept: its policies ascend, and each of them is as it is kept
pub record IsCanonicalLabel (label : Label) : Type 0 where
  pub policies_ascend : IsStrictlySortedBy policy_cmp label
  pub each_canonical : All IsCanonicalPolicy label

-- the policy that is written with an owner and any readers: these without the owner, in ascending order and each once
abbrev pub written_policy : ℕ → List ℕ → ReaderPolicy
written_policy owner readers =
    record { owner = owner; readers = filter (λ reader. not (reader == owner)) (ascending_set nat_cmp readers) }

-- the label that is written with these policies
abbrev pub written_label : List ReaderPolicy → Label
written_label policies = ascending_set policy_cmp policies

-- ---- parts, by which code and proofs speak of them

-- the readers of a written policy without its owner, in ascending order and each once
abbrev pub readers_with : ℕ → List ℕ → List ℕ
readers_with owner readers = filter (λ reader. not (reader == owner)) (ascending_set nat_cmp readers)

-- the join of two labels: the policies of both
abbrev pub joined : Label → Label → Label
joined left right = ascending_set policy_cmp (left ++ right)
