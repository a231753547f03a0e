-- What a run has sent, and what a principal sees of it.
-- Source: our own; seeing the channels that one may read is the observer of Volpano, Smith and Irvine 1996.
use Rattle.std.specs.Prelude.{◌≡◌, ℕ, List, [], ◌∷◌, ◌++◌, filter, ◌⊎◌}
use Rattle.common.specs.declared.sent.Pair.{Pair}
use Rattle.principals.specs.ActsFor.{PrincipalHierarchy}
use Rattle.labels.specs.Label.{Label, MayRead, may_read}

-- a list is a prefix of another one
abbrev pub IsPrefix : {X : Type 0} → List X → List X → Type 0
IsPrefix {X} xs ys = (rest : List X) × (xs ++ rest ≡ ys)

-- one of two lists is a prefix of the other
abbrev pub OneIsPrefix : {X : Type 0} → List X → List X → Type 0
OneIsPrefix xs ys = IsPrefix xs ys ⊎ IsPrefix ys xs

-- what a principal sees of what was sent: the pairs on channels whose label it may read, and no others, in order
pub data Sees (h : PrincipalHierarchy) (label_of : ℕ → Label) (p : ℕ) : (sent seen : List Pair) → Type 0 where
  Nothing : Sees h label_of p [] []
  Seen : (pair : Pair) (sent seen : List Pair) → MayRead h p (label_of pair.channel) → Sees h label_of p sent seen
      → Sees h label_of p (pair ∷ sent) (pair ∷ seen)
  Unseen : (pair : Pair) (sent seen : List Pair) → ¬ MayRead h p (label_of pair.channel) → Sees h label_of p sent seen
      → Sees h label_of p (pair ∷ sent) seen

-- ---- parts, by which code and proofs speak of them

-- the same by the test of reading
abbrev pub pairs_for : PrincipalHierarchy → (ℕ → Label) → ℕ → List Pair → List Pair
pairs_for h label_of p sent = filter (λ pair. may_read h p (label_of pair.channel)) sent
