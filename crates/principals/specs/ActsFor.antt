-- Principals, and which of them acts for which: the principal hierarchy of the decentralized label model.
-- Source: Myers and Liskov 1997 and 2000.
use Rattle.std.specs.Prelude.{◌≡◌, ◌≢◌, ℕ, ◌<◌, ◌≤◌, List, [], ◌∷◌, length, Bool, ◌&&◌, ◌||◌, ◌==◌, Option, Some, slice_get, position, bytes_eq, Contains, All, AllPairs}
use Rattle.common.specs.declared.limits.TheConstants.{MAX_PRINCIPALS}

-- a hierarchy: the names of its principals, which are numbered from 0 in this order, and the written pairs, where (a, b) says
-- that a acts for b
pub record PrincipalHierarchy : Type 0 where
  pub names : List (List ℕ)
  pub pairs : List (ℕ × ℕ)

-- acts-for: the least reflexive and transitive relation on numbers that contains the written pairs
pub data ActsFor (pairs : List (ℕ × ℕ)) : ℕ → ℕ → Type 0 where
  itself : (a : ℕ) → ActsFor pairs a a
  written : (a b : ℕ) → Contains pairs (a, b) → ActsFor pairs a b
  through : (a b c : ℕ) → ActsFor pairs a b → ActsFor pairs b c → ActsFor pairs a c

-- the same as a test: along the pairs after the first, or along these to the first pair's left side and from its right side on
abbrev pub acts_for : List (ℕ × ℕ) → ℕ → ℕ → Bool
acts_for [] a b = a == b
acts_for (pair ∷ pairs) a b = acts_for pairs a b || (acts_for pairs a pair.0 && acts_for pairs pair.1 b)

-- what every hierarchy keeps: at most 256 principals, names that are all different, and pairs of principals that are there
pub record IsHierarchy (hierarchy : PrincipalHierarchy) : Type 0 where
  pub few : length hierarchy.names ≤ MAX_PRINCIPALS
  pub different : AllPairs (λ first second. first ≢ second) hierarchy.names
  pub there : All (λ pair. (pair.0 < length hierarchy.names) × (pair.1 < length hierarchy.names)) hierarchy.pairs

-- the number of the principal with this name, or none
abbrev pub number_of : PrincipalHierarchy → List ℕ → Option ℕ
number_of hierarchy name = position (bytes_eq name) hierarchy.names

-- acts-for by name: principals of both names are there, and the first acts for the second
abbrev pub ActsForByName : PrincipalHierarchy → List ℕ → List ℕ → Type 0
ActsForByName hierarchy first second =
    (a : ℕ) × (b : ℕ) × (slice_get hierarchy.names a ≡ Some first) × (slice_get hierarchy.names b ≡ Some second) × ActsFor hierarchy.pairs a b

-- a hierarchy contains another: each principal of the other is here by name, and each acts-for of the other holds here by name
pub record ContainsHierarchy (larger smaller : PrincipalHierarchy) : Type 0 where
  pub principals : (name : List ℕ) → Contains smaller.names name → Contains larger.names name
  pub acts : (first second : List ℕ) → ActsForByName smaller first second → ActsForByName larger first second

-- ---- parts of these, by which contracts and proofs speak of them

-- the principal with this number has this name
abbrev pub HasName : PrincipalHierarchy → ℕ → List ℕ → Type 0
HasName hierarchy number name = slice_get hierarchy.names number ≡ Some name

-- the names are all different
abbrev pub AllDifferent : List (List ℕ) → Type 0
AllDifferent names = AllPairs (λ first second. first ≢ second) names

-- each number of each pair is below a limit
abbrev pub AllBelow : ℕ → List (ℕ × ℕ) → Type 0
AllBelow limit pairs = All (λ pair. (pair.0 < limit) × (pair.1 < limit)) pairs
