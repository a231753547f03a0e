-- Isolation: what a principal can learn of the inputs that it may not read from what it sees of the outputs. Of all that runs on
-- numbers for each input and sends numbers on outputs, whose labels a hierarchy orders: of programs, and of modules under their own
-- hierarchy or one that contains it.
-- Source: our own, for runs that may be stopped anywhere; noninterference after Volpano, Smith and Irvine 1996.
use Rattle.std.specs.Prelude.{◌≡◌, ◌⊎◌, ℕ, List, slice_get, Some, ℤ}
use Rattle.principals.specs.ActsFor.{PrincipalHierarchy, IsHierarchy, ContainsHierarchy}
use Rattle.common.specs.declared.direction.Direction.TheVariants.{Input}
use Rattle.labels.specs.Carried.{label_under}
use Rattle.labels.specs.Channel.{ChannelContents}
use Rattle.labels.specs.Label.{Label, MayRead}
use Rattle.labels.specs.Sent.{Sees, IsPrefix, OneIsPrefix, pairs_for}
use Rattle.common.specs.declared.sent.Pair.{Pair}

-- two worlds, each a list of numbers for each channel, agree for a principal of a hierarchy: each input that it may read has the
-- same numbers
abbrev pub WorldsAgree : PrincipalHierarchy → (ℕ → Label) → List ChannelContents → (p : ℕ) → (first second : ℕ → List ℤ) → Type 0
WorldsAgree h label_of channels p first second =
    (k : ℕ) (channel : ChannelContents) → slice_get channels k ≡ Some channel → channel.direction ≡ Input
    → MayRead h p (label_of k) → first k ≡ second k

-- runs are isolated: for every principal, all worlds that agree for it and any two numbers of steps, or bounds on the rounds of loops,
-- of what it sees of the one run and of the other one is a prefix of the other
abbrev pub RunsAreIsolated : PrincipalHierarchy → (ℕ → Label) → List ChannelContents → (sent : (ℕ → List ℤ) → ℕ → List Pair) → Type 0
RunsAreIsolated h label_of channels sent =
    (p : ℕ) (first second : ℕ → List ℤ) → WorldsAgree h label_of channels p first second → (i j : ℕ) (seen other : List Pair)
    → Sees h label_of p (sent first i) seen → Sees h label_of p (sent second j) other → IsPrefix seen other ⊎ IsPrefix other seen

-- runs stay isolated: under every hierarchy that contains the one of their labels, to which these are carried over by names
abbrev pub RunsStayIsolated : PrincipalHierarchy → (ℕ → Label) → List ChannelContents → (sent : (ℕ → List ℤ) → ℕ → List Pair) → Type 0
RunsStayIsolated own label_of channels sent = (h : PrincipalHierarchy) → IsHierarchy h → ContainsHierarchy h own
    → RunsAreIsolated h (λ k. label_under own h (label_of k)) channels sent

-- ---- parts, by which code and proofs speak of them

-- the same by the test of reading
abbrev pub ViewsAreIsolated : PrincipalHierarchy → (ℕ → Label) → List ChannelContents → (sent : (ℕ → List ℤ) → ℕ → List Pair) → Type 0
ViewsAreIsolated h label_of channels sent =
    (p : ℕ) (first second : ℕ → List ℤ) → WorldsAgree h label_of channels p first second → (i j : ℕ)
    → OneIsPrefix (pairs_for h label_of p (sent first i)) (pairs_for h label_of p (sent second j))
