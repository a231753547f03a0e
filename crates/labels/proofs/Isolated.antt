-- Runs are isolated where their views are.
use Rattle.std.proofs.Common.{ℕ, List, ℤ, subst, ◌↔◌}
use Rattle.principals.specs.ActsFor.{PrincipalHierarchy}
use Rattle.common.specs.declared.sent.Pair.{Pair}
use Rattle.labels.specs.Channel.{ChannelContents}
use Rattle.labels.specs.Label.{Label}
use Rattle.labels.specs.Sent.{OneIsPrefix, pairs_for}
use Rattle.labels.specs.Isolated.{RunsAreIsolated, ViewsAreIsolated}
use Rattle.labels.proofs.Seen.{sees-pairs_for, pairs_for-seen}

module _ (h : PrincipalHierarchy) (label_of : ℕ → Label) (channels : List ChannelContents) (sent : (ℕ → List ℤ) → ℕ → List Pair) where
  pub isolated-views : RunsAreIsolated h label_of channels sent → ViewsAreIsolated h label_of channels sent
  isolated-views isolated p first second agree i j =
      isolated p first second agree i j (pairs_for h label_of p (sent first i)) (pairs_for h label_of p (sent second j))
      (sees-pairs_for h label_of p (sent first i)) (sees-pairs_for h label_of p (sent second j))

  pub views-isolated : ViewsAreIsolated h label_of channels sent → RunsAreIsolated h label_of channels sent
  views-isolated views p first second agree i j seen other sees sees_other =
      subst (λ xs. OneIsPrefix xs other) (pairs_for-seen h label_of p (sent first i) seen sees)
      (subst (OneIsPrefix (pairs_for h label_of p (sent first i))) (pairs_for-seen h label_of p (sent second j) other sees_other)
      (views p first second agree i j))

  pub isolated-by_views : RunsAreIsolated h label_of channels sent ↔ ViewsAreIsolated h label_of channels sent
  isolated-by_views = (isolated-views, views-isolated)
