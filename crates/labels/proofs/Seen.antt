-- What a principal sees of what was sent is what the test of reading lets through.
use Rattle.std.proofs.Common.{◌≡◌, refl, sym, ap, ◌∙◌, subst, ℕ, Bool, true, false, List, [], ◌∷◌, ◌↔◌}
use Rattle.principals.specs.ActsFor.{PrincipalHierarchy}
use Rattle.common.specs.declared.sent.Pair.{Pair}
use Rattle.labels.specs.Label.{Label, may_read}
use Rattle.labels.specs.Sent.{Sees, Nothing, Seen, Unseen, pairs_for}
use Rattle.labels.proofs.Tests.{may_read-decides}

module _ (h : PrincipalHierarchy) (label_of : ℕ → Label) (p : ℕ) where
  pub sees-pairs_for : (sent : List Pair) → Sees h label_of p sent (pairs_for h label_of p sent)
  sees-pairs_for [] = Nothing
  sees-pairs_for (pair ∷ sent) = go (may_read h p (label_of pair.channel)) refl (sees-pairs_for sent)
    where
      go : (b : Bool) → may_read h p (label_of pair.channel) ≡ b → Sees h label_of p sent (pairs_for h label_of p sent)
          → Sees h label_of p (pair ∷ sent) (pairs_for h label_of p (pair ∷ sent))
      go true e later =
          let is : pairs_for h label_of p (pair ∷ sent) ≡ pair ∷ pairs_for h label_of p sent = rw e refl in
          subst (Sees h label_of p (pair ∷ sent)) (sym is)
          (Seen pair sent (pairs_for h label_of p sent) ((may_read-decides h p (label_of pair.channel)).0 e) later)
      go false e later =
          let is : pairs_for h label_of p (pair ∷ sent) ≡ pairs_for h label_of p sent = rw e refl in
          subst (Sees h label_of p (pair ∷ sent)) (sym is)
          (Unseen pair sent (pairs_for h label_of p sent)
          (λ reads. let i : false ≡ true = sym e ∙ (may_read-decides h p (label_of pair.channel)).1 reads in cc) later)

  pub pairs_for-seen : (sent seen : List Pair) → Sees h label_of p sent seen → pairs_for h label_of p sent ≡ seen
  pairs_for-seen _ _ Nothing = refl
  pairs_for-seen _ _ (Seen pair sent seen reads later) =
      let e : may_read h p (label_of pair.channel) ≡ true = (may_read-decides h p (label_of pair.channel)).1 reads in
      rw e (ap (λ pairs. pair ∷ pairs) (pairs_for-seen sent seen later))
  pairs_for-seen _ _ (Unseen pair sent seen unread later) = go (may_read h p (label_of pair.channel)) refl (pairs_for-seen sent seen later)
    where
      go : (b : Bool) → may_read h p (label_of pair.channel) ≡ b → pairs_for h label_of p sent ≡ seen → pairs_for h label_of p (pair ∷ sent) ≡ seen
      go true e is = absurd (unread ((may_read-decides h p (label_of pair.channel)).0 e))
      go false e is = rw e is

  pub pairs_for-decides : (sent seen : List Pair) → (pairs_for h label_of p sent ≡ seen) ↔ Sees h label_of p sent seen
  pairs_for-decides sent seen =
      (λ same. subst (Sees h label_of p sent) same (sees-pairs_for sent), pairs_for-seen sent seen)
