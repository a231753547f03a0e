-- The hierarchy of a graph: its pairs are made by sorting and dropping what stands twice.
use Rattle.std.proofs.Common.{◌≡◌, ℕ, ◌<◌, Bool, true, List, refl, sym, ap, ◌∙◌, IfOk, Result, Ok, Err, ◌&&◌}
use Rattle.std.specs.Prelude.{◌==◌}
use Rattle.std.specs.List.{dedup}
use Rattle.std.specs.List.Sorted.{IsPermutation, IsSorted}
use Rattle.std.specs.Cmp.{IsTotalOrder, Equal-is, unsigned_tied}
use Rattle.std.specs.Ordering.{nat_cmp, ordering_then, eq_by_cmp, is_eq}
use Rattle.std.specs.declared.alloc.AllocError.{AllocError}
use Rattle.std.specs.declared.cmp.Ordering.{Ordering}
use Rattle.std.specs.declared.cmp.Ordering.TheVariants.{Less, Equal, Greater}
use Rattle.std.proofs.Math.Path.{fun_ext}
use Rattle.std.proofs.lemmas.Cmp.{eq_by_cmp_equiv, nat_cmp_total, on_total, then_total}
use Rattle.std.proofs.lemmas.Map.Lookups.{CmpEqualImpliesEq, exact_unsigned}
use Rattle.principals.specs.ActsFor.{PrincipalHierarchy, AllBelow}
use Rattle.labels.specs.Sets.{ascending_set}
use Rattle.labels.proofs.Ascending.{ascending_set-SameSet}
use Rattle.labels.proofs.Elements.{All-from_each, each_from_All}
use Rattle.labels.proofs.Written.{dedup-sorted}
use Rattle.labels.proofs.Order.{both_tie}
use Rattle.modules.specs.Format.{pair_cmp}
use Rattle.lowering.specs.Interface.{hierarchy_contents}

pub pair_cmp-total : IsTotalOrder pair_cmp
pair_cmp-total = then_total (on_total (λ pair. pair.0) nat_cmp_total) (on_total (λ pair. pair.1) nat_cmp_total)

pub pair_cmp-exact : CmpEqualImpliesEq pair_cmp
pair_cmp-exact p q e =
    let ties = both_tie (nat_cmp p.0 q.0) (nat_cmp p.1 q.1) e in
    let left : p.0 ≡ q.0 = exact_unsigned p.0 q.0 ties.0 in
    let right : p.1 ≡ q.1 = exact_unsigned p.1 q.1 ties.1 in
    λ i. (left i, right i)

-- two pairs are equal number by number
abbrev pub same_pair : ℕ × ℕ → ℕ × ℕ → Bool
same_pair x y = (x.0 == y.0) && (x.1 == y.1)

is_eq-then : (a b : Ordering) → is_eq (ordering_then a b) ≡ (is_eq a && is_eq b)
is_eq-then Less b = refl
is_eq-then Equal b = refl
is_eq-then Greater b = refl

same_pair-ties : (x y : ℕ × ℕ) → same_pair x y ≡ eq_by_cmp pair_cmp x y
same_pair-ties x y =
    ap (λ b. b && (x.1 == y.1)) (sym (unsigned_tied x.0 y.0)) ∙ ap (λ b. eq_by_cmp nat_cmp x.0 y.0 && b) (sym (unsigned_tied x.1 y.1))
    ∙ sym (is_eq-then (nat_cmp x.0 y.0) (nat_cmp x.1 y.1))

tied-equal : (x y : ℕ × ℕ) → eq_by_cmp pair_cmp x y ≡ true → x ≡ y
tied-equal x y e = pair_cmp-exact x y ((Equal-is (pair_cmp x y)).0 e)

-- pairs sorted, and then without what stands twice, are the ascending set
pub pairs_made : (pairs sorted once : List (ℕ × ℕ)) → IsPermutation pairs sorted → IsSorted pair_cmp sorted → once ≡ dedup same_pair sorted → once ≡ ascending_set pair_cmp pairs
pairs_made pairs sorted once moved ascending each_once =
    let same : same_pair ≡ eq_by_cmp pair_cmp = fun_ext (λ x. fun_ext (λ y. same_pair-ties x y)) in
    each_once ∙ ap (λ eq. dedup eq sorted) same
    ∙ dedup-sorted pair_cmp-total pair_cmp-exact (eq_by_cmp pair_cmp) (eq_by_cmp_equiv pair_cmp-total) (λ x y. refl) tied-equal pairs sorted moved ascending

-- what holds of all pairs holds of all of the set
pub pairs_below : (limit : ℕ) (pairs : List (ℕ × ℕ)) → AllBelow limit pairs → AllBelow limit (ascending_set pair_cmp pairs)
pairs_below limit pairs all =
    All-from_each (λ (pair : ℕ × ℕ). (pair.0 < limit) × (pair.1 < limit)) (ascending_set pair_cmp pairs)
    (λ pair contained. each_from_All (λ (pair : ℕ × ℕ). (pair.0 < limit) × (pair.1 < limit)) pairs all pair ((ascending_set-SameSet pair_cmp-exact pairs pair).0 contained))

pub hierarchy_made : (r : Result PrincipalHierarchy AllocError) (h : PrincipalHierarchy) (names : List (List ℕ)) (pairs : List (ℕ × ℕ)) → names ≡ h.names → pairs ≡ ascending_set pair_cmp h.pairs → IfOk r (λ (made : PrincipalHierarchy). made.names ≡ names) → IfOk r (λ (made : PrincipalHierarchy). made.pairs ≡ pairs) → IfOk r (λ made. made ≡ hierarchy_contents h)
hierarchy_made (Ok made) h names pairs n p f g =
    let first : made.names ≡ h.names = f ∙ n in
    let second : made.pairs ≡ ascending_set pair_cmp h.pairs = g ∙ p in
    λ i. record { names = first i; pairs = second i }
hierarchy_made (Err e) h names pairs n p f g = tt
