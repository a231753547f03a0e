-- The steps of a merge of two ascending lists of policies.
use Rattle.std.proofs.Common.{◌≡◌, ℕ, ◌+◌, ◌<◌, ◌≤◌, [], ◌∷◌, ◌++◌, ◌⊎◌, ⊎_elim, ◌-◌, length, take, drop, get_or, sym, ap, ◌∙◌, subst, arith, append_assoc}
use Rattle.std.proofs.Math.ListN.{drop_of_length-le}
use Rattle.std.proofs.lemmas.List.{append-nil, take_rest}
use Rattle.std.specs.List.Sorted.{IsStrictlySortedBy}
use Rattle.std.specs.declared.cmp.Ordering.TheVariants.{Less, Equal, Greater}
use Rattle.common.proofs.Cases.{drop_next}
use Rattle.labels.specs.Label.{ReaderPolicy, Label}
use Rattle.labels.specs.Canonical.{policy_cmp, joined}
use Rattle.labels.specs.PolicyOrder.{policy_cmp-total}
use Rattle.labels.proofs.Ascending.{union_of_less, union_of_equal, union_of_greater, ascending_set-itself, sorted_drop}
use Rattle.labels.proofs.Order.{policy_cmp-exact}

-- what is there and the join of what is left make the whole join
pub record Merged (all left right : Label) (i j : ℕ) : Type 0 where
  pub left_in_range : i ≤ length left
  pub right_in_range : j ≤ length right
  pub joined_is : all ++ joined (drop i left) (drop j right) ≡ joined left right

-- one more element moves to the end of what is there
moved : (all all' rest rest' both : Label) (x : ReaderPolicy) → all' ≡ all ++ x ∷ [] → x ∷ rest' ≡ rest → all ++ rest ≡ both → all' ++ rest' ≡ both
moved all all' rest rest' both x pushed first is = rw pushed (rw append_assoc (ap (λ r. all ++ r) first ∙ is))

module _ (left right : Label) (left_sorted : IsStrictlySortedBy policy_cmp left) (right_sorted : IsStrictlySortedBy policy_cmp right) (all all' : Label) (i j : ℕ) (x y : ReaderPolicy)
    (merged : Merged all left right i j) (i_in_range : i < length left) (j_in_range : j < length right) (x_is : x ≡ get_or left i x) (y_is : y ≡ get_or right j y) where
  lefts : drop i left ≡ x ∷ drop (i + 1) left
  lefts = drop_next left i x i_in_range x_is

  rights : drop j right ≡ y ∷ drop (j + 1) right
  rights = drop_next right j y j_in_range y_is

  left_rises : IsStrictlySortedBy policy_cmp (x ∷ drop (i + 1) left)
  left_rises = subst (IsStrictlySortedBy policy_cmp) lefts (sorted_drop policy_cmp i left left_sorted)

  right_rises : IsStrictlySortedBy policy_cmp (y ∷ drop (j + 1) right)
  right_rises = subst (IsStrictlySortedBy policy_cmp) rights (sorted_drop policy_cmp j right right_sorted)

  pub Merged-less : policy_cmp x y ≡ Less → all' ≡ all ++ x ∷ [] → Merged all' left right (i + 1) j
  Merged-less order pushed = record {
    left_in_range = omega arith;
    right_in_range = merged.right_in_range;
    joined_is =
        let first = union_of_less policy_cmp-total policy_cmp-exact x (drop (i + 1) left) y (drop (j + 1) right) left_rises right_rises order in
        moved all all' (joined (drop i left) (drop j right)) (joined (drop (i + 1) left) (drop j right)) (joined left right) x pushed
        (let e = lefts in let f = rights in cc) merged.joined_is;
  }

  pub Merged-equal : policy_cmp x y ≡ Equal → all' ≡ all ++ x ∷ [] → Merged all' left right (i + 1) (j + 1)
  Merged-equal order pushed = record {
    left_in_range = omega arith;
    right_in_range = omega arith;
    joined_is =
        let first = union_of_equal policy_cmp-total policy_cmp-exact x (drop (i + 1) left) y (drop (j + 1) right) left_rises right_rises order in
        moved all all' (joined (drop i left) (drop j right)) (joined (drop (i + 1) left) (drop (j + 1) right)) (joined left right) x pushed
        (let e = lefts in let f = rights in cc) merged.joined_is;
  }

  pub Merged-greater : policy_cmp x y ≡ Greater → all' ≡ all ++ y ∷ [] → Merged all' left right i (j + 1)
  Merged-greater order pushed = record {
    left_in_range = merged.left_in_range;
    right_in_range = omega arith;
    joined_is =
        let first = union_of_greater policy_cmp-total policy_cmp-exact x (drop (i + 1) left) y (drop (j + 1) right) left_rises right_rises order in
        moved all all' (joined (drop i left) (drop j right)) (joined (drop i left) (drop (j + 1) right)) (joined left right) y pushed
        (let e = lefts in let f = rights in cc) merged.joined_is;
  }

-- at the end the rests of both lists follow, of which one is empty
ends_joined : (left right all : Label) (i j : ℕ) → IsStrictlySortedBy policy_cmp left → IsStrictlySortedBy policy_cmp right → Merged all left right i j →
    (i ≡ length left) ⊎ (j ≡ length right) → (all ++ drop i left) ++ drop j right ≡ joined left right
ends_joined left right all i j left_sorted right_sorted merged ended =
    ⊎_elim
    (λ over.
    let none : drop i left ≡ [] = drop_of_length-le left (omega arith) in
    let rest : joined (drop i left) (drop j right) ≡ drop j right =
    rw none (ascending_set-itself policy_cmp-total policy_cmp-exact (drop j right) (sorted_drop policy_cmp j right right_sorted)) in
    rw none (rw append-nil (ap (λ r. all ++ r) (sym rest) ∙ merged.joined_is)))
    (λ over.
    let none : drop j right ≡ [] = drop_of_length-le right (omega arith) in
    let rest : joined (drop i left) (drop j right) ≡ drop i left =
    rw none (rw append-nil (ascending_set-itself policy_cmp-total policy_cmp-exact (drop i left) (sorted_drop policy_cmp i left left_sorted))) in
    rw none (rw append-nil (ap (λ r. all ++ r) (sym rest) ∙ merged.joined_is)))
    ended

pub Merged-end : (left right all : Label) (i j : ℕ) → IsStrictlySortedBy policy_cmp left → IsStrictlySortedBy policy_cmp right → Merged all left right i j →
    (i ≡ length left) ⊎ (j ≡ length right) → (all ++ take (length left - i) (drop i left)) ++ take (length right - j) (drop j right) ≡ joined left right
Merged-end left right all i j left_sorted right_sorted merged ended =
    rw (take_rest left i, take_rest right j) (ends_joined left right all i j left_sorted right_sorted merged ended)
