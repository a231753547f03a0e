-- Prefixes of lists, and what a principal sees of them.
use Rattle.std.proofs.Common.{◌≡◌, refl, ◌∙◌, sym, ap, ℕ, List, [], ◌∷◌, ◌++◌, append_assoc, ◌⊎◌, inl, inr, ⊎_elim}
use Rattle.std.proofs.lemmas.List.{append-nil}
use Rattle.std.proofs.lemmas.List.Elements.{filter-append}
use Rattle.common.specs.declared.sent.Pair.{Pair}
use Rattle.labels.specs.Label.{Label, may_read}
use Rattle.labels.specs.Sent.{IsPrefix, pairs_for}
use Rattle.principals.specs.ActsFor.{PrincipalHierarchy}

pub prefix-itself : {X : Type 0} (xs : List X) → IsPrefix xs xs
prefix-itself xs = ([], append-nil xs)

pub prefix-through : {X : Type 0} (xs ys zs : List X) → IsPrefix xs ys → IsPrefix ys zs → IsPrefix xs zs
prefix-through xs ys zs first second =
    (first.0 ++ second.0, sym (append_assoc xs first.0 second.0) ∙ ap (λ l. l ++ second.0) first.1 ∙ second.1)

-- two prefixes of one list: one of them is a prefix of the other
pub prefixes-of-one : {X : Type 0} (xs ys whole : List X) → IsPrefix xs whole → IsPrefix ys whole → IsPrefix xs ys ⊎ IsPrefix ys xs
prefixes-of-one [] ys whole first second = inl (ys, refl)
prefixes-of-one (x ∷ xs) [] whole first second = inr (x ∷ xs, refl)
prefixes-of-one (x ∷ xs) (y ∷ ys) [] first second = absurd (let no : ◌≡◌ {A = List _} (x ∷ (xs ++ first.0)) [] = first.1 in cc)
prefixes-of-one {X} (x ∷ xs) (y ∷ ys) (z ∷ whole) first second =
    let one : xs ++ first.0 ≡ whole = cc in
    let two : ys ++ second.0 ≡ whole = cc in
    let same : x ≡ y = cc in
    ⊎_elim
    (λ (b : IsPrefix xs ys). inl (b.0, let e : xs ++ b.0 ≡ ys = b.1 in let whole_is : x ∷ (xs ++ b.0) ≡ y ∷ ys = cc in whole_is))
    (λ (b : IsPrefix ys xs). inr (b.0, let e : ys ++ b.0 ≡ xs = b.1 in let whole_is : y ∷ (ys ++ b.0) ≡ x ∷ xs = cc in whole_is))
    (prefixes-of-one xs ys whole (first.0, one) (second.0, two))

-- prefixes of two lists, of which one is a prefix of the other: so are they
pub prefixes-of-two : {X : Type 0} (xs ys whole more : List X) → IsPrefix xs whole → IsPrefix ys more →
    IsPrefix whole more ⊎ IsPrefix more whole → IsPrefix xs ys ⊎ IsPrefix ys xs
prefixes-of-two xs ys whole more first second related =
    ⊎_elim
    (λ (b : IsPrefix whole more). prefixes-of-one xs ys more (prefix-through xs whole more first b) second)
    (λ (b : IsPrefix more whole). prefixes-of-one xs ys whole first (prefix-through ys more whole second b))
    related

-- what is seen of a prefix is a prefix of what is seen of the whole
pub seen-prefix : (h : PrincipalHierarchy) (label_of : ℕ → Label) (p : ℕ) (xs ys : List Pair) → IsPrefix xs ys →
    IsPrefix (pairs_for h label_of p xs) (pairs_for h label_of p ys)
seen-prefix h label_of p xs ys b =
    (pairs_for h label_of p b.0, sym (filter-append (λ (pair : Pair). may_read h p (label_of pair.channel)) xs b.0) ∙ ap (pairs_for h label_of p) b.1)
