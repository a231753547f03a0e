use Rattle.std.proofs.Common.{◌≡◌, ℕ, List, Some, map, get_or, sym, ap, subst, ◌∙◌, refl}
use Rattle.std.specs.Prelude.{All, Contains, slice_get, string_bytes}
use Rattle.std.proofs.lemmas.Bool.{false≢true}
use Rattle.principals.specs.ActsFor.{ActsFor, HasName, IsHierarchy}
use Rattle.principals.proofs.Inclusion.{contains_iff_pairs, not_contained}
use Rattle.principals.proofs.Hierarchy.contains.Goals as goal

pub returns-then-find_all : goal.returns-then-find_all
returns-then-find_all c =
    let here = c.find_all.new.here in
    let whole = c.args.self.now in
    let part = c.args.other.now in
    let names : map (λ name. string_bytes name) c.as_slice.result.now ≡ part.names =
    ap (λ x. map (λ name. string_bytes name) x) c.as_slice.ensures.keys ∙ ap (λ h. h.names) c.other.view_is in
    let pairs : c.as_slice-then-find_all.result.now ≡ part.pairs = c.as_slice-then-find_all.ensures.value ∙ ap (λ h. h.pairs) c.other.view_is in
    let Hold : List (ℕ × ℕ) → Type 0 = λ ps. All (λ pair. ActsFor whole.pairs (get_or here pair.0 0) (get_or here pair.1 0)) ps in
    let number_here : (n : ℕ) (name : List ℕ) → HasName part n name → HasName whole (get_or here n 0) name =
    λ n name h. c.if-find_all.ensures.numbers refl n name (subst (λ x. slice_get x n ≡ Some name) (sym names) h) in
    let iff = contains_iff_pairs whole part here number_here
    (subst IsHierarchy c.self.view_is c.self.invariant.hierarchy) (subst IsHierarchy c.other.view_is c.other.invariant.hierarchy) in
    (λ h. iff.0 (subst Hold pairs (c.relates_all.ensures.0 h)), λ h. c.relates_all.ensures.1 (subst Hold (sym pairs) (iff.1 h)))

pub returns-else-find_all : goal.returns-else-find_all
returns-else-find_all c =
    let names : map (λ name. string_bytes name) c.as_slice.result.now ≡ c.args.other.now.names =
    ap (λ x. map (λ name. string_bytes name) x) c.as_slice.ensures.keys ∙ ap (λ h. h.names) c.other.view_is in
    let missing = c.if-find_all.ensures.missing refl in (
      λ h. absurd (false≢true (sym c.if-find_all.false ∙ h)),
      λ h. absurd (not_contained c.args.self.now c.args.other.now (missing.0, subst (λ x. Contains x missing.0) names missing.1, missing.2) h),
    )
