-- Names that a module file keeps are within its limits.
use Rattle.std.proofs.Common.{◌≡◌, ℕ, suc, ◌+◌, ◌-◌, ◌<◌, ◌≤◌, Bool, false, ◌||◌, List, [], ◌∷◌, ◌++◌, length, get_or, refl, sym, ap, ◌∙◌, subst, arith, length-append}
use Rattle.std.specs.Prelude.{All, Contains, bytes_eq}
use Rattle.std.proofs.lemmas.Bool.{and_from, not_from_false, false_from_ne_true, le-leb, lt-ltb}
use Rattle.std.proofs.lemmas.List.{get_or_append_left, get_or-append_right, get_or_default}
use Rattle.std.proofs.lemmas.List.Elements.{Contains-get_or}
use Rattle.std.proofs.lemmas.List.Folds.{list_any_none}
use Rattle.std.proofs.lemmas.Slice.Eq.{bytes_eq-Decides}
use Rattle.std.proofs.lemmas.Str.{is_utf8-from_IsUtf8}
use Rattle.principals.specs.ActsFor.{AllDifferent}
use Rattle.principals.specs.Named.{IsKeptName}
use Rattle.resolved.specs.Names.{IsShortName}
use Rattle.modules.specs.ByteFormat.{Fits}
use Rattle.modules.specs.Format.{is_among, name_after, number_below}
use Rattle.modules.specs.FormatParts.{principals, exceptions, is_built_in}
use Rattle.lowering.proofs.Fronts.{FitEach-from_fronts, All-at_seam, not_among_front}
use Rattle.common.specs.Exceptions.{built_in_names}

-- ---- names that are all different

later_different : (x : List ℕ) (xs : List (List ℕ)) → AllDifferent (x ∷ xs) → AllDifferent xs
later_different x xs different i j d below within = different (suc i) (suc j) d (omega (arith, below)) (omega (arith, within))

pub after_different : (xs ys : List (List ℕ)) → AllDifferent (xs ++ ys) → AllDifferent ys
after_different [] ys different = different
after_different (x ∷ xs) ys different = after_different xs ys (later_different x (xs ++ ys) different)

-- a name after others is none of them
pub none_in_front : (xs ys : List (List ℕ)) → AllDifferent (xs ++ ys) → All (λ y. ¬ Contains xs y) ys
none_in_front xs ys different k d within found =
    let y = get_or ys k d in
    let n = found.0 in
    let there : n < length xs = found.1 in
    let same : length xs + k - length xs ≡ k = omega arith in
    let here : get_or (xs ++ ys) (length xs + k) d ≡ y = get_or-append_right xs ys (length xs) (length xs + k) d refl (omega arith) ∙ ap (λ i. get_or ys i d) same in
    let front : get_or (xs ++ ys) n d ≡ get_or xs n d = get_or_append_left xs ys d n there in
    different n (length xs + k) d (omega (arith, there)) (omega (arith, within, length-append xs ys)) (front ∙ (get_or_default xs n d y there ∙ (found.2 ∙ sym here)))

-- a name that is in no list of names is not among them
pub not_contained : (names : List (List ℕ)) (name : List ℕ) → ¬ Contains names name → is_among names name ≡ false
not_contained names name h =
    list_any_none (λ other. bytes_eq other name) names (λ k d lt. false_from_ne_true (bytes_eq (get_or names k d) name) (λ e. h (subst (Contains names) ((bytes_eq-Decides (get_or names k d) name).0 e) (Contains-get_or names k d lt))))

-- ---- names in their field

pub kept_name : (x : List ℕ) → IsShortName x → IsKeptName x
kept_name x h = record { named = h.named; characters = h.characters; short = omega (arith, h.short) }

pub name_fits : (taken : List ℕ → Bool) (front : List (List ℕ)) (x : List ℕ) → IsKeptName x → taken x ≡ false → is_among front x ≡ false → Fits (name_after taken front) x
unfolding name_after
name_fits taken front x h free new =
    (omega (arith, h.short), and_from _ _ (and_from _ _ (is_utf8-from_IsUtf8 x h.characters) h.named) (not_from_false (taken x || is_among front x) (λ i. free i || new i)))

pub principals_fit : (names : List (List ℕ)) → All IsKeptName names → AllDifferent names → length names ≤ 256 → Fits principals names
unfolding principals
principals_fit names each different few = (
  omega (arith, few),
  le-leb _ _ few,
  FitEach-from_fronts _ names (λ front x rest e. name_fits (λ _. false) front x (All-at_seam front x rest IsKeptName (subst (All IsKeptName) e each)) refl (not_among_front front x rest (subst AllDifferent e different))),
)

-- the names of declared exceptions
pub exceptions_fit : (names : List (List ℕ)) → length names ≤ 1048576 → All IsShortName names → All (λ name. ¬ Contains built_in_names name) names → AllDifferent names → Fits exceptions names
unfolding exceptions
exceptions_fit names few each free different = (
  omega (arith, few),
  refl,
  FitEach-from_fronts _ names (λ front x rest e. name_fits is_built_in front x (kept_name x (All-at_seam front x rest IsShortName (subst (All IsShortName) e each))) (not_contained built_in_names x (All-at_seam front x rest (λ name. ¬ Contains built_in_names name) (subst (All (λ name. ¬ Contains built_in_names name)) e free))) (not_among_front front x rest (subst AllDifferent e different))),
)

-- ---- numbers

pub number_fits : (count n : ℕ) → count ≤ 256 → n < count → Fits (number_below count) n
unfolding number_below
number_fits count n few below = (omega (arith, few, below), lt-ltb _ _ below)
