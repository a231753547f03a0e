-- Rows of left sides, and the first constraint that is broken.
use Rattle.std.proofs.Common.{◌≡◌, sym, ap, ◌∙◌, subst, ℕ, zero, suc, ◌<◌, ◌≤◌, ◌+◌, length, get_or, take, List, [], ◌∷◌, Bool, true, false, arith, ◌||◌, Option, Some, None}
use Rattle.std.specs.Prelude.{slice_get}
use Rattle.std.proofs.lemmas.List.{take_more}
use Rattle.std.proofs.lemmas.List.Folds.{list_any-append}
use Rattle.std.proofs.lemmas.Option.{slice_get-get_or}
use Rattle.std.proofs.Math.Bool.{or-false}
use Rattle.std.proofs.lemmas.Option.{same_Some}
use Rattle.labels.specs.Row.{has}
use Rattle.solver.specs.Breaker.{IsBreakerOf, IsFirstBreaker, NoneBreaks}
use Rattle.labels.specs.Under.{FirstAbove}
use Rattle.labels.proofs.Held.{has-inside}
use Rattle.solver.specs.declared.constraints.Atom.TheVariants.{Written}
use Rattle.solver.specs.Rows.{atom_has, left_has}
use Rattle.solver.specs.declared.constraints.Atom.{Atom}
use Rattle.solver.specs.declared.constraints.Constraint.{Constraint}

-- one more atom of a left side
pub left-step : (rows : List (List Bool)) (left : List Atom) (i n : ℕ) (d : Atom) (before after : Bool) → i < length left → before ≡ left_has rows (take i left) n →
    after ≡ (before || atom_has rows n (get_or left i d)) → after ≡ left_has rows (take (i + 1) left) n
left-step rows left i n d before after h so_far more =
    more
    ∙ (ap (λ b. b || atom_has rows n (get_or left i d)) so_far
    ∙ sym (ap (λ xs. left_has rows xs n) (take_more left i d h)
    ∙ (list_any-append (atom_has rows n) (take i left) (get_or left i d ∷ []) ∙ ap (λ b. left_has rows (take i left) n || b) (or-false (atom_has rows n (get_or left i d))))))

-- the first number in the row of a left side that does not lie below a right side breaks the constraint
pub breaker-of : (below : ℕ → ℕ → Bool) (count : ℕ) (rows : List (List Bool)) (left : List Atom) (right : Atom) (to : ℕ) (row : List Bool) (found : Option ℕ) → right ≡ Written to → length row ≡ count →
    ((n : ℕ) → has row n ≡ left_has rows left n) → FirstAbove (λ n. below n to) row found → IsBreakerOf below count rows left right found
breaker-of below count rows left right to row None is sized members first = λ n lt breaks.
    let same : breaks.to ≡ to = written-same (sym breaks.is ∙ is) in
    let holds : below n to ≡ true = first n (members n ∙ breaks.member) in
    let fails : below n to ≡ false = subst (λ m. below n m ≡ false) same breaks.fails in
    absurd (let no : true ≡ false = sym holds ∙ fails in cc)
  where
    written-same : {a b : ℕ} → Written a ≡ Written b → a ≡ b
    written-same e = cc
breaker-of below count rows left right to row (Some n) is sized members first = (
  subst (λ m. n < m) sized (has-inside row n first.there),
  record { to = to; is = is; member = sym (members n) ∙ first.there; fails = first.fails },
)

-- ---- the constraints one by one
pub slice_get-at : {X : Type 0} (xs : List X) (i : ℕ) (x d : X) → slice_get xs i ≡ Some x → get_or xs i d ≡ x
slice_get-at [] i x d e = absurd (cc)
slice_get-at (y ∷ ys) zero x d e = same_Some y x e
slice_get-at (y ∷ ys) (suc i) x d e = slice_get-at ys i x d e

pub slice_get-inside : {X : Type 0} (xs : List X) (i : ℕ) (x : X) → slice_get xs i ≡ Some x → i < length xs
slice_get-inside [] i x e = absurd (cc)
slice_get-inside (y ∷ ys) zero x e = omega arith
slice_get-inside (y ∷ ys) (suc i) x e = let lt = slice_get-inside ys i x e in omega (arith, lt)

module _ {T : Type 0} (below : ℕ → ℕ → Bool) (count : ℕ) (rows : List (List Bool)) (cs : List (Constraint T)) where
  pub some-first : (i n : ℕ) (c : Constraint T) → i < length cs → c ≡ get_or cs i c → NoneBreaks below count rows cs i → IsBreakerOf below count rows c.left.items c.right (Some n) →
      IsFirstBreaker below count rows cs (Some n)
  some-first i n c h is so_far breaks = record {
    inside = breaks.0;
    index = i;
    breaks = record { constraint = c; at = slice_get-get_or cs i c h ∙ ap Some (sym is); sides = breaks.1 };
    before = so_far;
  }

  pub none-first : (i : ℕ) → length cs ≤ i → NoneBreaks below count rows cs i → IsFirstBreaker below count rows cs None
  none-first i h none n j lt breaks = none n j lt (let inside = slice_get-inside cs j breaks.constraint breaks.at in omega (arith, inside, h)) breaks
