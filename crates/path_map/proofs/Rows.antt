-- Rows of truth values: one number added or taken out, two rows put together, and the summary of a row; and literals.
use Rattle.std.proofs.Common.{◌≡◌, refl, sym, ap, ◌∙◌, ℕ, zero, suc, ◌-◌, ◌%◌, ◌<◌, ◌≤◌, List, [], ◌∷◌, replicate, Bool, true, false, not, ◌&&◌, ◌||◌, length, set, get_or, get_or-set_other, get_or-set_same, nat_eq, arith, rules}
use Rattle.std.specs.Prelude.{◌==◌, pos, negsuc}
use Rattle.std.specs.Int.{int_wrap}
use mir.Val.{to_z}
use Rattle.std.proofs.Math.Facts.{to_z-neg}
use Rattle.std.proofs.lemmas.Int.{int_wrap_fits}
use Rattle.std.proofs.lemmas.Bool.{eqb-true, eqb-false}
use Rattle.std.proofs.Math.Bool.{or-true, or-false}
use mir.Syntax.{w32}
use Rattle.labels.specs.Row.{Includes, has, union}

pub has-none : (n e : ℕ) → has (replicate n false) e ≡ false
has-none zero e = refl
has-none (suc n) zero = refl
has-none (suc n) (suc e) = has-none n e

pub has-set : (row : List Bool) (i e : ℕ) → i < length row → has (set row i true) e ≡ (has row e || (e == i))
has-set row i e inside = go (nat_eq e i) refl
  where
    go : (t : Bool) → nat_eq e i ≡ t → has (set row i true) e ≡ (has row e || (e == i))
    go true same =
        ap (λ j. get_or (set row i true) j false) (eqb-true e i same) ∙ get_or-set_same row i true false inside
        ∙ sym (ap (λ b. has row e || b) same ∙ or-true (has row e))
    go false differs =
        get_or-set_other row i e true false (eqb-false e i differs) ∙ sym (ap (λ b. has row e || b) differs ∙ or-false (has row e))

pub has-union : (row other : List Bool) → length row ≡ length other → (e : ℕ) → has (union row other) e ≡ (has row e || has other e)
has-union [] [] same e = refl
has-union [] (y ∷ ys) same e = absurd (omega (arith, same))
has-union (x ∷ xs) [] same e = absurd (omega (arith, same))
has-union (x ∷ xs) (y ∷ ys) same zero = refl
has-union (x ∷ xs) (y ∷ ys) same (suc e) = has-union xs ys (omega (arith, same)) e

pub length-union : (row other : List Bool) → length row ≡ length other → length (union row other) ≡ length row
length-union [] [] same = refl
length-union [] (y ∷ ys) same = absurd (omega (arith, same))
length-union (x ∷ xs) [] same = absurd (omega (arith, same))
length-union (x ∷ xs) (y ∷ ys) same = ap suc (length-union xs ys (omega (arith, same)))

-- rows that include each other
pub includes-both : (row other : List Bool) → Includes row other → Includes other row → (e : ℕ) → has row e ≡ has other e
includes-both row other first second e = go (has row e) refl (has other e) refl
  where
    go : (a : Bool) → has row e ≡ a → (b : Bool) → has other e ≡ b → has row e ≡ has other e
    go true f true g = f ∙ sym g
    go false f false g = f ∙ sym g
    go true f false g = absurd (let no : false ≡ true = sym g ∙ second e f in cc)
    go false f true g = absurd (let no : false ≡ true = sym f ∙ first e g in cc)

-- two numbers taken out
pub not-more : (a b c : Bool) → ((a && not b) && not c) ≡ (a && not (b || c))
not-more false b c = refl
not-more true true c = refl
not-more true false c = refl

-- literals
pub small-literal : (n : ℕ) → n < 2147483648 → int_wrap w32 (pos n) ≡ pos n
small-literal n small = int_wrap_fits w32 (pos n) (search rules)

pub large-literal : (n : ℕ) → 2147483648 ≤ n → n < 4294967296 → int_wrap w32 (pos n) ≡ negsuc (4294967295 - n)
unfolding int_wrap
large-literal n large fits =
    let k : ℕ = 4294967295 - n in
    let is : n % 4294967296 ≡ 4294967296 - suc k = omega arith in
    ap (λ m. to_z w32 m) is ∙ to_z-neg w32 k (omega arith)
