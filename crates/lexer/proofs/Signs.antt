-- Signs that a character does not begin.
use Rattle.std.proofs.Common.{◌≡◌, ℕ, Bool, true, false, cond, ◌&&◌, ◌||◌, List, [], ◌∷◌, length, get_or, Some, None, refl, sym, ap, ◌∙◌, arith}
use Rattle.std.specs.Prelude.{nat_eq}
use Rattle.std.specs.List.{list_any}
use Rattle.std.specs.Map.{lookup}
use Rattle.std.specs.Str.{bytes_eq}
use Rattle.std.proofs.lemmas.Bool.{cond-false}
use Rattle.std.proofs.lemmas.Bool.Decides.{nat_tests}
use Rattle.std.proofs.lemmas.Slice.Eq.{bytes_eq-Decides}
use Rattle.lexer.specs.KindRows.{sign_rows}
use Rattle.lexer.specs.Scan.{IsNoDouble, IsNoTriple, begins_sign_of, has_front}

abbrev pub head : List ℕ → ℕ
head word = get_or word 0 0

own_front : (word : List ℕ) → has_front (length word) (head word) word ≡ true
own_front word =
    let long : nat_eq (length word) (length word) ≡ true = grind (arith, nat_tests) in
    let first : nat_eq (head word) (head word) ≡ true = grind (arith, nat_tests) in
    ap (λ t. t && nat_eq (head word) (head word)) long ∙ first

-- a text of another front is another text
pub unlike : (text word : List ℕ) → has_front (length text) (head text) word ≡ false → bytes_eq text word ≡ false
unlike text word other = by (bytes_eq text word) ((bytes_eq-Decides text word).0)
  where
    by : (b : Bool) → (b ≡ true → text ≡ word) → b ≡ false
    by true same = cc (sym (ap (λ one. has_front (length one) (head one) word) (same refl)) ∙ other, own_front word)
    by false same = refl

-- no row has the front of a text, so none is the text
pub none_found : {K : Type 0} (text : List ℕ) (rows : List (List ℕ × K)) → list_any (λ row. has_front (length text) (head text) row.0) rows ≡ false
    → lookup (bytes_eq text) rows ≡ None
none_found text [] none = refl
none_found {K} text (row ∷ rows) none = by (has_front (length text) (head text) row.0) refl none (none_found text rows)
  where
    by : (b : Bool) → has_front (length text) (head text) row.0 ≡ b → (b || list_any (λ row. has_front (length text) (head text) row.0) rows) ≡ false
        → (list_any (λ row. has_front (length text) (head text) row.0) rows ≡ false → lookup (bytes_eq text) rows ≡ None)
        → cond (bytes_eq text row.0) (Some row.1) (lookup (bytes_eq text) rows) ≡ None
    by true e none others = absurd cc
    by false e none others = cond-false (bytes_eq text row.0) (Some row.1) (lookup (bytes_eq text) rows) (unlike text row.0 e) ∙ others none

pub no_triple : (c : ℕ) (cs : List ℕ) → begins_sign_of 3 c ≡ false → IsNoTriple c cs
no_triple c [] none = tt
no_triple c (d ∷ []) none = tt
no_triple c (d ∷ (e ∷ cs)) none = none_found (c ∷ d ∷ e ∷ []) sign_rows none

pub no_double : (c : ℕ) (cs : List ℕ) → begins_sign_of 2 c ≡ false → IsNoDouble c cs
no_double c [] none = tt
no_double c (d ∷ cs) none = none_found (c ∷ d ∷ []) sign_rows none
