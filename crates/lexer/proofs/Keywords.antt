-- Keywords by their length and their first byte.
use Rattle.std.proofs.Common.{◌≡◌, ℕ, ◌&&◌, Bool, true, false, not, cond, List, [], ◌∷◌, Option, Some, None, length, get_or, refl, ap, subst, ◌∙◌, arith}
use Rattle.std.specs.Prelude.{bytes_eq, nat_eq}
use Rattle.std.specs.List.{list_any}
use Rattle.std.specs.Map.{lookup, lookup_entry}
use Rattle.std.proofs.lemmas.Bool.{and_parts, not-true, cond-false}
use Rattle.std.proofs.lemmas.Bool.Decides.{nat_tests}
use Rattle.lexer.specs.declared.token.Kind.{Kind}
use Rattle.lexer.specs.Scan.{has_front}
use Rattle.lexer.specs.KindRows.{keyword_rows, keyword_of}
use Rattle.lexer.proofs.Signs.{head, unlike, none_found}

-- no two rows have words of one length and first byte
are_apart : List (List ℕ × Kind) → Bool
are_apart [] = true
are_apart (row ∷ rows) = not (list_any (λ one. has_front (length row.0) (head row.0) one.0) rows) && are_apart rows

-- the kind of a row, if the text is its word
abbrev pub kind_if : List ℕ → Option (List ℕ × Kind) → Option Kind
kind_if text None = None
kind_if text (Some row) = cond (bytes_eq text row.0) (Some row.1) None

found : (text : List ℕ) (rows : List (List ℕ × Kind)) → are_apart rows ≡ true
    → lookup (bytes_eq text) rows ≡ kind_if text (lookup_entry (has_front (length text) (head text)) rows)
unfolding are_apart
found text [] apart = refl
found text (row ∷ rows) apart = by (has_front (length text) (head text) row.0) refl (found text rows (and_parts _ _ apart).1)
  where
    others : list_any (λ one. has_front (length row.0) (head row.0) one.0) rows ≡ false
    others =
        not-true (list_any (λ one. has_front (length row.0) (head row.0) one.0) rows)
        (and_parts (not (list_any (λ one. has_front (length row.0) (head row.0) one.0) rows)) (are_apart rows) apart).0

    by : (b : Bool) → has_front (length text) (head text) row.0 ≡ b
        → lookup (bytes_eq text) rows ≡ kind_if text (lookup_entry (has_front (length text) (head text)) rows)
        → lookup (bytes_eq text) (row ∷ rows) ≡ kind_if text (cond b (Some row) (lookup_entry (has_front (length text) (head text)) rows))
    by true e later =
        let (long, first) = and_parts (nat_eq (length row.0) (length text)) (nat_eq (head row.0) (head text)) e in
        let n : length row.0 ≡ length text = grind (arith, nat_tests) in
        let f : head row.0 ≡ head text = grind (arith, nat_tests) in
        let none : list_any (λ one. has_front (length text) (head text) one.0) rows ≡ false =
        subst (λ k. list_any (λ one. has_front k (head text) one.0) rows ≡ false) n
        (subst (λ h. list_any (λ one. has_front (length row.0) h one.0) rows ≡ false) f others) in
        ap (cond (bytes_eq text row.0) (Some row.1)) (none_found text rows none)
    by false e later = cond-false (bytes_eq text row.0) (Some row.1) (lookup (bytes_eq text) rows) (unlike text row.0 e) ∙ later

-- the keyword that a text of this length and first byte may be
pub kept : (text : List ℕ) (count first : ℕ) → length text ≡ count → get_or text 0 0 ≡ first
    → keyword_of text ≡ kind_if text (lookup_entry (has_front count first) keyword_rows)
unfolding are_apart
kept text count first n f =
    found text keyword_rows refl
    ∙ (ap (λ k. kind_if text (lookup_entry (has_front k (head text)) keyword_rows)) n
    ∙ ap (λ h. kind_if text (lookup_entry (has_front count h) keyword_rows)) f)
