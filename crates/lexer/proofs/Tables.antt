-- Texts in tables: what passes a test in each row holds of a text that was found.
use Rattle.std.proofs.Common.{◌≡◌, ℕ, Bool, true, cond, List, [], ◌∷◌, Some, refl, sym, ap, subst, ◌∙◌, inl, inr}
use Rattle.std.proofs.lemmas.Bool.{cases_Bool, and_parts, cond-false, ltb-true}
use Rattle.std.proofs.lemmas.Bool.Decides.{same_from_decides}
use Rattle.std.proofs.lemmas.Slice.Eq.{bytes_eq-Decides}
use Rattle.std.proofs.lemmas.Str.{chars-IsAscii, encodes-IsAscii, encodes-chars}
use Rattle.std.proofs.lemmas.Str.Ascii.{IsAscii-nil, IsAscii-cons}
use Rattle.std.specs.Char.{is_ascii}
use Rattle.std.specs.List.{list_all}
use Rattle.std.specs.Map.{lookup}
use Rattle.std.specs.Str.{chars, bytes_eq, IsUtf8, IsAscii, encode_utf8_all}

-- a text that a table holds passes the test that each row passes
pub found_passes : {K : Type 0} (test : List ℕ → Bool) (table : List (List ℕ × K)) → list_all (λ row. test row.0) table ≡ true
    → (cs : List ℕ) (kind : K) → lookup (bytes_eq cs) table ≡ Some kind → test cs ≡ true
found_passes test [] all cs kind found = absurd cc
found_passes {K} test (row ∷ rows) all cs kind found =
    elim (cases_Bool (bytes_eq cs row.0)) [
      | inl same ↦ subst (λ x. test x ≡ true) (sym ((bytes_eq-Decides cs row.0).0 same)) (and_parts _ _ all).0
      | inr other ↦ found_passes test rows (and_parts _ _ all).1 cs kind (sym (cond-false (bytes_eq cs row.0) (Some row.1) (lookup (bytes_eq cs) rows) other) ∙ found)
    ]

-- the bytes of a list that are all below 128
pub IsAscii-from_test : (bs : List ℕ) → list_all is_ascii bs ≡ true → IsAscii bs
IsAscii-from_test [] all = IsAscii-nil
IsAscii-from_test (b ∷ bs) all =
    IsAscii-cons b bs (ltb-true b 128 (and_parts _ _ all).0) (IsAscii-from_test bs (and_parts _ _ all).1)

-- an ASCII text is a text's bytes just where it is its characters
same_text : (bs row : List ℕ) → IsUtf8 bs → list_all is_ascii row ≡ true → bytes_eq bs row ≡ bytes_eq (chars bs) row
same_text bs row utf8 all =
    let ascii = IsAscii-from_test row all in
    let there : bs ≡ row → chars bs ≡ row = λ e. ap chars e ∙ chars-IsAscii row ascii in
    let back : chars bs ≡ row → bs ≡ row = λ e. sym (encodes-chars bs utf8) ∙ (ap encode_utf8_all e ∙ encodes-IsAscii row ascii) in
    let d = bytes_eq-Decides bs row in
    let k = bytes_eq-Decides (chars bs) row in
    same_from_decides {P = bs ≡ row} _ _ d (λ t. back (k.0 t), λ e. k.1 (there e))

-- so a table of ASCII texts finds the same by either
pub same_lookup : {K : Type 0} (table : List (List ℕ × K)) → list_all (λ row. list_all is_ascii row.0) table ≡ true
    → (bs : List ℕ) → IsUtf8 bs → lookup (bytes_eq bs) table ≡ lookup (bytes_eq (chars bs)) table
same_lookup [] all bs utf8 = refl
same_lookup (row ∷ rows) all bs utf8 =
    let first = same_text bs row.0 utf8 (and_parts _ _ all).0 in
    let others = same_lookup rows (and_parts _ _ all).1 bs utf8 in
    ap (λ b. cond b (Some row.1) (lookup (bytes_eq bs) rows)) first
    ∙ ap (λ o. cond (bytes_eq (chars bs) row.0) (Some row.1) o) others
