-- What a table of rows relates, after a row is read, replaced or added.
use Rattle.std.proofs.Common.{◌≡◌, ◌≢◌, ℕ, zero, suc, ◌+◌, ◌<◌, ◌≤◌, ◌/◌, ◌%◌, Bool, true, false, ◌||◌, ◌&&◌, eqb, List, [], ◌∷◌, ◌++◌, length, get_or, set, refl, sym, ap, ◌∙◌, arith, not-suc-le-zero, le_of_suc-le-suc}
use Rattle.std.proofs.Common.{le_refl, ⊎_elim, eq-eqb, ne_eqb}
use Rattle.std.specs.Int.{bit_at}
use Rattle.std.specs.List.{list_any}
use Rattle.std.proofs.lemmas.Bool.{cases_eq}
use Rattle.std.proofs.lemmas.Nat.Bits.{bit_at-zero}
use Rattle.principals.specs.declared.principal_set.PrincipalSet.{PrincipalSet}
use Rattle.principals.specs.Table.{has, related, is_written}

pub related-get_or : (rows : List PrincipalSet) (a b : ℕ) (d : PrincipalSet) → a < length rows → related rows a b ≡ has (get_or rows a d) b
related-get_or [] a b d h = absurd (not-suc-le-zero h)
related-get_or (row ∷ rows) zero b d h = refl
related-get_or (row ∷ rows) (suc a) b d h = related-get_or rows a b d (le_of_suc-le-suc h)

pub related-push_old : (rows : List PrincipalSet) (row : PrincipalSet) (a b : ℕ) → a < length rows → related (rows ++ row ∷ []) a b ≡ related rows a b
related-push_old [] row a b h = absurd (not-suc-le-zero h)
related-push_old (first ∷ rows) row zero b h = refl
related-push_old (first ∷ rows) row (suc a) b h = related-push_old rows row a b (le_of_suc-le-suc h)

pub related-push_new : (rows : List PrincipalSet) (row : PrincipalSet) (b : ℕ) → related (rows ++ row ∷ []) (length rows) b ≡ has row b
related-push_new [] row b = refl
related-push_new (first ∷ rows) row b = related-push_new rows row b

pub related-set_same : (rows : List PrincipalSet) (row : PrincipalSet) (a b : ℕ) → a < length rows → related (set rows a row) a b ≡ has row b
related-set_same [] row a b h = absurd (not-suc-le-zero h)
related-set_same (first ∷ rows) row zero b h = refl
related-set_same (first ∷ rows) row (suc a) b h = related-set_same rows row a b (le_of_suc-le-suc h)

pub related-set_other : (rows : List PrincipalSet) (row : PrincipalSet) (i a b : ℕ) → a ≢ i → related (set rows i row) a b ≡ related rows a b
related-set_other [] row i a b h = refl
related-set_other (first ∷ rows) row zero zero b h = absurd (h refl)
related-set_other (first ∷ rows) row zero (suc a) b h = refl
related-set_other (first ∷ rows) row (suc i) zero b h = refl
related-set_other (first ∷ rows) row (suc i) (suc a) b h = related-set_other rows row i a b (λ e. h (ap suc e))

-- ---- the empty row

zero_word : (k : ℕ) → ◌≡◌ {A = ℕ} (get_or (0 ∷ 0 ∷ 0 ∷ 0 ∷ []) k 0) 0
zero_word zero = refl
zero_word (suc zero) = refl
zero_word (suc (suc zero)) = refl
zero_word (suc (suc (suc zero))) = refl
zero_word (suc (suc (suc (suc k)))) = refl

abbrev pub empty_row : PrincipalSet
empty_row = record { words = 0 ∷ 0 ∷ 0 ∷ 0 ∷ [] }

pub has-empty : (b : ℕ) → has empty_row b ≡ false
has-empty b =
    ap (λ x. eqb (bit_at x (b % 64)) 1) (zero_word (b / 64)) ∙ ap (λ x. eqb x 1) (bit_at-zero (b % 64))

pub eqb-turned : (a b : ℕ) → eqb a b ≡ eqb b a
eqb-turned a b =
    ⊎_elim
    (λ e. eq-eqb a b e ∙ sym (eq-eqb b a (sym e)))
    (λ n. ne_eqb a b n ∙ sym (ne_eqb b a (λ e. n (sym e))))
    (cases_eq a b)

-- a row of one number and a list without pairs say the same
alone : (row empty : PrincipalSet) (a : ℕ) → ((b : ℕ) → has empty b ≡ false) → ((b : ℕ) → has row b ≡ (eqb b a || has empty b)) →
    (b : ℕ) → has row b ≡ is_written [] a b
alone row empty a none only b = only b ∙ (λ i. eqb-turned b a i || none b i)

-- ---- steps of the loops

pub related-alone : (rows : List PrincipalSet) (row empty : PrincipalSet) (n : ℕ) → length rows ≡ n →
    ((a b : ℕ) → a < n → related rows a b ≡ is_written [] a b) →
    ((b : ℕ) → has empty b ≡ false) → ((b : ℕ) → has row b ≡ (eqb b n || has empty b)) →
    (a b : ℕ) → a < n + 1 → related (rows ++ row ∷ []) a b ≡ is_written [] a b
related-alone rows row empty n long each none only a b h =
    ⊎_elim
    (λ (e : a ≡ n).
    let at : a ≡ length rows = e ∙ sym long in
    ap (λ x. related (rows ++ row ∷ []) x b) at ∙ related-push_new rows row b
    ∙ alone row empty n none only b ∙ ap (λ x. is_written [] x b) (sym e))
    (λ (ne : a ≢ n).
    let below : a < length rows = omega arith in
    let within : a < n = omega arith in
    related-push_old rows row a b below ∙ each a b within)
    (cases_eq a n)

or_left_comm : (x y z : Bool) → (x || (y || z)) ≡ (y || (x || z))
or_left_comm true true z = refl
or_left_comm true false z = refl
or_left_comm false true z = refl
or_left_comm false false z = refl

list_any-push : (p : ℕ × ℕ → Bool) (pairs : List (ℕ × ℕ)) (pair : ℕ × ℕ) → list_any p (pairs ++ pair ∷ []) ≡ (p pair || list_any p pairs)
list_any-push p [] pair = refl
list_any-push p (first ∷ pairs) pair = ap (λ x. p first || x) (list_any-push p pairs pair) ∙ or_left_comm (p first) (p pair) (list_any p pairs)

-- one pair more is one more number in the row of its left side
pub related-written : (rows : List PrincipalSet) (row : PrincipalSet) (count : ℕ) (pairs : List (ℕ × ℕ)) (pair : ℕ × ℕ) → length rows ≡ count →
    ((a b : ℕ) → a < count → related rows a b ≡ is_written pairs a b) → pair.0 < count →
    ((b : ℕ) → has row b ≡ (eqb b pair.1 || related rows pair.0 b)) →
    (a b : ℕ) → a < count → related (set rows pair.0 row) a b ≡ is_written (pairs ++ pair ∷ []) a b
related-written rows row count pairs pair long each there more a b h =
    let test : ℕ × ℕ → Bool = λ p. eqb p.0 a && eqb p.1 b in
    let whole : is_written (pairs ++ pair ∷ []) a b ≡ ((eqb pair.0 a && eqb pair.1 b) || is_written pairs a b) =
    ap (λ x. eqb a b || x) (list_any-push test pairs pair) ∙ or_left_comm (eqb a b) (test pair) (list_any test pairs) in
    ⊎_elim
    (λ (e : a ≡ pair.0).
    let inside : pair.0 < length rows = omega arith in
    ap (λ x. related (set rows pair.0 row) x b) e ∙ related-set_same rows row pair.0 b inside ∙ more b
    ∙ (λ i. eqb-turned b pair.1 i || related rows (sym e i) b)
    ∙ ap (λ x. eqb pair.1 b || x) (each a b h)
    ∙ sym (whole ∙ ap (λ x. (x && eqb pair.1 b) || is_written pairs a b) (eq-eqb pair.0 a (sym e))))
    (λ (ne : a ≢ pair.0).
    related-set_other rows row pair.0 a b ne ∙ each a b h
    ∙ sym (whole ∙ ap (λ x. (x && eqb pair.1 b) || is_written pairs a b) (ne_eqb pair.0 a (λ e. ne (sym e)))))
    (cases_eq a pair.0)

-- one row more was joined to what another row has
pub related-joined : (old now : List PrincipalSet) (row added d : PrincipalSet) (between i : ℕ) → i < length now →
    ((a b : ℕ) → a < i → related now a b ≡ (related old a b || (related old a between && has added b))) →
    ((a b : ℕ) → i ≤ a → related now a b ≡ related old a b) →
    ((b : ℕ) → has row b ≡ (has (get_or now i d) b || (has (get_or now i d) between && has added b))) →
    (a b : ℕ) → a < i + 1 → related (set now i row) a b ≡ (related old a b || (related old a between && has added b))
related-joined old now row added d between i inside below above joins a b h =
    let before : (m : ℕ) → has (get_or now i d) m ≡ related old i m =
    λ m. sym (related-get_or now i m d inside) ∙ above i m (le_refl i) in
    ⊎_elim
    (λ (e : a ≡ i).
    ap (λ x. related (set now i row) x b) e ∙ related-set_same now row i b inside ∙ joins b
    ∙ (λ j. before b j || (before between j && has added b))
    ∙ ap (λ x. related old x b || (related old x between && has added b)) (sym e))
    (λ (ne : a ≢ i).
    let less : a < i = omega arith in
    related-set_other now row i a b ne ∙ below a b less)
    (cases_eq a i)
