-- Two ways to part one list.
use Rattle.std.proofs.Common.{◌≡◌, ℕ, ◌+◌, ◌≤◌, Bool, true, false, List, [], ◌∷◌, ◌++◌, length, refl, sym, ap, subst, ◌∙◌, arith, length-append}
use Rattle.std.specs.List.{list_all}
use Rattle.std.proofs.lemmas.Bool.{and_parts, both_ways}
use Rattle.lexer.specs.Scan.{Stops}

-- a front that passes is no longer than one after which the test fails
pub run_longest : (p : ℕ → Bool) (a r b m : List ℕ) → Stops p r → list_all p b ≡ true → a ++ r ≡ b ++ m
    → length b ≤ length a
run_longest p [] r [] m s all e = omega arith
run_longest p [] [] (c ∷ b) m s all e = absurd cc
run_longest p [] (d ∷ r) (c ∷ b) m s all e =
    let same : d ≡ c = cc in
    absurd (both_ways (p c) (subst (λ x. p x ≡ false) same s) (and_parts (p c) (list_all p b) all).0)
run_longest p (d ∷ a) r [] m s all e = omega arith
run_longest p (d ∷ a) r (c ∷ b) m s all e =
    let tail : a ++ r ≡ b ++ m = cc in
    let shorter : length b ≤ length a = run_longest p a r b m s (and_parts (p c) (list_all p b) all).1 tail in
    omega arith

-- of two fronts of one list the longer goes on from the shorter
pub longer_front : (a r b m : List ℕ) → a ++ r ≡ b ++ m → length a ≤ length b
    → (x : List ℕ) × ((b ≡ a ++ x) × (r ≡ x ++ m))
longer_front [] r b m e short = (b, (refl, e))
longer_front (c ∷ a) r [] m e short = absurd (omega arith)
longer_front (c ∷ a) r (d ∷ b) m e short =
    let tail : a ++ r ≡ b ++ m = cc in
    let h = longer_front a r b m tail (omega arith) in
    let same : d ≡ c = cc in
    (h.0, (let k = h.1.0 in cc, h.1.1))

-- fronts of one length are the same
pub same_front : (a r b m : List ℕ) → a ++ r ≡ b ++ m → length a ≡ length b → (a ≡ b) × (r ≡ m)
same_front [] r [] m e same = (refl, e)
same_front [] r (d ∷ b) m e same = absurd (omega arith)
same_front (c ∷ a) r [] m e same = absurd (omega arith)
same_front (c ∷ a) r (d ∷ b) m e same =
    let tail : a ++ r ≡ b ++ m = cc in
    let h = same_front a r b m tail (omega arith) in
    let k = h.0 in
    (cc, h.1)

-- what stands before one tail is the same
pub same_before : (a b r : List ℕ) → a ++ r ≡ b ++ r → a ≡ b
same_before a b r e =
    let n : length a + length r ≡ length b + length r = sym (length-append a r) ∙ (ap length e ∙ length-append b r) in
    (same_front a r b r e (omega arith)).0
