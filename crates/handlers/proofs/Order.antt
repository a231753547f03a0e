-- The order of sites.
use Rattle.std.proofs.Common.{◌≡◌, ◌≢◌, ℕ, ◌<◌, ◌≤◌, Bool, true, false, nat_lt, ◌==◌, ◌&&◌, ◌||◌, ◌⊎◌, inl, inr, ⊎_elim, refl, arith}
use Rattle.std.proofs.lemmas.Bool.Decides.{nat_tests}
use Rattle.handlers.specs.Targets.{is_before}
use Rattle.handlers.specs.declared.entries.ThrowSite.{ThrowSite}

-- a site stands before another one, and does not
abbrev pub Before : ThrowSite → ThrowSite → Type 0
Before p q = (p.exception < q.exception) ⊎ ((p.exception ≡ q.exception) × (p.offset < q.offset))

abbrev pub NotBefore : ThrowSite → ThrowSite → Type 0
NotBefore p q = (q.exception < p.exception) ⊎ ((p.exception ≡ q.exception) × (q.offset ≤ p.offset))

below : (a b : ℕ) → nat_lt a b ≡ true → a < b
below a b h = grind (arith, nat_tests)

not_below : (a b : ℕ) → nat_lt a b ≡ false → b ≤ a
not_below a b h = grind (arith, nat_tests)

same : (a b : ℕ) → (a == b) ≡ true → a ≡ b
same a b h = grind (arith, nat_tests)

other : (a b : ℕ) → (a == b) ≡ false → a ≢ b
other a b h = grind (arith, nat_tests)

tests : (p q : ThrowSite) (less equal lower : Bool) → nat_lt p.exception q.exception ≡ less → (p.exception == q.exception) ≡ equal → nat_lt p.offset q.offset ≡ lower
    → (((less || (equal && lower)) ≡ true) × Before p q) ⊎ (((less || (equal && lower)) ≡ false) × NotBefore p q)
tests p q true equal lower l e o = inl (refl, inl (below p.exception q.exception l))
tests p q false true true l e o = inl (refl, inr (same p.exception q.exception e, below p.offset q.offset o))
tests p q false true false l e o = inr (refl, inr (same p.exception q.exception e, not_below p.offset q.offset o))
tests p q false false lower l e o =
    let most : q.exception ≤ p.exception = not_below p.exception q.exception l in
    let apart : p.exception ≢ q.exception = other p.exception q.exception e in
    inr (refl, inl (omega arith))

-- each test of the order, with what it means
pub is_before-tells : (p q : ThrowSite) → ((is_before p q ≡ true) × Before p q) ⊎ ((is_before p q ≡ false) × NotBefore p q)
is_before-tells p q = tests p q (nat_lt p.exception q.exception) (p.exception == q.exception) (nat_lt p.offset q.offset) refl refl refl

pub Before-from : (p q : ThrowSite) → is_before p q ≡ true → Before p q
Before-from p q h = ⊎_elim (λ yes. yes.1) (λ no. absurd (let e = no.0 in cc)) (is_before-tells p q)

pub NotBefore-from : (p q : ThrowSite) → is_before p q ≡ false → NotBefore p q
NotBefore-from p q h = ⊎_elim (λ yes. absurd (let e = yes.0 in cc)) (λ no. no.1) (is_before-tells p q)

round : (a b c d e f : ℕ) → ((a < c) ⊎ ((a ≡ c) × (b < d))) → ((c < e) ⊎ ((e ≡ c) × (d ≤ f))) → ((e < a) ⊎ ((a ≡ e) × (f ≤ b))) → ⊥
round a b c d e f first second third = grind arith

back : (a b c d : ℕ) → ((a < c) ⊎ ((a ≡ c) × (b < d))) → ((c < a) ⊎ ((c ≡ a) × (d < b))) → ⊥
back a b c d first second = grind arith

-- what stands before a site stands before each one that does not stand before that site
pub before_later : (p x y : ThrowSite) → is_before p x ≡ true → is_before y x ≡ false → is_before p y ≡ true
before_later p x y h n =
    ⊎_elim (λ yes. yes.0)
    (λ no. absurd (round p.exception p.offset x.exception x.offset y.exception y.offset (Before-from p x h) (NotBefore-from y x n) no.1))
    (is_before-tells p y)

-- of two sites one at most stands before the other
pub before_once : (x y : ThrowSite) → is_before x y ≡ true → is_before y x ≡ false
before_once x y h =
    ⊎_elim (λ yes. absurd (back x.exception x.offset y.exception y.offset (Before-from x y h) yes.1)) (λ no. no.0) (is_before-tells y x)
