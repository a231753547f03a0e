-- The moments of exceptions: reading a row after a write, and the entry at a call.
use Rattle.std.proofs.Common.{◌≡◌, refl, sym, ap, ◌∙◌, ℕ, zero, suc, ◌<◌, ◌≤◌, length, set, get_or, List, [], ◌∷◌, ◌++◌, Bool, true, false, arith, ◌≢◌}
use Rattle.std.specs.Prelude.{if◌then◌else◌, nat_le}
use Rattle.std.proofs.lemmas.Bool.{le-leb, lt-leb, leb-false, leb-true}
use Rattle.std.specs.List.{AllWithin}
use Rattle.std.specs.List.Sorted.{IsPartitionedBy}
use Rattle.std.specs.Global.{Global}
use Rattle.std.specs.declared.vec.Vec.{Vec}
use Rattle.constraints.specs.Journals.{AreOrdered, AreUpToCall, IsBeforeAll, entry_from, moments_at}
use Rattle.constraints.specs.ExitUnknowns.{no_entry}
use Rattle.constraints.specs.declared.journal.Moment.{Moment}
use Rattle.constraints.specs.declared.exit_unknowns.ExitUnknown.{ExitUnknown}

pub moments-read : (rows : List (Vec Moment Global)) (i : ℕ) (d : Vec Moment Global) → i < length rows → (get_or rows i d).items ≡ moments_at rows i
moments-read [] i d h = absurd (omega arith)
moments-read (row ∷ rows) zero d h = refl
moments-read (row ∷ rows) (suc i) d h = moments-read rows i d (omega (arith, h))

pub moments-none : (rows given : List (Vec Moment Global)) (i : ℕ) → given ≡ rows → length given ≤ i → [] ≡ moments_at rows i
moments-none rows given i is outside = past given i outside ∙ ap (λ list. moments_at list i) is
  where
    past : (given : List (Vec Moment Global)) (i : ℕ) → length given ≤ i → [] ≡ moments_at given i
    past [] i h = refl
    past (row ∷ rows) zero h = absurd (omega (arith, h))
    past (row ∷ rows) (suc i) h = past rows i (omega (arith, h))

pub moments-some : (rows given : List (Vec Moment Global)) (i : ℕ) (row : Vec Moment Global) → given ≡ rows → i < length given → row ≡ get_or given i row → row.items ≡ moments_at rows i
moments-some rows given i row is inside found =
    ap (λ (v : Vec Moment Global). v.items) found ∙ (moments-read given i row inside ∙ ap (λ list. moments_at list i) is)

pub moments-same : (rows : List (Vec Moment Global)) (i : ℕ) (row : Vec Moment Global) → i < length rows → moments_at (set rows i row) i ≡ row.items
moments-same [] i row h = absurd (omega arith)
moments-same (r ∷ rows) zero row h = refl
moments-same (r ∷ rows) (suc i) row h = moments-same rows i row (omega (arith, h))

pub moments-other : (rows : List (Vec Moment Global)) (i k : ℕ) (row : Vec Moment Global) → k ≢ i → moments_at (set rows i row) k ≡ moments_at rows k
moments-other [] i k row ne = refl
moments-other (r ∷ rows) zero zero row ne = absurd (ne refl)
moments-other (r ∷ rows) zero (suc k) row ne = refl
moments-other (r ∷ rows) (suc i) zero row ne = refl
moments-other (r ∷ rows) (suc i) (suc k) row ne = moments-other rows i k row (λ e. ne (ap suc e))

pub moments-more : (rows : List (Vec Moment Global)) (row : Vec Moment Global) → row.items ≡ [] → ((k : ℕ) → moments_at rows k ≡ []) → (k : ℕ) → moments_at (rows ++ row ∷ []) k ≡ []
moments-more [] row e each zero = e
moments-more [] row e each (suc k) = refl
moments-more (r ∷ rows) row e each zero = each zero
moments-more (r ∷ rows) row e each (suc k) = moments-more rows row e (λ k. each (suc k)) k

-- ---- the entry at a call
pub from-append : (xs : List Moment) (m : Moment) (call : ℕ) (old : ExitUnknown) → entry_from (xs ++ m ∷ []) call old ≡ (if nat_le m.call call then m.entry else entry_from xs call old)
from-append [] m call old = refl
from-append (x ∷ xs) m call old = from-append xs m call (if nat_le x.call call then x.entry else old)

-- ---- by how many moments are up to a call
before-all : (next : Moment) (ms : List Moment) → IsBeforeAll next ms → (j : ℕ) (d : Moment) → j < length ms → next.call ≤ (get_or ms j d).call
before-all next [] before j d below = absurd (omega arith)
before-all next (m ∷ ms) before zero d below = before.0
before-all next (m ∷ ms) before (suc j) d below = before-all next ms before.1 j d (omega arith)

abbrev pub is_up_to : (call : ℕ) → Moment → Bool
is_up_to call m = nat_le m.call call

pub parted : (call : ℕ) (ms : List Moment) → AreOrdered ms → IsPartitionedBy (is_up_to call) ms
parted call [] ordered i j d least below there = absurd (omega arith)
parted call (m ∷ ms) ordered zero zero d least below there = there
parted call (m ∷ ms) ordered zero (suc j) d least below there =
    let first : m.call ≤ (get_or ms j d).call = before-all m ms ordered.0 j d (omega arith) in
    let later : (get_or ms j d).call ≤ call = leb-true (get_or ms j d).call call there in
    le-leb m.call call (omega (arith, first, later))
parted call (m ∷ ms) ordered (suc i) zero d least below there = absurd (omega arith)
parted call (m ∷ ms) ordered (suc i) (suc j) d least below there = parted call ms ordered.1 i j d (omega arith) (omega arith) there

abbrev last_from : ExitUnknown → List Moment → (k : ℕ) → ExitUnknown
last_from old [] k = old
last_from old (m ∷ ms) zero = old
last_from old (m ∷ ms) (suc k) = last_from m.entry ms k

last-is : (call : ℕ) (old : ExitUnknown) (ms : List Moment) (k : ℕ) → AllWithin (λ m. is_up_to call m ≡ true) ms 0 k → AllWithin (λ m. is_up_to call m ≡ false) ms k (length ms)
    → entry_from ms call old ≡ last_from old ms k
last-is call old [] zero front back = refl
last-is call old [] (suc k) front back = refl
last-is call old (m ∷ ms) zero front back =
    let beyond : nat_le m.call call ≡ false = back 0 m (omega arith) (omega arith) in
    ap (λ b. entry_from ms call (if b then m.entry else old)) beyond
    ∙ last-is call old ms zero (λ i d least below. absurd (omega arith)) (λ i d least below. back (suc i) d (omega arith) (omega arith)) ∙ none old ms
  where
    none : (old : ExitUnknown) (ms : List Moment) → last_from old ms zero ≡ old
    none old [] = refl
    none old (m ∷ ms) = refl
last-is call old (m ∷ ms) (suc k) front back =
    let here : nat_le m.call call ≡ true = front 0 m (omega arith) (omega arith) in
    ap (λ b. entry_from ms call (if b then m.entry else old)) here
    ∙ last-is call m.entry ms k (λ i d least below. front (suc i) d (omega arith) (omega arith)) (λ i d least below. back (suc i) d (omega arith) (omega arith))

-- as many at two calls: the entry is the same at each call between them
pub fixed-between : (ms : List Moment) (first last k : ℕ) → AreUpToCall first ms k → AreUpToCall last ms k → (call : ℕ) → first ≤ call → call ≤ last → (old : ExitUnknown)
    → entry_from ms call old ≡ entry_from ms first old
fixed-between ms first last k at_first at_last call least most old =
    last-is call old ms k
    (λ i d l b. let e : (get_or ms i d).call ≤ first = leb-true (get_or ms i d).call first (at_first.0 i d l b) in le-leb (get_or ms i d).call call (omega (arith, e, least)))
    (λ i d l b. let e : last < (get_or ms i d).call = leb-false (get_or ms i d).call last (at_last.1 i d l b) in lt-leb (get_or ms i d).call call (omega (arith, e, most)))
    ∙ sym (last-is first old ms k at_first.0 at_first.1)

last_from-suc : (old : ExitUnknown) (ms : List Moment) (k : ℕ) (d : Moment) → k < length ms → last_from old ms (suc k) ≡ (get_or ms k d).entry
last_from-suc old [] k d h = absurd (omega arith)
last_from-suc old (m ∷ ms) zero d h = none m.entry ms
  where
    none : (old : ExitUnknown) (ms : List Moment) → last_from old ms zero ≡ old
    none old [] = refl
    none old (m ∷ ms) = refl
last_from-suc old (m ∷ ms) (suc k) d h = last_from-suc m.entry ms k d (omega (arith, h))

pub found-none : (ms : List Moment) (call k : ℕ) → AreUpToCall call ms k → k ≡ 0 → no_entry ≡ entry_from ms call no_entry
found-none ms call k at none = sym (last-is call no_entry ms k at.0 at.1 ∙ ap (last_from no_entry ms) none ∙ first no_entry ms)
  where
    first : (old : ExitUnknown) (ms : List Moment) → last_from old ms zero ≡ old
    first old [] = refl
    first old (m ∷ ms) = refl

pub found-last : (ms : List Moment) (call k last : ℕ) → AreUpToCall call ms k → k ≡ suc last → k ≤ length ms → (d : Moment) → (get_or ms last d).entry ≡ entry_from ms call no_entry
found-last ms call k last at is within d =
    let below : last < length ms = omega (arith, is, within) in
    sym (last-is call no_entry ms k at.0 at.1 ∙ ap (last_from no_entry ms) is ∙ last_from-suc no_entry ms last d below)
