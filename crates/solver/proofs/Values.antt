-- The join of written elements one after the other, in place of all together.
use Rattle.std.proofs.Common.{◌≡◌, ◌≢◌, refl, sym, ap, ◌∙◌, subst, ℕ, zero, suc, ◌<◌, ◌+◌, length, List, [], ◌∷◌, ◌++◌, Bool, true, false, arith, add-zero, zero-add, add-one, ⊎_elim, eq-eqb, nat_eq}
use Rattle.std.specs.Prelude.{Contains, if◌then◌else◌, IsTrue, ◌==◌}
use Rattle.std.proofs.lemmas.Bool.{eqb-true, or_left}
use Rattle.std.proofs.lemmas.List.Elements.{Contains-append_cases, Contains-append_left, Contains-append_right}
use Rattle.common.proofs.Elements.{none_in_nil, Contains-cons_cases, Contains-later, Contains-first}
use Rattle.lattices.specs.Lattice.{IsJoin, LatticeLaws, Lattice}
use Rattle.labels.specs.Row.{has}
use Rattle.solver.specs.Broken.{written_at}
use Rattle.solver.specs.Rows.{has_at, reached_by, unknowns_with}
use Rattle.solver.specs.Constraints.{AreAlike, is_among, row_join, rows_with}

neq-eqb : (a b : ℕ) → a ≢ b → nat_eq a b ≡ false
neq-eqb a b ne = go (nat_eq a b) refl
  where
    go : (t : Bool) → nat_eq a b ≡ t → nat_eq a b ≡ false
    go true e = absurd (ne (eqb-true a b e))
    go false e = e

-- a number, or none
abbrev pub one_row : ℕ → Bool → List ℕ
one_row n t = if t then (n ∷ []) else []

rows_with-append : (k : ℕ) (a b : List (List ℕ)) (u : ℕ) → rows_with k (a ++ b) u ≡ rows_with k a u ++ rows_with (k + length a) b u
rows_with-append k [] b u = ap (λ n. rows_with n b u) (sym (add-zero k))
rows_with-append k (row ∷ a) b u = go (is_among u row) refl (rows_with-append (suc k) a b u)
  where
    go : (t : Bool) → is_among u row ≡ t → rows_with (suc k) (a ++ b) u ≡ rows_with (suc k) a u ++ rows_with (suc k + length a) b u →
        rows_with k ((row ∷ a) ++ b) u ≡ rows_with k (row ∷ a) u ++ rows_with (k + length (row ∷ a)) b u
    go true e more =
        let n : suc k + length a ≡ k + length (row ∷ a) = omega arith in
        rw e (ap (λ x. k ∷ x) (more ∙ ap (λ m. rows_with (suc k) a u ++ rows_with m b u) n))
    go false e more =
        let n : suc k + length a ≡ k + length (row ∷ a) = omega arith in
        rw e (more ∙ ap (λ m. rows_with (suc k) a u ++ rows_with m b u) n)

-- ---- rows by unknowns and by written elements
none_before : (rows : List (List Bool)) (n from u : ℕ) → u < from → is_among u (unknowns_with n from rows) ≡ false
none_before [] n from u h = refl
none_before (row ∷ rows) n from u h = go (has row n) refl (none_before rows n (suc from) u (omega (arith, h)))
  where
    apart : (from == u) ≡ false
    apart = neq-eqb from u (let ne : from ≢ u = omega (arith, h) in ne)

    go : (t : Bool) → has row n ≡ t → is_among u (unknowns_with n (suc from) rows) ≡ false → is_among u (unknowns_with n from (row ∷ rows)) ≡ false
    go true e more = rw (e, apart) more
    go false e more = rw e more

among_from : (rows : List (List Bool)) (n from u : ℕ) → is_among (from + u) (unknowns_with n from rows) ≡ has_at rows u n
among_from [] n from u = refl
among_from (row ∷ rows) n from zero = go (has row n) refl
  where
    go : (t : Bool) → has row n ≡ t → is_among (from + 0) (unknowns_with n from (row ∷ rows)) ≡ has row n
    go true e = rw e (or_left (from == from + 0) _ (eq-eqb from (from + 0) (sym (add-zero from))))
    go false e = rw e (none_before rows n (suc from) (from + 0) (omega arith))
among_from (row ∷ rows) n from (suc u) = go (has row n) refl (among_from rows n (suc from) u)
  where
    next : suc from + u ≡ from + suc u
    next = omega arith

    apart : (from == from + suc u) ≡ false
    apart = neq-eqb from (from + suc u) (let ne : from ≢ from + suc u = omega arith in ne)

    go : (t : Bool) → has row n ≡ t → is_among (suc from + u) (unknowns_with n (suc from) rows) ≡ has_at rows u n →
        is_among (from + suc u) (unknowns_with n from (row ∷ rows)) ≡ has_at rows u n
    go true e more = rw (e, apart) (ap (λ w. is_among w (unknowns_with n (suc from) rows)) (sym next) ∙ more)
    go false e more = rw e (ap (λ w. is_among w (unknowns_with n (suc from) rows)) (sym next) ∙ more)

pub is_among-row : (rows : List (List Bool)) (n u : ℕ) → is_among u (unknowns_with n 0 rows) ≡ has_at rows u n
is_among-row rows n u = ap (λ w. is_among w (unknowns_with n 0 rows)) (sym (zero-add u)) ∙ among_from rows n 0 u

pub length-reached_by : (n count : ℕ) (rows : List (List Bool)) → length (reached_by n count rows) ≡ count
length-reached_by n zero rows = refl
length-reached_by n (suc count) rows = ap suc (length-reached_by (suc n) count rows)

more_from : (n count : ℕ) (rows : List (List Bool)) → reached_by n (suc count) rows ≡ reached_by n count rows ++ unknowns_with (n + count) 0 rows ∷ []
more_from n zero rows = ap (λ m. unknowns_with m 0 rows ∷ []) (sym (add-zero n))
more_from n (suc count) rows =
    let next : suc n + count ≡ n + suc count = omega arith in
    ap (λ (ls : List (List ℕ)). unknowns_with n 0 rows ∷ ls) (more_from (suc n) count rows ∙ ap (λ m. reached_by (suc n) count rows ++ unknowns_with m 0 rows ∷ []) next)

pub reached_by-more : (i : ℕ) (rows : List (List Bool)) → reached_by 0 (i + 1) rows ≡ reached_by 0 i rows ++ unknowns_with i 0 rows ∷ []
reached_by-more i rows =
    ap (λ m. reached_by 0 m rows) (add-one i) ∙ (more_from 0 i rows ∙ ap (λ m. reached_by 0 i rows ++ unknowns_with m 0 rows ∷ []) (zero-add i))

pub rows_with-more : (rows : List (List Bool)) (i u : ℕ) (t : Bool) → t ≡ has_at rows u i →
    rows_with 0 (reached_by 0 (i + 1) rows) u ≡ rows_with 0 (reached_by 0 i rows) u ++ one_row i t
rows_with-more rows i u t is =
    let before = rows_with 0 (reached_by 0 i rows) u in
    let last = unknowns_with i 0 rows in
    let test : t ≡ is_among u last = is ∙ sym (is_among-row rows i u) in
    let len : 0 + length (reached_by 0 i rows) ≡ i = zero-add (length (reached_by 0 i rows)) ∙ length-reached_by 0 i rows in
    ap (λ (ls : List (List ℕ)). rows_with 0 ls u) (reached_by-more i rows)
    ∙ (rows_with-append 0 (reached_by 0 i rows) (last ∷ []) u
    ∙ (ap (λ n. before ++ rows_with n (last ∷ []) u) len ∙ ap (λ b. before ++ one_row i b) (sym test)))

-- above each of these written elements, and below all that are
pub record IsLeastAbove {V : Type 0} (l : Lattice V) (table : List V) (value : V) (ns : List ℕ) : Type 0 where
  pub above : (n : ℕ) → Contains ns n → IsTrue (l.leq (written_at l table n) value)
  pub least : (b : V) → ((n : ℕ) → Contains ns n → IsTrue (l.leq (written_at l table n) b)) → IsTrue (l.leq value b)

module _ {V : Type 0} (l : Lattice V) (laws : LatticeLaws l) (table : List V) where
  pub least-above_none : (value : V) → value ≡ l.least → IsLeastAbove l table value []
  least-above_none value e = record {
    above = λ n h. absurd (none_in_nil n h);
    least = λ b each. subst (λ v. IsTrue (l.leq v b)) (sym e) (laws.below_all b);
  }

  pub row_join-least_above : (ns : List ℕ) → IsLeastAbove l table (row_join l table ns) ns
  row_join-least_above [] = least-above_none l.least refl
  row_join-least_above (n ∷ ns) =
      let rest = row_join-least_above ns in
      record {
        above = λ m h. ⊎_elim
            (λ (is : n ≡ m). subst (λ x. IsTrue (l.leq (written_at l table x) (row_join l table (n ∷ ns)))) is (laws.above_left (written_at l table n) (row_join l table ns)))
            (λ k. laws.transitive (written_at l table m) (row_join l table ns) (row_join l table (n ∷ ns)) (rest.above m k) (laws.above_right (written_at l table n) (row_join l table ns)))
            (Contains-cons_cases n ns m h);
        least = λ b each. laws.least_above (written_at l table n) (row_join l table ns) b (each n (Contains-first n ns)) (rest.least b (λ m k. each m (Contains-later n ns m k)));
      }

  pub alike-both : (left right value : V) (xs ys : List ℕ) → AreAlike l (row_join l table xs) left → AreAlike l (row_join l table ys) right → IsJoin l left right value →
      AreAlike l (row_join l table (xs ++ ys)) value
  alike-both left right value xs ys one two join =
      let all = row_join-least_above (xs ++ ys) in
      let first = row_join-least_above xs in
      let second = row_join-least_above ys in
      record {
        to = all.least value (λ n h. ⊎_elim
            (λ k. laws.transitive _ _ _ (first.above n k) (laws.transitive _ _ _ one.to join.above_left))
            (λ k. laws.transitive _ _ _ (second.above n k) (laws.transitive _ _ _ two.to join.above_right))
            (Contains-append_cases xs ys n h));
        from = join.least_above (row_join l table (xs ++ ys))
            (laws.transitive _ _ _ one.from (first.least _ (λ n k. all.above n (Contains-append_left xs ys n k))))
            (laws.transitive _ _ _ two.from (second.least _ (λ n k. all.above n (Contains-append_right xs ys n k))));
      }
