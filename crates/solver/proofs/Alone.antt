-- A left side of one written element alone, and its row.
use Rattle.std.proofs.Common.{◌≡◌, refl, sym, ap, ◌∙◌, subst, ℕ, zero, suc, ◌+◌, ◌<◌, ◌≤◌, length, get_or, List, [], ◌∷◌, Bool, true, false, arith, ⊎_elim, ◌||◌, Option, Some, None}
use Rattle.std.specs.Prelude.{IsTrue, ◌==◌, is_some}
use Rattle.std.proofs.lemmas.Bool.{cases_lt, eqb-true, eq-eqb}
use Rattle.labels.specs.Row.{FirstBeyond, IncludedBetween, IsFirstBeyond, has}
use Rattle.solver.specs.Rows.{atom_has, left_has}
use Rattle.solver.specs.Work.{IsMore}
use Rattle.solver.specs.declared.constraints.Atom.{Atom}
use Rattle.solver.specs.declared.constraints.Atom.TheVariants.{Written}
use Rattle.solver.proofs.Bits.{same-members, size, size-less}

or-none : (b : Bool) → (b || false) ≡ b
or-none true = refl
or-none false = refl

or-same : (b : Bool) → (b || b) ≡ b
or-same true = refl
or-same false = refl

pub only-left : (rows : List (List Bool)) (n number : ℕ) (left : List Atom) → 0 < length left →
    ((k : ℕ) → k < length left → get_or left k (Written number) ≡ Written number) → left_has rows left n ≡ (n == number)
only-left rows n number [] some all = absurd (omega (arith, some))
only-left rows n number (x ∷ []) some all = ap (λ (a : Atom). atom_has rows n a || false) (all 0 (omega arith)) ∙ or-none (n == number)
only-left rows n number (x ∷ y ∷ rest) some all =
    ap (λ (a : Atom). atom_has rows n a || left_has rows (y ∷ rest) n) (all 0 (omega arith))
    ∙ (ap (λ (b : Bool). (n == number) || b) (only-left rows n number (y ∷ rest) (omega arith) (λ k h. all (suc k) (omega (arith, h)))) ∙ or-same (n == number))

pub some-left : (left : List Atom) → (length left == 0) ≡ false → 0 < length left
some-left [] none = let impossible : true ≡ false = none in absurd (cc)
some-left (x ∷ left) none = omega arith

pub none-beyond : (row : List Bool) (from : ℕ) (found : Option ℕ) → FirstBeyond row [] from found → is_some found ≡ false → IncludedBetween row [] from (length row)
none-beyond row from None first none = first
none-beyond row from (Some i) first none = let no : true ≡ false = none in absurd (cc)

not-beyond : (row : List Bool) (n : ℕ) → length row ≤ n → has row n ≡ false
not-beyond [] n h = refl
not-beyond (b ∷ row) zero h = absurd (omega (arith, h))
not-beyond (b ∷ row) (suc n) h = not-beyond row n (omega (arith, h))

pub only-one : (row : List Bool) (number : ℕ) → IsFirstBeyond row [] 0 number → IncludedBetween row [] (number + 1) (length row) → (n : ℕ) → has row n ≡ (n == number)
only-one row number first none n = same-members (has row n) (n == number) is-it there
  where
    there : IsTrue (n == number) → IsTrue (has row n)
    there e = subst (λ k. IsTrue (has row k)) (sym (eqb-true n number e)) first.there

    above : IsTrue (has row n) → number < n → IsTrue (n == number)
    above held more = ⊎_elim (λ inside. let no : false ≡ true = none n (omega (arith, more)) inside held in absurd (cc))
        (λ out. let no : false ≡ true = sym (not-beyond row n out) ∙ held in absurd (cc)) (cases_lt n (length row))

    is-it : IsTrue (has row n) → IsTrue (n == number)
    is-it held = ⊎_elim (λ less. let no : false ≡ true = first.before n (omega arith) less held in absurd (cc))
        (λ up. ⊎_elim (λ more. above held more) (λ down. eq-eqb n number (omega (arith, up, down))) (cases_lt number n)) (cases_lt n number)

-- the row of a written element alone comes to an unknown that has none
pub more-alone : (rows : List (List Bool)) (count u only : ℕ) (left : List Atom) (row : List Bool) → length row ≤ count → get_or rows u [] ≡ [] →
    ((n : ℕ) → has row n ≡ (n == only)) → ((n : ℕ) → left_has rows left n ≡ (n == only)) → IsMore rows count u left row
more-alone rows count u only left row short none is left_is = record {
  short = short;
  members = λ n. is n ∙ (sym (left_is n) ∙ ap (λ (r : List Bool). has r n || left_has rows left n) (sym none));
  larger = subst (λ (r : List Bool). size r < size row) (sym none)
      (size-less [] row only (λ n held. let no : false ≡ true = held in absurd (cc)) (is only ∙ eq-eqb only only refl) refl);
}
