-- The tables of all procedures.
use Rattle.std.proofs.Common.{◌≡◌, ℕ, zero, suc, ◌+◌, ◌<◌, List, [], ◌∷◌, inl, inr, map, slice_get, Option, Some, ap, sym, ◌∙◌, subst, refl, arith}
use Rattle.std.proofs.lemmas.Bool.{cases_eq}
use Rattle.std.proofs.Math.Path.{fun_ext}
use Rattle.modules.specs.Contents.{ProcedureContents}
use Rattle.modules.specs.Machine.{handler_for}
use Rattle.handlers.specs.Targets.{handler_by, target_by, target_in}
use Rattle.handlers.specs.declared.entries.TableEntry.{TableEntry}

by_number : (tables : List (List TableEntry)) (procedures : List ProcedureContents) → map target_in tables ≡ map (λ (p : ProcedureContents). handler_for p.handlers) procedures → (k : ℕ) → target_by tables k ≡ handler_by procedures k
by_number [] [] same zero = refl
by_number [] [] same (suc k) = refl
by_number [] (p ∷ ps) same k = absurd (let no : ◌≡◌ {A = List (ℕ → ℕ → Option ℕ)} [] (handler_for p.handlers ∷ map (λ (q : ProcedureContents). handler_for q.handlers) ps) = same in cc)
by_number (t ∷ ts) [] same k = absurd (let no : ◌≡◌ {A = List (ℕ → ℕ → Option ℕ)} (target_in t ∷ map target_in ts) [] = same in cc)
by_number (t ∷ ts) (p ∷ ps) same zero = let head : target_in t ≡ handler_for p.handlers = cc in head
by_number (t ∷ ts) (p ∷ ps) same (suc k) =
    let tail : map target_in ts ≡ map (λ (q : ProcedureContents). handler_for q.handlers) ps = cc in by_number ts ps tail k

-- tables of each procedure's handlers find what the handlers do
pub tables_find : (tables : List (List TableEntry)) (procedures : List ProcedureContents) → map target_in tables ≡ map (λ (p : ProcedureContents). handler_for p.handlers) procedures → target_by tables ≡ handler_by procedures
tables_find tables procedures same = fun_ext (by_number tables procedures same)

-- where no procedure has a handler, there need not be a table
pub none_find : (procedures : List ProcedureContents) → ((k : ℕ) (p : ProcedureContents) → slice_get procedures k ≡ Some p → p.handlers ≡ []) → (k : ℕ) → target_by [] k ≡ handler_by procedures k
none_find [] empty k = refl
none_find (p ∷ ps) empty zero = ap handler_for (sym (empty zero p refl))
none_find (p ∷ ps) empty (suc k) = none_find ps (λ j q there. empty (suc j) q there) k

-- one procedure more that has none
pub one_more_none : (procedures : List ProcedureContents) (n : ℕ) (p : ProcedureContents) → slice_get procedures n ≡ Some p → p.handlers ≡ [] → ((k : ℕ) (q : ProcedureContents) → k < n → slice_get procedures k ≡ Some q → q.handlers ≡ []) → (k : ℕ) (q : ProcedureContents) → k < n + 1 → slice_get procedures k ≡ Some q → q.handlers ≡ []
one_more_none procedures n p at none before k q below there = elim (cases_eq k n) [
  | inl same ↦ let one : Some p ≡ Some q = sym at ∙ ap (slice_get procedures) (sym same) ∙ there in subst (λ (x : ProcedureContents). x.handlers ≡ []) (let one : p ≡ q = cc in one) none
  | inr other ↦ before k q (omega (arith, below, other)) there
]
