-- The handlers of all procedures, where few of a procedure stay as they are.
use Rattle.std.proofs.Common.{◌≡◌, ℕ, zero, suc, ◌-◌, ◌<◌, ◌≤◌, Option, Some, None, get_or, slice_get, slice_index_or, subst, List, [], ◌∷◌, ◌++◌, length, map, take, drop, refl, sym, ap, ◌∙◌, arith, length-append, length-drop}
use Rattle.std.proofs.lemmas.List.{drop-append-le, take-append-le, take_all}
use Rattle.std.proofs.lemmas.Option.{slice_get_read}
use Rattle.std.proofs.Math.Seq.{drop-append_seam}
use Rattle.modules.specs.Machine.{handler_for}
use Rattle.modules.specs.declared.declaration.Handler.{Handler}
use Rattle.handlers.specs.Procedures.{AreWithin, IsWithin, arranged, entries_in}
use Rattle.handlers.specs.Targets.{target_in}
use Rattle.handlers.specs.declared.entries.TableEntry.{TableEntry}
use Rattle.handlers.specs.declared.tables.ProcedureHandlers.{ProcedureHandlers}
use Rattle.handlers.specs.declared.tables.ProcedureHandlers.TheVariants.{Few, Many}
use Rattle.handlers.proofs.Laying.{arranged_finds}

-- handlers that lie where it is said do so with more behind them
module _ (few more : List Handler) where
  range_kept : (start end : ℕ) → start ≤ end → end ≤ length few
      → take (end - start) (drop start (few ++ more)) ≡ take (end - start) (drop start few)
  range_kept start end order within =
      ap (take (end - start)) (drop-append-le start few more (omega (arith, order, within)))
      ∙ take-append-le (end - start) (drop start few) more (omega (arith, order, within, length-drop start few))

  entries_kept : (procedures : List ProcedureHandlers) → AreWithin few procedures
      → map (entries_in (few ++ more)) procedures ≡ map (entries_in few) procedures
  entries_kept [] within = refl
  entries_kept (Few start end ∷ procedures) within =
      rw (range_kept start end within.0.0 within.0.1, entries_kept procedures within.1) refl
  entries_kept (Many entries ∷ procedures) within = ap (λ (rest : List (List TableEntry)). entries ∷ rest) (entries_kept procedures within.1)

  within_kept : (procedures : List ProcedureHandlers) → AreWithin few procedures → AreWithin (few ++ more) procedures
  within_kept [] within = tt
  within_kept (Few start end ∷ procedures) within =
      ((within.0.0, omega (arith, within.0.1, length-append few more)), within_kept procedures within.1)
  within_kept (Many entries ∷ procedures) within = (tt, within_kept procedures within.1)

-- one procedure more
pub within_more : (few : List Handler) (procedures : List ProcedureHandlers) (last : ProcedureHandlers) → AreWithin few procedures → IsWithin few last
    → AreWithin few (procedures ++ last ∷ [])
within_more few [] last within is = (is, tt)
within_more few (procedure ∷ procedures) last within is = (within.0, within_more few procedures last within.1 is)

abbrev pub targets : List Handler → List ProcedureHandlers → List (ℕ → ℕ → Option ℕ)
targets few procedures = map target_in (map (entries_in few) procedures)

targets_more : (few : List Handler) (procedures : List ProcedureHandlers) (last : ProcedureHandlers)
    → targets few (procedures ++ last ∷ []) ≡ targets few procedures ++ target_in (entries_in few last) ∷ []
targets_more few [] last = refl
targets_more few (procedure ∷ procedures) last = ap (λ rest. target_in (entries_in few procedure) ∷ rest) (targets_more few procedures last)

-- with a table
pub many_added : (few : List Handler) (procedures : List ProcedureHandlers) (entries : List TableEntry) (handlers : List Handler)
    → target_in entries ≡ handler_for handlers
    → targets few (procedures ++ Many entries ∷ []) ≡ targets few procedures ++ handler_for handlers ∷ []
many_added few procedures entries handlers same =
    targets_more few procedures (Many entries) ∙ ap (λ (t : ℕ → ℕ → Option ℕ). targets few procedures ++ t ∷ []) same

-- with few handlers, which come after those of the others
module _ (few handlers grown : List Handler) (is : grown ≡ few ++ handlers)
    (procedures : List ProcedureHandlers) (within : AreWithin few procedures) where
  pub grown_within : AreWithin grown procedures
  grown_within = subst (λ (hs : List Handler). AreWithin hs procedures) (sym is) (within_kept few handlers procedures within)

  module _ (start end : ℕ) (starts : start ≡ length few) (ends : end ≡ length grown) where
    pub few_within : AreWithin grown (procedures ++ Few start end ∷ [])
    few_within =
        within_more grown procedures (Few start end) grown_within
        (omega (arith, starts, ends, ap length is, length-append few handlers), omega (arith, ends))

    own : take (end - start) (drop start grown) ≡ handlers
    own =
        ap (λ (n : ℕ). take (end - n) (drop n grown)) starts ∙ ap (λ (hs : List Handler). take (end - length few) (drop (length few) hs)) is
        ∙ ap (take (end - length few)) (drop-append_seam few handlers)
        ∙ take_all (end - length few) handlers (omega (arith, ends, ap length is, length-append few handlers))

    pub few_added : targets grown (procedures ++ Few start end ∷ []) ≡ targets few procedures ++ handler_for handlers ∷ []
    few_added =
        targets_more grown procedures (Few start end)
        ∙ ap (λ (t : ℕ → ℕ → Option ℕ). targets grown procedures ++ t ∷ [])
        (ap (λ (hs : List Handler). target_in (arranged hs)) own ∙ arranged_finds handlers)
        ∙ ap (λ (hs : List Handler). targets hs procedures ++ handler_for handlers ∷ []) is
        ∙ ap (λ (entries : List (List TableEntry)). map target_in entries ++ handler_for handlers ∷ [])
        (entries_kept few handlers procedures within)

-- a procedure's handlers lie where it is said
within_there : (few : List Handler) (procedures : List ProcedureHandlers) (k : ℕ) (procedure : ProcedureHandlers)
    → AreWithin few procedures → slice_get procedures k ≡ Some procedure → IsWithin few procedure
within_there few [] k procedure within is = absurd (let no : ◌≡◌ {A = Option ProcedureHandlers} None (Some procedure) = is in cc)
within_there few (first ∷ procedures) zero procedure within is = let same : first ≡ procedure = cc in subst (IsWithin few) same within.0
within_there few (first ∷ procedures) (suc k) procedure within is = within_there few procedures k procedure within.1 is

-- a procedure's entries
entries_there : (few : List Handler) (procedures : List ProcedureHandlers) (k : ℕ) (procedure : ProcedureHandlers)
    → slice_get procedures k ≡ Some procedure → slice_index_or (map (entries_in few) procedures) k [] ≡ entries_in few procedure
entries_there few [] k procedure is = absurd (let no : ◌≡◌ {A = Option ProcedureHandlers} None (Some procedure) = is in cc)
entries_there few (first ∷ procedures) zero procedure is = ap (entries_in few) (let same : first ≡ procedure = cc in same)
entries_there few (first ∷ procedures) (suc k) procedure is = entries_there few procedures k procedure is

-- the same where the procedure was read
module _ (few : List Handler) (procedures all : List ProcedureHandlers) (k : ℕ) (read : ProcedureHandlers) (same : all ≡ procedures)
    (below : k < length all) (at : read ≡ get_or all k read) (start end : ℕ) (few_are : read ≡ Few start end) where
  there : slice_get procedures k ≡ Some (Few start end)
  there =
      ap (λ (ps : List ProcedureHandlers). slice_get ps k) (sym same) ∙ slice_get_read all (length all) k read refl below at
      ∙ ap (λ (p : ProcedureHandlers). Some p) few_are

  pub within_at : AreWithin few procedures → (start ≤ end) × (end ≤ length few)
  within_at within = within_there few procedures k (Few start end) within there

  pub entries_at : slice_index_or (map (entries_in few) procedures) k [] ≡ arranged (take (end - start) (drop start few))
  entries_at = entries_there few procedures k (Few start end) there
