-- Rows of the exceptions that procedures declare, one more at a time.
use Rattle.std.proofs.Common.{◌≡◌, refl, sym, ap, subst, ◌∙◌, ℕ, ◌<◌, ◌≤◌, List, [], ◌∷◌, ◌++◌, length, map, get_or, arith, ◌⊎◌, inl, inr}
use Rattle.std.specs.Prelude.{Option, None}
use Rattle.std.proofs.Math.Nat.{eq-or-lt_of_le}
use Rattle.std.proofs.Math.Seq.{get_or-append_seam}
use Rattle.std.proofs.lemmas.Bool.{cases_lt}
use Rattle.std.proofs.lemmas.List.{get_or-map, get_or_append_left, get_or_past, length-append}
use Rattle.resolved.specs.declared.program.Core.{Core}
use Rattle.resolved.specs.declared.tables.Procedure.{Procedure}
use Rattle.resolved.specs.declared.tables.Thrown.{Thrown}
use Rattle.labels.specs.Label.{Label}
use Rattle.resolved.specs.CoreOf.{program_of}
use Rattle.resolved.specs.Program.{procedure_at}
use Rattle.resolved.specs.ProgramOf.{procedure_entry, thrown_entry}
use Rattle.resolved.specs.Exits.{declared_by}
use Rattle.path_map.specs.declared.members.ExceptionSet.{ExceptionSet}
use Rattle.path_map.specs.Rows.{AreDeclaredRows, HasBound, HaveBound, no_row, says}
use Rattle.path_map.specs.Exceptions.{exceptions_of, is_one_of}

-- the procedure of a program that has an item of its table
pub procedure-there : (core : Core) (i : ℕ) (procedure : Procedure) → i < length core.procedures.items
    → procedure ≡ get_or core.procedures.items i procedure → procedure_at (program_of core) i ≡ procedure_entry core.labels procedure
procedure-there core i procedure inside is =
    get_or-map (procedure_entry core.labels) core.procedures.items i procedure _ inside ∙ ap (procedure_entry core.labels) (sym is)

-- whatever the labels of a program are, the entries of a procedure's declared exceptions have these exceptions
pub declared-same : (labels : List Label) (throws : List Thrown) → declared_by (map (thrown_entry labels) throws) ≡ exceptions_of throws
declared-same labels [] = refl
declared-same labels (thrown ∷ rest) = ap (λ xs. thrown.exception ∷ xs) (declared-same labels rest)

pub declared-there : (core : Core) (i : ℕ) (procedure : Procedure) → i < length core.procedures.items
    → procedure ≡ get_or core.procedures.items i procedure
    → declared_by (procedure_at (program_of core) i).throws ≡ exceptions_of procedure.throws.items
declared-there core i procedure inside is =
    ap (λ p. declared_by p.throws) (procedure-there core i procedure inside is) ∙ declared-same core.labels procedure.throws.items

-- a row after those of the procedures before it
pub rows-grow : (core : Core) (rows : List (Option ExceptionSet)) (row : Option ExceptionSet) (i : ℕ) (procedure : Procedure)
    (thrown : List ℕ) → length rows ≡ i → i < length core.procedures.items
    → procedure ≡ get_or core.procedures.items i procedure → exceptions_of procedure.throws.items ≡ thrown
    → ((exception : ℕ) → says row thrown exception ≡ is_one_of thrown exception)
    → AreDeclaredRows core rows → AreDeclaredRows core (rows ++ row ∷ [])
rows-grow core rows row i procedure thrown count inside is throws has old f exception = go (cases_lt f (length rows))
  where
    declared : ℕ → List ℕ
    declared g = declared_by (procedure_at (program_of core) g).throws

    Says : Option ExceptionSet → ℕ → Type 0
    Says r g = says r (declared g) exception ≡ is_one_of (declared g) exception

    here : Says row i
    here =
        let same : thrown ≡ declared i = sym throws ∙ sym (declared-there core i procedure inside is) in
        subst (λ (t : List ℕ). says row t exception ≡ is_one_of t exception) same (has exception)

    after : (length rows ≡ f) ⊎ (length rows < f) → Says (get_or (rows ++ row ∷ []) f no_row) f
    after (inl last) =
        subst (λ g. Says (get_or (rows ++ row ∷ []) g no_row) g) last
        (subst (λ r. Says r (length rows)) (sym (get_or-append_seam rows row [] no_row)) (subst (λ g. Says row g) (sym count) here))
    after (inr past) =
        subst (λ r. Says r f) (sym (get_or_past (rows ++ row ∷ []) f no_row (omega (arith, length-append rows (row ∷ []))))) refl

    go : (f < length rows) ⊎ (length rows ≤ f) → Says (get_or (rows ++ row ∷ []) f no_row) f
    go (inl before) = subst (λ r. Says r f) (sym (get_or_append_left rows (row ∷ []) no_row f before)) (old f exception)
    go (inr from) = after (eq-or-lt_of_le from)

-- its bound is that of the others
pub bounds-grow : (bound : ℕ) (rows : List (Option ExceptionSet)) (row : Option ExceptionSet) → HaveBound bound rows → HasBound bound row
    → HaveBound bound (rows ++ row ∷ [])
bounds-grow bound rows row old new f = go (cases_lt f (length rows))
  where
    none : HasBound bound None
    none set is = absurd (cc)

    after : (length rows ≡ f) ⊎ (length rows < f) → HasBound bound (get_or (rows ++ row ∷ []) f no_row)
    after (inl last) =
        subst (λ g. HasBound bound (get_or (rows ++ row ∷ []) g no_row)) last
        (subst (λ r. HasBound bound r) (sym (get_or-append_seam rows row [] no_row)) new)
    after (inr past) =
        subst (λ r. HasBound bound r) (sym (get_or_past (rows ++ row ∷ []) f no_row (omega (arith, length-append rows (row ∷ []))))) none

    go : (f < length rows) ⊎ (length rows ≤ f) → HasBound bound (get_or (rows ++ row ∷ []) f no_row)
    go (inl before) = subst (λ r. HasBound bound r) (sym (get_or_append_left rows (row ∷ []) no_row f before)) (old f)
    go (inr from) = after (eq-or-lt_of_le from)
