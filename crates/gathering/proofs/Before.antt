-- How many unknowns come before a procedure, counted from procedure to procedure.
use Rattle.std.proofs.Common.{◌≡◌, ℕ, ◌+◌, ◌<◌, List, [], ◌∷◌, ◌++◌, length, map, take, get_or, ap, sym, ◌∙◌, arith}
use Rattle.std.specs.Prelude.{sum_by}
use Rattle.std.proofs.lemmas.List.{length-map, map_more, take-map}
use Rattle.std.proofs.lemmas.List.Sums.{sum_by-append}
use Rattle.labels.specs.Label.{Label}
use Rattle.resolved.specs.Program.{ProcedureEntry}
use Rattle.resolved.specs.ProgramOf.{procedure_entry, slot_entry}
use Rattle.resolved.specs.declared.tables.Procedure.{Procedure}
use Rattle.gathering.specs.Names.{own_unknowns}

-- whatever the labels of a program are, a procedure has the unknowns of its slots and its loops
pub own-count : (labels : List Label) (x : Procedure) → own_unknowns (procedure_entry labels x) ≡ length x.slots.items + x.loops
own-count labels x = ap (λ n. n + x.loops) (length-map x.slots.items (slot_entry labels))

module _ (labels : List Label) (procedures : List Procedure) (i first : ℕ)
    (counted : first ≡ sum_by own_unknowns (map (procedure_entry labels) (take i procedures))) where
  abbrev entry : Procedure → ProcedureEntry
  entry procedure = procedure_entry labels procedure

  pub before-here : first ≡ sum_by own_unknowns (take i (map entry procedures))
  before-here = counted ∙ ap (sum_by own_unknowns) (sym (take-map entry i procedures))

  -- and before the one after it
  pub before-next : (x : Procedure) (next : ℕ) → i < length procedures → x ≡ get_or procedures i x → next ≡ first + (length x.slots.items + x.loops)
      → next ≡ sum_by own_unknowns (map entry (take (i + 1) procedures))
  before-next x next within is counted_on =
      let list : map entry (take (i + 1) procedures) ≡ map entry (take i procedures) ++ entry x ∷ [] =
      map_more entry procedures i x within ∙ ap (λ p. map entry (take i procedures) ++ entry p ∷ []) (sym is) in
      let sums = ap (sum_by own_unknowns) list ∙ sum_by-append own_unknowns (map entry (take i procedures)) (entry x ∷ []) in
      omega (arith, sums, own-count labels x)
