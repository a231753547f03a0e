-- How many unknowns come before a procedure.
use Rattle.std.proofs.Common.{◌≡◌, sym, ap, ◌∙◌, ℕ, List, map, take}
use Rattle.std.specs.Prelude.{sum_by}
use Rattle.std.proofs.lemmas.List.{take-map}
use Rattle.labels.specs.Label.{Label}
use Rattle.resolved.specs.ProgramOf.{procedure_entry}
use Rattle.resolved.specs.declared.tables.Procedure.{Procedure}
use Rattle.gathering.specs.Names.{own_unknowns}

-- where a count of them has come to a procedure
pub counted-here : (labels : List Label) (procedures items : List Procedure) (n f first : ℕ) → items ≡ procedures → n ≡ f →
    first ≡ sum_by own_unknowns (map (procedure_entry labels) (take n items)) → first ≡ sum_by own_unknowns (take f (map (procedure_entry labels) procedures))
counted-here labels procedures items n f first same at counted =
    counted
    ∙ (ap (λ (list : List Procedure). sum_by own_unknowns (map (procedure_entry labels) (take n list))) same
    ∙ (ap (λ k. sum_by own_unknowns (map (procedure_entry labels) (take k procedures))) at
    ∙ ap (sum_by own_unknowns) (sym (take-map (procedure_entry labels) f procedures))))
