use Rattle.std.proofs.Common.{ap, ◌∙◌, ◌++◌, ◌∷◌, [], ◌≡◌, ℕ, ◌+◌, length, subst, sym}
use Rattle.std.specs.Prelude.{List}
use Rattle.std.proofs.lemmas.List.{length_push, map-append}
use Rattle.constraints.specs.Merging.{Row, parts_at, row_of, rows_of}
use Rattle.constraints.specs.declared.merging.Parts.{Parts}
use Rattle.constraints.proofs.PartRows.{parts-push}
use Rattle.constraints.proofs.merging.no_parts.Goals as goal

pub loop-i-preserved : goal.loop-i-preserved
loop-i-preserved c =
    let none : Parts = record { unknowns = c.new.result; written = c.new-in-loop-i.result } in
    let rows : rows_of c.push.new.self.items ≡ rows_of c.loop-i.kept.items ++ row_of none ∷ [] =
    ap rows_of c.in_ok-push.ensures.items ∙ map-append row_of c.loop-i.kept.items (none ∷ []) in
    let empty : none.unknowns.items ++ none.written.items ≡ [] = ap (λ xs. xs ++ none.written.items) c.new.ensures.items ∙ c.new-in-loop-i.ensures.items in
    record {
      nothing = subst (λ (rs : List Row). (k : ℕ) → parts_at rs k ≡ []) (sym rows)
          (parts-push (rows_of c.loop-i.kept.items) (row_of none) empty c.loop-i.invariant.nothing);
      count = ap length c.in_ok-push.ensures.items ∙ (length_push c.loop-i.kept.items none ∙ ap (λ n. n + 1) c.loop-i.invariant.count);
    }
