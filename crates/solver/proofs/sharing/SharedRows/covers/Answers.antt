use Rattle.std.proofs.Common.{◌≡◌, ◌<◌, sym, ap, ◌∙◌, subst, List, [], Bool, map, get_or, length, arith}
use Rattle.std.specs.Prelude.{IsTrue}
use Rattle.std.proofs.lemmas.List.{length-map}
use Rattle.labels.specs.Row.{has}
use Rattle.solver.specs.Rows.{left_has}
use Rattle.solver.specs.Sharing.{bits_of}
use Rattle.solver.specs.declared.sharing.Kept.{Kept}
use Rattle.solver.proofs.Standing.{has_at-row, map-read}
use Rattle.solver.proofs.sharing.SharedRows.covers.Goals as goal

pub returns : goal.returns
returns c = λ covers n held.
    let kept = c.self.inside.kept.items in
    let of = c.self.inside.of.items in
    let rows = c.args.self.now in
    let unknown = c.args.unknown in
    let number = c.index.result.now in
    let view = c.self.view_is in
    let count : length rows ≡ length of = ap length (sym view) ∙ length-map of (bits_of kept) in
    let there : unknown < length of = omega (arith, c.requires, count) in
    let row : get_or rows unknown [] ≡ bits_of kept number =
    ap (λ (rows : List (List Bool)). get_or rows unknown []) (sym view) ∙ (map-read (bits_of kept) of unknown number there ∙ ap (bits_of kept) (sym c.index.ensures)) in
    let here : IsTrue (left_has (map (bits_of c.as_slice.result.now) c.as_slice-2.result.now) c.args.left.now n) =
    rw (c.as_slice.ensures.value, c.as_slice-2.ensures.value) (subst (λ (rows : List (List Bool)). IsTrue (left_has rows c.args.left.now n)) (sym view) held) in
    let found = subst (λ (kept : List Kept). IsTrue (has (bits_of kept number) n)) c.as_slice.ensures.value (c.covers_left.ensures covers n here) in
    sym (has_at-row rows unknown n) ∙ (ap (λ (row : List Bool). has row n) row ∙ found)
