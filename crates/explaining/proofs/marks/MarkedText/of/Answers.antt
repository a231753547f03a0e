use Rattle.std.proofs.Common.{◌≡◌, ◌∙◌, ap, sym, ◌+◌, ◌*◌, ◌++◌, [], ◌∷◌, map, arith}
use Rattle.std.specs.List.{range_with_len}
use Rattle.std.proofs.lemmas.List.FromFn.{map-range_with_len_more}
use Rattle.lexer.specs.Position.{place_at}
use Rattle.explaining.proofs.marks.MarkedText.of.Goals as goal

pub loop-mark-preserved : goal.loop-mark-preserved
loop-mark-preserved c =
    let text = c.args.text.now in
    let mark = c.loop-mark.mark in
    let next : mark * 256 + 256 ≡ (mark + 1) * 256 = omega arith in
    let here : c.place_after-place.result ≡ place_at text ((mark + 1) * 256) = c.place_after-place.ensures ∙ ap (place_at text) next in
    record {
      place = here;
      marks =
          c.in_ok-push-2.ensures.items
          ∙ ap (λ marks. marks ++ c.place_after-place.result ∷ []) c.loop-mark.invariant.marks
          ∙ ap (λ place. map (λ k. place_at text (k * 256)) (range_with_len 0 (mark + 1)) ++ place ∷ []) here
          ∙ sym (map-range_with_len_more (λ k. place_at text (k * 256)) 0 (mark + 1) (mark + 1) (omega arith));
    }
