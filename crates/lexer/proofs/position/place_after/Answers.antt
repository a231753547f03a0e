use Rattle.std.proofs.Common.{◌≡◌, ◌∙◌, ap, ◌+◌, ◌-◌, ◌<◌, length, take, drop, get_or, arith}
use Rattle.std.proofs.lemmas.List.{length-take, get_or-take, get_or-drop}
use Rattle.lexer.specs.Position.{place_at}
use Rattle.lexer.specs.NextPlace.{next_place}
use Rattle.lexer.proofs.Places.{next-place_at}
use Rattle.lexer.proofs.position.place_after.Goals as goal

pub loop-byte-preserved : goal.loop-byte-preserved
loop-byte-preserved c =
    let text = c.args.text.now in
    let i = c.loop-byte.byte-index in
    let here = c.args.from + i in
    let n = c.args.to - c.args.from in
    let in_part : i < n = omega (arith, length-take n (drop c.args.from text)) in
    let within : here < length text = omega arith in
    let beyond : here + 1 ≡ c.args.from + (i + 1) = omega arith in
    c.next-place.ensures
    ∙ ap (λ place. next_place place (get_or (take n (drop c.args.from text)) i 0)) c.loop-byte.invariant
    ∙ ap (next_place (place_at text here)) (get_or-take n (drop c.args.from text) i 0 in_part ∙ get_or-drop c.args.from text i 0)
    ∙ next-place_at text here 0 within
    ∙ ap (place_at text) beyond
