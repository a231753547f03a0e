use Rattle.std.proofs.Common.{◌<◌, ◌≤◌, sym, ap, ◌∙◌, subst, length, map, arith, [], List, Bool}
use Rattle.std.proofs.lemmas.Bool.{ltb-true}
use Rattle.std.proofs.lemmas.List.{length-map}
use Rattle.solver.specs.Sharing.{bits_of}
use Rattle.solver.proofs.Alone.{more-alone}
use Rattle.solver.proofs.Standing.{map-read}
use Rattle.solver.proofs.sharing.taken.Goals as goal

pub returns-clause-more : goal.returns-clause-more
returns-clause-more c = λ count sized.
    let bits = bits_of c.args.kept.now in
    let of = c.args.of.now in
    let unknown = c.args.unknown in
    let from = c.in_ok-from.field-0.now in
    let number = c.in_ok-number.field-0.now in
    let there : from < length of = ltb-true from (length of) (sym c.in_ok-number.ensures.lookup.0) in
    let inside : from < length (map bits of) = omega (arith, there, length-map of bits) in
    let short : length (bits number) ≤ count =
    subst (λ (r : List Bool). length r ≤ count) (map-read bits of from number there ∙ ap bits (sym c.in_ok-number.ensures.lookup.1)) (sized from [] inside) in
    more-alone (map bits of) count unknown c.in_ok-only.only c.args.left.now (bits number) short
    (map-read bits of unknown 0 c.requires.unknown ∙ c.is_below_zero.ensures c.if-not-is_below_zero.false)
    (c.is_alone.ensures c.if-not-is_alone.false) (c.in_ok-only.ensures (map bits of))
