use Rattle.std.proofs.Common.{◌<◌, sym, ap, ◌∙◌, length, map, arith}
use Rattle.std.proofs.lemmas.Bool.{ltb-true}
use Rattle.std.proofs.lemmas.List.{length-map}
use Rattle.solver.specs.Sharing.{bits_of}
use Rattle.solver.proofs.Standing.{map-read, more-from}
use Rattle.solver.proofs.sharing.taken_over.Goals as goal

pub returns-clause-more : goal.returns-clause-more
returns-clause-more c = λ count sized.
    let bits = bits_of c.args.kept.now in
    let of = c.args.of.now in
    let unknown = c.args.unknown in
    let from = c.in_ok-from.from in
    let number = c.in_ok-number.field-0.now in
    let there : from < length of = ltb-true from (length of) (sym c.in_ok-number.ensures.lookup.0) in
    more-from (map bits of) count unknown c.args.left.now from (bits number) (omega (arith, there, length-map of bits))
    (map-read bits of from number there ∙ ap bits (sym c.in_ok-number.ensures.lookup.1)) c.in_ok-from.ensures
    (map-read bits of unknown 0 c.requires.unknown ∙ c.is_below_zero.ensures c.if-not-is_below_zero.false)
    (c.has_numbers.ensures c.if-not-has_numbers.false) (c.covers_left.ensures c.if-not-covers_left.false) sized
