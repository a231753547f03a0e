use Rattle.std.proofs.Common.{◌≡◌, ◌∷◌, [], get_or, refl, sym, ap, ◌∙◌}
use Rattle.std.specs.Str.{chars}
use Rattle.lexer.proofs.Fronts.{lone_sign}
use Rattle.lexer.proofs.Letters.{part_begins}
use Rattle.lexer.proofs.Nexts.{next_single}
use Rattle.lexer.proofs.Reading.{moved}
use Rattle.lexer.proofs.Signs.{no_double, no_triple}
use Rattle.lexer.proofs.pieces.cut_piece.Goals as goal

pub cut_word-requires-clause-begins : goal.cut_word-requires-clause-begins
cut_word-requires-clause-begins c =
    part_begins _ (sym c.is_name_part.ensures ∙ c.if-is_name_part.true) (sym c.is_ascii_digit.ensures.value ∙ c.if-is_ascii_digit.false)

pub returns-in-Some : goal.returns-in-Some
returns-in-Some c =
    let byte = get_or c.as_bytes.result.now 0 0 in
    let after = chars c.pass_ascii.result.now in
    let split : chars c.args.text.now ≡ byte ∷ after =
    c.pass_ascii.ensures ∙ ap (λ bytes. get_or bytes 0 0 ∷ after) (sym c.as_bytes.ensures.value) in (
      byte ∷ [],
      moved _ _ _ _ _ _ _ _ (sym split) refl refl refl
          (next_single byte after c.in-Some.kind (lone_sign byte c.in-Some.kind c.in-Some.ensures.sign c.in-Some.ensures.no_solidus) c.in-Some.ensures.sign
          (no_triple byte after c.in-Some.ensures.single) (no_double byte after c.in-Some.ensures.alone)),
    )
