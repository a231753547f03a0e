use Rattle.std.proofs.Common.{◌∷◌, sym, ap, ◌∙◌}
use Rattle.std.specs.Str.{chars}
use Rattle.std.specs.Str.Iter.{chars_rest}
use Rattle.lexer.proofs.Steps.{step}
use Rattle.lexer.proofs.pieces.split_first.Goals as goal

pub returns : goal.returns
returns c =
    let parts = sym c.chars-characters.ensures.rest ∙ c.in_ok-first.ensures.steps.0 in
    let h = step c.args.text.now (chars_rest c.next.new.self) c.in_ok-first.first c.utf8.text parts in
    h.characters ∙ ap (λ t. c.in_ok-first.first ∷ chars t) (sym c.as_str.ensures)
