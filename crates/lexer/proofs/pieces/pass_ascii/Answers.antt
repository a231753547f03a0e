use Rattle.std.proofs.Common.{◌∷◌, get_or, sym, ap, ◌∙◌}
use Rattle.std.specs.Str.{chars}
use Rattle.std.proofs.lemmas.Str.{IsCharBoundary-after_ascii}
use Rattle.lexer.proofs.Steps.{ascii_front}
use Rattle.lexer.proofs.pieces.pass_ascii.Goals as goal

pub split_at-requires : goal.split_at-requires
split_at-requires c = IsCharBoundary-after_ascii c.args.text.now 0 c.utf8.text c.requires.goes_on c.requires.ascii

pub returns : goal.returns
returns c =
    let text = c.args.text.now in
    ascii_front text c.utf8.text c.requires.goes_on c.requires.ascii
    ∙ ap (λ t. get_or text 0 0 ∷ chars t) (sym c.split_at.ensures.back)
