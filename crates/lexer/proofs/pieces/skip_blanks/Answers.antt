use Rattle.std.proofs.Common.{◌∙◌}
use Rattle.std.specs.Str.{chars}
use Rattle.lexer.specs.Words.{is_white_space}
use Rattle.lexer.proofs.Steps.{dark_from, stops_run}
use Rattle.lexer.proofs.pieces.skip_blanks.Goals as goal

pub returns : goal.returns
returns c =
    let rest = c.skip_ascii.result.now in
    stops_run is_white_space (chars rest) (dark_from rest c.skip_ascii.utf8 c.skip_ascii.ensures.stops) ∙ c.skip_ascii.ensures.run
