use Rattle.std.proofs.Common.{rules}
use Rattle.parser.specs.ReadGrammar.{size}
use Rattle.parser.specs.Reading.{read}
use Rattle.parser.proofs.cursor.Parser.parse_size.Goals as goal

pub returns-in_err-at : goal.returns-in_err-at
unfolding size read
returns-in_err-at c = search rules
