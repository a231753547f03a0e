use Rattle.std.proofs.Common.{rules}
use Rattle.parser.specs.Parts.{exception}
use Rattle.parser.specs.Reading.{read}
use Rattle.parser.proofs.cursor.Parser.parse_exception.Goals as goal

pub returns-in_err-name : goal.returns-in_err-name
unfolding exception read
returns-in_err-name c = search rules
