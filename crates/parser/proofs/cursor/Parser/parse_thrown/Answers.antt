use Rattle.std.proofs.Common.{rules}
use Rattle.parser.specs.Parts.{thrown}
use Rattle.parser.specs.Reading.{read}
use Rattle.parser.proofs.cursor.Parser.parse_thrown.Goals as goal

pub returns-in_err-name : goal.returns-in_err-name
unfolding thrown read
returns-in_err-name c = search rules
