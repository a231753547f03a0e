use Rattle.std.proofs.Common.{rules}
use Rattle.parser.specs.ReadGrammar.{parameter}
use Rattle.parser.specs.Reading.{read}
use Rattle.parser.proofs.cursor.Parser.parse_parameter.Goals as goal

pub returns-in_err-at : goal.returns-in_err-at
unfolding parameter read
returns-in_err-at c = search rules
