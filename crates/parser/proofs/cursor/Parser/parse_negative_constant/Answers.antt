use Rattle.std.proofs.Common.{rules}
use Rattle.parser.specs.Parts.{negative_constant}
use Rattle.parser.specs.Reading.{read}
use Rattle.parser.proofs.cursor.Parser.parse_negative_constant.Goals as goal

pub returns-in_err-value : goal.returns-in_err-value
unfolding negative_constant read
returns-in_err-value c = search rules
