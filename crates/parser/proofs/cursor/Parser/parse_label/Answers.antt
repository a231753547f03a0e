use Rattle.std.proofs.Common.{rules}
use Rattle.parser.specs.ReadGrammar.{label}
use Rattle.parser.specs.Reading.{read}
use Rattle.parser.proofs.cursor.Parser.parse_label.Goals as goal

pub returns-in_err-components : goal.returns-in_err-components
unfolding label read
returns-in_err-components c = search rules
