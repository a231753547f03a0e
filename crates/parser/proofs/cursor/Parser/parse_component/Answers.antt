use Rattle.std.proofs.Common.{rules}
use Rattle.parser.specs.ReadGrammar.{component}
use Rattle.parser.specs.Reading.{read}
use Rattle.parser.proofs.cursor.Parser.parse_component.Goals as goal

pub returns-in_err-name : goal.returns-in_err-name
unfolding component read
returns-in_err-name c = search rules
