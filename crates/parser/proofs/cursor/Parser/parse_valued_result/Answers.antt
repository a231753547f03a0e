use Rattle.std.proofs.Common.{rules}
use Rattle.parser.specs.Parts.{valued}
use Rattle.parser.specs.Reading.{read}
use Rattle.parser.proofs.cursor.Parser.parse_valued_result.Goals as goal

pub returns-in_err-at : goal.returns-in_err-at
unfolding valued read
returns-in_err-at c = search rules
