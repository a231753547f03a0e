use Rattle.std.proofs.Common.{rules}
use Rattle.parser.specs.Parts.{global, global_value}
use Rattle.parser.specs.Reading.{read}
use Rattle.parser.proofs.cursor.Parser.parse_global.Goals as goal

pub returns-in_err-base : goal.returns-in_err-base
unfolding global global_value read
returns-in_err-base c = search rules
