use Rattle.std.proofs.Common.{rules}
use Rattle.parser.specs.Parts.{receive}
use Rattle.parser.specs.Reading.{read}
use Rattle.parser.proofs.cursor.Parser.parse_receive.Goals as goal

pub returns-in_err-channel : goal.returns-in_err-channel
unfolding receive read
returns-in_err-channel c = search rules
