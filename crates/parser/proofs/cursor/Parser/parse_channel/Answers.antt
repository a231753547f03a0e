use Rattle.std.proofs.Common.{rules}
use Rattle.parser.specs.Parts.{channel}
use Rattle.parser.specs.Reading.{read}
use Rattle.parser.proofs.cursor.Parser.parse_channel.Goals as goal

pub returns-in_err-at : goal.returns-in_err-at
unfolding channel read
returns-in_err-at c = search rules
