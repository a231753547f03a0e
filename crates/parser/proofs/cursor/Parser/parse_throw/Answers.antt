use Rattle.std.proofs.Common.{rules}
use Rattle.parser.specs.Parts.{throw_statement}
use Rattle.parser.specs.Reading.{read}
use Rattle.parser.proofs.cursor.Parser.parse_throw.Goals as goal

pub returns-in_err-exception : goal.returns-in_err-exception
unfolding throw_statement read
returns-in_err-exception c = search rules
