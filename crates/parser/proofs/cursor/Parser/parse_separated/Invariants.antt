use Rattle.std.proofs.Common.{ℕ, length, map}
use Rattle.lexer.specs.KindOf.{text_of}
use Rattle.lexer.specs.Terminal.{terminals_of}
use Rattle.parser.specs.ReadGrammar.{separated, ◌▸◌}
use Rattle.parser.specs.Reading.{read}
use Rattle.parser.proofs.Loops.{ReadsOn}
use Rattle.parser.proofs.cursor.Parser.parse_separated.Given as goal

abbrev pub invariant-loop-separator : goal.invariant-loop-separator
invariant-loop-separator g l =
    (room : ℕ) → ReadsOn room (text_of l.separator ▸ g.T.Listed.form) (map g.T.Listed.tree l.list.items) (terminals_of l.self.rest.now) (read room (separated (text_of l.separator) g.T.Listed.form) (terminals_of l.fn.self.rest.now))

abbrev pub decreases-loop-separator : goal.decreases-loop-separator
decreases-loop-separator g l = length l.self.rest.now
