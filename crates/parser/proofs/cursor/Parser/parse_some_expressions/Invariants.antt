use Rattle.std.proofs.Common.{length, map}
use Rattle.lexer.specs.Terminal.{terminals_of}
use Rattle.syntax.specs.Tree.{expression_tree}
use Rattle.parser.specs.ReadGrammar.{expression, separated, ◌▸◌}
use Rattle.parser.specs.Reading.{read}
use Rattle.parser.proofs.Loops.{ReadsOn}
use Rattle.parser.proofs.cursor.Parser.parse_some_expressions.Given as goal

abbrev pub invariant-loop-self : goal.invariant-loop-self
invariant-loop-self l =
    ReadsOn l.room ("," ▸ expression) (map expression_tree l.expressions.items) (terminals_of l.self.rest.now) (read l.room (separated "," expression) (terminals_of l.fn.self.rest.now))

abbrev pub decreases-loop-self : goal.decreases-loop-self
decreases-loop-self l = length l.self.rest.now
