use Rattle.std.proofs.Common.{length, map}
use Rattle.lexer.specs.Terminal.{terminals_of}
use Rattle.parser.specs.ReadForm.{many}
use Rattle.parser.specs.ReadGrammar.{item}
use Rattle.syntax.specs.Tree.{item_tree}
use Rattle.parser.specs.Reading.{read}
use Rattle.parser.proofs.Loops.{ReadsOn}
use Rattle.parser.proofs.cursor.Parser.parse_items.Given as goal

abbrev pub invariant-loop-self : goal.invariant-loop-self
invariant-loop-self l =
    ReadsOn 64 item (map item_tree l.items.items) (terminals_of l.self.rest.now) (read 64 (many item) (terminals_of l.fn.self.rest.now))

abbrev pub decreases-loop-self : goal.decreases-loop-self
decreases-loop-self l = length l.self.rest.now
