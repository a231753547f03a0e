use denote.Shadow.{shadow}
use denote.Text.{Utf8}
use Rattle.std.proofs.Common.{length}
use Rattle.lexer.specs.Terminal.{terminals_of}
use Rattle.std.specs.Str.{chars}
use Rattle.lexer.specs.Words.{is_white_space}
use Rattle.lexer.proofs.Growing.{IsCutSoFar}
use Rattle.lexer.specs.Scan.{Stops}
use Rattle.lexer.proofs.lexing.lex.Given as goal

abbrev pub invariant-loop-start : goal.invariant-loop-start
invariant-loop-start l = shadow (Utf8 l.rest) × (IsCutSoFar l.src l.rest (terminals_of l.tokens.items) × Stops is_white_space (chars l.rest))

abbrev pub decreases-loop-start : goal.decreases-loop-start
decreases-loop-start l = length l.rest
