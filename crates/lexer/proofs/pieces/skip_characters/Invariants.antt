use Rattle.std.proofs.Common.{◌≡◌, length}
use Rattle.lexer.specs.Scan.{holds, after_run}
use Rattle.std.specs.Str.{chars, IsUtf8}
use Rattle.std.specs.Str.Iter.{chars_rest}
use Rattle.lexer.proofs.pieces.skip_characters.Given as goal

abbrev pub invariant-loop-character : goal.invariant-loop-character
invariant-loop-character l =
    IsUtf8 (chars_rest l.characters)
    × (after_run (holds l.class) (chars (chars_rest l.characters)) ≡ after_run (holds l.class) (chars l.text))

abbrev pub decreases-loop-character : goal.decreases-loop-character
decreases-loop-character l = length (chars_rest l.characters)
