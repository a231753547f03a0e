use Rattle.std.proofs.Common.{◌≡◌, false}
use Rattle.lexer.specs.Scan.{after_close}
use Rattle.std.specs.Str.{chars, IsUtf8}
use Rattle.std.specs.Str.Iter.{chars_rest}
use Rattle.lexer.proofs.pieces.skip_comment.Given as goal

abbrev pub invariant-loop-character : goal.invariant-loop-character
invariant-loop-character l =
    IsUtf8 (chars_rest l.characters)
    × (after_close l.starred (chars (chars_rest l.characters)) ≡ after_close false (chars l.text))
