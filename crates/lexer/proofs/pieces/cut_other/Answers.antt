use Rattle.std.proofs.Common.{sym, ◌∙◌}
use Rattle.std.specs.Str.{chars}
use Rattle.lexer.proofs.Steps.{sign_front}
use Rattle.lexer.proofs.pieces.cut_other.Goals as goal

pub cut_sign-requires-clause-begins : goal.cut_sign-requires-clause-begins
cut_sign-requires-clause-begins c =
    sign_front c.args.text.now c.in-Some.first (chars c.in-Some.after.now) c.utf8.text c.in-Some.ensures c.requires.dark c.requires.apart
    (sym c.begins_far_name.ensures ∙ c.if-begins_far_name.false) c.in-Some.first-test.1
