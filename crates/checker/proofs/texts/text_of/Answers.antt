use Rattle.std.proofs.Common.{arith}
use Rattle.std.proofs.lemmas.Str.{IsUtf8-from_is_utf8, is_utf8-from_IsUtf8}
use Rattle.acceptance.specs.Refused.{NotUtf8, TooLong}
use Rattle.checker.proofs.texts.text_of.Goals as goal
use Rattle.checker.proofs.texts.text_of.Goals.{then-bytes-gt-MAX_TEXT, else-bytes-gt-MAX_TEXT+in-Err}

pub returns-in-Ok-clause-text : goal.returns-in-Ok-clause-text
returns-in-Ok-clause-text c = record {
  short = omega (arith, c.if-bytes-gt-MAX_TEXT.false);
  characters = is_utf8-from_IsUtf8 c.args.bytes.now c.in-Ok.ensures.cases.1;
}

pub returns-clause-none : goal.returns-clause-none
returns-clause-none c = elim c.if-bytes-gt-MAX_TEXT.branch [
  | then-bytes-gt-MAX_TEXT w ↦ record {
    kind = c.if-bytes-gt-MAX_TEXT.kind;
    no_text = rw w.kind-is (TooLong (omega (arith, w.if-bytes-gt-MAX_TEXT.true)));
    refusal_is = c.refusal_at.ensures;
  }
  | else-bytes-gt-MAX_TEXT+in-Err w ↦ record {
    kind = c.if-bytes-gt-MAX_TEXT.kind;
    no_text = rw w.kind-is
        (NotUtf8 (omega (arith, w.if-bytes-gt-MAX_TEXT.false)) (λ t. w.in-Err.ensures.cases.0 (IsUtf8-from_is_utf8 c.args.bytes.now t)));
    refusal_is = c.refusal_at.ensures;
  }
]
