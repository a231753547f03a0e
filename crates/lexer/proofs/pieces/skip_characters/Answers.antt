use Rattle.std.proofs.Common.{sym, ap, ◌∙◌}
use Rattle.lexer.specs.Scan.{holds}
use Rattle.std.specs.Str.{chars}
use Rattle.std.specs.Str.Iter.{chars_rest}
use Rattle.lexer.proofs.Steps.{step, run_on, run_stop, run_end, chars-empty}
use Rattle.lexer.proofs.pieces.skip_characters.Goals as goal

pub loop-character-preserved : goal.loop-character-preserved
loop-character-preserved c =
    let h = step _ (chars_rest c.next.new.self) c.in-Some.character c.loop-character.invariant.0 c.in-Some.ensures.steps.0 in
    (h.utf8, run_on _ _ _ _ h.characters (sym c.holds.ensures ∙ c.if-not-holds.false) ∙ c.loop-character.invariant.1)

pub returns-in_default : goal.returns-in_default
returns-in_default c =
    ap chars c.as_str-rest.ensures ∙ (run_end (holds c.args.class) _ (chars-empty _ c.in_default.ensures.steps.0.0) ∙ c.loop-character.invariant.1)

pub returns-then-not-holds : goal.returns-then-not-holds
returns-then-not-holds c =
    let h = step _ (chars_rest c.next.new.self) c.in-Some.character c.loop-character.invariant.0 c.in-Some.ensures.steps.0 in
    ap chars c.as_str-rest.ensures ∙ (run_stop (holds c.args.class) _ _ _ h.characters (sym c.holds.ensures ∙ c.if-not-holds.true) ∙ c.loop-character.invariant.1)
