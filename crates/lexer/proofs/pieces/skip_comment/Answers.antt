use Rattle.std.proofs.Common.{◌≡◌, ◌==◌, ◌&&◌, Some, false, sym, ap, ◌∙◌}
use Rattle.std.proofs.lemmas.Bool.{and_left, and_right, ne_eqb}
use Rattle.std.specs.Str.{chars}
use Rattle.std.specs.Str.Iter.{chars_rest}
use Rattle.lexer.specs.Scan.{after_close}
use Rattle.lexer.proofs.Steps.{step, close_found, close_on, chars-empty}
use Rattle.lexer.proofs.pieces.skip_comment.Goals as goal
use Rattle.lexer.proofs.pieces.skip_comment.Goals.{else-starred-via-then-starred+else-character-eq47, else-starred-via-else-starred}

pub returns-then-character-eq47 : goal.returns-then-character-eq47
returns-then-character-eq47 c =
    let h = step _ (chars_rest c.next.new.self) c.in-Some.character c.loop-character.invariant.0 c.in-Some.ensures.steps.0 in
    sym c.loop-character.invariant.1
    ∙ (close_found _ _ _ _ h.characters c.if-starred.true c.if-character-eq47.true ∙ ap (λ t. Some (chars t)) (sym c.as_str.ensures))

pub loop-character-preserved : goal.loop-character-preserved
loop-character-preserved c =
    let h = step _ (chars_rest c.next.new.self) c.in-Some.character c.loop-character.invariant.0 c.in-Some.ensures.steps.0 in
    let on : (c.loop-character.starred && c.in-Some.character == 47) ≡ false =
    elim c.else-starred.branch [
      | else-starred-via-then-starred+else-character-eq47 w ↦ and_right _ _ (ne_eqb _ _ w.if-character-eq47.false)
      | else-starred-via-else-starred w ↦ and_left _ _ w.if-starred.false
    ] in
    (h.utf8, sym (close_on _ _ _ _ h.characters on) ∙ c.loop-character.invariant.1)

pub returns : goal.returns
returns c =
    sym c.loop-character.invariant.1
    ∙ ap (after_close c.loop-character.starred) (chars-empty _ c.in_default.ensures.steps.0.0)
