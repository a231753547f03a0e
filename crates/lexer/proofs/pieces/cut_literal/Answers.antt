use Rattle.std.proofs.Common.{◌<◌, refl, subst}
use Rattle.std.specs.Char.{is_ascii_digit}
use Rattle.std.specs.Str.{chars}
use Rattle.std.specs.Str.Parse.{digits_value}
use Rattle.lexer.proofs.Reading.{moved, run_tail, literal_read, literal_small, literal_large, parsed_ok, parsed_err}
use Rattle.lexer.proofs.pieces.cut_literal.Goals as goal
use Rattle.lexer.proofs.pieces.cut_literal.Goals.{in_default-via-in-Ok+else-value-le-MAX_INTEGER, in_default-via-in_default}

pub take_front-requires : goal.take_front-requires
take_front-requires c = run_tail is_ascii_digit _ c.args.first (chars c.args.after.now) _ c.requires.split c.skip_run-rest.ensures

pub returns-in-Ok : goal.returns-in-Ok
returns-in-Ok c =
    let front = c.take_front.result.now in
    let (next, (digits, some)) = literal_read _ _ (chars c.args.after.now) _ (chars front) c.requires.split c.skip_run-rest.ensures c.requires.digit c.take_front.ensures in
    let value = parsed_ok front _ c.in-Ok.value c.parse.ensures.value.0 c.take_front.utf8 digits c.in-Ok.is in
    (chars front, moved _ _ _ _ _ _ _ _ refl (literal_small (chars front) _ value c.if-value-le-MAX_INTEGER.true) refl refl next)

pub returns-in_default : goal.returns-in_default
returns-in_default c =
    let front = c.take_front.result.now in
    let (next, (digits, some)) = literal_read _ _ (chars c.args.after.now) _ (chars front) c.requires.split c.skip_run-rest.ensures c.requires.digit c.take_front.ensures in
    let large : 2147483647 < digits_value 10 (chars front) = elim c.in_default.branch [
      | in_default-via-in-Ok+else-value-le-MAX_INTEGER w ↦
          let value = parsed_ok front _ w.in-Ok.value c.parse.ensures.value.0 c.take_front.utf8 digits w.in-Ok.is in
          let above = w.if-value-le-MAX_INTEGER.false in
          subst (λ v. 2147483647 < v) value above
      | in_default-via-in_default w ↦ parsed_err front _ w.in_default.field-0 c.parse.ensures.value.0 c.take_front.utf8 digits some w.in_default.is
    ] in
    (refl, (chars front, _, moved _ _ _ _ _ _ _ _ refl (literal_large (chars front) large) refl refl next))
