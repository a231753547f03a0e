use Rattle.std.proofs.Common.{◌≡◌, ◌&&◌, true, get_or, length, refl, sym, ap, ◌∙◌, arith}
use Rattle.std.proofs.lemmas.Str.{IsCharBoundary-start}
use Rattle.std.specs.Prelude.{nat_lt}
use Rattle.lexer.specs.Scan.{holds}
use Rattle.lexer.proofs.Steps.{ascii_on}
use Rattle.lexer.proofs.pieces.skip_ascii.Goals as goal

pub loop-at-init : goal.loop-at-init
loop-at-init c = record { within = omega arith; boundary = IsCharBoundary-start c.args.text.now c.utf8.text; run = refl }

pub loop-at-preserved : goal.loop-at-preserved
loop-at-preserved c =
    let text = c.args.text.now in
    let at = c.loop-at.at in
    let h = c.loop-at.invariant in
    let same = c.as_bytes-bytes.ensures.value in
    let long = ap length same in
    let passes : (nat_lt (get_or text at 0) 128 && holds c.args.class (get_or text at 0)) ≡ true =
    ap (λ bytes. nat_lt (get_or bytes at 0) 128 && holds c.args.class (get_or bytes at 0)) (sym same) ∙ sym c.holds_byte.ensures ∙ c.if-holds_byte.true in
    let more = ascii_on (holds c.args.class) text at c.utf8.text (omega (arith, c.loop-at-test.true, long)) h.boundary passes in
    record { within = omega (arith, c.loop-at-test.true, long); boundary = more.0; run = more.1 ∙ h.run }
