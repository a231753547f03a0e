use Rattle.std.proofs.Common.{◌≡◌, ◌<◌, length, get_or, sym, ap, ◌∙◌, arith}
use Rattle.std.specs.Prelude.{nat_lt}
use Rattle.std.proofs.lemmas.Bool.{ltb-true}
use Rattle.lexer.specs.Scan.{holds}
use Rattle.lexer.proofs.Steps.{run_end, chars-empty, stopped_ascii}
use Rattle.lexer.proofs.pieces.skip_run.Goals as goal

pub returns-in_default : goal.returns-in_default
returns-in_default c =
    let same = ap length c.as_bytes.ensures.value in
    let rest = c.skip_ascii-rest.result.now in
    let none : length rest ≡ 0 = omega (arith, same, c.in_default.len_below) in
    run_end (holds c.args.class) _ (chars-empty rest none) ∙ c.skip_ascii-rest.ensures.run

pub returns-in_default-2 : goal.returns-in_default-2
returns-in_default-2 c =
    let same = ap length c.as_bytes.ensures.value in
    let rest = c.skip_ascii-rest.result.now in
    let some : 0 < length rest = omega (arith, same, c.in-len1-up.len_at_least) in
    let ascii = sym c.is_ascii.ensures ∙ c.if-not-is_ascii.false in
    let small : get_or rest 0 0 < 128 = ltb-true (get_or rest 0 0) 128
    (ap (λ bytes. nat_lt (get_or bytes 0 0) 128) (sym c.as_bytes.ensures.value) ∙ ascii) in
    stopped_ascii c.args.class rest c.skip_ascii-rest.utf8 some small c.skip_ascii-rest.ensures.stops ∙ c.skip_ascii-rest.ensures.run
