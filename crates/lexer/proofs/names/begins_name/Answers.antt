use Rattle.std.proofs.Common.{◌≡◌, ◌<◌, ◌==◌, ◌||◌, true, false, sym, ap, ◌∙◌}
use Rattle.std.proofs.lemmas.Bool.{ltb-true}
use Rattle.std.specs.Char.{is_ascii_alphabetic}
use Rattle.lexer.proofs.Letters.{may_begin-ascii}
use Rattle.lexer.proofs.names.begins_name.Goals as goal

pub returns-then-is_ascii_alphabetic : goal.returns-then-is_ascii_alphabetic
returns-then-is_ascii_alphabetic c =
    let small : c.args.character < 128 = ltb-true c.args.character 128 (sym c.is_ascii.ensures ∙ c.if-is_ascii.true) in
    let letter : is_ascii_alphabetic c.args.character ≡ true = sym c.is_ascii_alphabetic.ensures.value ∙ c.if-is_ascii_alphabetic.true in
    c.if-is_ascii_alphabetic.true ∙ sym (may_begin-ascii c.args.character small ∙ ap (λ b. b || c.args.character == 95) letter)

pub returns-else-is_ascii_alphabetic : goal.returns-else-is_ascii_alphabetic
returns-else-is_ascii_alphabetic c =
    let small : c.args.character < 128 = ltb-true c.args.character 128 (sym c.is_ascii.ensures ∙ c.if-is_ascii.true) in
    let other : is_ascii_alphabetic c.args.character ≡ false = sym c.is_ascii_alphabetic.ensures.value ∙ c.if-is_ascii_alphabetic.false in
    sym (may_begin-ascii c.args.character small ∙ ap (λ b. b || c.args.character == 95) other)
