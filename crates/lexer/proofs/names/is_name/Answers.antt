use Rattle.std.proofs.Common.{◌≡◌, ◌&&◌, Bool, true, not, Option, is_some, refl, ap, sym, ◌∙◌, arith}
use Rattle.std.proofs.lemmas.Bool.Decides.{nat_tests}
use Rattle.std.specs.Str.{chars}
use Rattle.lexer.specs.KindRows.{keyword_rows, keyword_of}
use Rattle.lexer.specs.Words.{is_identifier}
use Rattle.lexer.proofs.Fixed.{is_keyword}
use Rattle.lexer.specs.declared.token.Kind.{Kind}
use Rattle.lexer.proofs.Tables.{same_lookup}
use Rattle.lexer.proofs.names.is_name.Goals as goal

both : (a r : Bool) (o : Option Kind) → a ≡ true → is_some o ≡ not r → r ≡ (a && not (is_some o))
both a r o e h = grind (arith, nat_tests)

pub returns-then-is_identifier : goal.returns-then-is_identifier
returns-then-is_identifier c =
    let text = c.args.text.now in
    let same = c.find_keyword.ensures ∙ same_lookup keyword_rows refl text c.utf8.text in
    both (is_identifier (chars text)) _ (keyword_of (chars text)) (sym c.is_identifier.ensures ∙ c.if-is_identifier.true) (ap is_some (sym same) ∙ c.is_none.ensures)
    ∙ ap (λ b. is_identifier (chars text) && not b) (sym (is_keyword (chars text)))
