use Rattle.std.proofs.Common.{rules, tests, ◌≡◌, ◌∷◌, ◌&&◌, Bool, List, ℕ, sym, ap, ◌∙◌, true}
use Rattle.std.proofs.lemmas.Iterator.{YieldsList-from_chars}
use Rattle.std.proofs.lemmas.Iterator.Search.{all_from_yields_List}
use Rattle.std.proofs.lemmas.Str.{chars_past_char, IsUtf8-past_char}
use Rattle.std.specs.List.{list_all}
use Rattle.std.specs.Str.Iter.{chars_rest}
use Rattle.lexer.specs.Words.{is_identifier, may_begin}
use Rattle.unicode_ident.specs.Ident.{is_xid_continue}
use Rattle.lexer.proofs.names.is_identifier.Goals as goal

goes_on : (text rest : List ℕ) (c : ℕ) (begins all : Bool) → text ≡ c ∷ rest → begins ≡ may_begin c → begins ≡ true
    → all ≡ list_all is_xid_continue rest → all ≡ is_identifier text
goes_on text rest c begins all parts first begun others =
    others ∙ (ap (λ b. b && list_all is_xid_continue rest) (sym begun ∙ first) ∙ sym (ap is_identifier parts))

pub returns-in-Some : goal.returns-in-Some
returns-in-Some c =
    let text = c.args.text.now in
    let same = c.chars-characters.ensures.rest in
    let after = chars_rest c.next.new.self in
    let parted = sym same ∙ c.in-Some.ensures.steps.0 in
    let past = chars_past_char text after c.in-Some.first c.utf8.text parted in
    let all = all_from_yields_List is_xid_continue _ _ _ c.all.ensures.ran (YieldsList-from_chars after (IsUtf8-past_char text after c.in-Some.first c.utf8.text parted) (cc)) (λ x b q k. search (rules, tests)) in
    goes_on _ _ _ _ _ past c.begins_name.ensures c.if-begins_name.true all
