use Rattle.lexer.specs.Patterns.{Word}
use Rattle.std.proofs.Common.{refl, sym, ap, ◌∙◌, unwrap_or}
use Rattle.std.specs.Str.{chars}
use Rattle.lexer.specs.KindOf.{kind_of}
use Rattle.lexer.specs.KindRows.{keyword_rows}
use Rattle.unicode_ident.specs.Ident.{is_xid_continue}
use Rattle.lexer.specs.declared.token.Kind.TheVariants.{Name}
use Rattle.lexer.proofs.Tables.{same_lookup}
use Rattle.lexer.proofs.Reading.{moved, run_tail, word_read}
use Rattle.lexer.proofs.pieces.cut_word.Goals as goal

pub take_front-requires : goal.take_front-requires
take_front-requires c = run_tail is_xid_continue _ c.args.first (chars c.args.after.now) _ c.requires.split c.skip_run-rest.ensures

pub returns : goal.returns
returns c =
    let front = c.take_front.result.now in
    let read = word_read _ _ (chars c.args.after.now) _ (chars front) c.requires.split c.skip_run-rest.ensures c.requires.begins c.take_front.ensures in
    let found = c.find_keyword.ensures ∙ same_lookup keyword_rows refl front c.take_front.utf8 in
    (chars front, moved _ _ _ _ _ _ _ _ refl (ap (λ o. Word (kind_of (unwrap_or o Name))) (sym found) ∙ ap (λ k. Word (kind_of k)) (sym c.unwrap_or-kind.ensures)) refl refl read)
