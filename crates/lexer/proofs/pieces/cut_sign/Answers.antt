use Rattle.std.proofs.Common.{◌∷◌, [], Option, refl, sym, ap, subst, ◌∙◌}
use Rattle.std.specs.Str.{chars}
use Rattle.lexer.specs.Cut.{IsRefusedFor}
use Rattle.lexer.specs.declared.fault.LexRefusalKind.TheVariants.{NoToken}
use Rattle.lexer.specs.Scan.{IsNoTriple, Reads}
use Rattle.std.specs.Option.{MatchOption}
use Rattle.lexer.specs.declared.pieces.Piece.{Piece}
use Rattle.lexer.proofs.Nexts.{next_triple, next_double, next_single, none_next}
use Rattle.lexer.proofs.Reading.{moved, class-sign}
use Rattle.lexer.proofs.pieces.cut_sign.Goals as goal

pub returns-in-Some : goal.returns-in-Some
returns-in-Some c =
    let (second, third, parts, found) = c.in-Some.ensures in
    let whole = c.requires.split ∙ ap (λ t. c.args.first ∷ t) parts in (
      c.args.first ∷ second ∷ third ∷ [],
      moved _ _ _ _ _ _ _ _ (sym whole) refl refl refl
          (next_triple c.args.first second third (chars c.in-Some.rest.now) c.in-Some.kind (class-sign c.args.first c.requires.begins) found),
    )

pub returns-in-Some-cut_double_sign : goal.returns-in-Some-cut_double_sign
returns-in-Some-cut_double_sign c =
    let (second, parts, found) = c.in-Some-cut_double_sign.ensures in
    let whole = c.requires.split ∙ ap (λ t. c.args.first ∷ t) parts in (
      c.args.first ∷ second ∷ [],
      moved _ _ _ _ _ _ _ _ (sym whole) refl refl refl
          (next_double c.args.first second (chars c.in-Some-cut_double_sign.rest.now) c.in-Some-cut_double_sign.kind (class-sign c.args.first c.requires.begins) found (subst (IsNoTriple c.args.first) parts c.in_default.ensures)),
    )

pub returns-in_err-kind : goal.returns-in_err-kind
returns-in_err-kind c =
    let none = none_next c.args.first (chars c.args.after.now) (class-sign c.args.first c.requires.begins) (sym c.kind_of_sign.ensures ∙ c.in_err-kind.was) c.in_default.ensures c.in_default-cut_double_sign.ensures in
    let P : Option Piece → Type 0 = λ o. MatchOption o (IsRefusedFor (chars c.args.text.now) NoToken) (λ piece. Reads (chars c.args.text.now) piece.kind (chars piece.rest.now)) in
    subst P (sym c.from_residual.ensures) (subst (λ cs. IsRefusedFor cs NoToken) (sym c.requires.split) none)

pub returns : goal.returns
returns c = (
  c.args.first ∷ [],
  moved _ _ _ _ _ _ _ _ (sym c.requires.split) refl refl refl
      (next_single c.args.first (chars c.args.after.now) c.in_ok-kind.kind (class-sign c.args.first c.requires.begins) (sym c.kind_of_sign.ensures ∙ c.in_ok-kind.was) c.in_default.ensures c.in_default-cut_double_sign.ensures),
)
