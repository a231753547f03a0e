use Rattle.std.proofs.Common.{ℕ, List, Option, ◌∷◌, sym, ap, subst, ◌∙◌}
use Rattle.std.specs.Option.{MatchOption}
use Rattle.std.specs.Str.{chars}
use Rattle.std.proofs.lemmas.Str.{chars-nil}
use Rattle.std.specs.Borrow.{Bor}
use Rattle.lexer.specs.Scan.{IsNoTriple, IsTriple}
use Rattle.lexer.specs.declared.token.Kind.{Kind}
use Rattle.lexer.proofs.Signs.{no_triple}
use Rattle.lexer.proofs.pieces.cut_triple_sign.Goals as goal

pub returns-in_err-second : goal.returns-in_err-second
returns-in_err-second c =
    let empty = ap chars c.in_err-second.ensures ∙ chars-nil in
    let P : Option (Kind × Bor (List ℕ)) → Type 0 = λ o. MatchOption o (IsNoTriple c.args.first (chars c.args.after.now)) (λ sign. IsTriple c.args.first (chars c.args.after.now) sign.0 (chars sign.1.now)) in
    subst P (sym c.from_residual.ensures) (subst (IsNoTriple c.args.first) (sym empty) tt)

pub returns-in_err-third : goal.returns-in_err-third
returns-in_err-third c =
    let empty = ap chars c.in_err-third.ensures ∙ chars-nil in
    let alone = c.in_ok-second.ensures ∙ ap (λ t. c.in_ok-second.second ∷ t) empty in
    let P : Option (Kind × Bor (List ℕ)) → Type 0 = λ o. MatchOption o (IsNoTriple c.args.first (chars c.args.after.now)) (λ sign. IsTriple c.args.first (chars c.args.after.now) sign.0 (chars sign.1.now)) in
    subst P (sym c.from_residual-in_err-third.ensures) (subst (IsNoTriple c.args.first) (sym alone) tt)

pub returns-then-not-begins_triple : goal.returns-then-not-begins_triple
returns-then-not-begins_triple c = no_triple c.args.first (chars c.args.after.now) (sym c.begins_triple.ensures ∙ c.if-not-begins_triple.true)
