use Rattle.std.proofs.Common.{ℕ, List, Option, sym, ap, subst, ◌∙◌}
use Rattle.std.specs.Option.{MatchOption}
use Rattle.std.specs.Str.{chars}
use Rattle.std.proofs.lemmas.Str.{chars-nil}
use Rattle.std.specs.Borrow.{Bor}
use Rattle.lexer.specs.Scan.{IsNoDouble, IsDouble}
use Rattle.lexer.specs.declared.token.Kind.{Kind}
use Rattle.lexer.proofs.Signs.{no_double}
use Rattle.lexer.proofs.pieces.cut_double_sign.Goals as goal

pub returns-in_err-second : goal.returns-in_err-second
returns-in_err-second c =
    let empty = ap chars c.in_err-second.ensures ∙ chars-nil in
    let P : Option (Kind × Bor (List ℕ)) → Type 0 = λ o. MatchOption o (IsNoDouble c.args.first (chars c.args.after.now)) (λ sign. IsDouble c.args.first (chars c.args.after.now) sign.0 (chars sign.1.now)) in
    subst P (sym c.from_residual.ensures) (subst (IsNoDouble c.args.first) (sym empty) tt)

pub returns-then-not-begins_pair : goal.returns-then-not-begins_pair
returns-then-not-begins_pair c = no_double c.args.first (chars c.args.after.now) (sym c.begins_pair.ensures ∙ c.if-not-begins_pair.true)
