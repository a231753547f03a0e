use Rattle.std.proofs.Common.{◌≡◌, ◌<◌, ◌≤◌, ap, sym, subst, ◌∙◌, ◌||◌, ℕ, List, Bool, [], get_or, length, arith}
use Rattle.std.proofs.lemmas.List.{get_or_default}
use Rattle.labels.specs.Row.{has}
use Rattle.solver.specs.Sharing.{nothing_kept}
use Rattle.solver.specs.declared.sharing.Kept.{Kept}
use Rattle.solver.proofs.Standing.{whole-row}
use Rattle.solver.proofs.sharing.SharedRows.include_in.Goals as goal
use Rattle.solver.proofs.sharing.SharedRows.include_in.Goals.{In-Whole}

own_is : (c : In-Whole) → c.in-Whole.own ≡ get_or c.args.self.now c.args.unknown []
own_is c =
    let kept = c.self.inside.kept.items in
    let of = c.self.inside.of.items in
    let number = c.index.result.now in
    let there : c.args.unknown < length of = omega (arith, c.if-unknown-len.true, c.len.ensures, c.self.inside.of.ok.0) in
    let inside : number < length kept = subst (λ (k : ℕ). k < length kept) (sym c.index.ensures) (c.self.invariant.inside c.args.unknown number there) in
    whole-row kept of c.args.self.now c.args.unknown number c.in-Whole.own c.self.invariant.forms there c.index.ensures inside
    (ap (λ (x : Kept). x.form) (get_or_default kept number nothing_kept c.index-then-unknown-len.result.now inside ∙ sym c.index-then-unknown-len.ensures) ∙ c.in-Whole.is)
    c.self.view_is

pub include-requires : goal.include-requires
include-requires c = subst (λ (row : List Bool). length row ≤ length c.args.row.now) (sym (own_is (goal.at.include-requires c).In-Whole)) c.requires

pub returns-in-Whole-clause-members : goal.returns-in-Whole-clause-members
returns-in-Whole-clause-members c = λ n.
    c.include.ensures.members n ∙ ap (λ (row : List Bool). has c.args.row.now n || has row n) (own_is (goal.at.returns-in-Whole-clause-members c).In-Whole)
