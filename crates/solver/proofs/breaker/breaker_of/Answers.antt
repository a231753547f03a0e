use Rattle.std.proofs.Common.{◌≡◌, ap, ◌∙◌, ℕ, length, List}
use Rattle.std.proofs.lemmas.Result.{IfOk-weaker}
use Rattle.labels.specs.Row.{has}
use Rattle.solver.specs.Broken.{is_below}
use Rattle.solver.specs.Rows.{left_has}
use Rattle.solver.specs.declared.constraints.Atom.{Atom}
use Rattle.solver.proofs.Comparing.{breaker-of}
use Rattle.solver.proofs.breaker.breaker_of.Goals as goal

pub returns-clause-breaker : goal.returns-clause-breaker
returns-clause-breaker g c =
    let below = is_below (g.W.WrittenElements.order c.args.written.now) (g.W.WrittenElements.elements c.args.written.now) in
    let count = length (g.W.WrittenElements.elements c.args.written.now) in
    let rows = c.args.rows.now in
    let left = c.args.constraint.now.left.items in
    let members : (n : ℕ) → has c.in_ok-left.left n ≡ left_has rows left n =
    λ n. c.in_ok-left.ensures.members n ∙ ap (λ (xs : List Atom). left_has rows xs n) c.as_slice.ensures in
    IfOk-weaker c.first_above.result _ _
    (λ found first. breaker-of below count rows left c.args.constraint.now.right c.in-Written.to c.in_ok-left.left found c.in-Written.is (c.in_ok-left.ensures.count ∙ c.len.ensures) members first)
    c.first_above.ensures.first
