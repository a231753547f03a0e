use Rattle.std.proofs.Common.{◌≡◌, sym, ◌∙◌, subst, ap}
use Rattle.std.specs.Ordering.{is_eq}
use Rattle.std.specs.Prelude.{IsTrue, Bool, ◌↔◌}
use Rattle.labels.specs.PolicyOrder.{policy_eq}
use Rattle.labels.proofs.Written.{policy_eq-decides}
use Rattle.labels.proofs.policies.PolicyPartialEq.eq.Goals as goal

pub returns-clause-same : goal.returns-clause-same
returns-clause-same c =
    let answer : c.is_eq.result ≡ policy_eq c.args.self.now c.args.other.now = c.is_eq.ensures ∙ ap is_eq c.cmp.ensures in
    let Says : Bool → Type 0 = λ b. IsTrue b ↔ (c.args.self.now ≡ c.args.other.now) in
    subst Says (sym answer) (policy_eq-decides c.args.self.now c.args.other.now)
