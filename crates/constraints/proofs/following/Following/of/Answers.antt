use Rattle.std.proofs.lemmas.Result.{IfOk-weaker}
use Rattle.constraints.specs.Added.{Stored}
use Rattle.constraints.specs.Following.{IsCallPath}
use Rattle.std.proofs.Common.{ℕ, List}
use Rattle.constraints.proofs.following.Following.of.Goals as goal

pub returns-then-count-eq0 : goal.returns-then-count-eq0
returns-then-count-eq0 c =
    IfOk-weaker c.none.result (λ following. (real : ℕ) (base : List Stored) → IsCallPath real base following.last × IsCallPath real base following.first)
    (λ following. IsCallPath c.args.real c.args.constraints.now following.last × IsCallPath c.args.real c.args.constraints.now following.first)
    (λ following each. each c.args.real c.args.constraints.now) c.none.ensures
