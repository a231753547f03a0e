use Rattle.std.proofs.Common.{rules, ◌≡◌, ◌+◌, length}
use Rattle.std.proofs.lemmas.Result.{on_ok_weaker}
use Rattle.resolved.specs.Tree.{Short}
use Rattle.resolved.specs.TreeOf.{expression_of}
use Rattle.lowering.specs.Expressions.{branch_size}
use Rattle.lowering.proofs.Appending.{short-branched}
use Rattle.lowering.proofs.conditions.+push_branch.Goals as goal

pub returns-in_ok-push_branch-in-Short : goal.returns-in_ok-push_branch-in-Short
returns-in_ok-push_branch-in-Short t c =
    let left = expression_of c.deref-in-Short-2.result.now.0 in
    let right = expression_of c.deref-in-Short-3.result.now.1 in
    let tree : expression_of c.args.condition.now ≡ Short c.in-Short.connective left right = search rules in
    let position : c.args.beyond ≡ length c.args.code.now.items + branch_size c.decides_at-decides.result left + branch_size c.args.wanted right = search rules in
    on_ok_weaker c.push_branch-in-Short-2.result
    (λ made. short-branched c.args.code.now.items c.push_branch-in-Short.new.code.items _ left right c.in-Short.connective _ c.args.wanted c.decides_at-decides.result c.args.target _ c.inner_target-inner.result
    c.decides_at-decides.ensures position c.inner_target-inner.ensures c.in_ok-push_branch-in-Short.ensures made tree)
    c.push_branch-in-Short-2.ensures
