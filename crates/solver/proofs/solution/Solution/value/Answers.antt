use Rattle.std.proofs.Common.{◌≡◌, ◌<◌, All, sym, ap, subst, ◌∙◌, length, arith}
use Rattle.solver.specs.Constraints.{Solved}
use Rattle.solver.proofs.Values.{length-reached_by}
use Rattle.solver.proofs.solution.Solution.value.Goals as goal

pub join_all-requires : goal.join_all-requires
join_all-requires g c =
    let len : length c.args.self.now.reached ≡ c.self.inside.count = ap (λ (s : Solved). length s.reached) (sym c.self.view_is) ∙ length-reached_by 0 c.self.inside.count c.self.inside.rows in
    let inside : All (λ number. number < c.self.inside.count) c.deref.result.now =
    subst (All (λ number. number < c.self.inside.count)) (sym c.deref.ensures.value) c.in_ok-numbers.ensures.inside in
    λ k d h. omega (arith, len, c.requires, inside k d h)
