use Rattle.std.proofs.Common.{ℕ, get_or, slice_get, sym, ap, subst, ◌∙◌}
use Rattle.modules.specs.Contents.{ModuleContents}
use Rattle.verifier.specs.Depth.{IsGreatestDepth}
use Rattle.verifier.specs.declared.positions.Code.{Code}
use Rattle.verifier.proofs.verified.Verified.greatest_depth.Goals as goal

pub returns : goal.returns
returns c = λ p there.
    subst (λ (n : ℕ). IsGreatestDepth c.args.self.now p n) (sym (ap (λ (code : Code). code.greatest_depth) c.index.ensures))
    (subst (λ (m : ModuleContents). IsGreatestDepth m p (get_or c.self.inside.codes.items c.args.procedure c.index.result.now).greatest_depth) c.self.view_is
    (c.self.invariant.codes_are c.args.procedure p c.index.result.now (ap (λ (m : ModuleContents). slice_get m.procedures c.args.procedure) c.self.view_is ∙ there)).depth)
