use Rattle.std.proofs.Common.{◌≡◌, List, ℕ, None, Option, sym, subst}
use Rattle.std.proofs.lemmas.Result.{err_from_is_err_and}
use Rattle.common.specs.Answers.{IfRefused}
use Rattle.common.specs.declared.fault.OrNoMemory.{OrNoMemory}
use Rattle.common.specs.declared.fault.OrNoMemory.TheVariants.{NoMemory, Refused}
use Rattle.channels.specs.World.{InputNumbers}
use Rattle.modules.specs.Contents.{ModuleContents}
use Rattle.principals.specs.ActsFor.{PrincipalHierarchy}
use Rattle.host.specs.Meaning.{CanOpen, CannotOpen, IsContained}
use Rattle.host.specs.declared.fault.HostRefusal.{HostRefusal}
use Rattle.host.specs.declared.fault.HostRefusal.TheVariants.{NotContained}
use Rattle.host.proofs.session.first_session.Goals as goal

-- a hierarchy that does not contain that of a module which is spelled, and has this world, is why it is not opened
not_contained : (bytes : List ℕ) (world : List InputNumbers) (under : Option PrincipalHierarchy) (m : ModuleContents) → CanOpen bytes world None m
    → (fault : OrNoMemory HostRefusal) → IfRefused (λ refusal. (refusal ≡ NotContained) × ¬ IsContained m under) fault → IfRefused (CannotOpen bytes world under) fault
not_contained bytes world under m opens NoMemory why = tt
not_contained bytes world under m opens (Refused refusal) why =
    subst (CannotOpen bytes world under) (sym why.0) (m, opens.spelled, opens.not_refused, opens.named, why.1)

pub returns-in_err-larger-clause-rejected : goal.returns-in_err-larger-clause-rejected
returns-in_err-larger-clause-rejected c =
    let bytes = c.args.bytes.now in
    let m = c.module.result.now in
    let opens = subst (λ (m : ModuleContents). CanOpen bytes c.args.world None m) (sym c.module.ensures) c.in_ok-machine.ensures.accepted in
    let p = err_from_is_err_and c.from_residual-in_err-larger.result c.from_residual-in_err-larger.ensures.1 in
    rw (p.1, p.2) (not_contained bytes c.args.world c.args.under m opens c.in_err-larger.field-0.0 c.in_err-larger.ensures.rejected)
