-- The first fault of a program's exits is why the source is refused.
use Rattle.std.proofs.Common.{◌≡◌, ℕ, refl, subst, List, [], ◌∷◌}
use Rattle.std.specs.Prelude.{Some, None, slice_get}
use Rattle.std.proofs.lemmas.Option.{same_Some}
use Rattle.common.specs.declared.refusal.RefusalAt.{RefusalAt}
use Rattle.principals.specs.ActsFor.{PrincipalHierarchy}
use Rattle.resolved.specs.Program.{Program}
use Rattle.resolved.specs.Labelled.{exit_faults}
use Rattle.resolved.specs.declared.fault.ExitRefusalKind.{ExitRefusalKind}
use Rattle.acceptance.specs.Accepted.{IsResolvedFrom}
use Rattle.acceptance.specs.Refused.{IsSourceRefused, WrongEnd}
use Rattle.acceptance.specs.declared.kind.RefusalKind.TheVariants.{End}

pub ended : (h : PrincipalHierarchy) (source : List ℕ) (program : Program) (refusal : RefusalAt ExitRefusalKind) → IsResolvedFrom h source program
    → slice_get (exit_faults program) 0 ≡ Some refusal → IsSourceRefused h source (End refusal.kind) refusal.at
ended h source program refusal from first = by_faults (exit_faults program) refl first
  where
    by_faults : (faults : List (RefusalAt ExitRefusalKind)) → exit_faults program ≡ faults → slice_get faults 0 ≡ Some refusal
        → IsSourceRefused h source (End refusal.kind) refusal.at
    by_faults [] e none = let no : None ≡ Some refusal = none in absurd (cc)
    by_faults (first ∷ others) e some =
        let same : first ≡ refusal = same_Some first refusal some in
        subst (λ (r : RefusalAt ExitRefusalKind). IsSourceRefused h source (End r.kind) r.at) same (WrongEnd program from first others e)
