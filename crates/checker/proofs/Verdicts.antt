-- What a check answers of a source.
use Rattle.std.proofs.Common.{◌≡◌, refl, sym, subst, ℕ, List, []}
use Rattle.std.specs.Prelude.{Some}
use Rattle.principals.specs.ActsFor.{PrincipalHierarchy}
use Rattle.resolved.specs.declared.program.Core.{Core}
use Rattle.resolved.specs.CoreOf.{program_of}
use Rattle.resolved.specs.Labelled.{Labelled, exit_faults}
use Rattle.acceptance.specs.Accepted.{IsAccepted, IsResolvedFrom}
use Rattle.acceptance.specs.Refused.{IsSourceRefused, WrongFlow}
use Rattle.acceptance.specs.declared.kind.RefusalKind.TheVariants as kinds
use Rattle.acceptance.specs.declared.kind.Text.TheVariants as texts
use Rattle.acceptance.proofs.Demands.{first-unmet}
use Rattle.acceptance.proofs.Phases.{accepted_refused}
use Rattle.checker.specs.Reported.{IsNotAccepted, IsSourceFault, refusal_at}
use Rattle.checker.specs.Steps.{RefusesProgram}
use Rattle.checker.specs.declared.fault.RefusedFlow.{RefusedFlow}
use Rattle.checker.specs.declared.fault.Refusal.{Refusal}

-- a program that is kept stands for the source
pub accepted-from : (h : PrincipalHierarchy) (source : List ℕ) (core kept : Core) → kept ≡ core → IsResolvedFrom h source (program_of core) → exit_faults (program_of core) ≡ [] →
    Labelled (program_of kept) → IsAccepted h source (program_of kept)
accepted-from h source core kept same from ended labelled = record {
  resolved = subst (λ c. IsResolvedFrom h source (program_of c)) (sym same) from;
  ended = subst (λ c. exit_faults (program_of c) ≡ []) (sym same) ended;
  labelled = labelled;
}

-- a refused source is not accepted
pub refused-not-accepted : (h : PrincipalHierarchy) (source : List ℕ) (refusal : Refusal) → IsSourceFault h source refusal → IsNotAccepted h source
refused-not-accepted h source refusal fault program accepted = accepted_refused h source program refusal.kind fault.at accepted fault.refused

-- a program that is refused for a flow
module _ (h : PrincipalHierarchy) (source bytes : List ℕ) (core : Core) (flow : RefusedFlow) (same : bytes ≡ source) (from : IsResolvedFrom h source (program_of core))
    (ended : exit_faults (program_of core) ≡ []) (refused : RefusesProgram core flow) where
  resolved : IsResolvedFrom h source (program_of flow.core)
  resolved = subst (λ c. IsResolvedFrom h source (program_of c)) (sym refused.0) from

  unended : exit_faults (program_of flow.core) ≡ []
  unended = subst (λ c. exit_faults (program_of c) ≡ []) (sym refused.0) ended

  abbrev reported : Refusal
  reported = refusal_at texts.Source bytes kinds.FlowNotAllowed flow.at (Some flow)

  pub flow-fault : IsSourceFault h source reported
  flow-fault = record {
    text_is = refl;
    at = flow.at;
    refused = subst (IsSourceRefused h source kinds.FlowNotAllowed) (sym refused.1.at_is)
        (WrongFlow (program_of flow.core) resolved unended refused.1.last (first-unmet (program_of flow.core) flow.policy refused.1.chain refused.1.last refused.1.refused));
    place_of = rw same refl;
  }
