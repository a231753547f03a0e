-- Private: what a phase finds wrong in a source: why it is refused, and at which byte.
-- Source: our own.
use Rattle.std.specs.Prelude.{◌≢◌, ℕ, List}
use Rattle.common.specs.declared.refusal.RefusalAt.{RefusalAt}
use Rattle.principals.specs.ActsFor.{PrincipalHierarchy}
use Rattle.acceptance.specs.Refused.{IsSourceRefused}
use Rattle.acceptance.specs.declared.kind.RefusalKind.{RefusalKind}
use Rattle.acceptance.specs.declared.kind.RefusalKind.TheVariants.{FlowNotAllowed}

-- the source is refused so
abbrev pub IsFoundRefusal : PrincipalHierarchy → (source : List ℕ) → RefusalAt RefusalKind → Type 0
IsFoundRefusal h source found = IsSourceRefused h source found.kind found.at

-- the source is refused before its labels are looked at: for another reason than that a flow is not allowed
abbrev pub IsBeforeLabels : RefusalAt RefusalKind → Type 0
IsBeforeLabels found = found.kind ≢ FlowNotAllowed
