-- The law of verdicts: two texts stand for one program, or one of them is refused for one reason at one byte, and not both. And laws
-- of the programs that sources are resolved to.
-- Source: our own.
use Rattle.std.specs.Prelude.{◌≡◌, ◌↔◌, ℕ, List, All}
use Rattle.principals.specs.ActsFor.{PrincipalHierarchy, IsHierarchy}
use Rattle.principals.specs.Named.{IsKeptName}
use Rattle.labels.specs.Label.{ReaderPolicy}
use Rattle.resolved.specs.Flow.{IsProgramRefused}
use Rattle.resolved.specs.Labelled.{Demand}
use Rattle.resolved.specs.Names.{HasNames}
use Rattle.resolved.specs.Program.{Program}
use Rattle.acceptance.specs.Accepted.{IsResolvedFrom, StandFor}
use Rattle.acceptance.specs.Refused.{AreTextsRefusedAt, IsFirstUnmet}
use Rattle.acceptance.specs.declared.kind.RefusalKind.{RefusalKind}
use Rattle.acceptance.specs.declared.kind.Text.{Text}

-- what is to be said of two texts
pub data Verdict : Type 0 where
  Accepted : Program → Verdict
  Refused : Text → RefusalKind → (at : ℕ) → Verdict

abbrev pub IsVerdict : (hierarchy source : List ℕ) → Verdict → Type 0
IsVerdict hierarchy source (Accepted program) = StandFor hierarchy source program
IsVerdict hierarchy source (Refused text kind at) = AreTextsRefusedAt hierarchy source text kind at

abbrev pub HasVerdict : Type 0
HasVerdict = (hierarchy source : List ℕ) → (verdict : Verdict) × IsVerdict hierarchy source verdict

abbrev pub HasOneVerdict : Type 0
HasOneVerdict =
    (hierarchy source : List ℕ) (verdict other : Verdict) → IsVerdict hierarchy source verdict → IsVerdict hierarchy source other
    → verdict ≡ other

-- the first demand that cannot be met is the first with a written right side that does not hold under least labels, and a flow chain
-- ends there
abbrev pub UnmetDemandsEndChains : Type 0
UnmetDemandsEndChains =
    (program : Program) (last : Demand)
    → IsFirstUnmet program last ↔ ((policy : ReaderPolicy) × (chain : List Demand) × IsProgramRefused program policy chain last)

-- ---- the programs that sources are resolved to

-- a source is resolved to a program of the hierarchy under which it is
abbrev pub KeepsHierarchy : Type 0
KeepsHierarchy =
    (source : List ℕ) (h : PrincipalHierarchy) (program : Program) → IsResolvedFrom h source program → program.hierarchy ≡ h

-- under a hierarchy with the names that a file wants that program has them too, and the labels of channels that a file wants
abbrev pub GivesNames : Type 0
GivesNames =
    (h : PrincipalHierarchy) (source : List ℕ) (program : Program) → IsHierarchy h → All IsKeptName h.names
    → IsResolvedFrom h source program → HasNames program
