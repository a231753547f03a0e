-- What a refusal reports of a source under a hierarchy, or of two texts: which text is wrong, why, and at which line and column; and
-- of a flow that no labels allow its policy and the steps of its chain.
-- Source: our own.
use Rattle.std.specs.Prelude.{◌≡◌, ◌↔◌, ℕ, List, [], map, Option, Some, None, IsSome}
use Rattle.principals.specs.ActsFor.{PrincipalHierarchy}
use Rattle.resolved.specs.CoreOf.{program_of}
use Rattle.resolved.specs.Program.{Program}
use Rattle.resolved.specs.Labelled.{Demand, exit_faults}
use Rattle.resolved.specs.Flow.{IsProgramRefused, ReportedStep, reported_step}
use Rattle.lattices.specs.Constraints.{reported_steps}
use Rattle.acceptance.specs.Accepted.{HasHierarchy, IsAccepted, IsResolvedFrom, StandFor}
use Rattle.acceptance.specs.Refused.{AreTextsRefusedAt, IsHierarchyRefused, IsSourceRefused}
use Rattle.acceptance.specs.declared.kind.RefusalKind.{RefusalKind}
use Rattle.acceptance.specs.declared.kind.RefusalKind.TheVariants as kinds
use Rattle.acceptance.specs.declared.kind.Text.{Text}
use Rattle.acceptance.specs.declared.kind.Text.TheVariants as texts
use Rattle.lexer.specs.Position.{place_at}
use Rattle.solver.specs.Rule.{rule_number}
use Rattle.checker.specs.declared.fault.RefusedFlow.{RefusedFlow}
use Rattle.checker.specs.declared.fault.Refusal.{Refusal}
use Rattle.checker.specs.declared.fault.Step.{Step}

-- the refusal of a text for a reason at one of its bytes, with a flow or without one
abbrev pub refusal_at : Text → List ℕ → RefusalKind → (at : ℕ) → Option RefusedFlow → Refusal
refusal_at text bytes kind at flow = record { text = text; kind = kind; at = place_at bytes at; flow = flow }

-- a refusal has a flow exactly where it is that one is not allowed
abbrev pub HasFlow : Refusal → Type 0
HasFlow refusal = (refusal.kind ≡ kinds.FlowNotAllowed) ↔ IsSome refusal.flow

-- ---- a flow

-- a step, as one of the definitions
abbrev pub reported_by : Step → ReportedStep
reported_by step = record { at = step.at; rule = rule_number step.rule; target = step.target }

-- a program is refused: its policy, byte and steps are those of a chain to the first demand that no labels meet
pub record ReportsFlow (flow : RefusedFlow) : Type 0 where
  pub chain : List Demand
  pub last : Demand
  pub refused : IsProgramRefused (program_of flow.core) flow.policy chain last
  pub at_is : flow.at ≡ last.at
  pub steps_are : map reported_by flow.steps.items ≡ reported_steps reported_step chain

-- ---- a source under a hierarchy

-- it is refused so: for the reason at a byte, and the place is that of the byte
pub record IsSourceFault (h : PrincipalHierarchy) (source : List ℕ) (refusal : Refusal) : Type 0 where
  pub text_is : refusal.text ≡ texts.Source
  pub at : ℕ
  pub refused : IsSourceRefused h source refusal.kind at
  pub place_of : refusal.at ≡ place_at source at

-- it asks for this flow: it stands for the flow's program, which has no fault of its exits and asks for the flow; and the refusal is
-- that the flow is not allowed, at the place of its byte
pub record AsksForFlow (h : PrincipalHierarchy) (source : List ℕ) (refusal : Refusal) (flow : RefusedFlow) : Type 0 where
  pub resolved : IsResolvedFrom h source (program_of flow.core)
  pub ended : exit_faults (program_of flow.core) ≡ []
  pub reported : ReportsFlow flow
  pub refusal_is : refusal ≡ refusal_at texts.Source source kinds.FlowNotAllowed flow.at (Some flow)

-- no program is accepted of it
abbrev pub IsNotAccepted : PrincipalHierarchy → (source : List ℕ) → Type 0
IsNotAccepted h source = (program : Program) → ¬ IsAccepted h source program

-- ---- the text of a hierarchy

-- it is refused so: for the reason at a byte, at the place of that byte, and with no flow
pub record IsHierarchyFault (text : List ℕ) (refusal : Refusal) : Type 0 where
  pub kind : RefusalKind
  pub at : ℕ
  pub refused : IsHierarchyRefused text kind at
  pub refusal_is : refusal ≡ refusal_at texts.Hierarchy text kind at None

-- it has no hierarchy
abbrev pub HasNoHierarchy : (text : List ℕ) → Type 0
HasNoHierarchy text = (h : PrincipalHierarchy) → ¬ HasHierarchy text h

-- ---- two texts

-- what the two texts have, their bytes or their paths, of one of them
abbrev pub text_among : (hierarchy source : List ℕ) → Text → List ℕ
text_among hierarchy source texts.Hierarchy = hierarchy
text_among hierarchy source texts.Source = source

-- the first of two texts that is wrong is the refusal's; it is refused for its reason at a byte, and its place is that of the byte
pub record IsFirstFault (hierarchy source : List ℕ) (refusal : Refusal) : Type 0 where
  pub at : ℕ
  pub refused : AreTextsRefusedAt hierarchy source refusal.text refusal.kind at
  pub place_of : refusal.at ≡ place_at (text_among hierarchy source refusal.text) at

-- the source asks for this flow under the hierarchy of the other text
pub record TextsAskForFlow (hierarchy source : List ℕ) (refusal : Refusal) (flow : RefusedFlow) : Type 0 where
  pub principals : PrincipalHierarchy
  pub has : HasHierarchy hierarchy principals
  pub asks : AsksForFlow principals source refusal flow

-- two texts stand for no program
abbrev pub StandForNone : (hierarchy source : List ℕ) → Type 0
StandForNone hierarchy source = (program : Program) → ¬ StandFor hierarchy source program
