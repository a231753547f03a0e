-- Why a program is not labelled: the first demand with a written right side that does not hold under the least labelling, and a flow
-- chain that ends there.
-- Source: our own.
use Rattle.std.specs.Prelude.{◌≡◌, ℕ, List, [], ◌∷◌, Option, Some, Contains, IsTrue, IsFalse}
use Rattle.principals.specs.ActsFor.{PrincipalHierarchy}
use Rattle.labels.specs.Label.{ReaderPolicy, Label, Covers, covers, flows}
use Rattle.lattices.specs.Constraints.{Atom, Constraint, IsGathered, Written, Unknown, IsLeast, Occurs, first_unmet, Linked}
use Rattle.labels.specs.LabelLattice.{label_lattice}
use Rattle.resolved.specs.Program.{Program}
use Rattle.resolved.specs.declared.target.Target.{Target}
use Rattle.resolved.specs.declared.target.Target.TheVariants.{ToVariable, ToChannel, ToBegin, ToParameter, ToValue, ToEnd, ToThrown, ToLoop}
use Rattle.resolved.specs.Labelled.{Unwritten, Demand, program_demands}

-- a flow chain of a program: it leads from a policy of a written label to a written right side that does not cover the policy
pub record IsFlowChain (program : Program) (policy : ReaderPolicy) (chain : List Demand) (last : Demand) : Type 0 where
  pub from : Label
  pub policy_of : Contains from policy
  pub linked : Linked (program_demands program) (Written from) chain last
  pub to : Label
  pub right_is : last.right ≡ Written to
  pub not_covered : IsFalse (covers program.hierarchy to policy)

-- the least labels of a program's locals and loops
abbrev pub AreLeast : Program → (Unwritten → Label) → Type 0
AreLeast program labels = IsLeast (label_lattice program.hierarchy) (program_demands program) labels

-- two labellings of which the labels flow to each other
abbrev pub FlowBothWays : Program → (labels others : Unwritten → Label) → Type 0
FlowBothWays program labels others =
    (u : Unwritten) → Occurs (program_demands program) u
    → IsTrue (flows program.hierarchy (labels u) (others u)) × IsTrue (flows program.hierarchy (others u) (labels u))

-- a program that is refused at a demand, with a chain that ends there
pub record IsProgramRefused (program : Program) (policy : ReaderPolicy) (chain : List Demand) (last : Demand) : Type 0 where
  pub labels : Unwritten → Label
  pub least : AreLeast program labels
  pub first : first_unmet (label_lattice program.hierarchy) (program_demands program) labels ≡ Some last
  pub chained : IsFlowChain program policy chain last

-- a step of a chain as it is reported: its byte, its rule and its target. What flows to a loop has no name to report
pub record ReportedStep : Type 0 where
  pub at : ℕ
  pub rule : ℕ
  pub target : Target

abbrev pub reported_step : (at rule : ℕ) → Target → List ReportedStep
reported_step at rule (ToVariable f x) = record { at = at; rule = rule; target = ToVariable f x } ∷ []
reported_step at rule (ToChannel channel) = record { at = at; rule = rule; target = ToChannel channel } ∷ []
reported_step at rule (ToBegin f) = record { at = at; rule = rule; target = ToBegin f } ∷ []
reported_step at rule (ToParameter f i) = record { at = at; rule = rule; target = ToParameter f i } ∷ []
reported_step at rule (ToValue f) = record { at = at; rule = rule; target = ToValue f } ∷ []
reported_step at rule (ToEnd f) = record { at = at; rule = rule; target = ToEnd f } ∷ []
reported_step at rule (ToThrown f exception) = record { at = at; rule = rule; target = ToThrown f exception } ∷ []
reported_step at rule (ToLoop f loop) = []

-- constraints that stand for a program's demands one by one and in their order, with numbers for the labels that are not written,
-- and with inner ones, which have no target, between them
abbrev pub Gathered : Type 0
Gathered = Constraint (Option Target) ℕ Label

abbrev pub AreGathered : Program → List Gathered → Type 0
AreGathered program cs = IsGathered (program_demands program) cs

-- a written right side that does not cover a policy
abbrev pub IsUncovered : PrincipalHierarchy → Atom ℕ Label → ReaderPolicy → Type 0
IsUncovered h (Written to) policy = ¬ Covers h to policy
IsUncovered h (Unknown u) policy = ⊥
