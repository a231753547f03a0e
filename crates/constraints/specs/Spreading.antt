-- Private: the flows that are added for the exceptions of calls. Some calls reach the exit unknown that an exception has at all of them by one inner
-- unknown, which stands for their own labels.
-- Source: our own.
use Rattle.std.specs.Prelude.{◌≡◌, ◌⊎◌, ℕ, zero, suc, ◌+◌, ◌<◌, ◌≤◌, List, [], ◌∷◌, ◌++◌, map, length, Contains, Some, None}
use Rattle.std.specs.declared.vec.Vec.{Vec}
use Rattle.std.specs.Global.{Global}
use Rattle.labels.specs.Label.{Label}
use Rattle.resolved.specs.declared.program.Core.{Core}
use Rattle.resolved.specs.declared.statement.Exit.TheVariants.{Throw}
use Rattle.resolved.specs.CoreOf.{program_of}
use Rattle.resolved.specs.Exits.{declared_by}
use Rattle.resolved.specs.Labelled.{thrown_label}
use Rattle.resolved.specs.Program.{Program, procedure_at}
use Rattle.gathering.specs.Names.{NamedAtom, NamedConstraint, named_atoms}
use Rattle.gathering.specs.Rerouted.{Leads}
use Rattle.gathering.specs.Walk.{call_atoms, flow, inner_atom}
use Rattle.solver.specs.declared.constraints.Atom.{Atom}
use Rattle.constraints.specs.Added.{AreAdded, IsPart, Stored, stand_for, wanted_constraint}
use Rattle.constraints.specs.Journals.{raised_flow, exit_unknown_at}
use Rattle.constraints.specs.LeftSides.{Written, part}
use Rattle.constraints.specs.declared.journal.Called.{Called}
use Rattle.constraints.specs.declared.journal.Journal.{Journal}
use Rattle.constraints.specs.declared.rows.ThrownLabel.{ThrownLabel}

-- ---- what inner unknowns stand for: own labels of calls, by their numbers
abbrev pub owns_of : List Called → List ℕ
owns_of calls = map (λ (called : Called). called.own) calls

abbrev pub StandForThemselves : (stands : ℕ → List ℕ) → List Called → Type 0
StandForThemselves stands calls = (called : Called) → Contains calls called → stands called.own ≡ called.own ∷ []

-- the numbers from this one on stand for these, in their order
abbrev pub StandFrom : (stands : ℕ → List ℕ) → (first : ℕ) → List (List ℕ) → Type 0
StandFrom stands first [] = Unit {0}
StandFrom stands first (owns ∷ rest) = (stands first ≡ owns) × StandFrom stands (suc first) rest

-- the own label of one of some calls, or an unknown with a number in a range
abbrev pub IsNode : (first next : ℕ) → List Called → (node : ℕ) → Type 0
IsNode first next calls node =
    ((called : Called) × Contains calls called × (called.own ≡ node)) ⊎ ((first ≤ node) × (node < next))

-- ---- the constraints that are added
abbrev pub joining_flow : (parts : List ℕ) → (to : ℕ) → NamedConstraint
joining_flow parts to = record { at = 0; rule = 0; left = map inner_atom parts; target = None; right = inner_atom to }

-- to one of the unknowns in a range, which stands for what its parts stand for
pub record IsJoiningFlow (stands : ℕ → List ℕ) (first next : ℕ) (calls : List Called) (c : NamedConstraint) : Type 0 where
  pub to : ℕ
  pub parts : List ℕ
  pub from_first : first ≤ to
  pub below_next : to < next
  pub nodes : (node : ℕ) → Contains parts node → IsNode first next calls node
  pub brings : (node own : ℕ) → Contains parts node → Contains (stands node) own → Contains (stands to) own
  pub is : c ≡ joining_flow parts to

-- to the exit unknown that an exception of a procedure has at each call for which an unknown stands
pub record IsSpreadRaise (core : Core) (journal : Journal) (stands : ℕ → List ℕ) (first next : ℕ) (calls : List Called) (c : NamedConstraint) : Type 0 where
  pub node : ℕ
  pub of : List Called
  pub callee : ℕ
  pub exception : ℕ
  pub exit_unknown : ℕ
  pub is_node : IsNode first next calls node
  pub stands_for : stands node ≡ owns_of of
  pub some : 0 < length of
  pub among : (called : Called) → Contains of called → Contains calls called
  pub of_callee : (called : Called) → Contains of called → called.callee ≡ callee
  pub takes : (called : Called) → Contains of called → exit_unknown_at journal called exception ≡ Some exit_unknown
  pub declared : Contains (declared_by (procedure_at (program_of core) callee).throws) exception
  pub is : c ≡ raised_flow (program_of core) callee node exception exit_unknown

abbrev pub IsSpread : Core → Journal → (stands : ℕ → List ℕ) → (first next : ℕ) → List Called → NamedConstraint → Type 0
IsSpread core journal stands first next calls c =
    IsJoiningFlow stands first next calls c ⊎ IsSpreadRaise core journal stands first next calls c

-- what is made: the number of the next unknown, and constraints
pub record MadeList : Type 0 where
  pub number : ℕ
  pub constraints : List Stored

abbrev pub made_list : (number : ℕ) → List Stored → MadeList
made_list number constraints = record { number = number; constraints = constraints }

-- the flows of these exceptions of calls were added: each by a path, and nothing but what comes from a call at which that is the exit unknown.
-- The unknowns that were made have the numbers from the next one on, and stand for the meanings in their order.
pub record AreSpread (core : Core) (table : List Label) (journal : Journal) (raises : Called → ℕ → Type 0) (calls : List Called) (old new : MadeList) : Type 0 where
  pub added : List NamedConstraint
  pub meanings : List (List ℕ)
  pub are_added : AreAdded core table added old.constraints new.constraints
  pub number_is : new.number ≡ old.number + length meanings
  pub few : length meanings ≤ length calls
  pub each : (stands : ℕ → List ℕ) → StandForThemselves stands calls → StandFrom stands old.number meanings →
      (c : NamedConstraint) → Contains added c → IsSpread core journal stands old.number new.number calls c
  pub leads : (called : Called) → Contains calls called → (exception : ℕ) → raises called exception →
      (exit_unknown : ℕ) → exit_unknown_at journal called exception ≡ Some exit_unknown →
      (from : NamedAtom) → Contains (raised_flow (program_of core) called.callee called.own exception exit_unknown).left from →
      Leads added from (inner_atom exit_unknown)

-- the same of constraints that stand by themselves, with unknowns from a first number on
pub record IsSpreadWhole (core : Core) (table : List Label) (journal : Journal) (raises : Called → ℕ → Type 0) (calls : List Called) (first next : ℕ) (stored : List Stored) : Type 0 where
  pub added : List NamedConstraint
  pub meanings : List (List ℕ)
  pub stored_are : stand_for table stored ≡ map (wanted_constraint (program_of core)) added
  pub number_is : next ≡ first + length meanings
  pub few : length meanings ≤ length calls
  pub each : (stands : ℕ → List ℕ) → StandForThemselves stands calls → StandFrom stands first meanings →
      (c : NamedConstraint) → Contains added c → IsSpread core journal stands first next calls c
  pub leads : (called : Called) → Contains calls called → (exception : ℕ) → raises called exception →
      (exit_unknown : ℕ) → exit_unknown_at journal called exception ≡ Some exit_unknown →
      (from : NamedAtom) → Contains (raised_flow (program_of core) called.callee called.own exception exit_unknown).left from →
      Leads added from (inner_atom exit_unknown)

-- each exception that the procedure of a call declares
abbrev pub Declares : Core → Called → (exception : ℕ) → Type 0
Declares core called x = Contains (declared_by (procedure_at (program_of core) called.callee).throws) x

-- ---- calls of one procedure, and some of its exceptions with the parts of their labels
abbrev pub AreCallsOf : (callee : ℕ) → List Called → Type 0
AreCallsOf callee calls = (called : Called) → Contains calls called → called.callee ≡ callee

abbrev pub exceptions_of : List ThrownLabel → List ℕ
exceptions_of labels = map (λ (thrown : ThrownLabel). thrown.exception) labels

abbrev pub IsThrownLabelOf : Core → (table : List Label) → (callee : ℕ) → ThrownLabel → Type 0
IsThrownLabelOf core table callee x =
    Contains (declared_by (procedure_at (program_of core) callee).throws) x.exception
    × (part table x.label ≡ Written (thrown_label (procedure_at (program_of core) callee).throws x.exception))

abbrev pub AreLabelsOf : Core → (table : List Label) → (callee : ℕ) → List ThrownLabel → Type 0
AreLabelsOf core table callee labels = (x : ThrownLabel) → Contains labels x → IsThrownLabelOf core table callee x

-- the flows of exceptions by an unknown, to the exit unknowns that they have at a call
abbrev pub fixed_flows : Program → Journal → Called → (callee node : ℕ) → List ThrownLabel → List NamedConstraint
fixed_flows program journal called callee node [] = []
fixed_flows program journal called callee node (x ∷ rest) =
    flow (inner_atom node ∷ named_atoms (call_atoms program callee (Throw x.exception))) (exit_unknown_at journal called x.exception)
    ++ fixed_flows program journal called callee node rest

-- the flows of exceptions of calls of one procedure were added, and a part stands for all of these calls
pub record IsSpreadTo (core : Core) (table : List Label) (journal : Journal) (labels : List ThrownLabel) (calls : List Called) (old new : MadeList) (atom : Atom) : Type 0 where
  pub spread : AreSpread core table journal (λ called x. Contains (exceptions_of labels) x) calls old new
  pub node : ℕ
  pub is_part : IsPart core table (inner_atom node) atom
  pub is_node : IsNode old.number new.number calls node
  pub stands_for : (stands : ℕ → List ℕ) → StandForThemselves stands calls → StandFrom stands old.number spread.meanings →
      stands node ≡ owns_of calls
  pub reaches : (called : Called) → Contains calls called → Leads spread.added (inner_atom called.own) (inner_atom node)
  pub fewer : length spread.meanings < length calls

abbrev pub AreSpreadTo : Core → (table : List Label) → Journal → List ThrownLabel → List Called → (old new : MadeList) → Atom → Type 0
AreSpreadTo core table journal labels calls old new atom =
    (callee : ℕ) → AreCallsOf callee calls → AreLabelsOf core table callee labels →
    IsSpreadTo core table journal labels calls old new atom

-- ---- rows of calls, one for each procedure
abbrev pub calls_at : List (Vec Called Global) → (procedure : ℕ) → List Called
calls_at [] i = []
calls_at (row ∷ rows) zero = row.items
calls_at (row ∷ rows) (suc i) = calls_at rows i

abbrev pub all_calls : List (Vec Called Global) → List Called
all_calls [] = []
all_calls (row ∷ rows) = row.items ++ all_calls rows

-- the rows have these calls, each in that of its procedure, but for those of procedures that are none of this many
pub record AreRowsOf (count : ℕ) (calls : List Called) (rows : List (Vec Called Global)) : Type 0 where
  pub count_is : length rows ≡ count
  pub own_row : (i : ℕ) → AreCallsOf i (calls_at rows i)
  pub only : (called : Called) → Contains (all_calls rows) called → Contains calls called
  pub all : (called : Called) → Contains calls called → called.callee < count → Contains (all_calls rows) called
  pub no_more : length (all_calls rows) ≤ length calls
