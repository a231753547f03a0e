-- Confinement: what a labelled statement may do at a program-counter label that a principal may not read.
-- Source: confinement of Volpano, Smith and Irvine 1996; with a label for each exit as in JFlow (Myers 1999).
use Rattle.std.specs.Prelude.{◌≡◌, ℕ, List, [], Bool, IsTrue, IsFalse}
use Rattle.common.specs.declared.sent.Pair.{Pair}
use Rattle.labels.specs.Label.{Label, may_read}
use Rattle.labels.specs.Sent.{pairs_for}
use Rattle.resolved.specs.FaultParts.{inner_faults}
use Rattle.resolved.specs.declared.expression.Variable.{Variable}
use Rattle.resolved.specs.declared.statement.Exit.{Exit}
use Rattle.resolved.specs.Tree.{Statement}
use Rattle.resolved.specs.SourceState.{SourceState, cells}
use Rattle.resolved.specs.Meaning.{Outcome, Ended, Stopped, state_after, statement_meaning, calls_with}
use Rattle.resolved.specs.Exits.{has_exit, statement_exits}
use Rattle.resolved.specs.Labelled.{Scope, Labelling, Join, ExitLabels, FitsDemands, Labelled, join_under, variable_label, channel_label, exit_faults}
use Rattle.resolved.specs.LabelRules.{statement_demands, statement_exit_labels}

-- whether a principal may read a label, and what it sees in a state of what was sent, under the program's own hierarchy
abbrev pub reads : Scope → (p : ℕ) → Label → Bool
reads scope p label = may_read scope.program.hierarchy p label

abbrev pub sees : Scope → (p : ℕ) → SourceState → List Pair
sees scope p s = pairs_for scope.program.hierarchy (channel_label scope.program) p s.sent

-- the same of a join under a labelling
abbrev pub reads_under : Scope → Labelling → (p : ℕ) → Join → Bool
reads_under scope labelling p join = reads scope p (join_under labelling join)

-- two states are the same for a principal: each variable and each input that it may read, and what it sees of what was sent
pub record SameFor (scope : Scope) (labelling : Labelling) (p : ℕ) (before after : SourceState) : Type 0 where
  pub variables : (x : Variable) → IsTrue (reads_under scope labelling p (variable_label scope x)) → cells before x ≡ cells after x
  pub inputs : (channel : ℕ) → IsTrue (reads scope p (channel_label scope.program channel)) → before.inputs channel ≡ after.inputs channel
  pub sent : sees scope p before ≡ sees scope p after

-- the label of the exit that was reached, if one was, is one that the principal may not read
abbrev pub UnreadExit : Scope → Labelling → (p : ℕ) → ExitLabels → Outcome → Type 0
UnreadExit scope labelling p exits (Ended exit returned s) = IsFalse (reads_under scope labelling p (exits exit))
UnreadExit scope labelling p exits (Stopped stop s) = Unit {0}

-- in a labelled program without a fault of its exits, a labelled statement at a label that a principal may not read changes nothing
-- that the principal may read, and ends at a label that it may not read; also where it is stopped
abbrev pub StatementsAreConfined : Scope → Labelling → Type 0
StatementsAreConfined scope labelling =
    exit_faults scope.program ≡ [] → Labelled scope.program
    → (p : ℕ) (pc : Join) → IsFalse (reads_under scope labelling p pc)
    → (statement : Statement) → FitsDemands scope.program.hierarchy labelling (statement_demands scope pc statement)
    → (frames k : ℕ) (s : SourceState)
    → SameFor scope labelling p s (state_after (statement_meaning (calls_with scope.program k frames) k statement s))
    × UnreadExit scope labelling p (statement_exit_labels scope pc statement)
    (statement_meaning (calls_with scope.program k frames) k statement s)

-- each possible exit of such a statement, if that has no fault of its exits, has a label that the principal may not read
abbrev pub PossibleEndsAreUnread : Scope → Labelling → Type 0
PossibleEndsAreUnread scope labelling =
    (p : ℕ) (pc : Join) → IsFalse (reads_under scope labelling p pc)
    → (in_loop : Bool) (statement : Statement) → inner_faults scope.program in_loop statement ≡ []
    → FitsDemands scope.program.hierarchy labelling (statement_demands scope pc statement)
    → (exit : Exit) → IsTrue (has_exit (statement_exits scope.program statement) exit)
    → IsFalse (reads_under scope labelling p (statement_exit_labels scope pc statement exit))
