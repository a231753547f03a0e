-- Two runs of a labelled statement from states that are the same for a principal.
-- Source: noninterference after Volpano, Smith and Irvine 1996, for statements with several exits and for runs that are stopped.
use Rattle.std.specs.Prelude.{◌≡◌, ℕ, [], ◌⊎◌, IsTrue}
use Rattle.labels.specs.Sent.{IsPrefix}
use Rattle.resolved.specs.Tree.{Statement}
use Rattle.resolved.specs.SourceState.{SourceState}
use Rattle.resolved.specs.Meaning.{Outcome, Ended, Stopped, statement_meaning, calls_with}
use Rattle.resolved.specs.Labelled.{Scope, here, Labelling, Join, ExitLabels, FitsDemands, Labelled, result_label, exit_faults}
use Rattle.resolved.specs.LabelRules.{statement_demands, statement_exit_labels}
use Rattle.isolation.specs.Confinement.{reads, reads_under, sees, SameFor}

-- what the principal sees in one state is a prefix of what it sees in another
abbrev pub SeesPrefix : Scope → (p : ℕ) → SourceState → SourceState → Type 0
SeesPrefix scope p s t = IsPrefix (sees scope p s) (sees scope p t)

-- two outcomes agree for a principal. Where both runs have ended, their states are the same for it, they ended in the same way if
-- it may read the label of either exit, and returned the same if it may read the label of the procedure's value. Where one was
-- stopped, what the principal sees of it is a prefix of what it sees of the other
abbrev pub OutcomesAgree : Scope → Labelling → (p : ℕ) → ExitLabels → Outcome → Outcome → Type 0
OutcomesAgree scope labelling p exits (Ended exit returned s) (Ended other given t) =
    SameFor scope labelling p s t
    × (IsTrue (reads_under scope labelling p (exits exit)) → exit ≡ other)
    × (IsTrue (reads_under scope labelling p (exits other)) → exit ≡ other)
    × (IsTrue (reads scope p (result_label (here scope).result)) → returned ≡ given)
OutcomesAgree scope labelling p exits (Stopped stop s) (Ended other given t) = SeesPrefix scope p s t
OutcomesAgree scope labelling p exits (Ended exit returned s) (Stopped stop t) = SeesPrefix scope p t s
OutcomesAgree scope labelling p exits (Stopped stop s) (Stopped other t) = SeesPrefix scope p s t ⊎ SeesPrefix scope p t s

-- in a labelled program without a fault of its exits, two runs of a labelled statement from states that are the same for a principal
-- agree for it, each with any amount of fuel and both with the same frames left
abbrev pub StatementsAgree : Scope → Labelling → Type 0
StatementsAgree scope labelling =
    exit_faults scope.program ≡ [] → Labelled scope.program
    → (p : ℕ) (pc : Join) (statement : Statement) → FitsDemands scope.program.hierarchy labelling (statement_demands scope pc statement)
    → (frames k m : ℕ) (s t : SourceState) → SameFor scope labelling p s t
    → OutcomesAgree scope labelling p (statement_exit_labels scope pc statement)
    (statement_meaning (calls_with scope.program k frames) k statement s)
    (statement_meaning (calls_with scope.program m frames) m statement t)
