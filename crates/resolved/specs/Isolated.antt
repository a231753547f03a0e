-- Isolation of programs.
-- Source: our own, for runs that may be stopped anywhere; noninterference after Volpano, Smith and Irvine 1996.
use Rattle.std.specs.Prelude.{ℕ}
use Rattle.principals.specs.ActsFor.{PrincipalHierarchy}
use Rattle.labels.specs.Label.{Label}
use Rattle.labels.specs.Isolated.{RunsAreIsolated}
use Rattle.resolved.specs.Program.{Program}
use Rattle.resolved.specs.Meaning.{sent_by}
use Rattle.resolved.specs.Labelled.{channel_label}

-- a program is isolated under a hierarchy and labels of its channels, with any two bounds on the rounds of loops
abbrev pub IsolatedUnder : PrincipalHierarchy → (ℕ → Label) → Program → Type 0
IsolatedUnder h label_of program = RunsAreIsolated h label_of program.channels (sent_by program)

-- an isolated program, under its own hierarchy and labels
abbrev pub Isolated : Program → Type 0
Isolated program = IsolatedUnder program.hierarchy (channel_label program) program
