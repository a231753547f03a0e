-- Isolation under hierarchies that have grown, to which the labels of a program are carried over.
-- Source: our own.
use Rattle.std.specs.Prelude.{ℕ}
use Rattle.principals.specs.ActsFor.{PrincipalHierarchy}
use Rattle.labels.specs.Carried.{carried_label}
use Rattle.labels.specs.Isolated.{RunsStayIsolated}
use Rattle.resolved.specs.Program.{Program}
use Rattle.resolved.specs.Labelled.{channel_label}
use Rattle.resolved.specs.Meaning.{sent_by}
use Rattle.resolved.specs.Isolated.{IsolatedUnder}

-- isolation where readers, agreement and observers are taken under another hierarchy, to which a renumbering leads
abbrev pub IsolatedCarried : Program → (larger : PrincipalHierarchy) → (ℕ → ℕ) → Type 0
IsolatedCarried program larger carry = IsolatedUnder larger (λ channel. carried_label carry (channel_label program channel)) program

-- isolation under every larger hierarchy: each that contains the program's own, to which its labels are carried over by name
abbrev pub IsolatedUnderLarger : Program → Type 0
IsolatedUnderLarger program = RunsStayIsolated program.hierarchy (channel_label program) program.channels (sent_by program)
