-- Isolation of modules under a hierarchy, the module's own or one that contains it, to which its labels are carried over by names.
-- Source: our own, for runs that may be stopped anywhere; noninterference after Volpano, Smith and Irvine 1996.
use Rattle.std.specs.Prelude.{ℕ, List, [], slice_get, ℤ}
use Rattle.std.specs.Option.{option_map_or}
use Rattle.principals.specs.ActsFor.{PrincipalHierarchy}
use Rattle.labels.specs.Carried.{label_under}
use Rattle.labels.specs.Label.{Label}
use Rattle.labels.specs.Sent.{pairs_for}
use Rattle.labels.specs.Isolated.{WorldsAgree, RunsAreIsolated, RunsStayIsolated, ViewsAreIsolated as views_isolated}
use Rattle.common.specs.declared.sent.Pair.{Pair}
use Rattle.modules.specs.Contents.{ModuleContents}
use Rattle.modules.specs.Machine.{after_steps, sent_after, sent_of}

-- the label of a channel; that of a channel that is not there is the least one
abbrev pub channel_label : ModuleContents → ℕ → Label
channel_label m k = option_map_or (λ channel. channel.label) (slice_get m.channels k) []

-- a module that stays isolated, by what it has sent after any number of steps
abbrev pub StaysIsolated : ModuleContents → Type 0
StaysIsolated m = RunsStayIsolated m.hierarchy (channel_label m) m.channels (λ world n. sent_of (after_steps m world n))

-- ---- parts of the rules, by which code and proofs speak of them

-- the label of a channel under a hierarchy
abbrev pub channel_label_under : PrincipalHierarchy → ModuleContents → ℕ → Label
channel_label_under h m k = label_under m.hierarchy h (channel_label m k)

-- a module that is isolated under one hierarchy
abbrev pub IsIsolated : PrincipalHierarchy → ModuleContents → Type 0
IsIsolated h m = RunsAreIsolated h (channel_label_under h m) m.channels (sent_after m)

-- two worlds agree for a principal on the inputs that it may read under a hierarchy
abbrev pub AgreeOnInputs : PrincipalHierarchy → ModuleContents → (p : ℕ) → (first second : ℕ → List ℤ) → Type 0
AgreeOnInputs h m p first second = WorldsAgree h (channel_label_under h m) m.channels p first second

-- what a principal of a hierarchy sees of pairs that a module sent, under that hierarchy
abbrev pub module_view : PrincipalHierarchy → ModuleContents → ℕ → List Pair → List Pair
module_view h m p sent = pairs_for h (channel_label_under h m) p sent

-- the views of a module are isolated
abbrev pub ViewsAreIsolated : PrincipalHierarchy → ModuleContents → Type 0
ViewsAreIsolated h m = views_isolated h (channel_label_under h m) m.channels (sent_after m)
