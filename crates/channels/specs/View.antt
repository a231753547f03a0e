-- What is shown of the pairs that a run has sent, to one observer or to all, and the text that shows it.
-- Source: our own; seeing the channels that one may read is the observer of Volpano, Smith and Irvine 1996.
use Rattle.std.specs.Prelude.{◌≡◌, ℕ, List, [], ◌∷◌, ◌++◌, Option, Some, None, slice_get, codes, Bool, true, map}
use Rattle.std.specs.Fmt.{signed_decimal}
use Rattle.std.specs.Io.KnownBytes.{Appends}
use Rattle.principals.specs.ActsFor.{PrincipalHierarchy}
use Rattle.labels.specs.Carried.{carried_label, label_under, numbered}
use Rattle.labels.specs.Label.{Label, may_read}
use Rattle.common.specs.declared.sent.Pair.{Pair}
use Rattle.labels.specs.Channel.{ChannelContents}
use Rattle.modules.specs.Contents.{ModuleContents}
use Rattle.modules.specs.Isolated.{channel_label, channel_label_under, module_view}
use Rattle.channels.specs.Sink.{AppendsPrefix}

-- the name of a channel of a list, by its number; a number that is not there has none
abbrev pub name_in : Option ChannelContents → List ℕ
name_in None = []
name_in (Some channel) = channel.name

-- whether a pair is shown: it is on a channel that the observer may read under a hierarchy, or there is no observer
abbrev pub is_shown : PrincipalHierarchy → ModuleContents → Option ℕ → Pair → Bool
is_shown h m None pair = true
is_shown h m (Some observer) pair = may_read h observer (channel_label_under h m pair.channel)

-- the view for an observer of a hierarchy: the pairs that it sees; or all where there is none
abbrev pub observer_view : PrincipalHierarchy → ModuleContents → Option ℕ → List Pair → List Pair
observer_view h m None sent = sent
observer_view h m (Some observer) sent = module_view h m observer sent

-- the line of a pair: the channel's name, a space, the number, and a line feed
abbrev pub pair_line : ModuleContents → Pair → List ℕ
pair_line m pair =
    name_in (slice_get m.channels pair.channel) ++ (codes " " ++ (signed_decimal pair.number ++ codes "\n"))

-- the text of a list of pairs
abbrev pub view_text : ModuleContents → List Pair → List ℕ
view_text m [] = []
view_text m (pair ∷ pairs) = pair_line m pair ++ view_text m pairs

-- what a sink holds grew by the text of what an observer is shown under a hierarchy, or by a prefix of it
abbrev pub ShowsAll : PrincipalHierarchy → ModuleContents → (observer : Option ℕ) → (sent : List Pair) → (old new : Option (List ℕ)) → Type 0
ShowsAll h m observer sent old new = Appends old new (view_text m (observer_view h m observer sent))

abbrev pub ShowsPrefix : PrincipalHierarchy → ModuleContents → (observer : Option ℕ) → (sent : List Pair) → (old new : Option (List ℕ)) → Type 0
ShowsPrefix h m observer sent old new = AppendsPrefix old new (view_text m (observer_view h m observer sent))

-- ---- how it is tested

-- a label with its principals renumbered by a list, or as it is
abbrev pub renumbered : Option (List ℕ) → Label → Label
renumbered None label = label
renumbered (Some numbers) label = carried_label (numbered numbers) label

-- renumbered so, the labels of a module's channels are what they are under a hierarchy
abbrev pub CarriesLabels : PrincipalHierarchy → ModuleContents → (numbers : Option (List ℕ)) → Type 0
CarriesLabels h m numbers = (k : ℕ) → renumbered numbers (channel_label m k) ≡ channel_label_under h m k

-- for each channel of a module, by its number, whether an observer may read it under a hierarchy
abbrev pub readable : PrincipalHierarchy → ModuleContents → (observer : ℕ) → List Bool
readable h m observer = map (λ channel. may_read h observer (label_under m.hierarchy h channel.label)) m.channels

-- whether a pair is shown, looked up by its channel; a channel that is not there has the least label
abbrev pub is_readable : Option Bool → Bool
is_readable None = true
is_readable (Some answer) = answer

-- the answers of all channels for an observer; none where there is no observer
abbrev pub answers_for : PrincipalHierarchy → ModuleContents → Option ℕ → List Bool
answers_for h m None = []
answers_for h m (Some observer) = readable h m observer
