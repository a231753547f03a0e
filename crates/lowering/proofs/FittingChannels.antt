-- The exceptions and channels of a graph are within the limits of the module file.
use Rattle.std.proofs.Common.{◌≡◌, ◌≢◌, ℕ, ◌^◌, ◌<◌, ◌≤◌, Bool, true, false, ◌||◌, List, [], ◌∷◌, ◌++◌, length, map, get_or, refl, sym, ap, ◌∙◌, subst, arith}
use Rattle.std.specs.Prelude.{All, Contains, nat_le}
use Rattle.std.specs.List.{list_all}
use Rattle.std.proofs.lemmas.List.{map-append, length-map, get_or-map}
use Rattle.std.proofs.lemmas.List.Elements.{All-tail}
use Rattle.std.proofs.lemmas.Bool.{leb-true}
use Rattle.std.proofs.lemmas.List.Sums.{AllPass-from_list_all}
use Rattle.principals.specs.ActsFor.{PrincipalHierarchy, AllDifferent}
use Rattle.labels.specs.Canonical.{IsCanonicalLabel}
use Rattle.resolved.specs.Names.{IsShortName}
use Rattle.labels.specs.Channel.{ChannelContents}
use Rattle.resolved.specs.WellFormed.{label_fits, label_nodes, node_limit}
use Rattle.common.specs.declared.direction.Direction.{Direction}
use Rattle.common.specs.declared.direction.Direction.TheVariants.{Input, Output}
use Rattle.common.proofs.Cases.{all_front, pairs_front}
use Rattle.modules.specs.ByteFormat.{Fits}
use Rattle.modules.specs.Format.{is_among, direction, label, channel_after, declared}
use Rattle.modules.specs.FormatParts.{exceptions as exceptions_field, is_built_in, channels, channel_names}
use Rattle.lowering.proofs.Fronts.{FitEach-from_fronts, All-at_seam, not_among_front}
use Rattle.lowering.proofs.FittingNames.{kept_name, after_different, none_in_front, not_contained, name_fits, exceptions_fit}
use Rattle.lowering.proofs.FittingLabels.{label-fits}
use Rattle.common.specs.Exceptions.{built_in_names}

direction_fits : (d : Direction) → Fits direction d
unfolding direction
direction_fits Input = refl
direction_fits Output = refl

-- the names that a channel may not have
abbrev taken_by : List (List ℕ) → List ℕ → Bool
taken_by names name = is_built_in name || is_among names name

-- a channel with a name that is free and a label that is within the limits
record IsFitChannel (count : ℕ) (names : List (List ℕ)) (channel : ChannelContents) : Type 0 where
  name : IsShortName channel.name
  free : taken_by names channel.name ≡ false
  label : Fits (label count) channel.label

fit_channel : (count : ℕ) (names : List (List ℕ)) (front : List ChannelContents) (channel : ChannelContents) → IsFitChannel count names channel → is_among (channel_names front) channel.name ≡ false → Fits (channel_after count (taken_by names) front) channel
unfolding channel_after
fit_channel count names front channel h new =
    ((direction_fits channel.direction, (name_fits (taken_by names) (channel_names front) channel.name (kept_name channel.name h.name) h.free new, h.label)), refl)

names_at_seam : (front : List ChannelContents) (channel : ChannelContents) (rest all : List ChannelContents) → all ≡ front ++ channel ∷ rest → AllDifferent (channel_names all) → is_among (channel_names front) channel.name ≡ false
names_at_seam front channel rest all e different =
    not_among_front (channel_names front) channel.name (channel_names rest) (subst AllDifferent (ap channel_names e ∙ map-append (λ (c : ChannelContents). c.name) front (channel ∷ rest)) different)

fit_channels : (count : ℕ) (names : List (List ℕ)) (all : List ChannelContents) → length all < 2 ^ 32 → All (IsFitChannel count names) all → AllDifferent (channel_names all) → Fits (channels count names) all
unfolding channels
fit_channels count names all short each different = (
  short,
  refl,
  FitEach-from_fronts _ all (λ front channel rest e. fit_channel count names front channel (All-at_seam front channel rest (IsFitChannel count names) (subst (All (IsFitChannel count names)) e each)) (names_at_seam front channel rest all e different)),
)

-- ---- the channels of a well-formed program

abbrev name_of : ChannelContents → List ℕ
name_of entry = entry.name

-- the names of a graph's channels are those of the program's
same_names : (entries : List ChannelContents) → channel_names entries ≡ map (λ (entry : ChannelContents). entry.name) entries
same_names [] = refl
same_names (entry ∷ entries) = ap (λ names. entry.name ∷ names) (same_names entries)

-- what holds of all names holds of the name of each channel
at_name : (P : List ℕ → Type 0) (entries : List ChannelContents) → All P (map name_of entries) → All (λ (entry : ChannelContents). P entry.name) entries
at_name P entries all k d lt =
    subst P (get_or-map name_of entries k d d.name lt) (all k d.name (omega (arith, lt, length-map entries name_of)))

free-name : (names : List (List ℕ)) (name : List ℕ) → ¬ Contains built_in_names name → ¬ Contains names name → taken_by names name ≡ false
free-name names name h k = λ i. not_contained built_in_names name h i || not_contained names name k i

channels_fit : (h : PrincipalHierarchy) (names : List (List ℕ)) (entries : List ChannelContents) → length h.names ≤ 256 → length entries ≤ 1048576
    → list_all (λ (entry : ChannelContents). nat_le (label_nodes entry.label) node_limit) entries ≡ true
    → list_all (λ (entry : ChannelContents). label_fits h entry.label) entries ≡ true → All IsShortName (map name_of entries)
    → All (λ name. ¬ Contains built_in_names name) (map name_of entries) → All (λ name. ¬ Contains names name) (map name_of entries)
    → AllDifferent (map name_of entries) → All (λ (entry : ChannelContents). IsCanonicalLabel entry.label) entries
    → Fits (channels (length h.names) names) entries
channels_fit h names entries few some small fits short free new different canonical =
    let sizes : All (λ (entry : ChannelContents). nat_le (label_nodes entry.label) node_limit ≡ true) entries =
    AllPass-from_list_all (λ (entry : ChannelContents). nat_le (label_nodes entry.label) node_limit) entries small in
    let labels : All (λ (entry : ChannelContents). label_fits h entry.label ≡ true) entries = AllPass-from_list_all (λ (entry : ChannelContents). label_fits h entry.label) entries fits in
    fit_channels (length h.names) names entries (omega (arith, some))
    (λ k d lt. record {
      name = at_name IsShortName entries short k d lt;
      free = free-name names (get_or entries k d).name (at_name (λ name. ¬ Contains built_in_names name) entries free k d lt) (at_name (λ name. ¬ Contains names name) entries new k d lt);
      label = label-fits h (get_or entries k d).label few (labels k d lt) (leb-true (label_nodes (get_or entries k d).label) node_limit (sizes k d lt)) (canonical k d lt);
    })
    (subst AllDifferent (sym (same_names entries)) different)

beyond-all : {A : Type 0} (P : A → Type 0) (xs ys : List A) → All P (xs ++ ys) → All P ys
beyond-all P [] ys all = all
beyond-all P (x ∷ xs) ys all = beyond-all P xs ys (All-tail P x (xs ++ ys) all)

pub declared-fits : (h : PrincipalHierarchy) (names : List (List ℕ)) (entries : List ChannelContents) → length h.names ≤ 256 → length names ≤ 1048576
    → length entries ≤ 1048576 → list_all (λ (entry : ChannelContents). nat_le (label_nodes entry.label) node_limit) entries ≡ true
    → list_all (λ (entry : ChannelContents). label_fits h entry.label) entries ≡ true
    → All IsShortName (names ++ map (λ (entry : ChannelContents). entry.name) entries)
    → AllDifferent (built_in_names ++ (names ++ map (λ (entry : ChannelContents). entry.name) entries))
    → All (λ (entry : ChannelContents). IsCanonicalLabel entry.label) entries
    → Fits (declared (length h.names)) (names, entries)
unfolding declared exceptions_field channels
declared-fits h names entries few exceptions some small fits short different canonical =
    let kept = names ++ map name_of entries in
    let apart : AllDifferent kept = after_different built_in_names kept different in
    let free : All (λ name. ¬ Contains built_in_names name) kept = none_in_front built_in_names kept different in (
      exceptions_fit names exceptions (all_front IsShortName names (map name_of entries) short)
          (all_front (λ name. ¬ Contains built_in_names name) names (map name_of entries) free) (pairs_front (λ first second. first ≢ second) names (map name_of entries) apart),
      channels_fit h names entries few some small fits (beyond-all IsShortName names (map name_of entries) short)
          (beyond-all (λ name. ¬ Contains built_in_names name) names (map name_of entries) free) (none_in_front names (map name_of entries) apart)
          (after_different names (map name_of entries) apart) canonical,
    )
