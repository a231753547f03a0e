-- What a module that has a spelling keeps of its hierarchy and labels; and so, under its own hierarchy, its labels are what they are.
use Rattle.std.proofs.Common.{◌≡◌, ◌≢◌, ℕ, ◌<◌, ◌≤◌, Bool, true, false, ◌&&◌, ◌||◌, List, [], ◌∷◌, ◌++◌, length, filter, All, slice_get, zero, suc, refl, sym, subst, append_assoc, arith, leb-true}
use Rattle.std.specs.Prelude.{bytes_eq}
use Rattle.std.specs.List.{AllByRecursion}
use Rattle.std.proofs.lemmas.Bool.{ltb-true, not-true}
use Rattle.std.proofs.lemmas.List.{append-nil}
use Rattle.std.proofs.lemmas.List.Elements.{All-push, All-from_recursion}
use Rattle.std.proofs.lemmas.List.Quantifiers.{all_pairs_push}
use Rattle.std.proofs.lemmas.Slice.Eq.{bytes_eq-Decides}
use Rattle.principals.specs.ActsFor.{PrincipalHierarchy, IsHierarchy, AllDifferent, AllBelow}
use Rattle.labels.specs.Carried.{IsPolicyOf, IsLabelOf, label_under}
use Rattle.labels.specs.Label.{Label, may_read}
use Rattle.labels.specs.Sent.{pairs_for}
use Rattle.common.specs.declared.sent.Pair.{Pair}
use Rattle.labels.proofs.Carried.{own-label}
use Rattle.labels.specs.Channel.{ChannelContents}
use Rattle.modules.specs.Contents.{ModuleContents}
use Rattle.modules.specs.ByteFormat.{Fits, FitEach}
use Rattle.modules.specs.Format.{module_file, declared, channel_after, hierarchy, number_below, name_after, policy, label, is_among}
use Rattle.modules.specs.FormatParts.{channels, principals, pair_after, policy_after, reader_after}
use Rattle.modules.specs.Isolated.{IsIsolated, StaysIsolated, channel_label, channel_label_under, module_view}
use Rattle.modules.specs.MachineParts.{label_in}

-- ---- along a list, each element after those before it

along : {A : Type 0} (P : List A → A → Type 0) (Q : List A → Type 0) → ((before : List A) (x : A) → Q before → P before x → Q (before ++ x ∷ [])) → (before xs : List A) → Q before → FitEach P before xs → Q (before ++ xs)
along P Q more before [] q fits = subst Q (sym (append-nil before)) q
along P Q more before (x ∷ xs) q fits = subst Q (append_assoc before (x ∷ []) xs) (along P Q more (before ++ x ∷ []) xs (more before x q fits.0) fits.1)

second : (a b : Bool) → (a && b) ≡ true → b ≡ true
second true b h = h
second false b h = absurd cc

neither : (a b : Bool) → (a || b) ≡ false → b ≡ false
neither true b h = absurd cc
neither false b h = h

-- ---- the hierarchy

not_among : (names : List (List ℕ)) (name : List ℕ) → is_among names name ≡ false → AllByRecursion (λ other. other ≢ name) names
not_among [] name h = tt
not_among (other ∷ names) name h = (differs (bytes_eq other name) refl h, not_among names name (neither _ _ h))
  where
    differs : (b : Bool) → bytes_eq other name ≡ b → (b || is_among names name) ≡ false → other ≢ name
    differs true e h = absurd cc
    differs false e h = λ same. cc (e, (bytes_eq-Decides other name).1 same)

names-few : (names : List (List ℕ)) → Fits principals names → length names ≤ 256
unfolding principals
names-few names h = leb-true _ _ h.1

names-different : (names : List (List ℕ)) → Fits principals names → AllDifferent names
unfolding principals name_after
names-different names h =
    along _ AllDifferent (λ before x different fits. all_pairs_push (λ one other. one ≢ other) before x different (All-from_recursion (λ other. other ≢ x) before (not_among before x (neither false _ (not-true _ (second _ _ fits.1))))))
    [] names (λ i j d below inside. absurd (omega arith)) h.2

pairs-there : (count : ℕ) (pairs : List (ℕ × ℕ)) → FitEach (λ before x. Fits (pair_after count before) x) [] pairs → AllBelow count pairs
unfolding pair_after number_below
pairs-there count pairs h =
    along _ (AllBelow count) (λ before x there fits. All-push (λ (pair : ℕ × ℕ). (pair.0 < count) × (pair.1 < count)) before x there (ltb-true _ _ fits.0.0.1, ltb-true _ _ fits.0.1.1)) [] pairs (λ k d inside. absurd (omega arith)) h

is-hierarchy : (h : PrincipalHierarchy) → Fits hierarchy h → IsHierarchy h
unfolding hierarchy principals pair_after
is-hierarchy h fits = record {
  few = names-few h.names fits.0.0;
  different = names-different h.names fits.0.0;
  there = pairs-there (length h.names) h.pairs fits.0.1.2;
}

-- ---- labels

readers-there : (count owner : ℕ) (readers : List ℕ) → FitEach (λ before x. Fits (reader_after count owner before) x) [] readers → All (λ reader. reader < count) readers
unfolding reader_after number_below
readers-there count owner readers h =
    along _ (λ (xs : List ℕ). All (λ reader. reader < count) xs) (λ before x there fits. All-push (λ (reader : ℕ). reader < count) before x there (ltb-true _ _ fits.0.0.1)) [] readers (λ k d inside. absurd (omega arith)) h

label-there : (h : PrincipalHierarchy) (policies : Label) → Fits (label (length h.names)) policies → IsLabelOf h policies
unfolding label policy policy_after reader_after number_below
label-there h policies fits =
    along _ (IsLabelOf h) (λ before x there fits. All-push (IsPolicyOf h) before x there (ltb-true _ _ fits.0.0.0.1, readers-there (length h.names) x.owner x.readers fits.0.0.1.2))
    [] policies (λ k d inside. absurd (omega arith)) fits.2

channels-there : (h : PrincipalHierarchy) (names : List (List ℕ)) (all : List ChannelContents) → Fits (channels (length h.names) names) all → All (λ channel. IsLabelOf h channel.label) all
unfolding channels channel_after
channels-there h names all fits =
    along _ (λ xs. All (λ (channel : ChannelContents). IsLabelOf h channel.label) xs) (λ before x there fits. All-push (λ (channel : ChannelContents). IsLabelOf h channel.label) before x there (label-there h x.label fits.0.1.1))
    [] all (λ k d inside. absurd (omega arith)) fits.2

-- ---- the module

pub module-hierarchy : (m : ModuleContents) → Fits module_file m → IsHierarchy m.hierarchy
unfolding module_file
module-hierarchy m fits = is-hierarchy m.hierarchy fits.0.1.0

pub module-labels : (m : ModuleContents) → Fits module_file m → All (λ channel. IsLabelOf m.hierarchy channel.label) m.channels
unfolding module_file declared channels
module-labels m fits = channels-there m.hierarchy m.exceptions m.channels fits.0.1.1.0.1

-- the label of a channel, also of one that is not there
label_of_number : (h : PrincipalHierarchy) → IsHierarchy h → (channels : List ChannelContents) → All (λ channel. IsLabelOf h channel.label) channels → (k : ℕ)
    → label_under h h (label_in (slice_get channels k)) ≡ label_in (slice_get channels k)
label_of_number h is [] there k = refl
label_of_number h is (channel ∷ channels) there zero = own-label h is channel.label (there 0 channel (omega arith))
label_of_number h is (channel ∷ channels) there (suc k) = label_of_number h is channels (λ i d inside. there (suc i) d (omega (arith, inside))) k

-- under a module's own hierarchy its labels are what they are
pub own-channel_label : (m : ModuleContents) → Fits module_file m → (k : ℕ) → channel_label_under m.hierarchy m k ≡ channel_label m k
own-channel_label m fits k = label_of_number m.hierarchy (module-hierarchy m fits) m.channels (module-labels m fits) k

-- and so what a principal sees is what it sees of the plain labels
pub own-view : (m : ModuleContents) → Fits module_file m → (p : ℕ) (sent : List Pair)
    → module_view m.hierarchy m p sent ≡ pairs_for m.hierarchy (channel_label m) p sent
own-view m fits p sent = λ i. filter (λ pair. may_read m.hierarchy p (own-channel_label m fits pair.channel i)) sent

-- and isolation under every hierarchy that contains a module's own is isolation there
pub own-isolation : (m : ModuleContents) → Fits module_file m → StaysIsolated m → IsIsolated m.hierarchy m
own-isolation m fits stays = stays m.hierarchy (module-hierarchy m fits) (record { principals = λ name there. there; acts = λ first second acting. acting })
