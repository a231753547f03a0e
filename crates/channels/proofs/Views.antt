-- The text of a view grows at its end, a pair at a time.
use Rattle.std.proofs.Common.{Result, Ok, Err, OnErr, ◌≡◌, ◌∙◌, ap, ℕ, ◌+◌, ◌<◌, true, false, List, [], ◌∷◌, ◌++◌, length, take, drop, refl, sym, get_or, append_assoc, Option, Some, None}
use Rattle.std.proofs.Math.Numerals.{add-one}
use Rattle.std.proofs.Math.Seq.{take-suc}
use Rattle.std.proofs.KnownBytes.{Appends-trans}
use Rattle.std.proofs.lemmas.List.{append-nil, take-append-drop}
use Rattle.std.proofs.lemmas.List.Elements.{filter-append}
use Rattle.std.specs.Io.KnownBytes.{Appends}
use Rattle.common.specs.declared.sent.Pair.{Pair}
use Rattle.labels.specs.Sent.{IsPrefix}
use Rattle.labels.proofs.Prefixes.{prefix-through}
use Rattle.channels.specs.Sink.{AppendsPrefix}
use Rattle.labels.specs.Channel.{ChannelContents}
use Rattle.modules.specs.Contents.{ModuleContents}
use Rattle.modules.specs.Isolated.{channel_label_under}
use Rattle.modules.specs.MachineParts.{label_in}
use Rattle.principals.specs.ActsFor.{PrincipalHierarchy}
use Rattle.labels.specs.Carried.{label_under}
use Rattle.labels.specs.Label.{may_read}
use Rattle.std.specs.Prelude.{slice_get, map, zero, suc}
use Rattle.channels.specs.View.{CarriesLabels, renumbered, is_readable, is_shown, pair_line, readable, observer_view, view_text}

pub view_text-append : (m : ModuleContents) (front back : List Pair) → view_text m (front ++ back) ≡ view_text m front ++ view_text m back
view_text-append m [] back = refl
view_text-append m (pair ∷ front) back =
    ap (λ text. pair_line m pair ++ text) (view_text-append m front back)
    ∙ sym (append_assoc (pair_line m pair) (view_text m front) (view_text m back))

observer_view-append : (h : PrincipalHierarchy) (m : ModuleContents) (observer : Option ℕ) (front back : List Pair)
    → observer_view h m observer (front ++ back) ≡ observer_view h m observer front ++ observer_view h m observer back
observer_view-append h m None front back = refl
observer_view-append h m (Some p) front back = filter-append (is_shown h m (Some p)) front back

-- the text of one pair
shown_pair : (h : PrincipalHierarchy) (m : ModuleContents) (observer : Option ℕ) (pair : Pair) → is_shown h m observer pair ≡ true
    → observer_view h m observer (pair ∷ []) ≡ pair ∷ []
shown_pair h m None pair is = refl
shown_pair h m (Some p) pair is = rw is refl

hidden_pair : (h : PrincipalHierarchy) (m : ModuleContents) (observer : Option ℕ) (pair : Pair) → is_shown h m observer pair ≡ false
    → observer_view h m observer (pair ∷ []) ≡ []
hidden_pair h m None pair is = cc
hidden_pair h m (Some p) pair is = rw is refl

-- the text after one pair more
view-suc : (h : PrincipalHierarchy) (m : ModuleContents) (observer : Option ℕ) (pairs : List Pair) (k : ℕ) (pair : Pair) → k < length pairs
    → view_text m (observer_view h m observer (take k pairs)) ++ view_text m (observer_view h m observer (get_or pairs k pair ∷ []))
    ≡ view_text m (observer_view h m observer (take (k + 1) pairs))
view-suc h m observer pairs k pair small = sym
    (ap (λ n. view_text m (observer_view h m observer (take n pairs))) (add-one k)
    ∙ ap (λ list. view_text m (observer_view h m observer list)) (take-suc pairs k pair small)
    ∙ ap (view_text m) (observer_view-append h m observer (take k pairs) (get_or pairs k pair ∷ []))
    ∙ view_text-append m (observer_view h m observer (take k pairs)) (observer_view h m observer (get_or pairs k pair ∷ [])))

-- the line of a pair that is shown is the text of that pair alone
line_text : (h : PrincipalHierarchy) (m : ModuleContents) (observer : Option ℕ) (pair : Pair) (line : List ℕ) → is_shown h m observer pair ≡ true
    → line ≡ pair_line m pair → line ≡ view_text m (observer_view h m observer (pair ∷ []))
line_text h m observer pair line is spelled =
    spelled ∙ sym (append-nil (pair_line m pair)) ∙ ap (view_text m) (sym (shown_pair h m observer pair is))

-- what an observer is shown of some pairs is written, up to a text that is held back
abbrev pub IsHeld : PrincipalHierarchy → ModuleContents → Option ℕ → List Pair → (held : List ℕ) → (old new : Option (List ℕ)) → Type 0
IsHeld h m observer pairs held old new =
    (front : List ℕ) × (front ++ held ≡ view_text m (observer_view h m observer pairs)) × Appends old new front

-- after one more pair its line is held back too, where it is shown, and no more than before where it is not
pub one_held : (h : PrincipalHierarchy) (m : ModuleContents) (observer : Option ℕ) (pairs : List Pair) (k : ℕ) (pair : Pair) (old new : Option (List ℕ)) (held line : List ℕ)
    → k < length pairs → is_shown h m observer (get_or pairs k pair) ≡ true → line ≡ pair_line m (get_or pairs k pair)
    → IsHeld h m observer (take k pairs) held old new → IsHeld h m observer (take (k + 1) pairs) (held ++ line) old new
one_held h m observer pairs k pair old new held line small is spelled before = (
  before.0,
  sym (append_assoc before.0 held line)
      ∙ ap (λ text. text ++ line) before.1
      ∙ ap (λ text. view_text m (observer_view h m observer (take k pairs)) ++ text) (line_text h m observer (get_or pairs k pair) line is spelled)
      ∙ view-suc h m observer pairs k pair small,
  before.2,
)

pub none_more : (h : PrincipalHierarchy) (m : ModuleContents) (observer : Option ℕ) (pairs : List Pair) (k : ℕ) (pair : Pair) (old new : Option (List ℕ)) (held : List ℕ)
    → k < length pairs → is_shown h m observer (get_or pairs k pair) ≡ false
    → IsHeld h m observer (take k pairs) held old new → IsHeld h m observer (take (k + 1) pairs) held old new
none_more h m observer pairs k pair old new held small is before =
    let front = view_text m (observer_view h m observer (take k pairs)) in (
      before.0,
      before.1
          ∙ sym (append-nil front)
          ∙ ap (λ list. front ++ view_text m list) (sym (hidden_pair h m observer (get_or pairs k pair) is))
          ∙ view-suc h m observer pairs k pair small,
      before.2,
    )

pub same_held : (h : PrincipalHierarchy) (m : ModuleContents) (observer : Option ℕ) (pairs : List Pair) (old new : Option (List ℕ)) (held text : List ℕ)
    → text ≡ held → IsHeld h m observer pairs held old new → IsHeld h m observer pairs text old new
same_held h m observer pairs old new held text e before = (before.0, ap (λ list. before.0 ++ list) e ∙ before.1, before.2)

-- what was held back is written, and nothing is then
pub all_given : (h : PrincipalHierarchy) (m : ModuleContents) (observer : Option ℕ) (pairs : List Pair) (old mid new : Option (List ℕ)) (held : List ℕ)
    → IsHeld h m observer pairs held old mid → Appends mid new held → IsHeld h m observer pairs [] old new
all_given h m observer pairs old mid new held before now =
    (before.0 ++ held, append-nil (before.0 ++ held) ∙ before.1, Appends-trans old mid new before.0 held before.2 now)

-- the text of the first pairs is a prefix of the text of all
front-prefix : (h : PrincipalHierarchy) (m : ModuleContents) (observer : Option ℕ) (pairs : List Pair) (k : ℕ)
    → IsPrefix (view_text m (observer_view h m observer (take k pairs))) (view_text m (observer_view h m observer pairs))
front-prefix h m observer pairs k = (
  view_text m (observer_view h m observer (drop k pairs)),
  sym (view_text-append m (observer_view h m observer (take k pairs)) (observer_view h m observer (drop k pairs)))
      ∙ ap (view_text m) (sym (observer_view-append h m observer (take k pairs) (drop k pairs)))
      ∙ ap (λ list. view_text m (observer_view h m observer list)) (take-append-drop k pairs),
)

-- where nothing more was written, or what was held back in part, that is a prefix of the text of all
pub cut_before : (h : PrincipalHierarchy) (m : ModuleContents) (observer : Option ℕ) (pairs : List Pair) (k : ℕ) (old new : Option (List ℕ)) (held : List ℕ)
    → IsHeld h m observer (take k pairs) held old new → AppendsPrefix old new (view_text m (observer_view h m observer pairs))
cut_before h m observer pairs k old new held before =
    let more = view_text m (observer_view h m observer (take k pairs)) in
    (before.0, prefix-through before.0 more (view_text m (observer_view h m observer pairs)) (held, before.1) (front-prefix h m observer pairs k), before.2)

pub cut_within : (h : PrincipalHierarchy) (m : ModuleContents) (observer : Option ℕ) (pairs : List Pair) (k : ℕ) (old mid new : Option (List ℕ)) (held : List ℕ)
    → IsHeld h m observer (take k pairs) held old mid → AppendsPrefix mid new held → AppendsPrefix old new (view_text m (observer_view h m observer pairs))
cut_within h m observer pairs k old mid new held before part =
    cut_before h m observer pairs k old new part.1.0 (
      before.0 ++ part.0,
      append_assoc before.0 part.0 part.1.0 ∙ ap (λ text. before.0 ++ text) part.1.1 ∙ before.1,
      Appends-trans old mid new before.0 part.0 before.2 part.2,
    )

-- what a channel's answer says of a pair on it
pub readable_is : (h : PrincipalHierarchy) (m : ModuleContents) (observer k : ℕ)
    → is_readable (slice_get (readable h m observer) k) ≡ may_read h observer (channel_label_under h m k)
readable_is h m observer k = go m.channels k
  where
    go : (channels : List ChannelContents) (i : ℕ)
        → is_readable (slice_get (map (λ channel. may_read h observer (label_under m.hierarchy h channel.label)) channels) i)
        ≡ may_read h observer (label_under m.hierarchy h (label_in (slice_get channels i)))
    go [] i = refl
    go (channel ∷ channels) zero = refl
    go (channel ∷ channels) (suc i) = go channels i

-- the answers by the labels as they are renumbered are those by the labels under the hierarchy
pub answers_are : (h : PrincipalHierarchy) (m : ModuleContents) (numbers : Option (List ℕ)) (observer : ℕ) → CarriesLabels h m numbers
    → map (λ channel. may_read h observer (renumbered numbers channel.label)) m.channels ≡ readable h m observer
answers_are h m numbers observer same = go m.channels same
  where
    go : (channels : List ChannelContents)
        → ((k : ℕ) → renumbered numbers (label_in (slice_get channels k)) ≡ label_under m.hierarchy h (label_in (slice_get channels k)))
        → map (λ channel. may_read h observer (renumbered numbers channel.label)) channels
        ≡ map (λ channel. may_read h observer (label_under m.hierarchy h channel.label)) channels
    go [] same = refl
    go (channel ∷ channels) same = λ i. may_read h observer (same 0 i) ∷ go channels (λ k. same (suc k)) i

pub on_err : {X Y : Type 0} (result : Result X Y) (P : Type 0) → P → OnErr result P
on_err (Ok x) P holds = tt
on_err (Err y) P holds = holds
