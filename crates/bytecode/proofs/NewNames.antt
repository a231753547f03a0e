-- Names that are new, and the set of those that are taken.
use Rattle.std.proofs.Common.{◌≡◌, ℕ, Bool, true, false, cond, not, ◌&&◌, ◌||◌, List, [], ◌∷◌, ◌++◌, Ok, Err, ◌+◌, ◌-◌, ◌<◌, subst, refl, sym, ap, ◌∙◌}
use Rattle.std.proofs.Math.Bool.{or-false, or_assoc}
use Rattle.std.specs.Str.{IsUtf8, is_utf8}
use Rattle.std.proofs.lemmas.Str.{IsUtf8-from_is_utf8, is_utf8-from_IsUtf8}
use Rattle.std.specs.Global.{Global}
use Rattle.std.specs.BTreeSet.{BTreeSet, UpdatesBy, contains_text}
use Rattle.std.specs.Cmp.Lexicographic.{slice_cmp}
use Rattle.std.specs.Ordering.{nat_cmp}
use Rattle.std.specs.Prelude.{bytes_eq, String}
use Rattle.std.specs.String.{string_bytes, string_cmp}
use Rattle.std.proofs.lemmas.Map.Text.{btree_set_updates_text}
use Rattle.lexer.specs.Words.{is_name_text}
use Rattle.common.specs.declared.fault.OrNoMemory.{OrNoMemory}
use Rattle.common.specs.declared.fault.OrNoMemory.TheVariants.{NoMemory, Refused}
use Rattle.labels.specs.Channel.{ChannelContents}
use Rattle.modules.specs.ByteFormat.{ByteFormat, Named, Then, Counted, Checked, Text, Read, read, each_at, number_at}
use Rattle.modules.specs.declared.fault.ReadRefusal.{ReadRefusal}
use Rattle.bytecode.proofs.Loop.{ReadingFails, each_fails, each_goes_on}
use Rattle.modules.specs.declared.fault.FormatRefusalKind.TheVariants.{BadValue}
use Rattle.modules.specs.Format.{any, declared, channel_after, direction, label, is_among, name_after}
use Rattle.modules.specs.FormatParts.{exceptions, channels, is_built_in, channel_names, is_new_name}

not_utf8 : (text : List ℕ) (b : Bool) → is_utf8 text ≡ b → ¬ IsUtf8 text → b ≡ false
not_utf8 text true e h = absurd (h (IsUtf8-from_is_utf8 text e))
not_utf8 text false e h = refl

pub no_text : (taken : List ℕ → Bool) (text : List ℕ) → ¬ IsUtf8 text → is_new_name taken [] text ≡ false
no_text taken text h = rw (not_utf8 text (is_utf8 text) refl h) refl

pub is_new : (taken : List ℕ → Bool) (text : List ℕ) → IsUtf8 text → is_name_text text ≡ true → taken text ≡ false → is_new_name taken [] text ≡ true
is_new taken text h n t = rw (is_utf8-from_IsUtf8 text h, n, t) refl

pub no_name : (taken : List ℕ → Bool) (text : List ℕ) → IsUtf8 text → is_name_text text ≡ false → is_new_name taken [] text ≡ false
no_name taken text h n = rw (is_utf8-from_IsUtf8 text h, n) refl

pub not_new : (taken : List ℕ → Bool) (text : List ℕ) → IsUtf8 text → is_name_text text ≡ true → taken text ≡ true → is_new_name taken [] text ≡ false
not_new taken text h n t = rw (is_utf8-from_IsUtf8 text h, n, t) refl

pub put : (b old new : Bool) → new ≡ cond b true old → new ≡ (old || b)
put true true new e = e
put true false new e = e
put false true new e = e
put false false new e = e

-- a name that was added is taken, and the others are as before
pub taken_after : (bs : List ℕ) (s n : BTreeSet (String Global)) → UpdatesBy string_cmp (λ k. slice_cmp nat_cmp bs (string_bytes k)) s n true → (q : List ℕ) → contains_text n q ≡ (contains_text s q || bytes_eq bs q)
taken_after bs s n updates q = put (bytes_eq bs q) (contains_text s q) (contains_text n q) (btree_set_updates_text bs s n true updates q)

-- names that are new beside the same names are the same
pub same_names : (taken other : List ℕ → Bool) (before others : List (List ℕ)) → ((q : List ℕ) → (taken q || is_among before q) ≡ (other q || is_among others q)) → name_after taken before ≡ name_after other others
unfolding name_after
same_names taken other before others same =
    let all : (λ (q : List ℕ). taken q || is_among before q) ≡ (λ (q : List ℕ). other q || is_among others q) = λ i q. same q i in
    ap (λ (test : List ℕ → Bool). Checked BadValue (λ name. is_utf8 name && is_name_text name && not (test name)) Text) all

-- the name after those before it, where the set has those and the ones taken before
pub in_set : (taken now : List ℕ → Bool) (before : List (List ℕ)) → ((q : List ℕ) → now q ≡ (taken q || is_among before q)) → name_after now [] ≡ name_after taken before
in_set taken now before holds = same_names now taken [] before (λ q. or-false (now q) ∙ holds q)

among_more : (names : List (List ℕ)) (name q : List ℕ) → is_among (names ++ name ∷ []) q ≡ (is_among names q || bytes_eq name q)
among_more [] name q = or-false (bytes_eq name q)
among_more (other ∷ names) name q =
    ap (λ (b : Bool). bytes_eq other q || b) (among_more names name q) ∙ sym (or_assoc (bytes_eq other q) (is_among names q) (bytes_eq name q))

-- one more name in the set
pub in_set_more : (taken now after : List ℕ → Bool) (before : List (List ℕ)) (name : List ℕ) → ((q : List ℕ) → now q ≡ (taken q || is_among before q)) → ((q : List ℕ) → after q ≡ (now q || bytes_eq name q))
    → (q : List ℕ) → after q ≡ (taken q || is_among (before ++ name ∷ []) q)
in_set_more taken now after before name holds more q =
    more q ∙ ap (λ (b : Bool). b || bytes_eq name q) (holds q) ∙ or_assoc (taken q) (is_among before q) (bytes_eq name q) ∙ ap (λ (b : Bool). taken q || b) (sym (among_more before name q))

-- names one after the other, with the set of those that are taken
abbrev pub one_name : (List ℕ → Bool) → List (List ℕ) → List ℕ → Read (List ℕ)
one_name taken before rest = read (name_after taken before) rest

pub names_go_on : (taken now : List ℕ → Bool) (count i : ℕ) (before : List (List ℕ)) (bytes name after : List ℕ) (total : Read (List (List ℕ))) → i < count → ((q : List ℕ) → now q ≡ (taken q || is_among before q))
    → read (name_after now []) bytes ≡ Ok (name, after) → each_at (one_name taken) (count - i) before bytes ≡ total → each_at (one_name taken) (count - (i + 1)) (before ++ name ∷ []) after ≡ total
names_go_on taken now count i before bytes name after total lt holds found so_far =
    let same : read (name_after now []) bytes ≡ read (name_after taken before) bytes = ap (λ (form : ByteFormat (List ℕ)). read form bytes) (in_set taken now before holds) in
    each_goes_on (one_name taken) count i before bytes name after total lt (sym same ∙ found) so_far

pub names_fails : (e : OrNoMemory ReadRefusal) (taken now : List ℕ → Bool) (count i : ℕ) (before : List (List ℕ)) (bytes : List ℕ) (total : Read (List (List ℕ))) → i < count → ((q : List ℕ) → now q ≡ (taken q || is_among before q))
    → ReadingFails e (read (name_after now []) bytes) → each_at (one_name taken) (count - i) before bytes ≡ total → ReadingFails e total
names_fails e taken now count i before bytes total lt holds found so_far =
    let same : read (name_after now []) bytes ≡ read (name_after taken before) bytes = ap (λ (form : ByteFormat (List ℕ)). read form bytes) (in_set taken now before holds) in
    let P : Read (List ℕ) → Type 0 = λ r. ReadingFails e r in
    each_fails e (one_name taken) count i before bytes total lt (subst P same found) so_far

-- where the same names are taken, the same names are read
pub same_taken : (taken other : List ℕ → Bool) → ((q : List ℕ) → taken q ≡ other q) → (count : ℕ) (bytes : List ℕ) → each_at (one_name taken) count [] bytes ≡ each_at (one_name other) count [] bytes
same_taken taken other same count bytes =
    let all : taken ≡ other = λ i q. same q i in
    ap (λ (test : List ℕ → Bool). each_at (one_name test) count [] bytes) all

-- the declared exceptions, where the built-in ones are taken
pub exceptions-read : (taken : List ℕ → Bool) (count : ℕ) (bytes rest : List ℕ) → ((q : List ℕ) → taken q ≡ is_built_in q) → number_at bytes ≡ Ok (count, rest)
    → read exceptions bytes ≡ each_at (one_name taken) count [] rest
unfolding exceptions
exceptions-read taken count bytes rest same e = rw e (sym (same_taken taken is_built_in same count rest))

pub none_taken : (set : BTreeSet (String Global)) → set.keys ≡ [] → (q : List ℕ) → contains_text set q ≡ false
none_taken set empty q = rw empty refl

-- channels one after the other, with the set of the names that are taken
abbrev pub one_channel : ℕ → (List ℕ → Bool) → List ChannelContents → List ℕ → Read ChannelContents
one_channel count taken before rest = read (channel_after count taken before) rest

abbrev channel_named : ByteFormat (List ℕ) → ℕ → ByteFormat ChannelContents
channel_named form count =
    Named (λ fields. record { direction = fields.0; name = fields.1.0; label = fields.1.1 })
    (λ channel. (channel.direction, (channel.name, channel.label)))
    (Then direction (λ _. Then form (λ _. label count)))

pub same_channel : (count : ℕ) (taken now : List ℕ → Bool) (before : List ChannelContents) (bytes : List ℕ) → ((q : List ℕ) → now q ≡ (taken q || is_among (channel_names before) q))
    → one_channel count now [] bytes ≡ one_channel count taken before bytes
unfolding channel_after
same_channel count taken now before bytes holds = ap (λ (form : ByteFormat (List ℕ)). read (channel_named form count) bytes) (in_set taken now (channel_names before) holds)

pub channels_go_on : (principals : ℕ) (taken now : List ℕ → Bool) (count i : ℕ) (before : List ChannelContents) (bytes : List ℕ) (channel : ChannelContents) (after : List ℕ) (total : Read (List ChannelContents)) → i < count
    → ((q : List ℕ) → now q ≡ (taken q || is_among (channel_names before) q)) → one_channel principals now [] bytes ≡ Ok (channel, after)
    → each_at (one_channel principals taken) (count - i) before bytes ≡ total → each_at (one_channel principals taken) (count - (i + 1)) (before ++ channel ∷ []) after ≡ total
channels_go_on principals taken now count i before bytes channel after total lt holds found so_far =
    each_goes_on (one_channel principals taken) count i before bytes channel after total lt (sym (same_channel principals taken now before bytes holds) ∙ found) so_far

pub channels_fail : (e : OrNoMemory ReadRefusal) (principals : ℕ) (taken now : List ℕ → Bool) (count i : ℕ) (before : List ChannelContents) (bytes : List ℕ) (total : Read (List ChannelContents)) → i < count
    → ((q : List ℕ) → now q ≡ (taken q || is_among (channel_names before) q)) → ReadingFails e (one_channel principals now [] bytes)
    → each_at (one_channel principals taken) (count - i) before bytes ≡ total → ReadingFails e total
channels_fail e principals taken now count i before bytes total lt holds found so_far =
    let P : Read ChannelContents → Type 0 = λ r. ReadingFails e r in
    each_fails e (one_channel principals taken) count i before bytes total lt (subst P (same_channel principals taken now before bytes holds) found) so_far

-- ---- exceptions, and then channels

abbrev counted_channels : ℕ → (List ℕ → Bool) → List ℕ → Read (List ChannelContents)
counted_channels count taken bytes = read (Counted any (channel_after count taken)) bytes

same_channels : (count : ℕ) (taken : List ℕ → Bool) (names : List (List ℕ)) (bytes : List ℕ) → ((q : List ℕ) → taken q ≡ (is_built_in q || is_among names q))
    → read (channels count names) bytes ≡ counted_channels count taken bytes
unfolding channels
same_channels count taken names bytes same =
    let all : (λ (q : List ℕ). is_built_in q || is_among names q) ≡ taken = λ i q. sym (same q) i in
    ap (λ (test : List ℕ → Bool). counted_channels count test bytes) all

declared-is : (count : ℕ) → declared count ≡ Then exceptions (channels count)
unfolding declared exceptions channels
declared-is count = refl

pub declared-read : (count : ℕ) (taken : List ℕ → Bool) (bytes : List ℕ) (names : List (List ℕ)) (rest : List ℕ) (all : List ChannelContents) (after : List ℕ) → read exceptions bytes ≡ Ok (names, rest)
    → ((q : List ℕ) → taken q ≡ (is_built_in q || is_among names q)) → counted_channels count taken rest ≡ Ok (all, after) → read (declared count) bytes ≡ Ok ((names, all), after)
declared-read count taken bytes names rest all after e same f =
    let found : read (channels count names) rest ≡ Ok (all, after) = same_channels count taken names rest same ∙ f in
    rw (declared-is count, e, found) refl

pub declared-fails : (e : OrNoMemory ReadRefusal) (count : ℕ) (taken : List ℕ → Bool) (bytes : List ℕ) (names : List (List ℕ)) (rest : List ℕ) → read exceptions bytes ≡ Ok (names, rest)
    → ((q : List ℕ) → taken q ≡ (is_built_in q || is_among names q)) → ReadingFails e (counted_channels count taken rest) → ReadingFails e (read (declared count) bytes)
declared-fails NoMemory count taken bytes names rest e same f = tt
declared-fails (Refused stop) count taken bytes names rest e same f =
    let found : read (channels count names) rest ≡ Err stop = same_channels count taken names rest same ∙ f in
    rw (declared-is count, e, found) refl
