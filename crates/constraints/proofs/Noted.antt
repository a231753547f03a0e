-- Entries of exceptions that were noted: those at earlier calls stay, and the next call finds the present ones.
use Rattle.std.proofs.Common.{◌≡◌, refl, sym, ap, ◌∙◌, subst, ℕ, suc, ◌<◌, ◌≤◌, length, map, List, [], ◌∷◌, ◌++◌, Bool, true, false, ◌||◌, arith, ⊎_elim}
use Rattle.std.specs.Prelude.{◌==◌, ◌&&◌, if◌then◌else◌, nat_lt, Contains, slice_index_or}
use Rattle.std.specs.Global.{Global}
use Rattle.std.specs.declared.vec.Vec.{Vec}
use Rattle.std.proofs.lemmas.Bool.{le-leb, lt-leb, ltb-false}
use Rattle.std.proofs.lemmas.List.{get_or_past}
use Rattle.std.proofs.lemmas.List.Elements.{Contains-append_cases}
use Rattle.common.proofs.Cases.{by_test}
use Rattle.common.proofs.Elements.{none_in_nil, Contains-cons_cases, Contains-first, Contains-later}
use Rattle.labels.specs.Label.{Label}
use Rattle.resolved.specs.Exits.{handles}
use Rattle.resolved.specs.Program.{ThrownEntry}
use Rattle.resolved.specs.ProgramOf.{thrown_entry}
use Rattle.resolved.specs.Tree.{Handlers, NoMore, Catch}
use Rattle.resolved.specs.TreeOf.{handlers_of}
use Rattle.resolved.specs.declared.statement.Handler.{Handler}
use Rattle.resolved.specs.declared.tables.Thrown.{Thrown}
use Rattle.gathering.specs.Walk.{declares}
use Rattle.path_map.specs.Exceptions.{is_one_of}
use Rattle.constraints.specs.Journals.{AreOrdered, AreUpTo, IsBeforeAll, IsUpToDate, entry_at, entry_from, moments_at, noted, noted_all}
use Rattle.constraints.specs.Procedures.{declared_entry}
use Rattle.constraints.specs.ExitUnknowns.{entry_in_try, no_entry}
use Rattle.constraints.specs.Thinned.{AreNoted}
use Rattle.constraints.specs.declared.journal.Called.{Called}
use Rattle.constraints.specs.declared.journal.Journal.{Journal}
use Rattle.constraints.specs.declared.journal.Moment.{Moment}
use Rattle.constraints.specs.declared.exit_unknowns.ExitUnknown.{ExitUnknown}
use Rattle.constraints.proofs.Moments.{from-append}

-- ---- one moment more
last-of : (ms : List Moment) (m y : Moment) (P : Moment → Type 0) → ((z : Moment) → Contains ms z → P z) → P m → Contains (ms ++ m ∷ []) y → P y
last-of ms m y P each own h =
    ⊎_elim (λ k. each y k) (λ k. ⊎_elim (λ same. subst P same own) (λ none. absurd (none_in_nil y none)) (Contains-cons_cases m [] y k)) (Contains-append_cases ms (m ∷ []) y h)

before-more : (x : Moment) (ms : List Moment) (m : Moment) → IsBeforeAll x ms → x.call ≤ m.call → IsBeforeAll x (ms ++ m ∷ [])
before-more x [] m before least = (least, tt)
before-more x (y ∷ ms) m before least = (before.0, before-more x ms m before.1 least)

ordered-more : (ms : List Moment) (m : Moment) → AreOrdered ms → AreUpTo m.call ms → AreOrdered (ms ++ m ∷ [])
ordered-more [] m ordered upto = (tt, tt)
ordered-more (x ∷ ms) m ordered upto =
    (before-more x ms m ordered.0 (upto x (Contains-first x ms)), ordered-more ms m ordered.1 (λ y k. upto y (Contains-later x ms y k)))

-- moments at earlier calls stay, and the others are of this call
record Fits (call : ℕ) (before now : List Moment) : Type 0 where
  upto : AreUpTo call now
  ordered : AreOrdered now
  past : (c : ℕ) → c < call → entry_from now c no_entry ≡ entry_from before c no_entry

fits-more : (call : ℕ) (before now : List Moment) (entry : ExitUnknown) → Fits call before now → Fits call before (now ++ (record { call = call; entry = entry }) ∷ [])
fits-more call before now entry fits =
    let m : Moment = record { call = call; entry = entry } in
    record {
      upto = λ y h. last-of now m y (λ (z : Moment). z.call ≤ call) fits.upto (omega arith) h;
      ordered = ordered-more now m fits.ordered fits.upto;
      past = λ c below. from-append now m c no_entry ∙ ap (λ b. if b then entry else entry_from now c no_entry) (lt-leb call c below) ∙ fits.past c below;
    }

noted-fits : (count e call : ℕ) (entry : ExitUnknown) (x : ℕ) (before now : List Moment) → Fits call before now
    → Fits call before (noted count e (record { call = call; entry = entry }) x now)
noted-fits count e call entry x before now fits = go ((x == e) && nat_lt e count)
  where
    go : (b : Bool) → Fits call before (if b then now ++ (record { call = call; entry = entry }) ∷ [] else now)
    go true = fits-more call before now entry fits
    go false = fits

all-fits : (count call : ℕ) (thrown : List ExitUnknown) (exceptions : List ℕ) (x : ℕ) (before now : List Moment) → Fits call before now
    → Fits call before (noted_all count call thrown exceptions x now)
all-fits count call thrown [] x before now fits = fits
all-fits count call thrown (e ∷ rest) x before now fits =
    all-fits count call thrown rest x before (noted count e (record { call = call; entry = slice_index_or thrown e no_entry }) x now)
    (noted-fits count e call (slice_index_or thrown e no_entry) x before now fits)

-- the next call finds what was noted
now-more : (call : ℕ) (now : List Moment) (entry : ExitUnknown) → entry_from (now ++ (record { call = call; entry = entry }) ∷ []) call no_entry ≡ entry
now-more call now entry =
    from-append now (record { call = call; entry = entry }) call no_entry ∙ ap (λ b. if b then entry else entry_from now call no_entry) (le-leb call call (omega arith))

all-now : (count call : ℕ) (thrown : List ExitUnknown) (exceptions : List ℕ) (x : ℕ) (now : List Moment) → nat_lt x count ≡ true
    → (is_one_of exceptions x ≡ false → entry_from now call no_entry ≡ slice_index_or thrown x no_entry)
    → entry_from (noted_all count call thrown exceptions x now) call no_entry ≡ slice_index_or thrown x no_entry
all-now count call thrown [] x now inside had = had refl
all-now count call thrown (e ∷ rest) x now inside had =
    let own : ExitUnknown = slice_index_or thrown e no_entry in
    all-now count call thrown rest x (noted count e (record { call = call; entry = own }) x now) inside (λ none.
    by_test (x == e)
    (λ is.
    let same : x ≡ e = grind (arith, is) in
    let there : ((x == e) && nat_lt e count) ≡ true = ap (λ b. b && nat_lt e count) is ∙ (ap (λ k. nat_lt k count) (sym same) ∙ inside) in
    ap (λ b. entry_from (if b then now ++ (record { call = call; entry = own }) ∷ [] else now) call no_entry) there
    ∙ now-more call now own ∙ ap (λ k. slice_index_or thrown k no_entry) (sym same))
    (λ other.
    let not_there : ((x == e) && nat_lt e count) ≡ false = ap (λ b. b && nat_lt e count) other in
    ap (λ b. entry_from (if b then now ++ (record { call = call; entry = own }) ∷ [] else now) call no_entry) not_there
    ∙ had (ap (λ b. b || is_one_of rest x) other ∙ none)))

all-none : (count call : ℕ) (thrown : List ExitUnknown) (exceptions : List ℕ) (x : ℕ) (now : List Moment) → nat_lt x count ≡ false
    → noted_all count call thrown exceptions x now ≡ now
all-none count call thrown [] x now outside = refl
all-none count call thrown (e ∷ rest) x now outside =
    let own : ExitUnknown = slice_index_or thrown e no_entry in
    ap (noted_all count call thrown rest x)
    (by_test (x == e)
    (λ is.
    let same : x ≡ e = grind (arith, is) in
    let not_there : ((x == e) && nat_lt e count) ≡ false = ap (λ b. b && nat_lt e count) is ∙ (ap (λ k. nat_lt k count) (sym same) ∙ outside) in
    ap (λ b. if b then now ++ (record { call = call; entry = own }) ∷ [] else now) not_there)
    (λ other.
    let not_there : ((x == e) && nat_lt e count) ≡ false = ap (λ b. b && nat_lt e count) other in
    ap (λ b. if b then now ++ (record { call = call; entry = own }) ∷ [] else now) not_there))
    ∙ all-none count call thrown rest x now outside

-- ---- a journal in which the entries of some exceptions were noted, where those of the others are what they were
pub noted-journal : (before after : Journal) (thrown changed : List ExitUnknown) (exceptions : List ℕ)
    → after.calls ≡ before.calls
    → ((x : ℕ) → moments_at after.moments.items x ≡ noted_all (length before.moments.items) (length before.calls.items) changed exceptions x (moments_at before.moments.items x))
    → length after.moments.items ≡ length before.moments.items → length changed ≡ length thrown
    → ((x : ℕ) → is_one_of exceptions x ≡ false → slice_index_or changed x no_entry ≡ slice_index_or thrown x no_entry)
    → IsUpToDate before thrown → AreNoted before after changed
noted-journal before after thrown changed exceptions calls moments count width others ready =
    let call : ℕ = length before.calls.items in
    let same : length after.calls.items ≡ call = ap (λ (v : Vec Called Global). length v.items) calls in
    let fits : (x : ℕ) → Fits call (moments_at before.moments.items x) (moments_at after.moments.items x) = λ x.
    subst (Fits call (moments_at before.moments.items x)) (sym (moments x))
    (all-fits (length before.moments.items) call changed exceptions x (moments_at before.moments.items x) (moments_at before.moments.items x)
    (record { upto = ready.upto x; ordered = ready.ordered x; past = λ c below. refl })) in
    let now : (x : ℕ) → entry_at after x call ≡ slice_index_or changed x no_entry = λ x.
    ap (λ ms. entry_from ms call no_entry) (moments x)
    ∙ by_test (nat_lt x (length before.moments.items))
    (λ inside. all-now (length before.moments.items) call changed exceptions x (moments_at before.moments.items x) inside (λ none. ready.now x ∙ sym (others x none)))
    (λ outside.
    let least : length before.moments.items ≤ x = ltb-false x (length before.moments.items) outside in
    ap (λ ms. entry_from ms call no_entry) (all-none (length before.moments.items) call changed exceptions x (moments_at before.moments.items x) outside)
    ∙ ready.now x ∙ get_or_past thrown x no_entry (omega (arith, least, ready.wide)) ∙ sym (get_or_past changed x no_entry (omega (arith, least, ready.wide, width)))) in
    record {
      calls_are = calls;
      past_are = λ x c below. (fits x).past c below;
      up_to_date = record {
        now = λ x. ap (entry_at after x) same ∙ now x;
        past = λ called h. let below = ready.past called (subst (λ (v : Vec Called Global). Contains v.items called) calls h) in omega (arith, below, same);
        upto = λ x. subst (λ n. AreUpTo n (moments_at after.moments.items x)) (sym same) (fits x).upto;
        ordered = λ x. (fits x).ordered;
        wide = omega (arith, count, ready.wide, width);
      };
    }

-- ---- which exceptions are noted
pub handled-ones : (handlers : List Handler) (x : ℕ) → is_one_of (map (λ (handler : Handler). handler.exception) handlers) x ≡ handles (handlers_of handlers) x
handled-ones [] x = refl
handled-ones (handler ∷ rest) x = ap (λ b. (x == handler.exception) || b) (handled-ones rest x)

pub declared-ones : (labels : List Label) (throws : List Thrown) (x : ℕ) → is_one_of (map (λ (declared : Thrown). declared.exception) throws) x ≡ declares (map (thrown_entry labels) throws) x
declared-ones labels [] x = refl
declared-ones labels (declared ∷ rest) x = ap (λ b. (x == declared.exception) || b) (declared-ones labels rest x)

-- those that are not keep their entries
or-false : (a b : Bool) → (a || b) ≡ false → (a ≡ false) × (b ≡ false)
or-false true b e = let i : true ≡ false = e in absurd (cc)
or-false false b e = (refl, e)

pub unhandled-stay : (handlers : Handlers) (n level x : ℕ) (old : ExitUnknown) → handles handlers x ≡ false → entry_in_try handlers n level x old ≡ old
unhandled-stay NoMore n level x old none = refl
unhandled-stay (Catch at handled body rest) n level x old none =
    let parts = or-false (x == handled) (handles rest x) none in
    ap (λ b. entry_in_try rest (suc n) level x (if b then (if old.level == level then old else (record { number = n; level = level })) else old)) parts.0
    ∙ unhandled-stay rest (suc n) level x old parts.1

pub undeclared-stay : (throws : List ThrownEntry) (n level x : ℕ) (old : ExitUnknown) → declares throws x ≡ false → declared_entry throws n level x old ≡ old
undeclared-stay [] n level x old none = refl
undeclared-stay (entry ∷ rest) n level x old none =
    let parts = or-false (x == entry.exception) (declares rest x) none in
    ap (λ b. if b then (record { number = n; level = level }) else declared_entry rest (suc n) level x old) parts.0
    ∙ undeclared-stay rest (suc n) level x old parts.1
