-- Kept sessions and those of the meaning.
use Rattle.std.proofs.Common.{◌≡◌, ℕ, zero, suc, ◌+◌, ◌^◌, ◌<◌, ◌≤◌, ◌==◌, Bool, true, false, not, cond, List, [], ◌∷◌, map, length, get_or, set, Option, None, Some, refl, sym, ap, ◌∙◌, subst, arith}
use Rattle.std.specs.Prelude.{◌↔◌, ◌≢◌, filter, position, option_map, Result, Ok, Err, IfErr, IsErrOf}
use Rattle.std.specs.List.{find, insert, position_or_len}
use Rattle.std.specs.Option.{SomeIff}
use Rattle.std.proofs.lemmas.List.{length-map}
use Rattle.principals.specs.ActsFor.{PrincipalHierarchy}
use Rattle.channels.specs.World.{InputNumbers, input_names}
use Rattle.std.proofs.lemmas.Grind.{common_steps}
use Rattle.std.proofs.lemmas.List.Folds.{find_at}
use Rattle.std.proofs.lemmas.List.Quantifiers.{position-Some}
use Rattle.std.proofs.lemmas.Option.{none-some, slice_get_past}
use Rattle.modules.specs.Machine.{Machine}
use Rattle.machine.specs.Run.{machine_of, names_of}
use Rattle.machine.specs.declared.fault.NewRefusal.{NewRefusal}
use Rattle.machine.specs.declared.fault.NewRefusal.TheVariants.{UnknownChannel}
use Rattle.modules.specs.Contents.{ModuleContents}
use Rattle.verifier.specs.Loaded.{IsLoaded}
use Rattle.common.specs.Answers.{IfRefused}
use Rattle.common.specs.declared.fault.OrNoMemory.{OrNoMemory}
use Rattle.common.specs.declared.fault.OrNoMemory.TheVariants.{NoMemory, Refused}
use Rattle.host.specs.Meaning.{SessionContents, HostContents, IsOpen, IsNotOpen, session_of, with_machine, without, HasRoom, CannotOpen, OpenRefused, ReportsFault, first_session, hierarchy_under, with_opened}
use Rattle.host.specs.Next.{next_of}
use Rattle.host.specs.declared.fault.HostRefusal.{HostRefusal}
use Rattle.host.specs.declared.fault.HostRefusal.TheVariants.{Full, UnknownId, UnknownPrincipal, Load, New, NotContained}
use Rattle.host.specs.Values.{SessionRun, HostRuns, contents_of, host_of}

abbrev has_id : ℕ → SessionRun → Bool
has_id id session = session.id == id

-- ---- looking up

found : (id : ℕ) (xs : List SessionRun) → session_of id (map contents_of xs) ≡ option_map contents_of (find (has_id id) xs)
found id [] = refl
found id (x ∷ xs) = by (x.id == id) (found id xs)
  where
    by : (b : Bool) → session_of id (map contents_of xs) ≡ option_map contents_of (find (has_id id) xs) → cond b (Some (contents_of x)) (session_of id (map contents_of xs)) ≡ option_map contents_of (cond b (Some x) (find (has_id id) xs))
    by true rest = refl
    by false rest = rest

missing_place : (p : SessionRun → Bool) (xs : List SessionRun) → position p xs ≡ None → length xs ≤ position_or_len p xs
missing_place p xs e = grind (arith, common_steps)

pub not_there : (id : ℕ) (xs : List SessionRun) → position (has_id id) xs ≡ None → session_of id (map contents_of xs) ≡ None
not_there id xs e =
    found id xs
    ∙ ap (option_map contents_of) (find_at (has_id id) xs ∙ slice_get_past xs (position_or_len (has_id id) xs) (missing_place (has_id id) xs e))

-- at the first index with an id stands its session
at_first : (id : ℕ) (xs : List SessionRun) (index : ℕ) (d : SessionRun) → index < length xs → has_id id (get_or xs index d) ≡ true
    → ((k : ℕ) → k < index → has_id id (get_or xs k d) ≡ false)
    → session_of id (map contents_of xs) ≡ Some (contents_of (get_or xs index d))
at_first id [] index d inside here before = absurd (omega arith)
at_first id (x ∷ xs) zero d inside here before =
    ap (λ b. cond b (Some (contents_of x)) (session_of id (map contents_of xs))) here
at_first id (x ∷ xs) (suc index) d inside here before =
    let head : (x.id == id) ≡ false = before 0 (omega arith) in
    ap (λ b. cond b (Some (contents_of x)) (session_of id (map contents_of xs))) head
    ∙ at_first id xs index d (omega arith) here (λ k below. before (suc k) (omega arith))

pub there : (id : ℕ) (xs : List SessionRun) (index : ℕ) (d : SessionRun) → position (has_id id) xs ≡ Some index
    → session_of id (map contents_of xs) ≡ Some (contents_of (get_or xs index d))
there id xs index d e =
    let at = position-Some (has_id id) xs index d e in
    at_first id xs index d at.0 at.1 at.2

pub somewhere : (id : ℕ) (xs : List SessionRun) (index : ℕ) → position (has_id id) xs ≡ Some index
    → (session : SessionContents) × (session_of id (map contents_of xs) ≡ Some session)
somewhere id [] index e = absurd (none-some index e)
somewhere id (x ∷ xs) index e = (contents_of (get_or (x ∷ xs) index x), there id (x ∷ xs) index x e)

-- ---- changing

changed_first : (id : ℕ) (xs : List SessionRun) (index : ℕ) (d new : SessionRun) → index < length xs → has_id id (get_or xs index d) ≡ true
    → ((k : ℕ) → k < index → has_id id (get_or xs k d) ≡ false)
    → (machine : Machine) → contents_of new ≡ record (contents_of (get_or xs index d)) { machine = machine }
    → map contents_of (set xs index new) ≡ with_machine id machine (map contents_of xs)
changed_first id [] index d new inside here before machine e = absurd (omega arith)
changed_first id (x ∷ xs) zero d new inside here before machine e =
    let y = record (contents_of x) { machine = machine } in
    ap (λ s. s ∷ map contents_of xs) e
    ∙ sym (ap (λ b. cond b (y ∷ map contents_of xs) (contents_of x ∷ with_machine id machine (map contents_of xs))) here)
changed_first id (x ∷ xs) (suc index) d new inside here before machine e =
    let head : (x.id == id) ≡ false = before 0 (omega arith) in
    let y = record (contents_of x) { machine = machine } in
    ap (λ s. contents_of x ∷ s) (changed_first id xs index d new (omega arith) here (λ k below. before (suc k) (omega arith)) machine e)
    ∙ sym (ap (λ b. cond b (y ∷ map contents_of xs) (contents_of x ∷ with_machine id machine (map contents_of xs))) head)

pub changed : (id : ℕ) (xs : List SessionRun) (index : ℕ) (d new : SessionRun) → position (has_id id) xs ≡ Some index
    → (machine : Machine) → contents_of new ≡ record (contents_of (get_or xs index d)) { machine = machine }
    → map contents_of (set xs index new) ≡ with_machine id machine (map contents_of xs)
changed id xs index d new e machine same =
    let at = position-Some (has_id id) xs index d e in
    changed_first id xs index d new at.0 at.1 at.2 machine same

-- the session of an id is another one with the same id and module
pub turned : (id : ℕ) (xs : List SessionRun) (index : ℕ) (old new : SessionRun) → position (has_id id) xs ≡ Some index
    → old ≡ get_or xs index old → new.id ≡ old.id → new.run.program ≡ old.run.program → new.under ≡ old.under
    → map contents_of (set xs index new) ≡ with_machine id (machine_of new.run) (map contents_of xs)
turned id xs index old new e at same_id same_program same_under =
    changed id xs index old new e (machine_of new.run)
    (λ i. record {
      id = (same_id ∙ ap (λ (s : SessionRun). s.id) at) i;
      program = (same_program ∙ ap (λ (s : SessionRun). s.run.program) at) i;
      hierarchy = hierarchy_under ((same_under ∙ ap (λ (s : SessionRun). s.under) at) i) ((same_program ∙ ap (λ (s : SessionRun). s.run.program) at) i);
      machine = machine_of new.run;
    })

pub filtered : (id : ℕ) (xs : List SessionRun) → map contents_of (filter (λ session. not (session.id == id)) xs) ≡ without id (map contents_of xs)
filtered id [] = refl
filtered id (x ∷ xs) = by (x.id == id) (filtered id xs)
  where
    by : (b : Bool) → map contents_of (filter (λ session. not (session.id == id)) xs) ≡ without id (map contents_of xs)
        → map contents_of (cond (not b) (x ∷ filter (λ session. not (session.id == id)) xs) (filter (λ session. not (session.id == id)) xs))
        ≡ cond (not b) (contents_of x ∷ without id (map contents_of xs)) (without id (map contents_of xs))
    by true rest = rest
    by false rest = ap (λ s. contents_of x ∷ s) rest

-- ---- in a host

-- sessions that are those of a host
module _ (host : HostRuns) (xs : List SessionRun) (are : xs ≡ host.sessions) (id : ℕ) where
  pub is_not_open : (r : Option ℕ) → r ≡ position (has_id id) xs → r ≡ None → IsNotOpen (host_of host) id
  is_not_open r found none = ap (λ l. session_of id (map contents_of l)) (sym are) ∙ not_there id xs (sym found ∙ none)

  pub is_open : (r : Option ℕ) (index : ℕ) (session : SessionRun) → r ≡ position (has_id id) xs → r ≡ Some index
      → session ≡ get_or xs index session → IsOpen (host_of host) id (contents_of session)
  is_open r index session found some at =
      ap (λ l. session_of id (map contents_of l)) (sym are)
      ∙ there id xs index session (sym found ∙ some)
      ∙ ap (λ s. Some (contents_of s)) (sym at)

  pub is_open_somewhere : (r : Option ℕ) (index : ℕ) → r ≡ position (has_id id) xs → r ≡ Some index
      → (session : SessionContents) × IsOpen (host_of host) id session
  is_open_somewhere r index found some =
      let at = somewhere id xs index (sym found ∙ some) in
      (at.0, ap (λ l. session_of id (map contents_of l)) (sym are) ∙ at.1)

-- a host by its parts
pub of_parts : (next next' : ℕ) (sessions sessions' : List SessionContents) → next ≡ next' → sessions ≡ sessions'
    → ◌≡◌ {A = HostContents} (record { next = next; sessions = sessions }) (record { next = next'; sessions = sessions' })
of_parts next next' sessions sessions' e f = λ i. record { next = e i; sessions = f i }

-- ---- opening

pub has_room : (limit : ℕ) (host : HostRuns) (next : Option ℕ) (xs : List SessionRun)
    → ◌≡◌ {A = HostRuns} (record { next = next_of next; sessions = xs }) host
    → (id : ℕ) → next ≡ Some id → id < 2 ^ 64 → length xs < limit → HasRoom limit (host_of host)
has_room limit host next xs is id e below inside =
    let first : next_of next ≡ id = ap next_of e in
    let kept : HasRoom limit (record { next = next_of next; sessions = map contents_of xs }) =
    record { room_left = rw length-map inside; id_left = omega (arith, first) } in
    subst (λ h. HasRoom limit (host_of h)) is kept

pub refused_with_room : (limit : ℕ) (host : HostContents) (bytes : List ℕ) (world : List InputNumbers) (under : Option PrincipalHierarchy)
    (fault : OrNoMemory HostRefusal)
    → HasRoom limit host → IfRefused (CannotOpen bytes world under) fault → ReportsFault (HasRoom limit host) (OpenRefused limit host bytes world under) fault
refused_with_room limit host bytes world under NoMemory room cannot = room
refused_with_room limit host bytes world under (Refused (Load refusal)) room cannot = (room, cannot)
refused_with_room limit host bytes world under (Refused (New refusal)) room cannot = (room, cannot)
refused_with_room limit host bytes world under (Refused NotContained) room cannot = (room, cannot)
refused_with_room limit host bytes world under (Refused Full) room cannot = absurd cannot
refused_with_room limit host bytes world under (Refused UnknownId) room cannot = absurd cannot
refused_with_room limit host bytes world under (Refused UnknownPrincipal) room cannot = absurd cannot

-- what a machine refuses of a module that was loaded
pub not_made : {T : Type 0} (bytes : List ℕ) (world : List InputNumbers) (m : ModuleContents) (made : Result T (OrNoMemory NewRefusal)) → IsLoaded bytes m
    → IsErrOf made (Refused UnknownChannel) ↔ (names_of world ≢ input_names m) → IfErr made (IfRefused (λ refusal. CannotOpen bytes world None (New refusal)))
not_made bytes world m (Ok machine) loaded unknown = tt
not_made bytes world m (Err NoMemory) loaded unknown = tt
not_made bytes world m (Err (Refused UnknownChannel)) loaded unknown = (m, loaded.spelled, loaded.not_refused, unknown.0 refl)

pub next_after : (id : ℕ) → id < 2 ^ 64 → (after : Option ℕ) → SomeIff after (id + 1 < 18446744073709551616) (id + 1) → next_of after ≡ id + 1
next_after id below None none = omega (arith, none)
next_after id below (Some next) some = some.1

pub opened_as : (host : HostRuns) (next after : Option ℕ) (xs ys : List SessionRun)
    → ◌≡◌ {A = HostRuns} (record { next = next_of next; sessions = xs }) host
    → (id : ℕ) → next ≡ Some id → next_of after ≡ id + 1
    → (new : SessionRun) → ys ≡ insert xs 0 new → (world : List InputNumbers) (under : Option PrincipalHierarchy)
    → contents_of new ≡ first_session id new.run.program world under
    → host_of (record { next = next_of after; sessions = ys }) ≡ with_opened (host_of host) new.run.program world under
opened_as host next after xs ys is id e sum new inserted world under first =
    let number : id ≡ host.next = sym (ap next_of e) ∙ ap (λ (h : HostRuns). h.next) is in
    of_parts (next_of after) (host.next + 1) (map contents_of ys) (first_session host.next new.run.program world under ∷ map contents_of host.sessions)
    (sum ∙ ap (λ n. n + 1) number)
    (ap (map contents_of) (inserted)
    ∙ (λ i. (first ∙ ap (λ n. first_session n new.run.program world under) number) i ∷ map contents_of (is i).sessions))
