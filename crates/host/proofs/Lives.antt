-- What becomes of a session while a host answers events.
use Rattle.std.proofs.Common.{◌≡◌, ℕ, zero, suc, ◌+◌, ◌<◌, ◌≤◌, ◌⊎◌, ◌==◌, Bool, true, false, not, cond, List, [], ◌∷◌, ◌++◌, take, drop, Option, None, Some, refl, sym, ap, ◌∙◌, subst, inl, inr, ⊎_elim, arith, eq-eqb, eqb-true, ne_eqb}
use Rattle.std.specs.Prelude.{slice_get}
use Rattle.std.proofs.lemmas.Option.{none-some, same_Some}
use Rattle.principals.specs.ActsFor.{PrincipalHierarchy}
use Rattle.common.specs.declared.sent.Pair.{Pair}
use Rattle.modules.specs.Contents.{ModuleContents}
use Rattle.modules.specs.ByteFormat.{Spells}
use Rattle.modules.specs.Format.{module_file}
use Rattle.modules.specs.Machine.{Machine, Ending, exec, machine_code, sent_of}
use Rattle.channels.specs.World.{InputNumbers}
use Rattle.modules.specs.Isolated.{module_view}
use Rattle.modules.proofs.Executing.{exec_more}
use Rattle.host.specs.Meaning.{SessionContents, HostContents, HostEvent, Open, Turn, View, Close, HostAnswer, Opened, Turned, Viewed, Closed, Refused, CanOpen, MayAnswer, Answered, session_of, with_machine, without, IsOpen, IsNotOpen, first_machine, first_session, hierarchy_under, with_opened}
use Rattle.machine.specs.Run.{HasEnded}
use Rattle.machine.specs.declared.status.Status.{Status}
use Rattle.host.specs.Laws.{ending_of, moved_by, reported_of, steps_reported}
use Rattle.host.proofs.Ends.{still_ended_at, end_of_status}

-- the steps that a session takes, and then more
steps_join : (s : SessionContents) (taken more : ℕ) → exec (machine_code s.program) more (exec (machine_code s.program) taken s.machine) ≡ exec (machine_code s.program) (taken + more) s.machine
steps_join s taken more = exec_more (machine_code s.program) taken more (taken + more) s.machine refl

-- ---- the session of an id when another one changes

module _ (id other : ℕ) (apart : (other == id) ≡ false) where
  passes_by : (n : ℕ) → (n == other) ≡ true → (n == id) ≡ false
  passes_by n e = ap (λ k. k == id) (eqb-true n other e) ∙ apart

  with_machine-other : (machine : Machine) (sessions : List SessionContents)
      → session_of id (with_machine other machine sessions) ≡ session_of id sessions
  with_machine-other machine [] = refl
  with_machine-other machine (x ∷ sessions) = go (x.id == other) refl (with_machine-other machine sessions)
    where
      go : (b : Bool) → (x.id == other) ≡ b → session_of id (with_machine other machine sessions) ≡ session_of id sessions
          → session_of id (cond b (record x { machine = machine } ∷ sessions) (x ∷ with_machine other machine sessions)) ≡ cond (x.id == id) (Some x) (session_of id sessions)
      go true e rest =
          ap (λ b. cond b (Some (record x { machine = machine })) (session_of id sessions)) (passes_by x.id e)
          ∙ sym (ap (λ b. cond b (Some x) (session_of id sessions)) (passes_by x.id e))
      go false e rest = ap (λ r. cond (x.id == id) (Some x) r) rest

  without-other : (sessions : List SessionContents) → session_of id (without other sessions) ≡ session_of id sessions
  without-other [] = refl
  without-other (x ∷ sessions) = go (x.id == other) refl (without-other sessions)
    where
      go : (b : Bool) → (x.id == other) ≡ b → session_of id (without other sessions) ≡ session_of id sessions
          → session_of id (cond (not b) (x ∷ without other sessions) (without other sessions)) ≡ cond (x.id == id) (Some x) (session_of id sessions)
      go true e rest = rest ∙ sym (ap (λ b. cond b (Some x) (session_of id sessions)) (passes_by x.id e))
      go false e rest = ap (λ r. cond (x.id == id) (Some x) r) rest

-- ---- and when it changes itself

with_machine-same : (id : ℕ) (machine : Machine) (sessions : List SessionContents) (s : SessionContents) → session_of id sessions ≡ Some s
    → session_of id (with_machine id machine sessions) ≡ Some (record s { machine = machine })
with_machine-same id machine [] s h = absurd (none-some s h)
with_machine-same id machine (x ∷ sessions) s h = go (x.id == id) refl h (with_machine-same id machine sessions s)
  where
    go : (b : Bool) → (x.id == id) ≡ b → cond b (Some x) (session_of id sessions) ≡ Some s
        → (session_of id sessions ≡ Some s → session_of id (with_machine id machine sessions) ≡ Some (record s { machine = machine }))
        → session_of id (cond b (record x { machine = machine } ∷ sessions) (x ∷ with_machine id machine sessions)) ≡ Some (record s { machine = machine })
    go true e h rest =
        let same : x ≡ s = cc in
        ap (λ b. cond b (Some (record x { machine = machine })) (session_of id sessions)) e
        ∙ ap (λ (y : SessionContents). Some (record y { machine = machine })) same
    go false e h rest =
        ap (λ b. cond b (Some x) (session_of id (with_machine id machine sessions))) e ∙ rest h

without-same : (id : ℕ) (sessions : List SessionContents) → session_of id (without id sessions) ≡ None
without-same id [] = refl
without-same id (x ∷ sessions) = go (x.id == id) refl (without-same id sessions)
  where
    go : (b : Bool) → (x.id == id) ≡ b → session_of id (without id sessions) ≡ None
        → session_of id (cond (not b) (x ∷ without id sessions) (without id sessions)) ≡ None
    go true e rest = rest
    go false e rest = ap (λ b. cond b (Some x) (session_of id (without id sessions))) e ∙ rest

-- ---- one event

-- a session of an id that was given is open, or is there no more
record IsLive (id : ℕ) (session : SessionContents) (host : HostContents) : Type 0 where
  given : id < host.next
  is_open : IsOpen host id session

record IsClosed (id : ℕ) (host : HostContents) : Type 0 where
  given : id < host.next
  is_shut : IsNotOpen host id

is_older : (id next : ℕ) → id < next → (next == id) ≡ false
is_older id next below = ne_eqb next id (λ e. omega (arith, e))

one_session : (host : HostContents) (id other : ℕ) (first second : SessionContents) → other ≡ id → IsOpen host other first → IsOpen host id second → first ≡ second
one_session host id other first second e h k =
    let same = ap (λ n. session_of n host.sessions) e in
    cc

live_event : (limit id : ℕ) (s : SessionContents) (old new : HostContents) (event : HostEvent) (answer : HostAnswer)
    → MayAnswer limit old event answer new → IsLive id s old
    → IsLive id (moved_by s (reported_of id event answer)) new ⊎ IsClosed id new
live_event limit id s old new (Open bytes world under) (Opened n) by live =
    inl (subst (λ h. IsLive id s h) (sym by.2.2) (record {
      given = omega (arith, live.given);
      is_open = ap (λ b. cond b (Some (first_session old.next by.2.0 world under)) (session_of id old.sessions)) (is_older id old.next live.given) ∙ live.is_open;
    }))
live_event limit id s old new (Open bytes world under) (Refused fault) by live = inl (subst (λ h. IsLive id s h) (sym by.1) live)
live_event limit id s old new (Turn other n) (Turned taken status) by live = go (other == id) refl
  where
    go : (b : Bool) → (other == id) ≡ b → IsLive id (moved_by s (cond b taken 0)) new ⊎ IsClosed id new
    go true e =
        let number : other ≡ id = eqb-true other id e in
        let same = one_session old id other by.0 s number by.1 live.is_open in
        inl (subst (λ h. IsLive id (moved_by s taken) h) (sym by.2.2) (record {
          given = live.given;
          is_open = ap (λ k. session_of id (with_machine k by.2.0 old.sessions)) number
              ∙ with_machine-same id by.2.0 old.sessions s live.is_open
              ∙ ap (λ (m : Machine). Some (record s { machine = m })) (by.2.1.machine ∙ ap (λ (x : SessionContents). exec (machine_code x.program) taken x.machine) same);
        }))
    go false e =
        inl (subst (λ h. IsLive id s h) (sym by.2.2) (record {
          given = live.given;
          is_open = with_machine-other id other e by.2.0 old.sessions ∙ live.is_open;
        }))
live_event limit id s old new (Turn other n) (Refused fault) by live = inl (subst (λ h. IsLive id s h) (sym by.1) live)
live_event limit id s old new (View other p) (Viewed pairs) by live = inl (subst (λ h. IsLive id s h) (sym by.4) live)
live_event limit id s old new (View other p) (Refused fault) by live = inl (subst (λ h. IsLive id s h) (sym by.1) live)
live_event limit id s old new (Close other) Closed by live = go (other == id) refl
  where
    go : (b : Bool) → (other == id) ≡ b → IsLive id s new ⊎ IsClosed id new
    go true e =
        inr (subst (λ h. IsClosed id h) (sym by.1) (record {
          given = live.given;
          is_shut = ap (λ k. session_of id (without k old.sessions)) (eqb-true other id e) ∙ without-same id old.sessions;
        }))
    go false e =
        inl (subst (λ h. IsLive id s h) (sym by.1) (record {
          given = live.given;
          is_open = without-other id other e old.sessions ∙ live.is_open;
        }))
live_event limit id s old new (Close other) (Refused fault) by live = inl (subst (λ h. IsLive id s h) (sym by.1) live)
live_event limit id s old new event answer by live = absurd by

closed_event : (limit id : ℕ) (old new : HostContents) (event : HostEvent) (answer : HostAnswer)
    → MayAnswer limit old event answer new → IsClosed id old → IsClosed id new
closed_event limit id old new (Open bytes world under) (Opened n) by closed =
    subst (λ h. IsClosed id h) (sym by.2.2) (record {
      given = omega (arith, closed.given);
      is_shut = ap (λ b. cond b (Some (first_session old.next by.2.0 world under)) (session_of id old.sessions)) (is_older id old.next closed.given) ∙ closed.is_shut;
    })
closed_event limit id old new (Open bytes world under) (Refused fault) by closed = subst (λ h. IsClosed id h) (sym by.1) closed
closed_event limit id old new (Turn other n) (Turned taken status) by closed = go (other == id) refl
  where
    go : (b : Bool) → (other == id) ≡ b → IsClosed id new
    go true e =
        absurd (none-some by.0 (sym closed.is_shut ∙ ap (λ k. session_of k old.sessions) (sym (eqb-true other id e)) ∙ by.1))
    go false e =
        subst (λ h. IsClosed id h) (sym by.2.2) (record {
          given = closed.given;
          is_shut = with_machine-other id other e by.2.0 old.sessions ∙ closed.is_shut;
        })
closed_event limit id old new (Turn other n) (Refused fault) by closed = subst (λ h. IsClosed id h) (sym by.1) closed
closed_event limit id old new (View other p) (Viewed pairs) by closed = subst (λ h. IsClosed id h) (sym by.4) closed
closed_event limit id old new (View other p) (Refused fault) by closed = subst (λ h. IsClosed id h) (sym by.1) closed
closed_event limit id old new (Close other) Closed by closed = go (other == id) refl
  where
    go : (b : Bool) → (other == id) ≡ b → IsClosed id new
    go true e =
        subst (λ h. IsClosed id h) (sym by.1) (record {
          given = closed.given;
          is_shut = ap (λ k. session_of id (without k old.sessions)) (eqb-true other id e) ∙ without-same id old.sessions;
        })
    go false e =
        subst (λ h. IsClosed id h) (sym by.1) (record {
          given = closed.given;
          is_shut = without-other id other e old.sessions ∙ closed.is_shut;
        })
closed_event limit id old new (Close other) (Refused fault) by closed = subst (λ h. IsClosed id h) (sym by.1) closed
closed_event limit id old new event answer by closed = absurd by

-- ---- lists of events

-- what an event and its answer are, where the first ones of the lists are known
known : (limit : ℕ) (old new : HostContents) (event event' : HostEvent) (answer answer' : HostAnswer) → Some event ≡ Some event' → Some answer ≡ Some answer'
    → MayAnswer limit old event answer new → MayAnswer limit old event' answer' new
known limit old new event event' answer answer' e a by =
    subst (λ y. MayAnswer limit old event' y new) (same_Some answer answer' a) (subst (λ x. MayAnswer limit old x answer new) (same_Some event event' e) by)

module _ (limit id p : ℕ) (pairs : List Pair) where
  -- a session that is closed is not shown
  never_shown : (events : List HostEvent) (answers : List HostAnswer) (old new : HostContents) → Answered limit old events answers new → IsClosed id old
      → (k : ℕ) → slice_get events k ≡ Some (View id p) → slice_get answers k ≡ Some (Viewed pairs) → ⊥
  never_shown [] answers old new by closed k asked reported = none-some (View id p) asked
  never_shown (event ∷ events) [] old new by closed k asked reported = by
  never_shown (event ∷ events) (answer ∷ answers) old new by closed zero asked reported =
      let shown = known limit old by.0 event (View id p) answer (Viewed pairs) asked reported by.1 in
      none-some shown.0 (sym closed.is_shut ∙ shown.1)
  never_shown (event ∷ events) (answer ∷ answers) old new by closed (suc k) asked reported =
      never_shown events answers by.0 new by.2 (closed_event limit id old by.0 event answer by.1 closed) k asked reported

  -- a session that is there is shown as many steps on as its turns reported
  shown_moved : (events : List HostEvent) (answers : List HostAnswer) (old new : HostContents) (s : SessionContents)
      → Answered limit old events answers new → IsLive id s old
      → (k : ℕ) → slice_get events k ≡ Some (View id p) → slice_get answers k ≡ Some (Viewed pairs)
      → pairs ≡ module_view s.hierarchy s.program p (sent_of (exec (machine_code s.program) (steps_reported id (take k events) (take k answers)) s.machine))
  shown_moved [] answers old new s by live k asked reported = absurd (none-some (View id p) asked)
  shown_moved (event ∷ events) [] old new s by live k asked reported = absurd by
  shown_moved (event ∷ events) (answer ∷ answers) old new s by live zero asked reported =
      let shown = known limit old by.0 event (View id p) answer (Viewed pairs) asked reported by.1 in
      let same = one_session old id id shown.0 s refl shown.1 live.is_open in
      shown.3 ∙ ap (λ (x : SessionContents). module_view x.hierarchy x.program p (sent_of x.machine)) same
  shown_moved (event ∷ events) (answer ∷ answers) old new s by live (suc k) asked reported =
      ⊎_elim
      (λ next.
      shown_moved events answers by.0 new (moved_by s (reported_of id event answer)) by.2 next k asked reported
      ∙ ap (λ m. module_view s.hierarchy s.program p (sent_of m)) (steps_join s (reported_of id event answer) (steps_reported id (take k events) (take k answers))))
      (λ closed. absurd (never_shown events answers by.0 new by.2 closed k asked reported))
      (live_event limit id s old by.0 event answer by.1 live)

-- ---- the end that a turn reports

-- the steps that are reported grow with the list
steps_grow : (id : ℕ) (events : List HostEvent) (answers : List HostAnswer) (j k : ℕ) → j ≤ k
    → steps_reported id (take j events) (take j answers) ≤ steps_reported id (take k events) (take k answers)
steps_grow id events answers zero k h = omega arith
steps_grow id events answers (suc j) zero h = absurd (omega (arith, h))
steps_grow id [] answers (suc j) (suc k) h = omega arith
steps_grow id (event ∷ events) [] (suc j) (suc k) h = omega arith
steps_grow id (event ∷ events) (answer ∷ answers) (suc j) (suc k) h =
    let rest = steps_grow id events answers j k (omega (arith, h)) in
    omega (arith, rest)

module _ (limit id steps taken : ℕ) (reported : Status) (ending : Ending) (ends : ending_of reported ≡ Some ending) where
  -- a session that is closed has no turn
  never_turned : (events : List HostEvent) (answers : List HostAnswer) (old new : HostContents) → Answered limit old events answers new → IsClosed id old
      → (k : ℕ) → slice_get events k ≡ Some (Turn id steps) → slice_get answers k ≡ Some (Turned taken reported) → ⊥
  never_turned [] answers old new by closed k asked said = none-some (Turn id steps) asked
  never_turned (event ∷ events) [] old new by closed k asked said = by
  never_turned (event ∷ events) (answer ∷ answers) old new by closed zero asked said =
      let turned = known limit old by.0 event (Turn id steps) answer (Turned taken reported) asked said by.1 in
      none-some turned.0 (sym closed.is_shut ∙ turned.1)
  never_turned (event ∷ events) (answer ∷ answers) old new by closed (suc k) asked said =
      never_turned events answers by.0 new by.2 (closed_event limit id old by.0 event answer by.1 closed) k asked said

  -- after the turn that reports the end the run has ended
  ended_moved : (events : List HostEvent) (answers : List HostAnswer) (old new : HostContents) (s : SessionContents)
      → Answered limit old events answers new → IsLive id s old
      → (k : ℕ) → slice_get events k ≡ Some (Turn id steps) → slice_get answers k ≡ Some (Turned taken reported)
      → HasEnded ending (exec (machine_code s.program) (steps_reported id (take (suc k) events) (take (suc k) answers)) s.machine)
  ended_moved [] answers old new s by live k asked said = absurd (none-some (Turn id steps) asked)
  ended_moved (event ∷ events) [] old new s by live k asked said = absurd by
  ended_moved (event ∷ events) (answer ∷ answers) old new s by live zero asked said =
      let turned = known limit old by.0 event (Turn id steps) answer (Turned taken reported) asked said by.1 in
      let same = one_session old id id turned.0 s refl turned.1 live.is_open in
      let here : reported_of id event answer ≡ taken =
      ap (λ e. reported_of id e answer) (same_Some event (Turn id steps) asked) ∙ ap (reported_of id (Turn id steps)) (same_Some answer (Turned taken reported) said)
      ∙ ap (λ b. cond b taken 0) (eq-eqb id id refl) in
      let all : reported_of id event answer + 0 ≡ taken = omega (arith, here) in
      let after : HasEnded ending turned.2.0 = end_of_status (machine_code turned.0.program) steps taken reported turned.2.0 ending ends turned.2.1.reported in
      subst (HasEnded ending)
      (turned.2.1.machine ∙ ap (λ (x : SessionContents). exec (machine_code x.program) taken x.machine) same
      ∙ ap (λ n. exec (machine_code s.program) n s.machine) (sym all))
      after
  ended_moved (event ∷ events) (answer ∷ answers) old new s by live (suc k) asked said =
      ⊎_elim
      (λ next.
      subst (HasEnded ending) (steps_join s (reported_of id event answer) (steps_reported id (take (suc k) events) (take (suc k) answers)))
      (ended_moved events answers by.0 new (moved_by s (reported_of id event answer)) by.2 next k asked said))
      (λ closed. absurd (never_turned events answers by.0 new by.2 closed k asked said))
      (live_event limit id s old by.0 event answer by.1 live)

-- ---- from its opening on

opened_live : (id : ℕ) (old : HostContents) (m : ModuleContents) (world : List InputNumbers) (under : Option PrincipalHierarchy) → id ≡ old.next
    → IsLive id (first_session old.next m world under) (with_opened old m world under)
opened_live id old m world under e = record {
  given = omega (arith, e);
  is_open =
      ap (λ b. cond b (Some (first_session old.next m world under)) (session_of id old.sessions))
      (eq-eqb old.next id (sym e));
}

module _ (limit id p : ℕ) (pairs : List Pair) (bytes : List ℕ) (world : List InputNumbers) (under : Option PrincipalHierarchy) (m : ModuleContents)
    (unique : (n : ModuleContents) → Spells module_file n bytes → n ≡ m) where
  pub shown_fresh : (events : List HostEvent) (answers : List HostAnswer) (old new : HostContents) → Answered limit old events answers new
      → (i j : ℕ) → i < j
      → slice_get events i ≡ Some (Open bytes world under) → slice_get answers i ≡ Some (Opened id)
      → slice_get events j ≡ Some (View id p) → slice_get answers j ≡ Some (Viewed pairs)
      → pairs ≡ module_view (hierarchy_under under m) m p (sent_of (exec (machine_code m) (steps_reported id (drop i (take j events)) (drop i (take j answers))) (first_machine m world)))
  shown_fresh events answers old new by i zero later opens opened views viewed = absurd (omega arith)
  shown_fresh [] answers old new by i (suc j) later opens opened views viewed = absurd (none-some (Open bytes world under) opens)
  shown_fresh (event ∷ events) [] old new by i (suc j) later opens opened views viewed = absurd by
  shown_fresh (event ∷ events) (answer ∷ answers) old new by zero (suc j) later opens opened views viewed =
      let at = known limit old by.0 event (Open bytes world under) answer (Opened id) opens opened by.1 in
      let n : ModuleContents = at.2.0 in
      let live = subst (λ h. IsLive id (first_session old.next n world under) h) (sym at.2.2) (opened_live id old n world under at.1) in
      let first : reported_of id event answer ≡ 0 = ap (λ e. reported_of id e answer) (same_Some event (Open bytes world under) opens) ∙ ap (reported_of id (Open bytes world under)) (same_Some answer (Opened id) opened) in
      let steps : steps_reported id (take j events) (take j answers) ≡ reported_of id event answer + steps_reported id (take j events) (take j answers) = omega (arith, first) in
      shown_moved limit id p pairs events answers by.0 new (first_session old.next n world under) by.2 live j views viewed
      ∙ ap (λ (x : ModuleContents). module_view (hierarchy_under under x) x p (sent_of (exec (machine_code x) (steps_reported id (take j events) (take j answers)) (first_machine x world)))) (unique n at.2.1.spelled)
      ∙ ap (λ k. module_view (hierarchy_under under m) m p (sent_of (exec (machine_code m) k (first_machine m world)))) steps
  shown_fresh (event ∷ events) (answer ∷ answers) old new by (suc i) (suc j) later opens opened views viewed =
      shown_fresh events answers by.0 new by.2 i j (omega arith) opens opened views viewed

module _ (limit id steps taken : ℕ) (reported : Status) (ending : Ending) (ends : ending_of reported ≡ Some ending)
    (bytes : List ℕ) (world : List InputNumbers) (under : Option PrincipalHierarchy) (m : ModuleContents) (unique : (n : ModuleContents) → Spells module_file n bytes → n ≡ m) where
  pub ended_fresh : (events : List HostEvent) (answers : List HostAnswer) (old new : HostContents) → Answered limit old events answers new
      → (i k j : ℕ) → i < k → k < j
      → slice_get events i ≡ Some (Open bytes world under) → slice_get answers i ≡ Some (Opened id)
      → slice_get events k ≡ Some (Turn id steps) → slice_get answers k ≡ Some (Turned taken reported)
      → HasEnded ending (exec (machine_code m) (steps_reported id (drop i (take j events)) (drop i (take j answers))) (first_machine m world))
  ended_fresh events answers old new by i k zero later before opens opened asked said = absurd (omega (arith, before))
  ended_fresh events answers old new by i zero (suc j) later before opens opened asked said = absurd (omega (arith, later))
  ended_fresh [] answers old new by i (suc k) (suc j) later before opens opened asked said = absurd (none-some (Open bytes world under) opens)
  ended_fresh (event ∷ events) [] old new by i (suc k) (suc j) later before opens opened asked said = absurd by
  ended_fresh (event ∷ events) (answer ∷ answers) old new by zero (suc k) (suc j) later before opens opened asked said =
      let at = known limit old by.0 event (Open bytes world under) answer (Opened id) opens opened by.1 in
      let n : ModuleContents = at.2.0 in
      let live = subst (λ h. IsLive id (first_session old.next n world under) h) (sym at.2.2) (opened_live id old n world under at.1) in
      let first : reported_of id event answer ≡ 0 = ap (λ e. reported_of id e answer) (same_Some event (Open bytes world under) opens) ∙ ap (reported_of id (Open bytes world under)) (same_Some answer (Opened id) opened) in
      let total : steps_reported id (take j events) (take j answers) ≡ reported_of id event answer + steps_reported id (take j events) (take j answers) = omega (arith, first) in
      let ended = ended_moved limit id steps taken reported ending ends events answers by.0 new (first_session old.next n world under) by.2 live k asked said in
      let grown = still_ended_at (machine_code n) (steps_reported id (take (suc k) events) (take (suc k) answers)) (steps_reported id (take j events) (take j answers)) ending
      (first_machine n world) (steps_grow id events answers (suc k) j (omega (arith, before))) ended in
      subst (λ t. HasEnded ending (exec (machine_code m) t (first_machine m world))) total
      (subst (λ (x : ModuleContents). HasEnded ending (exec (machine_code x) (steps_reported id (take j events) (take j answers)) (first_machine x world))) (unique n at.2.1.spelled) grown)
  ended_fresh (event ∷ events) (answer ∷ answers) old new by (suc i) (suc k) (suc j) later before opens opened asked said =
      ended_fresh events answers by.0 new by.2 i k j (omega (arith, later)) (omega (arith, before)) opens opened asked said

-- what was opened can be
pub opened_can : (limit : ℕ) (bytes : List ℕ) (world : List InputNumbers) (under : Option PrincipalHierarchy) (id : ℕ) (events : List HostEvent) (answers : List HostAnswer)
    (old new : HostContents) → Answered limit old events answers new
    → (i : ℕ) → slice_get events i ≡ Some (Open bytes world under) → slice_get answers i ≡ Some (Opened id) → (m : ModuleContents) × CanOpen bytes world under m
opened_can limit bytes world under id [] answers old new by i opens opened = absurd (none-some (Open bytes world under) opens)
opened_can limit bytes world under id (event ∷ events) [] old new by i opens opened = absurd by
opened_can limit bytes world under id (event ∷ events) (answer ∷ answers) old new by zero opens opened =
    let at = known limit old by.0 event (Open bytes world under) answer (Opened id) opens opened by.1 in
    (at.2.0, at.2.1)
opened_can limit bytes world under id (event ∷ events) (answer ∷ answers) old new by (suc i) opens opened =
    opened_can limit bytes world under id events answers by.0 new by.2 i opens opened

-- ---- to the end of the list

module _ (limit id : ℕ) where
  still_closed : (events : List HostEvent) (answers : List HostAnswer) (old new : HostContents) → Answered limit old events answers new
      → IsClosed id old → IsClosed id new
  still_closed [] [] old new by closed = subst (λ h. IsClosed id h) (sym by) closed
  still_closed [] (answer ∷ answers) old new by closed = absurd by
  still_closed (event ∷ events) [] old new by closed = absurd by
  still_closed (event ∷ events) (answer ∷ answers) old new by closed =
      still_closed events answers by.0 new by.2 (closed_event limit id old by.0 event answer by.1 closed)

  still_moved : (events : List HostEvent) (answers : List HostAnswer) (old new : HostContents) (s : SessionContents)
      → Answered limit old events answers new → IsLive id s old
      → IsLive id (moved_by s (steps_reported id events answers)) new ⊎ IsClosed id new
  still_moved [] [] old new s by live = inl (subst (λ h. IsLive id s h) (sym by) live)
  still_moved [] (answer ∷ answers) old new s by live = absurd by
  still_moved (event ∷ events) [] old new s by live = absurd by
  still_moved (event ∷ events) (answer ∷ answers) old new s by live =
      ⊎_elim
      (λ next. ⊎_elim
      (λ l. inl (subst (λ (m : Machine). IsLive id (record s { machine = m }) new) (steps_join s (reported_of id event answer) (steps_reported id events answers)) l))
      (λ g. inr g)
      (still_moved events answers by.0 new (moved_by s (reported_of id event answer)) by.2 next))
      (λ closed. inr (still_closed events answers by.0 new by.2 closed))
      (live_event limit id s old by.0 event answer by.1 live)

module _ (limit id : ℕ) (bytes : List ℕ) (world : List InputNumbers) (under : Option PrincipalHierarchy) (m : ModuleContents)
    (unique : (n : ModuleContents) → Spells module_file n bytes → n ≡ m) where
  pub stands : (events : List HostEvent) (answers : List HostAnswer) (old new : HostContents) → Answered limit old events answers new
      → (i : ℕ) → slice_get events i ≡ Some (Open bytes world under) → slice_get answers i ≡ Some (Opened id)
      → (session : SessionContents) → IsOpen new id session
      → session ≡ record { id = id; program = m; hierarchy = hierarchy_under under m; machine = exec (machine_code m) (steps_reported id (drop i events) (drop i answers)) (first_machine m world) }
  stands [] answers old new by i opens opened session there = absurd (none-some (Open bytes world under) opens)
  stands (event ∷ events) [] old new by i opens opened session there = absurd by
  stands (event ∷ events) (answer ∷ answers) old new by zero opens opened session there =
      let at = known limit old by.0 event (Open bytes world under) answer (Opened id) opens opened by.1 in
      let n : ModuleContents = at.2.0 in
      let live = subst (λ h. IsLive id (first_session old.next n world under) h) (sym at.2.2) (opened_live id old n world under at.1) in
      let first : reported_of id event answer ≡ 0 = ap (λ e. reported_of id e answer) (same_Some event (Open bytes world under) opens) ∙ ap (reported_of id (Open bytes world under)) (same_Some answer (Opened id) opened) in
      let steps : steps_reported id events answers ≡ reported_of id event answer + steps_reported id events answers = omega (arith, first) in
      let same = unique n at.2.1.spelled in
      ⊎_elim
      (λ l.
      one_session new id id session (moved_by (first_session old.next n world under) (steps_reported id events answers)) refl there l.is_open
      ∙ (λ i. record { id = sym at.1 i; program = same i; hierarchy = hierarchy_under under (same i); machine = exec (machine_code (same i)) (steps i) (first_machine (same i) world) }))
      (λ g. absurd (none-some session (sym g.is_shut ∙ there)))
      (still_moved limit id events answers by.0 new (first_session old.next n world under) by.2 live)
  stands (event ∷ events) (answer ∷ answers) old new by (suc i) opens opened session there =
      stands events answers by.0 new by.2 i opens opened session there

-- ---- sessions that were open before

module _ (limit : ℕ) (events : List HostEvent) (answers : List HostAnswer) (old new : HostContents) (by : Answered limit old events answers new)
    (id : ℕ) (s : SessionContents) (given : id < old.next) (is_open : IsOpen old id s) where
  pub goes_on : (later : SessionContents) → IsOpen new id later → later ≡ moved_by s (steps_reported id events answers)
  goes_on later there =
      ⊎_elim
      (λ l. one_session new id id later (moved_by s (steps_reported id events answers)) refl there l.is_open)
      (λ g. absurd (none-some later (sym g.is_shut ∙ there)))
      (still_moved limit id events answers old new s by (record { given = given; is_open = is_open }))

  pub shows_on : (k p : ℕ) (pairs : List Pair) → slice_get events k ≡ Some (View id p) → slice_get answers k ≡ Some (Viewed pairs)
      → pairs ≡ module_view s.hierarchy s.program p (sent_of (exec (machine_code s.program) (steps_reported id (take k events) (take k answers)) s.machine))
  shows_on k p pairs views viewed =
      shown_moved limit id p pairs events answers old new s by (record { given = given; is_open = is_open }) k views viewed

-- ---- lists in a row

pub joined : (limit : ℕ) (events more : List HostEvent) (answers others : List HostAnswer) (old middle new : HostContents)
    → Answered limit old events answers middle → Answered limit middle more others new
    → Answered limit old (events ++ more) (answers ++ others) new
joined limit [] more [] others old middle new before after = subst (λ h. Answered limit h more others new) before after
joined limit [] more (answer ∷ answers) others old middle new before after = absurd before
joined limit (event ∷ events) more [] others old middle new before after = absurd before
joined limit (event ∷ events) more (answer ∷ answers) others old middle new before after =
    (before.0, before.1, joined limit events more answers others before.0 middle new before.2 after)

pub steps_add_up : (limit : ℕ) (events more : List HostEvent) (answers others : List HostAnswer) (old middle : HostContents)
    → Answered limit old events answers middle
    → (id : ℕ) → steps_reported id (events ++ more) (answers ++ others) ≡ steps_reported id events answers + steps_reported id more others
steps_add_up limit [] more [] others old middle before id = omega arith
steps_add_up limit [] more (answer ∷ answers) others old middle before id = absurd before
steps_add_up limit (event ∷ events) more [] others old middle before id = absurd before
steps_add_up limit (event ∷ events) more (answer ∷ answers) others old middle before id =
    let rest = steps_add_up limit events more answers others before.0 middle before.2 id in
    omega (arith, rest)

-- ---- ids

opened_next : (limit : ℕ) (old new : HostContents) (event : HostEvent) (n : ℕ) → MayAnswer limit old event (Opened n) new
    → (n ≡ old.next) × (new.next ≡ old.next + 1)
opened_next limit old new (Open bytes world under) n by = (by.1, ap (λ (h : HostContents). h.next) by.2.2)
opened_next limit old new event n by = absurd by

same_next : (old new : HostContents) → new ≡ old → old.next ≤ new.next
same_next old new e =
    let next = ap (λ (h : HostContents). h.next) e in
    omega arith

next_grows : (limit : ℕ) (old new : HostContents) (event : HostEvent) (answer : HostAnswer) → MayAnswer limit old event answer new → old.next ≤ new.next
next_grows limit old new (Open bytes world under) (Opened n) by =
    let next = ap (λ (h : HostContents). h.next) by.2.2 in
    omega arith
next_grows limit old new (Open bytes world under) (Refused fault) by = same_next old new by.1
next_grows limit old new (Turn id n) (Turned taken status) by =
    let next = ap (λ (h : HostContents). h.next) by.2.2 in
    omega arith
next_grows limit old new (Turn id n) (Refused fault) by = same_next old new by.1
next_grows limit old new (View id p) (Viewed pairs) by = same_next old new by.4
next_grows limit old new (View id p) (Refused fault) by = same_next old new by.1
next_grows limit old new (Close id) Closed by =
    let next = ap (λ (h : HostContents). h.next) by.1 in
    omega arith
next_grows limit old new (Close id) (Refused fault) by = same_next old new by.1
next_grows limit old new event answer by = absurd by

opened_by : (limit : ℕ) (old new : HostContents) (event : HostEvent) (answer : HostAnswer) (n : ℕ) → Some answer ≡ Some (Opened n)
    → MayAnswer limit old event answer new → (n ≡ old.next) × (new.next ≡ old.next + 1)
opened_by limit old new event answer n e by =
    opened_next limit old new event n (subst (λ y. MayAnswer limit old event y new) (same_Some answer (Opened n) e) by)

ids_from : (limit : ℕ) (events : List HostEvent) (answers : List HostAnswer) (old new : HostContents) → Answered limit old events answers new
    → (j n : ℕ) → slice_get answers j ≡ Some (Opened n) → old.next ≤ n
ids_from limit events [] old new by j n reported = absurd (none-some (Opened n) reported)
ids_from limit [] (answer ∷ answers) old new by j n reported = absurd by
ids_from limit (event ∷ events) (answer ∷ answers) old new by zero n reported =
    let at = opened_by limit old by.0 event answer n reported by.1 in
    omega (arith, at.0)
ids_from limit (event ∷ events) (answer ∷ answers) old new by (suc j) n reported =
    let one = next_grows limit old by.0 event answer by.1 in
    let more = ids_from limit events answers by.0 new by.2 j n reported in
    omega (arith, one, more)

pub ids_go_up : (limit : ℕ) (events : List HostEvent) (answers : List HostAnswer) (old new : HostContents) → Answered limit old events answers new
    → (i j first second : ℕ) → i < j → slice_get answers i ≡ Some (Opened first) → slice_get answers j ≡ Some (Opened second) → first < second
ids_go_up limit events answers old new by i zero first second later one other = absurd (omega arith)
ids_go_up limit events [] old new by i (suc j) first second later one other = absurd (none-some (Opened first) one)
ids_go_up limit [] (answer ∷ answers) old new by i (suc j) first second later one other = absurd by
ids_go_up limit (event ∷ events) (answer ∷ answers) old new by zero (suc j) first second later one other =
    let at = opened_by limit old by.0 event answer first one by.1 in
    let rest = ids_from limit events answers by.0 new by.2 j second other in
    omega (arith, at.0, at.1, rest)
ids_go_up limit (event ∷ events) (answer ∷ answers) old new by (suc i) (suc j) first second later one other =
    ids_go_up limit events answers by.0 new by.2 i j first second (omega arith) one other
