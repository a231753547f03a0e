-- A turn of no steps leaves the host of a handle as it was.
use Rattle.std.proofs.Common.{◌≡◌, ℕ, Bool, true, false, cond, ◌==◌, List, [], ◌∷◌, Option, None, Some, refl, sym, ap, ◌∙◌, subst, arith}
use Rattle.std.proofs.lemmas.Option.{same_Some}
use Rattle.common.specs.declared.fault.OrNoMemory.{OrNoMemory}
use Rattle.common.specs.declared.fault.OrNoMemory.TheVariants.{NoMemory}
use Rattle.common.specs.declared.fault.OrNoMemory.TheVariants as faults
use Rattle.host.specs.Meaning.{SessionContents, HostContents, HostEvent, Open, Turn, View, Close, HostAnswer, Opened, Turned, Viewed, Closed, Refused, MayAnswer, session_of, with_machine}
use Rattle.host.specs.Values.{HostRuns, host_of}
use Rattle.host.specs.declared.fault.HostRefusal.{HostRefusal}
use Rattle.host.specs.declared.hosts.TheConstants.{MAX_SESSIONS}
use Rattle.machine.specs.declared.status.Status.{Status}
use Rattle.modules.specs.Machine.{exec, machine_code}
use Rattle.flowc_c.specs.Hosts.{hosted, GivesAnswer, Asked, Says, TakesTurn}
use Rattle.flowc_c.specs.declared.reply.Reply.{Reply}

-- ---- the host of a handle

-- an answer is one of the host that the handle held
pub given : (old new : Option HostRuns) (event : HostEvent) (answer : HostAnswer)
    → Asked old event (Some answer) new → GivesAnswer (hosted old) event answer (hosted new)
given (Some old) (Some new) event answer asked =
    record { before = host_of old; after = host_of new; held = refl; holds = refl; may_answer = asked }
given (Some old) None event answer asked = absurd asked
given None new event answer asked = absurd asked

-- where no answer comes there is no host, before and after
still_absent : (old new : Option HostRuns) (event : HostEvent) → Asked old event None new → hosted new ≡ hosted old
still_absent (Some old) new event asked = absurd asked
still_absent None (Some new) event asked = absurd asked
still_absent None None event asked = refl

-- ---- events that change nothing

-- a host that refuses an event is as it was
as_it_was : (limit : ℕ) (old new : HostContents) (event : HostEvent) (fault : OrNoMemory HostRefusal)
    → MayAnswer limit old event (Refused fault) new → new ≡ old
as_it_was limit old new (Open bytes world under) fault may = may.1
as_it_was limit old new (Turn id steps) fault may = may.1
as_it_was limit old new (View id principal) fault may = may.1
as_it_was limit old new (Close id) fault may = may.1

same_hosts : {old new : Option HostContents} {event : HostEvent} {answer : HostAnswer} (gives : GivesAnswer old event answer new)
    → gives.after ≡ gives.before → new ≡ old
same_hosts gives e = gives.holds ∙ ap Some e ∙ sym gives.held

refused_stays : {old new : Option HostContents} {event : HostEvent} {fault : OrNoMemory HostRefusal} (gives : GivesAnswer old event (Refused fault) new)
    → gives.after ≡ gives.before
refused_stays {event = event} {fault = fault} gives = as_it_was MAX_SESSIONS gives.before gives.after event fault gives.may_answer

-- a session whose machine is put in again
put_again : (id : ℕ) (sessions : List SessionContents) (session : SessionContents)
    → session_of id sessions ≡ Some session → with_machine id session.machine sessions ≡ sessions
put_again id [] session there = refl
put_again id (first ∷ rest) session there = go (first.id == id) (put_again id rest session) there
  where
    go : (b : Bool) → (session_of id rest ≡ Some session → with_machine id session.machine rest ≡ rest)
        → cond b (Some first) (session_of id rest) ≡ Some session
        → cond b (record first { machine = session.machine } ∷ rest) (first ∷ with_machine id session.machine rest) ≡ first ∷ rest
    go true again is = ap (λ (s : SessionContents). record first { machine = s.machine } ∷ rest) (sym (same_Some first session is))
    go false again is = ap (λ (xs : List SessionContents). first ∷ xs) (again is)

-- a turn of no steps
no_step : {old new : Option HostContents} (id taken : ℕ) (status : Status) (gives : GivesAnswer old (Turn id 0) (Turned taken status) new)
    → gives.after ≡ gives.before
no_step id taken status gives =
    let may = gives.may_answer in
    let session : SessionContents = may.0 in
    let none : taken ≡ 0 = omega (arith, may.2.1.within) in
    let stands : may.2.0 ≡ session.machine =
    may.2.1.machine ∙ ap (λ n. exec (machine_code session.program) n session.machine) none in
    may.2.2
    ∙ ap (λ m. record gives.before { sessions = with_machine id m gives.before.sessions }) stands
    ∙ ap (λ xs. record gives.before { sessions = xs }) (put_again id gives.before.sessions session may.1)

-- ---- turns

module _ (old new : Option HostRuns) (id : ℕ) (answer : Option HostAnswer) where
  -- a turn of no steps leaves the host of a handle as it was
  pub stood : Asked old (Turn id 0) answer new → hosted new ≡ hosted old
  stood = go answer
    where
      go : (answer : Option HostAnswer) → Asked old (Turn id 0) answer new → hosted new ≡ hosted old
      go None asked = still_absent old new (Turn id 0) asked
      go (Some (Opened other)) asked = absurd (given old new (Turn id 0) (Opened other) asked).may_answer
      go (Some (Turned taken reported)) asked =
          let gives = given old new (Turn id 0) (Turned taken reported) asked in same_hosts gives (no_step id taken reported gives)
      go (Some (Viewed pairs)) asked = absurd (given old new (Turn id 0) (Viewed pairs) asked).may_answer
      go (Some Closed) asked = absurd (given old new (Turn id 0) Closed asked).may_answer
      go (Some (Refused fault)) asked =
          let gives = given old new (Turn id 0) (Refused fault) asked in same_hosts gives (refused_stays gives)

  -- a reply that a turn is done says how many steps it took and how the run stands
  pub turned : (steps : ℕ) (reply : Reply) → Asked old (Turn id steps) answer new → Says answer reply
      → reply.status ≡ 0 → TakesTurn (hosted old) id steps reply (hosted new)
  turned steps reply = go answer
    where
      go : (answer : Option HostAnswer) → Asked old (Turn id steps) answer new → Says answer reply
          → reply.status ≡ 0 → TakesTurn (hosted old) id steps reply (hosted new)
      go None asked says status = absurd (omega (arith, says, status))
      go (Some (Opened other)) asked says status = absurd says
      go (Some (Turned taken reported)) asked says status = record {
        status = reported;
        answers = subst (λ (n : ℕ). GivesAnswer (hosted old) (Turn id steps) (Turned n reported) (hosted new)) (sym says.1)
            (given old new (Turn id steps) (Turned taken reported) asked);
        run = says.2;
        thrown = says.3;
      }
      go (Some (Viewed pairs)) asked says status = absurd says
      go (Some Closed) asked says status = absurd (given old new (Turn id steps) Closed asked).may_answer
      go (Some (Refused (faults.Refused refusal))) asked says status = absurd (omega (arith, says.0, status))
      go (Some (Refused NoMemory)) asked says status = absurd (omega (arith, says, status))
