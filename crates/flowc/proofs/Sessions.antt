-- A session of bytes that can be opened, by a host with room for one, which shows what the bytes send within this many steps.
use Rattle.std.proofs.Common.{◌≡◌, ℕ, zero, suc, ◌≤◌, ◌<◌, ◌⊎◌, List, [], ◌∷◌, length, Option, Some, refl, sym, ap, ◌∙◌, subst, inl, inr, ⊎_elim, arith}
use Rattle.principals.specs.ActsFor.{PrincipalHierarchy}
use Rattle.common.specs.declared.sent.Pair.{Pair}
use Rattle.modules.specs.Contents.{ModuleContents}
use Rattle.modules.specs.Isolated.{module_view}
use Rattle.modules.specs.Machine as machine
use Rattle.modules.specs.Machine.{Machine, Running, Ended, Stuck, Ending, MachineCode, exec, machine_code, sent_after, sent_of, step}
use Rattle.channels.specs.World.{InputNumbers, numbers_of_channel}
use Rattle.verifier.specs.Safety.{IsNeverStuck}
use Rattle.verifier.proofs.Stuck.{has_transition}
use Rattle.verifier.specs.SignatureParts.{HasTransition}
use Rattle.machine.specs.Run.{IsRunning, ReportsStatus, WasRunning}
use Rattle.machine.specs.declared.status.Status.{Status}
use Rattle.machine.specs.declared.status.Status.TheVariants as status
use Rattle.host.specs.Laws.{Shows, ending_of}
use Rattle.host.specs.Meaning.{Answered, CanOpen, HostAnswer, HostContents, HostEvent, Open, Opened, SessionContents, Turn, Turned, View, Viewed, first_machine, first_session, hierarchy_under, session_view, with_opened}
use Rattle.flowc.specs.Promises.{HasRun}

-- ---- a run for at most this many steps

-- where a run stands after this many steps, or at its end before that
record Stop (p : MachineCode) (n : ℕ) (from : Machine) : Type 0 where
  taken : ℕ
  stands : Status
  within : taken ≤ n
  running : WasRunning p taken from
  is : ReportsStatus p n taken stands (exec p taken from)
  far : (taken ≡ n) ⊎ ((ending : Ending) × (ending_of stands ≡ Some ending))

one_more : (p : MachineCode) (n taken : ℕ) (stands : Status) (machine : Machine) → ReportsStatus p n taken stands machine → ReportsStatus p (suc n) (suc taken) stands machine
one_more p n taken status.Running machine is = (ap suc is.0, is.1)
one_more p n taken status.Finished machine is = is
one_more p n taken (status.Threw exception) machine is = is
one_more p n taken status.Deep machine is = is
one_more p n taken status.NoMemory machine is = (omega (arith, is.0), is.1, is.2)

-- the first step ends the run
ends_now : (p : MachineCode) (n : ℕ) (from : Machine) (ending : Ending) (sent : List Pair) → IsRunning from → step p from ≡ Ended ending sent → Stop p (suc n) from
ends_now p n from ending sent running e = by ending e
  where
    first : WasRunning p (suc zero) from
    first zero below = running
    first (suc k) below = absurd (omega (arith, below))

    by : (ending : Ending) → step p from ≡ Ended ending sent → Stop p (suc n) from
    by machine.Finished e = record {
      taken = suc zero;
      stands = status.Finished;
      within = omega arith;
      running = first;
      is = e ∙ ap (λ (m : Machine). Ended machine.Finished (sent_of m)) (sym e);
      far = inr (machine.Finished, refl);
    }
    by (machine.Threw exception) e = record {
      taken = suc zero;
      stands = status.Threw exception;
      within = omega arith;
      running = first;
      is = e ∙ ap (λ (m : Machine). Ended (machine.Threw exception) (sent_of m)) (sym e);
      far = inr (machine.Threw exception, refl);
    }
    by machine.Deep e = record {
      taken = suc zero;
      stands = status.Deep;
      within = omega arith;
      running = first;
      is = e ∙ ap (λ (m : Machine). Ended machine.Deep (sent_of m)) (sym e);
      far = inr (machine.Deep, refl);
    }

goes_on : (p : MachineCode) (n : ℕ) (from : Machine) → IsRunning from → Stop p n (step p from) → Stop p (suc n) from
goes_on p n from running rest = record {
  taken = suc rest.taken;
  stands = rest.stands;
  within = omega (arith, rest.within);
  running = before;
  is = one_more p n rest.taken rest.stands (exec p rest.taken (step p from)) rest.is;
  far = ⊎_elim (λ e. inl (ap suc e)) (λ over. inr over) rest.far;
}
  where
    before : WasRunning p (suc rest.taken) from
    before zero below = running
    before (suc k) below = rest.running k (omega (arith, below))

stop : (p : MachineCode) (n : ℕ) (from : Machine) → ((k : ℕ) → HasTransition (exec p k from)) → IsRunning from → Stop p n from
stop p zero from rows running = record {
  taken = zero;
  stands = status.Running;
  within = omega arith;
  running = λ k below. absurd (omega (arith, below));
  is = (refl, running);
  far = inl refl;
}
stop p (suc n) from rows running = by (step p from) refl (λ live. stop p n (step p from) (λ k. rows (suc k)) live)
  where
    by : (next : Machine) → step p from ≡ next → (IsRunning (step p from) → Stop p n (step p from)) → Stop p (suc n) from
    by (Running s) e rest = goes_on p n from running (rest (subst IsRunning (sym e) tt))
    by (Ended ending sent) e rest = ends_now p n from ending sent running e
    by (Stuck sent) e rest = absurd (subst HasTransition e (rows (suc zero)))

-- ---- the session

-- a session that has taken this many steps or has answered that its run has ended, and what it shows
pub record Session (code : List ℕ) (world : List InputNumbers) (under : Option PrincipalHierarchy) (m : ModuleContents) (p steps : ℕ) : Type 0 where
  pub pairs : List Pair
  pub shows : Shows code world under p pairs
  pub has_run : HasRun shows steps
  pub taken : ℕ
  pub sees : pairs ≡ module_view (hierarchy_under under m) m p (sent_after m (numbers_of_channel m world) taken)

module _ (code : List ℕ) (world : List InputNumbers) (under : Option PrincipalHierarchy) (m : ModuleContents) (can : CanOpen code world under m)
    (never_stuck : IsNeverStuck m) (p : ℕ) (there : p < length (hierarchy_under under m).names) (n : ℕ) where
  run : Stop (machine_code m) n (first_machine m world)
  run = stop (machine_code m) n (first_machine m world) (λ k. has_transition _ (never_stuck (numbers_of_channel m world) k)) tt

  abbrev empty : HostContents
  empty = record { next = 0; sessions = [] }

  abbrev fresh : SessionContents
  fresh = first_session 0 m world under

  after : Machine
  after = exec (machine_code m) run.taken (first_machine m world)

  abbrev moved : SessionContents
  moved = record { id = 0; program = m; hierarchy = hierarchy_under under m; machine = after }

  abbrev opened : HostContents
  opened = with_opened empty m world under

  abbrev turned : HostContents
  turned = record opened { sessions = moved ∷ [] }

  abbrev events : List HostEvent
  events = Open code world under ∷ Turn 0 n ∷ View 0 p ∷ []

  abbrev answers : List HostAnswer
  answers = Opened 0 ∷ Turned run.taken run.stands ∷ Viewed (session_view moved p) ∷ []

  answered : Answered 1 empty events answers turned
  unfolding after
  answered = (
    opened,
    (record { room_left = omega arith; id_left = omega arith }, refl, (m, can, refl)),
    (
      turned,
      (fresh, refl, (after, record { within = run.within; running = run.running; machine = refl; reported = run.is }, refl)),
      (turned, (moved, refl, there, refl, refl), refl),
    ),
  )

  shows : Shows code world under p (session_view moved p)
  shows = record {
    limit = 1;
    old = empty;
    events = events;
    answers = answers;
    new = turned;
    answered = answered;
    id = 0;
    opened = 0;
    viewed = 2;
    later = omega arith;
    opens = refl;
    opened_so = refl;
    views = refl;
    viewed_so = refl;
  }

  has_run : HasRun shows n
  unfolding shows
  has_run =
      ⊎_elim
      (λ all. inl (omega (arith, all)))
      (λ over. inr (
        over.0,
        record {
          turn = 1;
          steps = n;
          taken = run.taken;
          status = run.stands;
          later = omega arith;
          before = omega arith;
          asks = refl;
          answers = refl;
          ended = over.1;
        },
      ))
      run.far

  pub opened_for : Session code world under m p n
  unfolding after
  opened_for = record { pairs = session_view moved p; shows = shows; has_run = has_run; taken = run.taken; sees = refl }
