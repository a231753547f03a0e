-- What a run has shown where a stream failed or memory ran out.
use Rattle.std.proofs.Common.{◌≡◌, ℕ, ◌≤◌, List, ap, ◌∙◌, subst, inr, Option, Result, Ok, Err, IfOk}
use Rattle.std.specs.Io.KnownBytes.{Appends}
use Rattle.std.specs.Prelude.{IsUtf8}
use Rattle.std.specs.String.{string_bytes}
use Rattle.labels.proofs.Prefixes.{prefix-itself}
use Rattle.principals.specs.ActsFor.{PrincipalHierarchy}
use Rattle.modules.specs.ByteFormat.{Spells}
use Rattle.modules.specs.Contents.{ModuleContents}
use Rattle.modules.specs.Format.{module_file}
use Rattle.modules.specs.Machine.{Machine, Running, after_steps, exec, first_state, machine_code, sent_of}
use Rattle.channels.specs.Sink.{AppendsPrefix}
use Rattle.channels.specs.World.{input_names}
use Rattle.channels.specs.WorldText.{IsWorldText, lines_of}
use Rattle.verifier.specs.Refusals.{IsNotRefused}
use Rattle.channels.specs.View.{ShowsAll, ShowsPrefix}
use Rattle.machine.specs.Run.{ReportsStatus}
use Rattle.machine.specs.declared.status.Status.{Status}
use Rattle.flowc.specs.Messages.{AreSound, IsEndLine, reported_line}
use Rattle.host.specs.Meaning.{hierarchy_under}
use Rattle.flowc.specs.Stdout.{CanRun, IsViewedUnder, ShowsRun, ShowsSome, numbers_in, text_shown}
use Rattle.flowc.specs.Task.{reported_status}
use Rattle.flowc.specs.declared.fault.PerformFault.{PerformFault}
use Rattle.flowc.specs.declared.ended.Ended.{Ended}
use Rattle.flowc.specs.View.{IsObserver, observer_view, view_text}

-- what was written to its end was written as a prefix
pub appended_all : (old new : Option (List ℕ)) (text : List ℕ) → Appends old new text → AppendsPrefix old new text
appended_all old new text program = (text, prefix-itself text, program)

-- a module that was taken, and a world that was taken for it
pub sound_by : (code text : List ℕ) (m : ModuleContents) → Spells module_file m code → IsNotRefused m → IsUtf8 text → IsWorldText (input_names m) (lines_of text) → AreSound code text m
sound_by code text m spelled not_refused encoded right = record { spelled = spelled; not_refused = not_refused; encoded = encoded; right = right }

-- what can be run
pub can_run : (code text : List ℕ) (under name : Option (List ℕ)) (m : ModuleContents) (h : PrincipalHierarchy) (principal : Option ℕ)
    → AreSound code text m → IsViewedUnder m under h → IsObserver h name principal → CanRun code text under name m h principal
can_run code text under name m h principal sound viewed observed = record {
  spelled = sound.spelled;
  not_refused = sound.not_refused;
  encoded = sound.encoded;
  right = sound.right;
  viewed = viewed;
  observed = observed;
}

-- the same where the module was lent, and lent again, for the hierarchy and for the principal
pub can_run_lent : (code text : List ℕ) (under name : Option (List ℕ)) (m w v : ModuleContents) (larger : Option PrincipalHierarchy) (principal : Option ℕ)
    → AreSound code text m → w ≡ m → IsViewedUnder w under (hierarchy_under larger w) → v ≡ m → IsObserver (hierarchy_under larger v) name principal → CanRun code text under name m (hierarchy_under larger m) principal
can_run_lent code text under name m w v larger principal sound same viewed again observed =
    can_run code text under name m (hierarchy_under larger m) principal sound
    (subst (λ (x : ModuleContents). IsViewedUnder x under (hierarchy_under larger x)) same viewed)
    (subst (λ (x : ModuleContents). IsObserver (hierarchy_under larger x) name principal) again observed)

-- what is known of a run that has taken some steps from the first state on, and is viewed under the module's hierarchy or a larger one
module _ (code text : List ℕ) (under name : Option (List ℕ)) (steps : ℕ) (m program : ModuleContents) (larger : Option PrincipalHierarchy) (principal : Option ℕ)
    (taken : ℕ) (before after : Machine) (end : Status) (can : CanRun code text under name m (hierarchy_under larger m) principal) (within : taken ≤ steps)
    (is : program ≡ m) (first : before ≡ Running (first_state m (numbers_in m text))) (reached : after ≡ exec (machine_code m) taken before)
    (stands : ReportsStatus (machine_code m) steps taken end after) where
  there : after ≡ after_steps m (numbers_in m text) taken
  there = reached ∙ ap (λ (x : Machine). exec (machine_code m) taken x) first

  -- what is written of it
  written : view_text program (observer_view (hierarchy_under larger program) program principal (sent_of after)) ≡ text_shown (hierarchy_under larger m) m text principal taken
  written =
      ap (λ (w : ModuleContents). view_text w (observer_view (hierarchy_under larger w) w principal (sent_of after))) is
      ∙ ap (λ (x : Machine). view_text m (observer_view (hierarchy_under larger m) m principal (sent_of x))) there

  -- a prefix of it was written
  pub cut_off : (old new : Option (List ℕ)) → ShowsPrefix (hierarchy_under larger program) program principal (sent_of after) old new → ShowsSome code text under name steps old new
  cut_off old new part =
      let cut = subst (λ (t : List ℕ). AppendsPrefix old new t) written part in
      inr (cut.0, record { program = m; hierarchy = hierarchy_under larger m; principal = principal; taken = taken; can_run = can; within = within; prefix = cut.1 }, cut.2)

  -- it was shown, with the status that reports how it then stands
  pub shows_run : (old new : Option (List ℕ)) (result : Result Ended PerformFault) → ShowsAll (hierarchy_under larger program) program principal (sent_of after) old new
      → IfOk result (λ ended. ended.status ≡ reported_status principal end)
      → IfOk result (λ ended. ShowsRun code text under name steps ended.status old new)
  shows_run old new (Err fault) view status = tt
  shows_run old new (Ok ended) view status = record {
    program = m;
    hierarchy = hierarchy_under larger m;
    principal = principal;
    taken = taken;
    can_run = can;
    within = within;
    view = subst (λ (t : List ℕ). Appends old new t) written view;
    end = end;
    ended = subst (λ (x : Machine). ReportsStatus (machine_code m) steps taken end x) there stands;
    reported = status;
  }

  -- and its line reports that
  pub ends_so : (result : Result Ended PerformFault) → IfOk result (λ ended. ended.status ≡ reported_status principal end)
      → IfOk result (λ ended. string_bytes ended.line ≡ reported_line program principal end)
      → IfOk result (λ ended. IsEndLine code text under name steps ended.status (string_bytes ended.line))
  ends_so (Err fault) status line = tt
  ends_so (Ok ended) status line = record {
    program = m;
    hierarchy = hierarchy_under larger m;
    principal = principal;
    taken = taken;
    can_run = can;
    within = within;
    end = end;
    ended = subst (λ (x : Machine). ReportsStatus (machine_code m) steps taken end x) there stands;
    reported = status;
    says = line ∙ ap (λ (w : ModuleContents). reported_line w principal end) is;
  }
