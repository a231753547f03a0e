-- Meaning is kept, in both directions.
use Rattle.std.proofs.Common.{◌≡◌, ℕ, ◌⊎◌, inl, inr, List, [], Option, Some, None, refl, sym, ap, ◌∙◌, subst, zero, suc, ◌≤◌, arith, true}
use Rattle.common.specs.declared.sent.Pair.{Pair}
use Rattle.labels.specs.Sent.{IsPrefix}
use Rattle.labels.proofs.Prefixes.{prefix-itself}
use Rattle.resolved.specs.Labelled.{exit_faults}
use Rattle.resolved.specs.Program.{Program}
use Rattle.resolved.specs.SourceState as source
use Rattle.resolved.specs.Meaning as meaning
use Rattle.resolved.specs.WellFormed.{well_formed}
use Rattle.modules.proofs.Tabled.{step-is}
use Rattle.modules.specs.Contents.{ModuleContents}
use Rattle.modules.specs.Machine as machine
use Rattle.modules.specs.MachineParts as pieces
use Rattle.modules.specs.Machine.{Machine, Running}
use Rattle.layout.specs.Runs.{graph_program, graph_after_steps}
use Rattle.layout.specs.SameRuns.{SameRuns}
use Rattle.lowering.specs.Graphs.{graph_of}
use Rattle.lowering.specs.Direct.{jump_of}
use Rattle.lowering.specs.Laws.{GraphsKeepMeaning}
use Rattle.lowering.specs.SameMeaning.{ending_of, SameMeaning}
use Rattle.lowering.proofs.Sent.{exec-keeps}
use Rattle.lowering.proofs.Steps.{counted, counts, sent-before, ends-once}
use Rattle.lowering.proofs.Unthreaded.{unthreaded_graph, graph-threaded}
use Rattle.lowering.proofs.Following.{Follows, jump-is, runs-follow}
use Rattle.lowering.proofs.Programs.{Comes, GoesOn, run-within-limit}
use Rattle.modules.proofs.Executing.{ended_stays}

-- what fewer steps have sent is a prefix of what more have
sent-grows : (p : machine.MachineCode) (n m : ℕ) (from : Machine) → n ≤ m → IsPrefix (machine.sent_of (machine.exec p n from)) (machine.sent_of (machine.exec p m from))
sent-grows p zero m from less = exec-keeps p m from
sent-grows p (suc n) zero from less = absurd (omega (arith, less))
sent-grows p (suc n) (suc m) from less = sent-grows p n m (machine.step p from) (omega (arith, less))

-- a machine that has ended does not run later
ended-later : (p : machine.MachineCode) (n m : ℕ) (from : Machine) (ending : machine.Ending) (sent : List Pair) → n ≤ m → machine.exec p n from ≡ machine.Ended ending sent
    → machine.exec p m from ≡ machine.Ended ending sent
ended-later p zero m from ending sent less e = ap (machine.exec p m) e ∙ ended_stays p m ending sent
ended-later p (suc n) zero from ending sent less e = absurd (omega (arith, less))
ended-later p (suc n) (suc m) from ending sent less e = ended-later p n m (machine.step p from) ending sent (omega (arith, less)) e

-- after m steps a machine has not ended and has sent no more than this
record Still (p : machine.MachineCode) (m : ℕ) (from : Machine) (sent : List Pair) : Type 0 where
  sends : IsPrefix (machine.sent_of (machine.exec p m from)) sent
  runs : (ending : machine.Ending) (more : List Pair) → machine.exec p m from ≡ machine.Ended ending more → ⊥

running : (state : machine.State) (ending : machine.Ending) (sent : List Pair) → ◌≡◌ {A = Machine} (Running state) (machine.Ended ending sent) → ⊥
running state ending sent e = cc

-- steps that do not count are unconditional jumps, so a machine still runs after them
idle-by : (p : machine.MachineCode) (m : ℕ) (state : machine.State) (sent : List Pair)
    → ((on : machine.State) (sent : List Pair) → counts p m (Running on) ≤ 0 → on.sent ≡ sent → Still p m (Running on) sent)
    → counts p (suc m) (Running state) ≤ 0 → state.sent ≡ sent
    → (jump : Option ℕ) → jump_of (p.fetch state.frame.procedure state.frame.position) ≡ jump → Still p (suc m) (Running state) sent
idle-by p m state sent later none e None jump =
    absurd (let one : counted (jump_of (p.fetch state.frame.procedure state.frame.position)) ≡ 1 = ap counted jump in omega (arith, one, none))
idle-by p m state sent later none e (Some target) jump =
    let on : machine.State = record state { frame = record state.frame { position = target } } in
    let goes : machine.step p (Running state) ≡ Running on =
    step-is p state ∙ ap (pieces.acts p state) (jump-is (p.fetch state.frame.procedure state.frame.position) target jump) in
    let left : counts p m (machine.step p (Running state)) ≤ 0 = omega (arith, none) in
    let rest : Still p m (Running on) sent = later on sent (subst (λ x. counts p m x ≤ 0) goes left) e in
    record {
      sends = subst (λ x. IsPrefix (machine.sent_of (machine.exec p m x)) sent) (sym goes) rest.sends;
      runs = λ ending more ended. rest.runs ending more (ap (machine.exec p m) (sym goes) ∙ ended);
    }

idle : (p : machine.MachineCode) (m : ℕ) (state : machine.State) (sent : List Pair) → counts p m (Running state) ≤ 0 → state.sent ≡ sent → Still p m (Running state) sent
idle p zero state sent none e = record { sends = subst (IsPrefix state.sent) e (prefix-itself state.sent); runs = running state }
idle p (suc m) state sent none e =
    idle-by p m state sent (idle p m) none e (jump_of (p.fetch state.frame.procedure state.frame.position)) refl

-- where no more steps count than up to a time at which a machine runs
still : (p : machine.MachineCode) (w m : ℕ) (from : Machine) (state : machine.State) → machine.exec p w from ≡ Running state → counts p m from ≤ counts p w from
    → Still p m from state.sent
still p zero m from state reached few =
    subst (λ x. Still p m x state.sent) (sym reached) (idle p m state state.sent (subst (λ x. counts p m x ≤ 0) reached few) refl)
still p (suc w) zero from state reached few = record {
  sends = subst (λ x. IsPrefix (machine.sent_of from) (machine.sent_of x)) reached (exec-keeps p (suc w) from);
  runs = λ ending more ended. running state ending more (sym reached ∙ ap (machine.exec p (suc w)) ended ∙ ended_stays p (suc w) ending more);
}
still p (suc w) (suc m) from state reached few =
    let rest : Still p m (machine.step p from) state.sent = still p w m (machine.step p from) state reached (omega (arith, few)) in
    record { sends = rest.sends; runs = rest.runs }

module _ (program : Program) (formed : well_formed program ≡ true) (none : exit_faults program ≡ []) where
  abbrev p : machine.MachineCode
  p = graph_program (unthreaded_graph program)

  abbrev start : source.World → Machine
  start world = Running (machine.first_state (unthreaded_graph program) world)

  abbrev after : source.World → ℕ → Machine
  after world n = graph_after_steps (graph_of program) world n

  abbrev run : source.World → ℕ → meaning.Outcome
  run world k = meaning.run_within meaning.frame_limit program world k

  follow : (world : source.World) (n : ℕ) → Follows p n n (start world) (after world n)
  follow world n =
      subst (λ (graph : ModuleContents). Follows p n n (start world) (graph_after_steps graph world n)) (sym (graph-threaded program)) (runs-follow (unthreaded_graph program) world n)

  ends-after : (world : source.World) (k : ℕ) (comes : Comes p (start world) (run world k))
      → after world comes.leads.steps ≡ machine.Ended comes.ending (meaning.sent_by program world k)
  ends-after world k comes =
      let f = follow world comes.leads.steps in
      sym f.reached ∙ ended-later p comes.leads.steps f.steps (start world) comes.ending (meaning.sent_by program world k) f.enough comes.leads.reached

  waits-after : (world : source.World) (n : ℕ) (goes : GoesOn p n (start world) (run world n))
      → Still p (follow world n).steps (start world) goes.waits.state.sent
  waits-after world n goes =
      let f = follow world n in
      still p goes.waits.steps f.steps (start world) goes.waits.state goes.waits.reached (omega (arith, f.few, goes.waits.enough))

  no_more : (world : source.World) (n : ℕ) → Comes p (start world) (run world n) ⊎ GoesOn p n (start world) (run world n)
      → IsPrefix (machine.sent_of (after world n)) (meaning.sent_by program world n)
  no_more world n (inl comes) =
      let f = follow world n in
      subst (λ x. IsPrefix (machine.sent_of x) (meaning.sent_by program world n)) f.reached
      (sent-before p comes.leads.steps f.steps (start world) comes.ending (meaning.sent_by program world n) comes.leads.reached)
  no_more world n (inr goes) =
      subst (IsPrefix (machine.sent_of (after world n))) goes.waits.sent_is
      (subst (λ x. IsPrefix (machine.sent_of x) goes.waits.state.sent) (follow world n).reached (waits-after world n goes).sends)

  no_less : (world : source.World) (k : ℕ) → Comes p (start world) (run world k) ⊎ GoesOn p k (start world) (run world k)
      → (n : ℕ) × IsPrefix (meaning.sent_by program world k) (machine.sent_of (after world n))
  no_less world k (inl comes) =
      (comes.leads.steps, subst (λ (x : Machine). IsPrefix (meaning.sent_by program world k) (machine.sent_of x)) (sym (ends-after world k comes)) (prefix-itself (meaning.sent_by program world k)))
  no_less world k (inr goes) =
      let f = follow world goes.waits.steps in
      let later : IsPrefix (machine.sent_of (machine.exec p goes.waits.steps (start world))) (machine.sent_of (machine.exec p f.steps (start world))) =
      sent-grows p goes.waits.steps f.steps (start world) f.enough in (
        goes.waits.steps,
        subst (λ sent. IsPrefix sent (machine.sent_of (after world goes.waits.steps))) (ap machine.sent_of goes.waits.reached ∙ goes.waits.sent_is)
            (subst (λ x. IsPrefix (machine.sent_of (machine.exec p goes.waits.steps (start world))) (machine.sent_of x)) f.reached later),
      )

  ends_so : (world : source.World) (n : ℕ) (ending : machine.Ending) (sent : List Pair) → Comes p (start world) (run world n) ⊎ GoesOn p n (start world) (run world n)
      → after world n ≡ machine.Ended ending sent
      → (ending_of (run world n) ≡ Some ending) × (meaning.sent_by program world n ≡ sent)
  ends_so world n ending sent (inl comes) reached =
      let f = follow world n in
      let once : ◌≡◌ {A = Machine} (machine.Ended comes.ending (meaning.sent_by program world n)) (machine.Ended ending sent) =
      ends-once p comes.leads.steps f.steps (start world) comes.ending ending (meaning.sent_by program world n) sent comes.leads.reached (f.reached ∙ reached) in
      let ending_is : comes.ending ≡ ending = cc in
      let sent_is : meaning.sent_by program world n ≡ sent = cc in
      (comes.so ∙ ap (λ (e : machine.Ending). Some e) ending_is, sent_is)
  ends_so world n ending sent (inr goes) reached = absurd ((waits-after world n goes).runs ending sent ((follow world n).reached ∙ reached))

  ends_too : (world : source.World) (k : ℕ) (ending : machine.Ending) → Comes p (start world) (run world k) ⊎ GoesOn p k (start world) (run world k)
      → ending_of (run world k) ≡ Some ending → (n : ℕ) × (after world n ≡ machine.Ended ending (meaning.sent_by program world k))
  ends_too world k ending (inl comes) so =
      let same : ◌≡◌ {A = Option machine.Ending} (Some comes.ending) (Some ending) = sym comes.so ∙ so in
      let ending_is : comes.ending ≡ ending = cc in
      (comes.leads.steps, ends-after world k comes ∙ ap (λ (e : machine.Ending). machine.Ended e (meaning.sent_by program world k)) ending_is)
  ends_too world k ending (inr goes) so = absurd (let no : ◌≡◌ {A = Option machine.Ending} None (Some ending) = sym goes.no_end ∙ so in cc)

pub graphs-keep : GraphsKeepMeaning
graphs-keep program formed none = record {
  no_more = λ world n. no_more program formed none world n (run-within-limit program formed none world n);
  no_less = λ world k. no_less program formed none world k (run-within-limit program formed none world k);
  ends_so = λ world n ending sent reached. ends_so program formed none world n ending sent (run-within-limit program formed none world n) reached;
  ends_too = λ world k ending so. ends_too program formed none world k ending (run-within-limit program formed none world k) so;
}

-- a module that runs as a graph does keeps the meaning that the graph keeps
pub layout-keeps : (program : Program) (graph m : ModuleContents) → SameMeaning program (graph_after_steps graph) → SameRuns graph m
    → SameMeaning program (machine.after_steps m)
layout-keeps program graph m kept same = record {
  no_more = λ world n. subst (λ (sent : List Pair). IsPrefix sent (meaning.sent_by program world n)) (sym (same.sends world n)) (kept.no_more world n);
  no_less = λ world k.
      let less = kept.no_less world k in
      (less.0, subst (IsPrefix (meaning.sent_by program world k)) (sym (same.sends world less.0)) less.1);
  ends_so = λ world n ending sent reached. kept.ends_so world n ending sent ((same.ends world n ending sent).0 reached);
  ends_too = λ world k ending so.
      let end = kept.ends_too world k ending so in
      (end.0, (same.ends world end.0 ending (meaning.sent_by program world k)).1 end.1);
}
