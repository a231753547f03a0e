-- Isolation, by recursion on the frames: what the calls of a labelled program do, and what an observer sees of two of its runs.
use Rattle.std.proofs.Common.{arith, ◌≡◌, refl, ap, subst, ℕ, zero, suc, ◌+◌, ◌<◌, ◌≤◌, Bool, true, false, List, [], ◌∷◌, ◌⊎◌, inl, inr, length, ℤ}
use Rattle.std.specs.Prelude.{Option, Some, None, slice_get, slice_index_or, nat_lt, unwrap_or}
use Rattle.principals.specs.ActsFor.{PrincipalHierarchy}
use Rattle.labels.specs.Label.{Label}
use Rattle.labels.specs.Sent.{IsPrefix}
use Rattle.resolved.specs.declared.expression.Variable.{Variable}
use Rattle.resolved.specs.declared.expression.Variable.TheVariants.{Global, Local}
use Rattle.common.specs.declared.value.Value.{Value}
use Rattle.resolved.specs.declared.statement.Exit.{Exit}
use Rattle.common.specs.declared.direction.Direction.{Direction}
use Rattle.common.specs.declared.direction.Direction.TheVariants.{Input, Output}
use Rattle.resolved.specs.Tree.{Empty}
use Rattle.labels.specs.Channel.{ChannelContents}
use Rattle.resolved.specs.Program.{Program, ProcedureEntry, procedure_at, slot_at}
use Rattle.resolved.specs.SourceState.{SourceState, World, cells}
use Rattle.resolved.specs.Meaning.{Deep, Outcome, leaving, Stopped, entering, first_cells_of_slots, block_meaning, calls_with, first_state, numbers_by, run_within, state_after}
use Rattle.resolved.specs.Exits.{block_exits}
use Rattle.resolved.specs.declared.target.Target.TheVariants.{ToBegin}
use Rattle.resolved.specs.Labelled.{Scope, OfLocal, Join, one, written_or, label_of, join_under, Labelling, FitsDemands, channel_label, exit_demands, program_demands}
use Rattle.resolved.specs.LabelRules.{block_rule, block_exit_labels, block_demands, procedure_demands, demands_from}
use Rattle.resolved.proofs.Judged.{demands-apart}
use Rattle.lattices.specs.Constraints.{Written}
use Rattle.isolation.proofs.Grows.{calls-grow}
use Rattle.isolation.proofs.Among.{EndsAsDeclared, calls-among, block-among}
use Rattle.isolation.proofs.Observer.{LabelReader, under, View, view_of, shown, AgreeFor, agree-itself}
use Rattle.isolation.proofs.Related.{agree-prefix}
use Rattle.isolation.proofs.Closed.{read_exits, related-closed}
use Rattle.isolation.proofs.Confined.{Confines, call_stop, reads_result, fits-left, fits-right, block-unseen}
use Rattle.isolation.proofs.Calls.{RelatedCall, same_call, same_thrown, apart_calls, first_call_stops, second_call_stops, declared_label, home, agree-home, declared-under, related_call-weaker, unseen-leaving, related-leaving}
use Rattle.isolation.proofs.Secure.{Secures, ParametersAlike, block-secure}

-- a program with these labels, of which each procedure ends as it declares and meets its demands
pub record Accepted (program : Program) (labelling : Labelling) : Type 0 where
  pub declared : EndsAsDeclared program
  pub fits : (f : ℕ) → FitsDemands program.hierarchy labelling (procedure_demands (record { program = program; number = f }))

-- the demands of one procedure among those of all; a number that is none has none
demands-at : (program : Program) (labelling : Labelling) →
    (procedures : List ProcedureEntry) (i f n : ℕ) → n ≡ i + f → f < length procedures →
    FitsDemands program.hierarchy labelling (demands_from program i procedures) →
    FitsDemands program.hierarchy labelling (procedure_demands (record { program = program; number = n }))
demands-at program labelling [] i f n e within fits = absurd (omega (arith, within))
demands-at program labelling (procedure ∷ rest) i zero n e within fits =
    let same : n ≡ i = omega arith in
    rw same (fits-left program.hierarchy labelling (procedure_demands (record { program = program; number = i })) (demands_from program (suc i) rest) fits)
demands-at program labelling (procedure ∷ rest) i (suc f) n e within fits =
    demands-at program labelling rest (suc i) f n (omega arith) (omega (arith, within))
    (fits-right program.hierarchy labelling (procedure_demands (record { program = program; number = i })) (demands_from program (suc i) rest) fits)

pub procedure-fits : (program : Program) (labelling : Labelling) → FitsDemands program.hierarchy labelling (program_demands program) →
    (f : ℕ) → FitsDemands program.hierarchy labelling (procedure_demands (record { program = program; number = f }))
procedure-fits program labelling fits f = go (nat_lt f (length program.procedures)) refl
  where
    absent : (procedures : List ProcedureEntry) (i : ℕ) (none : ProcedureEntry) → length procedures ≤ i →
        slice_index_or procedures i none ≡ none
    absent [] i none h = refl
    absent (procedure ∷ rest) zero none h = absurd (omega (arith, h))
    absent (procedure ∷ rest) (suc i) none h = absent rest i none (omega (arith, h))

    go : (b : Bool) → nat_lt f (length program.procedures) ≡ b →
        FitsDemands program.hierarchy labelling (procedure_demands (record { program = program; number = f }))
    go true e = demands-at program labelling program.procedures 0 f f (omega arith) (grind (arith, e))
        (subst (FitsDemands program.hierarchy labelling) (demands-apart program) fits)
    go false e =
        let none : procedure_at program f ≡ record {
          at = 0;
          name = [];
          result = None;
          begin_label = [];
          end_label = [];
          throws = [];
          parameters = 0;
          slots = [];
          loops = 0;
          body = Empty;
        } = absent program.procedures f _ (grind (arith, e)) in rw none refl

-- the cells of new frames, of which those are the same that the observer reads
agree-entering : {h : PrincipalHierarchy} (reader : LabelReader h) (program : Program) (caller callee : ℕ) (labels inner : Labelling) (vs ws : List Value) (s t : SourceState) → AgreeFor (view_of (under reader labels) (record { program = program; number = caller })) s t → ParametersAlike (under reader labels) program callee vs ws → AgreeFor (view_of (under reader inner) (record { program = program; number = callee })) (entering (procedure_at program callee) vs s) (entering (procedure_at program callee) ws t)
agree-entering reader program caller callee labels inner vs ws s t agree same = record {
  variables = variables;
  inputs = agree.inputs;
  sent = agree.sent;
}
  where
    parameter : (written : Option Label) (n : ℕ) → reader.reads (join_under inner (one (written_or written (OfLocal callee n)))) ≡ true →
        reader.reads (join_under labels (one (Written (unwrap_or written [])))) ≡ true
    parameter (Some label) n e = e
    parameter None n e = reader.nothing

    variables : (x : Variable) → (view_of (under reader inner) (record { program = program; number = callee })).variable x ≡ true →
        cells (entering (procedure_at program callee) vs s) x ≡ cells (entering (procedure_at program callee) ws t) x
    variables (Global n) e = agree.variables (Global n) e
    variables (Local n) e = ap (λ v. first_cells_of_slots (slice_get (procedure_at program callee).slots n) v)
        (same n (parameter (slot_at (procedure_at program callee) n).written n e))

-- what is the same for the observer after the body of a procedure is the same for the caller
agree-kept_home : {h : PrincipalHierarchy} (reader : LabelReader h) (program : Program) (caller callee : ℕ) (labels inner : Labelling) (vs : List Value) (s t : SourceState) → AgreeFor (view_of (under reader inner) (record { program = program; number = callee })) (entering (procedure_at program callee) vs s) t → AgreeFor (view_of (under reader labels) (record { program = program; number = caller })) s (home s t)
agree-kept_home reader program caller callee labels inner vs s t within = record {
  variables = variables;
  inputs = within.inputs;
  sent = within.sent;
}
  where
    variables : (x : Variable) → (view_of (under reader labels) (record { program = program; number = caller })).variable x ≡ true →
        cells s x ≡ cells (home s t) x
    variables (Global n) e = within.variables (Global n) e
    variables (Local n) e = refl

module _ (program : Program) (labelling : Labelling) (accepted : Accepted program labelling) (reader : LabelReader program.hierarchy) where
  -- a procedure of the program, with its own labels
  abbrev inside : ℕ → Scope
  inside f = record { program = program; number = f }

  abbrev begin : ℕ → Join
  begin f = one (label_of program (ToBegin f))

  body-fits : (f : ℕ) → FitsDemands program.hierarchy labelling (block_demands (inside f) (begin f) (procedure_at program f).body)
  body-fits f =
      fits-left program.hierarchy labelling (block_demands (inside f) (begin f) (procedure_at program f).body)
      (exit_demands (inside f) (block_exits program (procedure_at program f).body)
      (block_exit_labels (inside f) (begin f) (procedure_at program f).body)) (accepted.fits f)

  ends-fit : (f : ℕ) → FitsDemands program.hierarchy labelling (exit_demands (inside f) (block_exits program (procedure_at program f).body) (block_exit_labels (inside f) (begin f) (procedure_at program f).body))
  ends-fit f =
      fits-right program.hierarchy labelling (block_demands (inside f) (begin f) (procedure_at program f).body)
      (exit_demands (inside f) (block_exits program (procedure_at program f).body)
      (block_exit_labels (inside f) (begin f) (procedure_at program f).body)) (accepted.fits f)

  -- calls at a begin label that the observer does not read
  pub calls-confine : (k frames : ℕ) (caller : ℕ) (labels : Labelling) →
      Confines (under reader labels) (record { program = program; number = caller }) (calls_with program k frames)
  calls-confine k zero caller labels = record {
    among = calls-among program k zero accepted.declared;
    unseen = λ f vs s unread. record {
      agree = agree-itself (view_of (under reader labels)
          (record { program = program; number = caller })) s;
      hidden = call_stop Deep s;
    };
  }
  calls-confine k (suc frames) caller labels = record {
    among = calls-among program k (suc frames) accepted.declared;
    unseen = λ f vs s unread.
        let callee : ProcedureEntry = procedure_at program f in
        let calls = calls_with program k frames in
        let u : SourceState = entering callee vs s in
        unseen-leaving callee (block_exits program callee.body) (view_of (under reader labelling) (inside f))
        (view_of (under reader labels) (record { program = program; number = caller })) (reads_result (under reader labelling) callee)
        (read_exits (under reader labelling) (block_rule (inside f) (begin f) callee.body)) s u (block_meaning calls k callee.body u) (accepted.declared f)
        (λ t. agree-kept_home reader program caller f labels labelling vs s t)
        (block-among callee.body program calls k (calls-among program k frames accepted.declared) u)
        (block-unseen program.hierarchy labelling (under reader labelling) (inside f) calls k (calls-confine k frames f labelling) callee.body (begin f)
        (body-fits f) unread u);
  }

  -- two calls, with any amounts of fuel and as many frames
  pub calls-secure : (k m frames : ℕ) (caller : ℕ) (labels : Labelling) →
      Secures (under reader labels) (record { program = program; number = caller }) (calls_with program k frames)
      (calls_with program m frames)
  calls-secure k m zero caller labels = record {
    first = calls-confine k zero caller labels;
    second = calls-confine m zero caller labels;
    grows_first = calls-grow program k zero;
    grows_second = calls-grow program m zero;
    related = λ f vs ws s t agree same. first_call_stops Deep s (Stopped Deep t)
        (agree-prefix (view_of (under reader labels) (record { program = program; number = caller })) s t agree);
  }
  calls-secure k m (suc frames) caller labels = record {
    first = calls-confine k (suc frames) caller labels;
    second = calls-confine m (suc frames) caller labels;
    grows_first = calls-grow program k (suc frames);
    grows_second = calls-grow program m (suc frames);
    related = λ f vs ws s t agree same.
        let callee : ProcedureEntry = procedure_at program f in
        let calls = calls_with program k frames in
        let further = calls_with program m frames in
        let ends = block_exits program callee.body in
        let inner = view_of (under reader labelling) (inside f) in
        let outer = view_of (under reader labels) (record { program = program; number = caller }) in
        let value = reads_result (under reader labelling) callee in
        let u : SourceState = entering callee vs s in
        let w : SourceState = entering callee ws t in
        let o : Outcome = block_meaning calls k callee.body u in
        let p : Outcome = block_meaning further m callee.body w in
        let among = block-among callee.body program calls k (calls-among program k frames accepted.declared) u in
        let among' = block-among callee.body program further m (calls-among program m frames accepted.declared) w in
        related_call-weaker outer value (read_exits (under reader labelling) (declared_label program f))
        (read_exits (under reader labels) (declared_label program f)) (leaving (home s) o) (leaving (home t) p)
        (declared-under reader labels labelling program f)
        (related-leaving (under reader labelling) (inside f) ends (block_exit_labels (inside f) (begin f) callee.body) inner outer value s t o p
        (accepted.declared f) (ends-fit f)
        (λ s' t' within. agree-home reader program caller f labels labelling s t s' t' agree within)
        (λ xs. refl) among among'
        (related-closed (under reader labelling) inner value ends (begin f) (block_rule (inside f) (begin f) callee.body) o p among among'
        (block-secure program.hierarchy labelling (under reader labelling) (inside f) calls further k m
        (calls-secure k m frames f labelling) callee.body (begin f) (body-fits f) u w
        (agree-entering reader program caller f labels labelling vs ws s t agree same))));
  }

-- the numbers of a channel at first, which are those of the world where the channel is an input
numbers-alike : (channels : List ChannelContents) (none : ChannelContents) (n : ℕ) (first second : List ℤ) →
    none.direction ≡ Output → ((channel : ChannelContents) → slice_get channels n ≡ Some channel → channel.direction ≡ Input → first ≡ second) →
    numbers_by (slice_index_or channels n none).direction first ≡ numbers_by (slice_index_or channels n none).direction second
numbers-alike [] none n first second sends same = rw sends refl
numbers-alike (channel ∷ rest) none zero first second sends same = go channel.direction refl
  where
    go : (d : Direction) → channel.direction ≡ d → numbers_by channel.direction first ≡ numbers_by channel.direction second
    go Input e = ap (λ l. numbers_by channel.direction l) (same channel refl e)
    go Output e = rw e refl
numbers-alike (channel ∷ rest) none (suc n) first second sends same =
    numbers-alike rest none n first second sends same

-- what an observer sees of calls of which one is stopped, or which end in the same way, or at labels that it does not read
related_call-prefix : (view : View) (value : Bool) (exits : Exit → Bool) (o p : Outcome) → RelatedCall view value exits o p →
    IsPrefix (shown view (state_after o).sent) (shown view (state_after p).sent) ⊎ IsPrefix (shown view (state_after p).sent)
    (shown view (state_after o).sent)
related_call-prefix view value exits o p (same_call r q s t h i) = inl (agree-prefix view s t h)
related_call-prefix view value exits o p (same_thrown x s t h) = inl (agree-prefix view s t h)
related_call-prefix view value exits o p (apart_calls _ _ h i j) = inl (agree-prefix view (state_after o) (state_after p) j)
related_call-prefix view value exits o p (first_call_stops stop s _ h) = inl h
related_call-prefix view value exits o p (second_call_stops _ stop t h) = inr h

module _ (program : Program) (labelling : Labelling) (accepted : Accepted program labelling) (reader : LabelReader program.hierarchy) where
  -- what it reads, whatever the procedure
  abbrev outside : View
  outside = view_of (under reader labelling) (record { program = program; number = program.main })

  first-alike : (first second : World) → ((n : ℕ) (channel : ChannelContents) → slice_get program.channels n ≡ Some channel → channel.direction ≡ Input →
      reader.reads (channel_label program n) ≡ true → first n ≡ second n) →
      AgreeFor outside (first_state program first) (first_state program second)
  first-alike first second same = record {
    variables = variables;
    inputs = λ n e. numbers-alike program.channels (record { direction = Output; name = []; label = [] }) n (first n) (second n) refl
        (λ channel there input. same n channel there input e);
    sent = refl;
  }
    where
      variables : (x : Variable) → outside.variable x ≡ true →
          cells (first_state program first) x ≡ cells (first_state program second) x
      variables (Global n) e = refl
      variables (Local n) e = refl

  -- two runs on worlds in which the inputs that the observer reads are the same
  pub runs-prefix : (first second : World) → ((n : ℕ) (channel : ChannelContents) → slice_get program.channels n ≡ Some channel → channel.direction ≡ Input →
      reader.reads (channel_label program n) ≡ true → first n ≡ second n) → (frames k m : ℕ) →
      IsPrefix (shown outside (state_after (run_within frames program first k)).sent)
      (shown outside (state_after (run_within frames program second m)).sent) ⊎ IsPrefix
      (shown outside (state_after (run_within frames program second m)).sent)
      (shown outside (state_after (run_within frames program first k)).sent)
  runs-prefix first second same frames k m =
      let callee : ProcedureEntry = procedure_at program program.main in
      related_call-prefix outside (reads_result (under reader labelling) callee) (read_exits (under reader labelling) (declared_label program program.main))
      (run_within frames program first k) (run_within frames program second m)
      ((calls-secure program labelling accepted reader k m frames program.main labelling).related program.main [] []
      (first_state program first) (first_state program second)
      (first-alike first second same) (λ n e. refl))
