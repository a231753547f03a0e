-- Calls do in a graph what they do in the program, down to the frames that there may be.
use Rattle.std.proofs.Common.{◌≡◌, ℕ, zero, suc, ◌+◌, ◌<◌, Bool, true, false, List, [], ◌∷◌, ◌++◌, length, map, refl, sym, ap, ◌∙◌, subst, arith, slice_get, nat_lt}
use Rattle.std.specs.Prelude.{Option, Some, None, is_none}
use Rattle.std.proofs.lemmas.List.{append-nil}
use Rattle.std.proofs.lemmas.Bool.Decides.{nat_tests}
use Rattle.std.proofs.lemmas.Bool.{false≢true}
use Rattle.common.specs.declared.value.Value.{Value}
use Rattle.resolved.specs.declared.statement.Exit.TheVariants.{Normal, Return, Break, Continue, Throw}
use Rattle.resolved.specs.Program.{Program, ProcedureEntry, ResultEntry, procedure_at}
use Rattle.resolved.specs.SourceState as source
use Rattle.common.specs.Values.{kind_of}
use Rattle.resolved.specs.Exits.{thrown_exits, declared_by}
use Rattle.resolved.specs.Labelled.{exit_faults}
use Rattle.resolved.specs.Meaning.{Outcome, Ended, Stopped, Deep, OutOfFuel, leaving, entering, calls_with, block_meaning}
use Rattle.resolved.specs.WellFormed.{well_formed, parameters_of, has_result, same_base}
use Rattle.resolved.specs.Kinds.{StateFits, OutcomeFits, ArgumentsFit}
use Rattle.resolved.proofs.WellFormedParts.{ProcedureParts, procedure_at_is}
use Rattle.resolved.proofs.WellFormedParts as parts
use Rattle.resolved.proofs.Sound.States.{entering_fits}
use Rattle.resolved.proofs.Sound.Meanings.{calls_keep, meaning_keeps_types}
use Rattle.isolation.specs.Runs.{ExitsAmong, GivesValue}
use Rattle.isolation.proofs.Among.{calls-among}
use Rattle.isolation.proofs.Declared.{ends-as-declared}
use Rattle.isolation.proofs.Valued.{calls-give}
use Rattle.common.specs.declared.value.Value.{Value as Cell}
use Rattle.modules.specs.declared.instruction.Instruction.TheVariants as instruction
use Rattle.modules.specs.Machine as machine
use Rattle.modules.specs.Transitions as transitions
use Rattle.modules.specs.Machine.{Machine, Running, Caller, unwound}
use Rattle.modules.specs.Transitions.{handled, enters, popped}
use Rattle.modules.specs.MachineParts.{calls}
use Rattle.lowering.specs.Interface.{slot_contents}
use Rattle.lowering.specs.Code.{block_falls, block_size, block_code, block_table}
use Rattle.lowering.specs.Graphs.{end_code, no_loop, body_code}
use Rattle.lowering.proofs.CodePieces.{Stands, stands-front, stands-back}
use Rattle.lowering.proofs.Sizes.{block-sized}
use Rattle.lowering.proofs.Steps.{Leads, leads-through}
use Rattle.lowering.proofs.States.{state_at, position, cells_of, thrown_to, returned_to}
use Rattle.lowering.proofs.SingleSteps.{does}
use Rattle.lowering.proofs.Tables.{nothing_after}
use Rattle.lowering.proofs.Outcomes.{Runs, NotNormal}
use Rattle.lowering.proofs.Simple.{returns-nothing}
use Rattle.lowering.proofs.Falls.{block-stays}
use Rattle.lowering.proofs.Statements.{pushed, Called, CallsRun, called-from}
use Rattle.lowering.proofs.Bodies.{block-runs}
use Rattle.lowering.proofs.Frames.{setting_of, found-there, popped-all, slots-begin}
use Rattle.resolved.proofs.Exits.{thrown-break, thrown-continue}

abbrev pub nowhere : ℕ → Option ℕ
nowhere exception = None

module _ (program : Program) (formed : well_formed program ≡ true) (none : exit_faults program ≡ []) (world : source.World) (k : ℕ) where
  -- the body of a procedure from its begin on
  pub body-run : (d f : ℕ) (entry : ProcedureEntry) (there : slice_get program.procedures f ≡ Some entry) (callers : List Caller) (s : source.SourceState)
      → CallsRun (setting_of program formed world f entry there callers) (calls_with program k d) k → StateFits program entry s
      → Runs (setting_of program formed world f entry there callers) no_loop nowhere k (position (setting_of program formed world f entry there callers) 0 [] s)
      (0 + block_size program entry.body) (block_meaning (calls_with program k d) k entry.body s)
  body-run d f entry there callers s run fit =
      let g = setting_of program formed world f entry there callers in
      let fits : ProcedureParts program entry = parts.procedure_there program formed f entry there in
      let code = block_code program no_loop 0 entry.body in
      let whole : Stands g.code (code ++ end_code (block_falls entry.body)) 0 = record { before = []; beyond = []; parts = sym (append-nil (body_code program entry.body)); position = refl } in
      block-runs g (calls_with program k d) k (calls_keep program formed k d) run entry.body no_loop nowhere 0 s fits.body_fits
      (stands-front g.code code (end_code (block_falls entry.body)) 0 whole)
      (record { finds = λ i least most e. found-there program f entry there i e ∙ sym (nothing_after (machine.handler_for (block_table program 0 entry.body) i e)) })
      fit

  -- a body that ended normally returns
  pub body-returns : (d f : ℕ) (entry : ProcedureEntry) (there : slice_get program.procedures f ≡ Some entry) (callers : List Caller) (s t : source.SourceState) (returned : Option Value)
      → block_meaning (calls_with program k d) k entry.body s ≡ Ended Normal returned t → is_none entry.result ≡ true
      → Leads (setting_of program formed world f entry there callers).p (position (setting_of program formed world f entry there callers) (0 + block_size program entry.body) [] t)
      (returned_to (setting_of program formed world f entry there callers) None t)
  body-returns d f entry there callers s t returned is nothing = go (block_falls entry.body) refl
    where
      go : (falls : Bool) → block_falls entry.body ≡ falls
          → Leads (setting_of program formed world f entry there callers).p (position (setting_of program formed world f entry there callers) (0 + block_size program entry.body) [] t)
          (returned_to (setting_of program formed world f entry there callers) None t)
      go true e =
          let g = setting_of program formed world f entry there callers in
          let code = block_code program no_loop 0 entry.body in
          let whole : Stands g.code (code ++ end_code (block_falls entry.body)) 0 = record { before = []; beyond = []; parts = sym (append-nil (body_code program entry.body)); position = refl } in
          let last : Stands g.code (end_code (block_falls entry.body)) (0 + block_size program entry.body) =
          stands-back g.code code (end_code (block_falls entry.body)) 0 (block_size program entry.body) (block-sized program no_loop 0 entry.body) whole in
          returns-nothing g no_loop nowhere k t (0 + block_size program entry.body) [] nothing
          (subst (λ (b : Bool). Stands g.code (end_code b) (0 + block_size program entry.body)) e last)
      go false e =
          let fits : ProcedureParts program entry = parts.procedure_there program formed f entry there in
          absurd (subst NotNormal is (block-stays program entry (calls_with program k d) k entry.body fits.body_fits e s))

  module _ (f : ℕ) (entry : ProcedureEntry) (there : slice_get program.procedures f ≡ Some entry) (callers : List Caller) (at : ℕ) (s : source.SourceState) where
    -- the frame that waits at the call
    abbrev waiting : Caller
    waiting = record { frame = record { procedure = f; slots = λ n. cells_of (s.locals n); operands = []; position = at }; resume = at + 1 }

    abbrev back : source.SourceState → source.SourceState
    back t = record t { locals = s.locals }

    unwound_back : (q : ℕ) (callee : ProcedureEntry) (found : slice_get program.procedures q ≡ Some callee) (t : source.SourceState) (e : ℕ) (others : List Caller)
        → unwound (setting_of program formed world f entry there callers).p (state_at (setting_of program formed world q callee found (waiting ∷ callers)) 0 [] t) e others
        ≡ unwound (setting_of program formed world f entry there callers).p (state_at (setting_of program formed world f entry there callers) 0 [] (back t)) e others
    unwound_back q callee found t e [] = refl
    unwound_back q callee found t e (other ∷ others) =
        go ((setting_of program formed world f entry there callers).p.find other.frame.procedure other.frame.position e) (unwound_back q callee found t e others)
      where
        go : (o : Option ℕ)
            → unwound (setting_of program formed world f entry there callers).p (state_at (setting_of program formed world q callee found (waiting ∷ callers)) 0 [] t) e others
            ≡ unwound (setting_of program formed world f entry there callers).p (state_at (setting_of program formed world f entry there callers) 0 [] (back t)) e others
            → handled (state_at (setting_of program formed world q callee found (waiting ∷ callers)) 0 [] t) other.frame others o
            (unwound (setting_of program formed world f entry there callers).p (state_at (setting_of program formed world q callee found (waiting ∷ callers)) 0 [] t) e others)
            ≡ handled (state_at (setting_of program formed world f entry there callers) 0 [] (back t)) other.frame others o
            (unwound (setting_of program formed world f entry there callers).p (state_at (setting_of program formed world f entry there callers) 0 [] (back t)) e others)
        go None h = h
        go (Some target) h = refl

    thrown_back : (q : ℕ) (callee : ProcedureEntry) (found : slice_get program.procedures q ≡ Some callee) (t : source.SourceState) (e : ℕ)
        → thrown_to (setting_of program formed world q callee found (waiting ∷ callers)) None e t
        ≡ thrown_to (setting_of program formed world f entry there callers) ((setting_of program formed world f entry there callers).p.find f at e) e (back t)
    thrown_back q callee found t e = go ((setting_of program formed world f entry there callers).p.find f at e)
      where
        go : (o : Option ℕ)
            → handled (state_at (setting_of program formed world q callee found (waiting ∷ callers)) 0 [] t) waiting.frame callers o
            (unwound (setting_of program formed world f entry there callers).p (state_at (setting_of program formed world q callee found (waiting ∷ callers)) 0 [] t) e callers)
            ≡ thrown_to (setting_of program formed world f entry there callers) o e (back t)
        go None = unwound_back q callee found t e callers
        go (Some target) = refl

    -- a call that the machine makes comes back, or ends, as the body of the procedure does
    body-called : (q : ℕ) (callee : ProcedureEntry) (found : slice_get program.procedures q ≡ Some callee) (d : ℕ) (inner : source.SourceState) (result : Option ResultEntry) (o : Outcome)
        → callee.result ≡ result → block_meaning (calls_with program k d) k callee.body inner ≡ o
        → OutcomeFits program callee Return callee.result o → ExitsAmong (Normal ∷ thrown_exits (declared_by callee.throws)) (leaving back o)
        → ((value : ResultEntry) → result ≡ Some value → GivesValue value.base (leaving back o))
        → Runs (setting_of program formed world q callee found (waiting ∷ callers)) no_loop nowhere k
        (position (setting_of program formed world q callee found (waiting ∷ callers)) 0 [] inner) (0 + block_size program callee.body) o
        → Called (setting_of program formed world f entry there callers) k (position (setting_of program formed world q callee found (waiting ∷ callers)) 0 [] inner) at result (leaving back o)
    body-called q callee found d inner None (Ended Normal None t) is ended fit among gives run =
        leads-through (setting_of program formed world f entry there callers).p _ _ _ run
        (body-returns d q callee found (waiting ∷ callers) inner t None ended (ap is_none is))
    body-called q callee found d inner (Some value) (Ended Normal None t) is ended fit among gives run = absurd (gives value refl)
    body-called q callee found d inner result (Ended Normal (Some v) t) is ended fit among gives run = absurd (false≢true fit.returned)
    body-called q callee found d inner None (Ended Return None t) is ended fit among gives run = run
    body-called q callee found d inner None (Ended Return (Some v) t) is ended fit among gives run =
        absurd (false≢true (sym (ap (λ (r : Option ResultEntry). has_result r (same_base (kind_of v))) is) ∙ fit.returned))
    body-called q callee found d inner (Some value) (Ended Return None t) is ended fit among gives run = absurd (gives value refl)
    body-called q callee found d inner (Some value) (Ended Return (Some v) t) is ended fit among gives run = (gives value refl, run)
    body-called q callee found d inner result (Ended Break returned t) is ended fit among gives run = absurd (false≢true (sym (thrown-break (declared_by callee.throws)) ∙ among))
    body-called q callee found d inner result (Ended Continue returned t) is ended fit among gives run = absurd (false≢true (sym (thrown-continue (declared_by callee.throws)) ∙ among))
    body-called q callee found d inner result (Ended (Throw e) returned t) is ended fit among gives run =
        subst (λ (m : Machine). Leads (setting_of program formed world f entry there callers).p (position (setting_of program formed world q callee found (waiting ∷ callers)) 0 [] inner) m)
        (thrown_back q callee found t e) run
    body-called q callee found d inner result (Stopped Deep t) is ended fit among gives run = run
    body-called q callee found d inner result (Stopped OutOfFuel t) is ended fit among gives run = run

    -- what the machine does at the call
    entered : (q : ℕ) (callee : ProcedureEntry) (found : slice_get program.procedures q ≡ Some callee) (vs : List Value) → ArgumentsFit (parameters_of callee) vs
        → transitions.act (setting_of program formed world f entry there callers).p (instruction.Call q) (state_at (setting_of program formed world f entry there callers) at (pushed vs []) s)
        ≡ enters (setting_of program formed world f entry there callers).p (state_at (setting_of program formed world f entry there callers) at (pushed vs []) s) q
        (map slot_contents callee.slots) (Some (cells_of vs, []))
    entered q callee found vs matches =
        let g = setting_of program formed world f entry there callers in
        let h = setting_of program formed world q callee found [] in
        let S = state_at g at (pushed vs []) s in
        ap (calls g.p S q) h.header_is
        ∙ ap (enters g.p S q (map slot_contents callee.slots)) (popped-all callee vs matches)

    begins : (q : ℕ) (callee : ProcedureEntry) (found : slice_get program.procedures q ≡ Some callee) (vs : List Value) → ArgumentsFit (parameters_of callee) vs → length callers + 1 < 512
        → enters (setting_of program formed world f entry there callers).p (state_at (setting_of program formed world f entry there callers) at (pushed vs []) s) q
        (map slot_contents callee.slots) (Some (cells_of vs, []))
        ≡ position (setting_of program formed world q callee found (waiting ∷ callers)) 0 [] (entering callee vs s)
    begins q callee found vs matches room =
        let few : nat_lt (length callers + 1) 512 ≡ true = grind (arith, nat_tests) in
        let S = state_at (setting_of program formed world f entry there callers) at (pushed vs []) s in
        rw few (ap (λ (slots : ℕ → List Cell). Running (record S {
          frame = record { procedure = q; slots = slots; operands = []; position = 0 };
          callers = waiting ∷ callers;
        })) (slots-begin callee vs matches))

    deep : (q : ℕ) (callee : ProcedureEntry) (vs : List Value) → length callers + 1 + 0 ≡ 512
        → enters (setting_of program formed world f entry there callers).p (state_at (setting_of program formed world f entry there callers) at (pushed vs []) s) q
        (map slot_contents callee.slots) (Some (cells_of vs, []))
        ≡ machine.Ended machine.Deep s.sent
    deep q callee vs full =
        let many : nat_lt (length callers + 1) 512 ≡ false = grind (arith, nat_tests) in
        rw many refl

  pub calls-run : (d f : ℕ) (entry : ProcedureEntry) (there : slice_get program.procedures f ≡ Some entry) (callers : List Caller) → length callers + 1 + d ≡ 512
      → CallsRun (setting_of program formed world f entry there callers) (calls_with program k d) k
  calls-run zero f entry there callers full q at callee more vs s found matches fit stands =
      let g = setting_of program formed world f entry there callers in
      let run : Leads g.p (position g at (pushed vs []) s) (machine.Ended machine.Deep s.sent) =
      does g more (instruction.Call q) at (pushed vs []) s _ stands
      (entered f entry there callers at s q callee found vs matches ∙ deep f entry there callers at s q callee vs full) in
      too_deep callee.result run
    where
      too_deep : (result : Option ResultEntry)
          → Leads (setting_of program formed world f entry there callers).p (position (setting_of program formed world f entry there callers) at (pushed vs []) s) (machine.Ended machine.Deep s.sent)
          → Called (setting_of program formed world f entry there callers) k (position (setting_of program formed world f entry there callers) at (pushed vs []) s) at result (Stopped Deep s)
      too_deep None run = run
      too_deep (Some value) run = run
  calls-run (suc d) f entry there callers full q at callee more vs s found matches fit stands =
      let g = setting_of program formed world f entry there callers in
      let caller : Caller = waiting f entry there callers at s in
      let g' = setting_of program formed world q callee found (caller ∷ callers) in
      let inner : source.SourceState = entering callee vs s in
      let fits : ProcedureParts program callee = parts.procedure_there program formed q callee found in
      let is : procedure_at program q ≡ callee = procedure_at_is program q callee found in
      let inner_fit : StateFits program callee inner = entering_fits program entry callee s vs fit matches fits.parameters_written in
      let o : Outcome = block_meaning (calls_with program k d) k callee.body inner in
      let room : length callers + 1 < 512 = omega (arith, full) in
      let next : length (caller ∷ callers) + 1 + d ≡ 512 = omega (arith, full) in
      let deeper : CallsRun g' (calls_with program k d) k = calls-run d q callee found (caller ∷ callers) next in
      let leave : Outcome → Outcome = leaving (λ t. record t { locals = s.locals }) in
      let whole : calls_with program k (suc d) q vs s ≡ leave o =
      ap (λ (p : ProcedureEntry). leave (block_meaning (calls_with program k d) k p.body (entering p vs s))) is in
      let among : ExitsAmong (Normal ∷ thrown_exits (declared_by callee.throws)) (leave o) =
      subst (λ (x : Outcome). ExitsAmong (Normal ∷ thrown_exits (declared_by callee.throws)) x) whole
      (subst (λ (p : ProcedureEntry). ExitsAmong (Normal ∷ thrown_exits (declared_by p.throws)) (calls_with program k (suc d) q vs s)) is
      (calls-among program k (suc d) (ends-as-declared program none) q vs s).among) in
      let called : Called g k (position g' 0 [] inner) at callee.result (leave o) =
      body-called f entry there callers at s q callee found d inner callee.result o refl refl
      (meaning_keeps_types program formed callee callee.body fits.body_fits d k inner inner_fit) among
      (λ value result. subst (GivesValue value.base) whole (calls-give program formed none q callee value found result entry s fit vs matches (suc d) k))
      (body-run d q callee found (caller ∷ callers) inner deeper inner_fit) in
      let enter : Leads g.p (position g at (pushed vs []) s) (position g' 0 [] inner) =
      does g more (instruction.Call q) at (pushed vs []) s _ stands
      (entered f entry there callers at s q callee found vs matches ∙ begins f entry there callers at s q callee found vs matches room) in
      subst (λ (x : Outcome). Called g k (position g at (pushed vs []) s) at callee.result x) (sym whole)
      (called-from g no_loop nowhere k (position g at (pushed vs []) s) (position g' 0 [] inner) at callee.result (leave o) enter called)
