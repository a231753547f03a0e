-- What it means that a machine does what an outcome says, and how such runs are put together.
use Rattle.std.proofs.Common.{◌≡◌, ℕ, zero, suc, ◌≤◌, ◌⊎◌, inl, inr, Bool, true, false, List, [], ◌∷◌, ◌++◌, refl, subst, arith}
use Rattle.std.specs.Prelude.{Option, Some, if◌then◌else◌}
use Rattle.common.specs.declared.value.Value.{Value}
use Rattle.resolved.specs.declared.statement.Exit.TheVariants.{Normal, Return, Break, Continue, Throw}
use Rattle.resolved.specs.SourceState as source
use Rattle.common.specs.Values.{truth_in}
use Rattle.resolved.specs.Value.{Evaluated, Yields, Raises}
use Rattle.resolved.specs.Meaning.{Outcome, Ended, Stopped, Deep, OutOfFuel, after, evaluated, looped, fuel, caught, normally, state_after}
use Rattle.resolved.specs.Kinds.{StateFits}
use Rattle.common.specs.declared.value.Value.{Value as Cell}
use Rattle.modules.specs.declared.instruction.Instruction.{Instruction}
use Rattle.modules.specs.Machine as machine
use Rattle.modules.specs.Machine.{Machine}
use Rattle.lowering.specs.Code.{Loop, jump_code}
use Rattle.lowering.proofs.CodePieces.{Stands}
use Rattle.lowering.proofs.Steps.{Leads, Strides, Waits, leads-through, strides-leads, strides-on, waits-through, waits-stride, waits-less}
use Rattle.lowering.proofs.States.{Setting, position, cell_of, thrown_to, returned_to}
use Rattle.lowering.proofs.Tables.{first_found}
use Rattle.lowering.proofs.Values.{ValueRuns}
use Rattle.lowering.proofs.Expressions.{jump-runs}
use Rattle.lowering.proofs.Branches.{BranchRuns, lead_by}

-- the machine comes to the end of the code, out of the procedure, to where the loop says, to where the exception goes, or to its end;
-- out of fuel it still runs after k steps
abbrev pub Runs : Setting → Loop → (ℕ → Option ℕ) → (k : ℕ) → Machine → (end : ℕ) → Outcome → Type 0
Runs g loop h k from end (Ended Normal returned t) = Leads g.p from (position g end [] t)
Runs g loop h k from end (Ended Return returned t) = Leads g.p from (returned_to g returned t)
Runs g loop h k from end (Ended Break returned t) = Leads g.p from (position g loop.beyond [] t)
Runs g loop h k from end (Ended Continue returned t) = Leads g.p from (position g loop.test [] t)
Runs g loop h k from end (Ended (Throw exception) returned t) = Leads g.p from (thrown_to g (h exception) exception t)
Runs g loop h k from end (Stopped Deep t) = Leads g.p from (machine.Ended machine.Deep t.sent)
Runs g loop h k from end (Stopped OutOfFuel t) = Waits g.p k from t.sent

-- no normal exit
abbrev pub NotNormal : Outcome → Type 0
NotNormal (Ended Normal returned t) = ⊥
NotNormal (Ended Return returned t) = Unit {0}
NotNormal (Ended Break returned t) = Unit {0}
NotNormal (Ended Continue returned t) = Unit {0}
NotNormal (Ended (Throw exception) returned t) = Unit {0}
NotNormal (Stopped stop t) = Unit {0}

module _ (g : Setting) (loop : Loop) (h : ℕ → Option ℕ) (k : ℕ) where
  pub runs-from : (from mid : Machine) (end : ℕ) (o : Outcome) → Leads g.p from mid → Runs g loop h k mid end o → Runs g loop h k from end o
  runs-from from mid end (Ended Normal returned t) first run = leads-through g.p from mid _ first run
  runs-from from mid end (Ended Return returned t) first run = leads-through g.p from mid _ first run
  runs-from from mid end (Ended Break returned t) first run = leads-through g.p from mid _ first run
  runs-from from mid end (Ended Continue returned t) first run = leads-through g.p from mid _ first run
  runs-from from mid end (Ended (Throw exception) returned t) first run = leads-through g.p from mid _ first run
  runs-from from mid end (Stopped Deep t) first run = leads-through g.p from mid _ first run
  runs-from from mid end (Stopped OutOfFuel t) first run = waits-through g.p k from mid t.sent first run

  -- a step more
  pub runs-stride : (from mid : Machine) (end : ℕ) (o : Outcome) → Strides g.p from mid → Runs g loop h k mid end o → Runs g loop h (suc k) from end o
  runs-stride from mid end (Ended Normal returned t) first run = leads-through g.p from mid _ (strides-leads g.p from mid first) run
  runs-stride from mid end (Ended Return returned t) first run = leads-through g.p from mid _ (strides-leads g.p from mid first) run
  runs-stride from mid end (Ended Break returned t) first run = leads-through g.p from mid _ (strides-leads g.p from mid first) run
  runs-stride from mid end (Ended Continue returned t) first run = leads-through g.p from mid _ (strides-leads g.p from mid first) run
  runs-stride from mid end (Ended (Throw exception) returned t) first run = leads-through g.p from mid _ (strides-leads g.p from mid first) run
  runs-stride from mid end (Stopped Deep t) first run = leads-through g.p from mid _ (strides-leads g.p from mid first) run
  runs-stride from mid end (Stopped OutOfFuel t) first run = waits-stride g.p k from mid t.sent first run

  pub runs-at : (from : Machine) (mid end : ℕ) (o : Outcome) → mid ≡ end → Runs g loop h k from mid o → Runs g loop h k from end o
  runs-at from mid end o e run = subst (λ (q : ℕ). Runs g loop h k from q o) e run

  -- another exit of code that does not end normally
  pub runs-elsewhere : (from : Machine) (mid end : ℕ) (o : Outcome) → NotNormal o → Runs g loop h k from mid o → Runs g loop h k from end o
  runs-elsewhere from mid end (Ended Normal returned t) not run = absurd not
  runs-elsewhere from mid end (Ended Return returned t) not run = run
  runs-elsewhere from mid end (Ended Break returned t) not run = run
  runs-elsewhere from mid end (Ended Continue returned t) not run = run
  runs-elsewhere from mid end (Ended (Throw exception) returned t) not run = run
  runs-elsewhere from mid end (Stopped Deep t) not run = run
  runs-elsewhere from mid end (Stopped OutOfFuel t) not run = run

  -- a further way from the normal exit
  pub runs-on : (from : Machine) (mid end : ℕ) (o : Outcome) → Runs g loop h k from mid o
      → ((t : source.SourceState) → Leads g.p (position g mid [] t) (position g end [] t)) → Runs g loop h k from end o
  runs-on from mid end (Ended Normal returned t) run each = leads-through g.p from _ _ run (each t)
  runs-on from mid end (Ended Return returned t) run each = run
  runs-on from mid end (Ended Break returned t) run each = run
  runs-on from mid end (Ended Continue returned t) run each = run
  runs-on from mid end (Ended (Throw exception) returned t) run each = run
  runs-on from mid end (Stopped Deep t) run each = run
  runs-on from mid end (Stopped OutOfFuel t) run each = run

  -- a jump after code, where one is wanted
  pub runs-over : (wanted : Bool) (from : Machine) (mid end : ℕ) (more : List Instruction) (o : Outcome) → Stands g.code (jump_code wanted end ++ more) mid
      → (wanted ≡ false → NotNormal o ⊎ (mid ≡ end)) → Runs g loop h k from mid o → Runs g loop h k from end o
  runs-over true from mid end more o stands other run = runs-on from mid end o run (λ t. jump-runs g h t end mid [] more stands)
  runs-over false from mid end more o stands other run = go (other refl)
    where
      go : NotNormal o ⊎ (mid ≡ end) → Runs g loop h k from end o
      go (inl not) = runs-elsewhere from mid end o not run
      go (inr same) = runs-at from mid end o same run

  pub after-runs : (from : Machine) (mid end : ℕ) (o : Outcome) (next : source.SourceState → Outcome) → Runs g loop h k from mid o → StateFits g.program g.procedure (state_after o)
      → ((t : source.SourceState) → StateFits g.program g.procedure t → Runs g loop h k (position g mid [] t) end (next t)) → Runs g loop h k from end (after o next)
  after-runs from mid end (Ended Normal returned t) next run fit each = runs-from from (position g mid [] t) end (next t) run (each t fit)
  after-runs from mid end (Ended Return returned t) next run fit each = run
  after-runs from mid end (Ended Break returned t) next run fit each = run
  after-runs from mid end (Ended Continue returned t) next run fit each = run
  after-runs from mid end (Ended (Throw exception) returned t) next run fit each = run
  after-runs from mid end (Stopped Deep t) next run fit each = run
  after-runs from mid end (Stopped OutOfFuel t) next run fit each = run

  pub evaluated-runs : (operands : List Cell) (from : Machine) (mid end : ℕ) (s : source.SourceState) (first : Evaluated Value) (next : Value → Outcome)
      → ValueRuns g h operands from mid s first
      → ((v : Value) → first ≡ Yields v → Runs g loop h k (position g mid (cell_of v ∷ operands) s) end (next v))
      → Runs g loop h k from end (evaluated first s next)
  evaluated-runs operands from mid end s (Yields v) next run each = runs-from from (position g mid (cell_of v ∷ operands) s) end (next v) run (each v refl)
  evaluated-runs operands from mid end s (Raises exception) next run each = run

  -- a condition that goes to its target where it has the wanted truth
  pub branch-evaluated : (wanted : Bool) (target : ℕ) (from : Machine) (mid end : ℕ) (s : source.SourceState) (first : Evaluated Value) (next : Bool → Outcome)
      → BranchRuns g h wanted target from mid s first
      → ((t : Bool) → Runs g loop h k (position g (lead_by wanted t target mid) [] s) end (next t))
      → Runs g loop h k from end (evaluated first s (λ v. next (truth_in v)))
  branch-evaluated wanted target from mid end s (Yields v) next run each =
      runs-from from (position g (lead_by wanted (truth_in v) target mid) [] s) end (next (truth_in v)) (strides-leads g.p _ _ run) (each (truth_in v))
  branch-evaluated wanted target from mid end s (Raises exception) next run each = run

-- ---- loops

-- one round: at least a step to the body, the body, and what follows
pub looped-runs : (g : Setting) (loop inner : Loop) (h : ℕ → Option ℕ) (j k : ℕ) (from start : Machine) (o : Outcome) (again : source.SourceState → Outcome)
    → suc j ≤ k → Strides g.p from start → Runs g inner h k start inner.test o → StateFits g.program g.procedure (state_after o)
    → ((t : source.SourceState) → StateFits g.program g.procedure t → Runs g loop h j (position g inner.test [] t) inner.beyond (again t))
    → Runs g loop h (suc j) from inner.beyond (looped o again)
looped-runs g loop inner h j k from start (Ended Normal returned t) again less first run fit each =
    runs-stride g loop h j from (position g inner.test [] t) inner.beyond (again t) (strides-on g.p _ _ _ first run) (each t fit)
looped-runs g loop inner h j k from start (Ended Return returned t) again less first run fit each = leads-through g.p _ _ _ (strides-leads g.p _ _ first) run
looped-runs g loop inner h j k from start (Ended Break returned t) again less first run fit each = leads-through g.p _ _ _ (strides-leads g.p _ _ first) run
looped-runs g loop inner h j k from start (Ended Continue returned t) again less first run fit each =
    runs-stride g loop h j from (position g inner.test [] t) inner.beyond (again t) (strides-on g.p _ _ _ first run) (each t fit)
looped-runs g loop inner h j k from start (Ended (Throw exception) returned t) again less first run fit each = leads-through g.p _ _ _ (strides-leads g.p _ _ first) run
looped-runs g loop inner h j k from start (Stopped Deep t) again less first run fit each = leads-through g.p _ _ _ (strides-leads g.p _ _ first) run
looped-runs g loop inner h j k from start (Stopped OutOfFuel t) again less first run fit each =
    waits-through g.p (suc j) from start t.sent (strides-leads g.p _ _ first) (waits-less g.p (suc j) k start t.sent less run)

-- the rounds of a loop from its test on
pub fuel-run : (g : Setting) (loop inner : Loop) (h : ℕ → Option ℕ) (start k : ℕ) (condition : source.SourceState → Evaluated Value) (body : source.SourceState → Outcome)
    → ((s : source.SourceState) → StateFits g.program g.procedure s → BranchRuns g h true start (position g inner.test [] s) inner.beyond s (condition s))
    → ((s : source.SourceState) → StateFits g.program g.procedure s → Runs g inner h k (position g start [] s) inner.test (body s))
    → ((s : source.SourceState) → StateFits g.program g.procedure s → StateFits g.program g.procedure (state_after (body s)))
    → (j : ℕ) → j ≤ k → (s : source.SourceState) → StateFits g.program g.procedure s → Runs g loop h j (position g inner.test [] s) inner.beyond (fuel j condition body s)
fuel-run g loop inner h start k condition body test run keeps zero less s fit = go (condition s) (test s fit)
  where
    last : (v : Bool) → Strides g.p (position g inner.test [] s) (position g (lead_by true v start inner.beyond) [] s)
        → Runs g loop h 0 (position g inner.test [] s) inner.beyond (if v then Stopped OutOfFuel s else normally s)
    last true first = record { steps = 0; enough = omega arith; state = _; reached = refl; sent_is = refl }
    last false first = strides-leads g.p _ _ first

    go : (o : Evaluated Value) → BranchRuns g h true start (position g inner.test [] s) inner.beyond s o
        → Runs g loop h 0 (position g inner.test [] s) inner.beyond (evaluated o s (λ v. if truth_in v then Stopped OutOfFuel s else normally s))
    go (Yields v) first = last (truth_in v) first
    go (Raises exception) first = first
fuel-run g loop inner h start k condition body test run keeps (suc j) less s fit =
    go (fuel-run g loop inner h start k condition body test run keeps j (omega (arith, less))) (condition s) (test s fit)
  where
    turn : ((t : source.SourceState) → StateFits g.program g.procedure t → Runs g loop h j (position g inner.test [] t) inner.beyond (fuel j condition body t))
        → (v : Bool) → Strides g.p (position g inner.test [] s) (position g (lead_by true v start inner.beyond) [] s)
        → Runs g loop h (suc j) (position g inner.test [] s) inner.beyond (if v then looped (body s) (fuel j condition body) else normally s)
    turn again true first = looped-runs g loop inner h j k _ (position g start [] s) (body s) (fuel j condition body) less first (run s fit) (keeps s fit) again
    turn again false first = strides-leads g.p _ _ first

    go : ((t : source.SourceState) → StateFits g.program g.procedure t → Runs g loop h j (position g inner.test [] t) inner.beyond (fuel j condition body t))
        → (o : Evaluated Value) → BranchRuns g h true start (position g inner.test [] s) inner.beyond s o
        → Runs g loop h (suc j) (position g inner.test [] s) inner.beyond (evaluated o s (λ v. if truth_in v then looped (body s) (fuel j condition body) else normally s))
    go again (Yields v) first = turn again (truth_in v) first
    go again (Raises exception) first = first

-- ---- exceptions

-- the handlers go on where an exception of the block goes
pub caught-runs : (g : Setting) (loop : Loop) (h inside : ℕ → Option ℕ) (k : ℕ) (from : Machine) (end : ℕ) (o : Outcome) (handle : ℕ → source.SourceState → Outcome)
    → Runs g loop inside k from end o → StateFits g.program g.procedure (state_after o)
    → ((exception : ℕ) (t : source.SourceState) → StateFits g.program g.procedure t → Runs g loop h k (thrown_to g (inside exception) exception t) end (handle exception t))
    → Runs g loop h k from end (caught o handle)
caught-runs g loop h inside k from end (Ended Normal returned t) handle run fit each = run
caught-runs g loop h inside k from end (Ended Return returned t) handle run fit each = run
caught-runs g loop h inside k from end (Ended Break returned t) handle run fit each = run
caught-runs g loop h inside k from end (Ended Continue returned t) handle run fit each = run
caught-runs g loop h inside k from end (Ended (Throw exception) returned t) handle run fit each =
    runs-from g loop h k from (thrown_to g (inside exception) exception t) end (handle exception t) run (each exception t fit)
caught-runs g loop h inside k from end (Stopped Deep t) handle run fit each = run
caught-runs g loop h inside k from end (Stopped OutOfFuel t) handle run fit each = run

-- an exception comes to the first handler or to the next ones
pub first-handler : (g : Setting) (loop : Loop) (h : ℕ → Option ℕ) (k : ℕ) (here end exception : ℕ) (next : Option ℕ) (t : source.SourceState) (test : Bool) (one others : Outcome)
    → Runs g loop h k (position g here [] t) end one → Runs g loop h k (thrown_to g (first_found next (h exception)) exception t) end others
    → Runs g loop h k (thrown_to g (first_found (if test then Some here else next) (h exception)) exception t) end (if test then one else others)
first-handler g loop h k here end exception next t true one others run more = run
first-handler g loop h k here end exception next t false one others run more = more
