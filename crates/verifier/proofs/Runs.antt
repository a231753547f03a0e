-- No run of a module that is not refused is stuck: each state of a run has the kinds of operands that the flow has for its offset,
-- in the running frame and in each frame that waits at a call.
use Rattle.std.proofs.Common.{◌≡◌, ℕ, suc, ◌+◌, ◌<◌, ◌≤◌, ◌==◌, Bool, true, false, if◌then◌else◌, List, [], ◌∷◌, length, map, slice_get, Option, Some, None, refl, sym, ap, ◌∙◌, subst, arith}
use Rattle.std.specs.Prelude.{◌&&◌, not, nat_lt}
use Rattle.std.specs.List.{Contains}
use Rattle.std.proofs.lemmas.Bool.{and_parts}
use Rattle.std.proofs.lemmas.Bool.Decides.{nat_tests}
use Rattle.modules.specs.Code.{width_of, instruction_at}
use Rattle.modules.specs.Contents.{ProcedureContents, ModuleContents}
use Rattle.modules.specs.Machine as machine
use Rattle.modules.specs.Machine.{State, Frame, Caller, Machine, Running, Ended, Finished, Threw, machine_code, handler_for, unwound, raised}
use Rattle.modules.specs.Transitions.{handled}
use Rattle.modules.specs.MachineParts.{code_of, handlers_of, position_after, leaves, leaves_value}
use Rattle.common.specs.Values.{kind_of}
use Rattle.modules.specs.Values.{is_same_kind}
use Rattle.modules.specs.declared.instruction.Instruction.{Instruction}
use Rattle.modules.specs.declared.instruction.Instruction.TheVariants.{Call}
use Rattle.common.specs.declared.base_type.BaseType.{BaseType}
use Rattle.common.specs.declared.value.Value.{Value as Cell}
use Rattle.modules.specs.declared.declaration.Handler.{Handler}
use Rattle.verifier.specs.Refusals.{IsNotRefused}
use Rattle.modules.specs.Targets.{goes_on, target_of}
use Rattle.verifier.specs.Flow.{next, jumps, caught, Leaves, Misses, all_popped, and_then, effect, FlowsWell}
use Rattle.verifier.specs.declared.fault.CodeRefusalKind.TheVariants.{OperandKind}
use Rattle.verifier.specs.SignatureParts.{pushed}
use Rattle.verifier.proofs.Holds.{Holds}
use Rattle.verifier.proofs.Laws.{IsInFlow, along_in_flow}

-- the procedure of a number flows well
pub flows : (m : ModuleContents) → IsNotRefused m → (k : ℕ) (p : ProcedureContents) → slice_get m.procedures k ≡ Some p → FlowsWell m p
flows m free k p there offset kind wrong =
    free.flow (record { kind = kind; procedure = k; offset = offset }) (record { procedure = p; there = there; kind = wrong })

-- a frame of a procedure that waits at its call of another one
pub record Waits (m : ModuleContents) (p callee : ProcedureContents) (c : Caller) : Type 0 where
  pub there : slice_get m.procedures c.frame.procedure ≡ Some p
  pub slots : Holds p.slots c.frame.slots
  pub kinds : List BaseType
  pub flow : IsInFlow m p c.frame.position kinds
  pub number : ℕ
  pub calls : instruction_at p.code c.frame.position ≡ Some (Call number)
  pub effect : effect m p (Call number) kinds ≡ Leaves (pushed callee.returned (map kind_of c.frame.operands))
  pub resumes : c.resume ≡ c.frame.position + width_of (Call number)

-- the frames that wait for a procedure, the innermost first; a run starts in a procedure that returns no value
pub data Callers (m : ModuleContents) : ProcedureContents → List Caller → Type 0 where
  outermost : (p : ProcedureContents) → p.returned ≡ None → Callers m p []
  inner : (callee p : ProcedureContents) (c : Caller) (callers : List Caller) → Waits m p callee c → Callers m p callers → Callers m callee (c ∷ callers)

-- a state at an instruction, before it acts, whose operands are of these kinds
pub record Stands (m : ModuleContents) (p : ProcedureContents) (s : State) (i : Instruction) (kinds : List BaseType) : Type 0 where
  pub there : slice_get m.procedures s.frame.procedure ≡ Some p
  pub instruction : instruction_at p.code s.frame.position ≡ Some i
  pub flow : IsInFlow m p s.frame.position kinds
  pub slots : Holds p.slots s.frame.slots
  pub globals : Holds (machine_code m).globals s.globals
  pub callers : Callers m p s.callers

-- a state of a run
pub record GoodState (m : ModuleContents) (s : State) : Type 0 where
  pub procedure : ProcedureContents
  pub there : slice_get m.procedures s.frame.procedure ≡ Some procedure
  pub flow : IsInFlow m procedure s.frame.position (map kind_of s.frame.operands)
  pub slots : Holds procedure.slots s.frame.slots
  pub globals : Holds (machine_code m).globals s.globals
  pub callers : Callers m procedure s.callers

pub data Good (m : ModuleContents) : Machine → Type 0 where
  runs : (s : State) → GoodState m s → Good m (Running s)
  over : (ending : machine.Ending) (sent : List _) → Good m (Ended ending sent)

pub leaves_same : (a b : List BaseType) → Leaves a ≡ Leaves b → a ≡ b
leaves_same a b e = cc

-- what pops leaves no more
pub popped_less : (wanted : List (Option BaseType)) (kinds rest : List BaseType) → all_popped wanted kinds ≡ Leaves rest → length rest ≤ length kinds
popped_less [] kinds rest e = omega (arith, ap length (leaves_same kinds rest e))
popped_less (w ∷ wanted) [] rest e = absurd (cc)
popped_less (None ∷ wanted) (kind ∷ kinds) rest e = omega (arith, popped_less wanted kinds rest e)
popped_less (Some w ∷ wanted) (kind ∷ kinds) rest e = split (λ more. popped_less wanted kinds rest more) (is_same_kind w kind) e
  where
    split : (all_popped wanted kinds ≡ Leaves rest → length rest ≤ length kinds) → (b : Bool) → and_then (if b then Leaves kinds else Misses OperandKind) (all_popped wanted) ≡ Leaves rest → length rest ≤ suc (length kinds)
    split less true e = omega (arith, less e)
    split less false e = absurd (cc)

module _ (m : ModuleContents) (free : IsNotRefused m) where
  -- on to the next instruction
  pub next_good : (p : ProcedureContents) (s : State) (i : Instruction) (kinds after : List BaseType) (operands : List Cell) → Stands m p s i kinds → effect m p i kinds ≡ Leaves after → goes_on i ≡ true → map kind_of operands ≡ after → Good m (machine.goes_on (machine_code m) s operands)
  next_good p s i kinds after operands st e goes is =
      let after_is : position_after (instruction_at (code_of (slice_get m.procedures s.frame.procedure)) s.frame.position) s.frame.position ≡ s.frame.position + width_of i =
      ap (λ o. position_after (instruction_at (code_of o) s.frame.position) s.frame.position) st.there ∙ ap (λ o. position_after o s.frame.position) st.instruction in
      runs _ (record {
        procedure = p;
        there = st.there;
        flow =
            subst (IsInFlow m p _) (sym is)
            (along_in_flow m p (flows m free s.frame.procedure p st.there) s.frame.position kinds _ after st.flow (next i _ after st.instruction e goes after_is));
        slots = st.slots;
        globals = st.globals;
        callers = st.callers;
      })

  -- on to a target
  pub jump_good : (p : ProcedureContents) (s : State) (i : Instruction) (kinds after : List BaseType) (operands : List Cell) (to : ℕ) → Stands m p s i kinds → effect m p i kinds ≡ Leaves after → target_of i ≡ Some to → map kind_of operands ≡ after → Good m (machine.goes_to s operands to)
  jump_good p s i kinds after operands to st e target is =
      runs _ (record {
        procedure = p;
        there = st.there;
        flow =
            subst (IsInFlow m p to) (sym is)
            (along_in_flow m p (flows m free s.frame.procedure p st.there) s.frame.position kinds to after st.flow (jumps i to after st.instruction e target));
        slots = st.slots;
        globals = st.globals;
        callers = st.callers;
      })

  -- ---- exceptions

  record Catches (handlers : List Handler) (at target : ℕ) : Type 0 where
    handler : Handler
    there : Contains handlers handler
    low : handler.start ≤ at
    high : at < handler.end
    target_is : handler.target ≡ target

  catches_more : (x : Handler) (handlers : List Handler) (at target : ℕ) → Catches handlers at target → Catches (x ∷ handlers) at target
  catches_more x handlers at target c =
      record { handler = c.handler; there = (suc c.there.0, omega (arith, c.there.1), c.there.2); low = c.low; high = c.high; target_is = c.target_is }

  catches : (handlers : List Handler) (at exception target : ℕ) → handler_for handlers at exception ≡ Some target → Catches handlers at target
  catches [] at exception target e = absurd (let no : None ≡ Some target = e in cc)
  catches (x ∷ handlers) at exception target e =
      split (not (nat_lt at x.start) && (nat_lt at x.end && x.exception == exception)) refl e (λ h. catches handlers at exception target h)
    where
      split : (b : Bool) → (not (nat_lt at x.start) && (nat_lt at x.end && x.exception == exception)) ≡ b → (if b then Some x.target else handler_for handlers at exception) ≡ Some target → (handler_for handlers at exception ≡ Some target → Catches handlers at target) → Catches (x ∷ handlers) at target
      split true b e more =
          let fields = and_parts (not (nat_lt at x.start)) (nat_lt at x.end && x.exception == exception) b in
          let ends = and_parts (nat_lt at x.end) (x.exception == exception) fields.1 in
          let first : not (nat_lt at x.start) ≡ true = fields.0 in
          let last : nat_lt at x.end ≡ true = ends.0 in
          record { handler = x; there = (0, omega arith, refl); low = grind (arith, nat_tests); high = grind (arith, nat_tests); target_is = cc }
      split false b e more = catches_more x handlers at target (more e)

  -- control goes to a handler of a frame at an instruction, or the search goes on
  handled_good : (p : ProcedureContents) (s : State) (f : Frame) (callers : List Caller) (exception : ℕ) (i : Instruction) (kinds : List BaseType) (otherwise : Machine) → slice_get m.procedures f.procedure ≡ Some p → instruction_at p.code f.position ≡ Some i → IsInFlow m p f.position kinds → Holds p.slots f.slots → Holds (machine_code m).globals s.globals → Callers m p callers → Good m otherwise → Good m (handled s f callers ((machine_code m).find f.procedure f.position exception) otherwise)
  handled_good p s f callers exception i kinds otherwise there is flow slots globals waiting more =
      split ((machine_code m).find f.procedure f.position exception) refl
    where
      split : (o : Option ℕ) → (machine_code m).find f.procedure f.position exception ≡ o → Good m (handled s f callers o otherwise)
      split None e = more
      split (Some target) e =
          let c = catches p.handlers f.position exception target (ap (λ o. handler_for (handlers_of o) f.position exception) (sym there) ∙ e) in
          let to : IsInFlow m p c.handler.target [] = along_in_flow m p (flows m free f.procedure p there) f.position kinds c.handler.target [] flow (caught i c.handler is c.there c.low c.high) in
          runs _ (record {
            procedure = p;
            there = there;
            flow = subst (λ (n : ℕ). IsInFlow m p n []) c.target_is to;
            slots = slots;
            globals = globals;
            callers = waiting;
          })

  unwound_good : (s : State) (exception : ℕ) → Holds (machine_code m).globals s.globals → (p : ProcedureContents) (callers : List Caller) → Callers m p callers → Good m (unwound (machine_code m) s exception callers)
  unwound_good s exception globals _ _ (outermost p none) = over (Threw exception) s.sent
  unwound_good s exception globals _ _ (inner callee p c callers w more) =
      handled_good p s c.frame callers exception (Call w.number) w.kinds _ w.there w.calls w.flow w.slots globals more (unwound_good s exception globals p callers more)

  pub raised_good : (p : ProcedureContents) (s : State) (i : Instruction) (kinds : List BaseType) (exception : ℕ) → Stands m p s i kinds → Good m (raised (machine_code m) s exception)
  raised_good p s i kinds exception st =
      handled_good p s s.frame s.callers exception i kinds _ st.there st.instruction st.flow st.slots st.globals st.callers (unwound_good s exception st.globals p s.callers st.callers)

  -- ---- returns

  -- a caller goes on after its call
  resumed_good : (s : State) (operands : List Cell) (callee p : ProcedureContents) (c : Caller) (callers : List Caller) → Holds (machine_code m).globals s.globals → Waits m p callee c → Callers m p callers → map kind_of operands ≡ pushed callee.returned (map kind_of c.frame.operands) → Good m (Running (record s { frame = record c.frame { operands = operands; position = c.resume }; callers = callers }))
  resumed_good s operands callee p c callers globals w more is =
      runs _ (record {
        procedure = p;
        there = w.there;
        flow =
            subst (IsInFlow m p c.resume) (sym is)
            (along_in_flow m p (flows m free c.frame.procedure p w.there) c.frame.position w.kinds c.resume _ w.flow (next (Call w.number) c.resume _ w.calls w.effect refl w.resumes));
        slots = w.slots;
        globals = globals;
        callers = more;
      })

  pub leaves_good : (s : State) → Holds (machine_code m).globals s.globals → (p : ProcedureContents) (callers : List Caller) → p.returned ≡ None → Callers m p callers → Good m (leaves s callers)
  leaves_good s globals _ _ none (outermost p is) = over Finished s.sent
  leaves_good s globals _ _ none (inner callee p c callers w more) =
      resumed_good s c.frame.operands callee p c callers globals w more (ap (λ o. pushed o (map kind_of c.frame.operands)) (sym none))

  pub value_good : (s : State) (x : Cell) → Holds (machine_code m).globals s.globals → (p : ProcedureContents) (callers : List Caller) → p.returned ≡ Some (kind_of x) → Callers m p callers → Good m (leaves_value s x callers)
  value_good s x globals _ _ some (outermost p is) = absurd (let no : None ≡ Some (kind_of x) = sym is ∙ some in cc)
  value_good s x globals _ _ some (inner callee p c callers w more) =
      resumed_good s (x ∷ c.frame.operands) callee p c callers globals w more (ap (λ o. pushed o (map kind_of c.frame.operands)) (sym some))
