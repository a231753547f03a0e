-- Offsets: the module that a graph is laid out as fetches, goes on and finds handlers at the offset of a position as the graph does
-- at the position.
use Rattle.std.proofs.Common.{◌≡◌, ℕ, zero, suc, ◌+◌, ◌-◌, ◌<◌, ◌≤◌, ◌∙◌, refl, sym, ap, Bool, true, false, cond, not, ◌&&◌, List, [], ◌∷◌, map, Option, Some, None, eqb, ltb, ℤ, arith, add-one}
use Rattle.std.specs.Prelude.{slice_get}
use Rattle.std.specs.Option.{option_map}
use Rattle.std.proofs.lemmas.Bool.{lt-ltb, le-ltb, ltb-true, ltb-false, ne_eqb}
use Rattle.std.proofs.lemmas.Option.{slice_get-map}
use Rattle.common.specs.declared.sent.Pair.{Pair}
use Rattle.modules.specs.declared.instruction.Instruction.{Instruction}
use Rattle.modules.specs.declared.instruction.Instruction.TheVariants.{Jump, JumpIfFalse}
use Rattle.modules.specs.declared.declaration.Handler.{Handler}
use Rattle.modules.specs.declared.declaration.Slot.{Slot}
use Rattle.modules.specs.Code.{width_of, instruction_at}
use Rattle.modules.specs.Contents.{ProcedureContents, ModuleContents}
use Rattle.modules.specs.Machine.{Header, MachineCode, Machine, Running, Ended, Stuck, Ending, header_of, handler_for, machine_code, first_state, new_frame, exec, after_steps, sent_of}
use Rattle.modules.specs.MachineParts.{code_of, handlers_of, slots_in, position_after}
use Rattle.modules.specs.Targets.{renamed_instruction, renamed_handler}
use Rattle.layout.specs.Offsets.{offset, laid_out_procedure, laid_out, offset_in}
use Rattle.layout.specs.Runs.{graph_program, graph_after_steps}
use Rattle.layout.specs.SameRuns.{renamed, SameRuns, SameInterface}
use Rattle.layout.proofs.Renaming.{Relaid, relaid, exec-same}
use Rattle.modules.proofs.Widths.{width_of-pos, past}

-- ---- widths

pub width-renamed : (f : ℕ → ℕ) (x : Instruction) → width_of (renamed_instruction f x) ≡ width_of x
width-renamed f (Jump target) = refl
width-renamed f (JumpIfFalse target) = refl
width-renamed f x = refl

-- ---- offsets ascend

pub offset-start : (code : List Instruction) → offset code 0 ≡ 0
offset-start [] = refl
offset-start (x ∷ code) = refl

pub offset-less : (code : List Instruction) (a b : ℕ) → a < b → offset code a < offset code b
offset-less [] a b h = h
offset-less (x ∷ code) a zero h = absurd (omega arith)
offset-less (x ∷ code) zero (suc b) h = omega (arith, width_of-pos x)
offset-less (x ∷ code) (suc a) (suc b) h = omega (arith, offset-less code a b (omega arith))

pub offset-most : (code : List Instruction) (a b : ℕ) → a ≤ b → offset code a ≤ offset code b
offset-most [] a b h = h
offset-most (x ∷ code) zero b h = omega arith
offset-most (x ∷ code) (suc a) zero h = absurd (omega arith)
offset-most (x ∷ code) (suc a) (suc b) h = omega (arith, offset-most code a b (omega arith))

less_by : (code : List Instruction) (a b : ℕ) (less : Bool) → ltb a b ≡ less → ltb (offset code a) (offset code b) ≡ less
less_by code a b true e = lt-ltb _ _ (offset-less code a b (ltb-true a b e))
less_by code a b false e = le-ltb _ _ (offset-most code b a (ltb-false a b e))

pub less-same : (code : List Instruction) (a b : ℕ) → ltb (offset code a) (offset code b) ≡ ltb a b
less-same code a b = less_by code a b (ltb a b) refl

-- ---- fetched

after : (x : Instruction) (rest : List Instruction) (n w : ℕ) → 0 < n → w ≤ n → cond (eqb n 0) (Some x) (cond (ltb n w) None (instruction_at rest (n - w))) ≡ instruction_at rest (n - w)
after x rest n w some most =
    let not_first : eqb n 0 ≡ false = ne_eqb n 0 (λ e. absurd (omega arith)) in
    let not_inside : ltb n w ≡ false = le-ltb n w most in
    rw (not_first, not_inside) refl

pub fetched : (f : ℕ → ℕ) (code : List Instruction) (k : ℕ) → instruction_at (map (renamed_instruction f) code) (offset code k) ≡ option_map (renamed_instruction f) (slice_get code k)
fetched f [] k = refl
fetched f (x ∷ code) zero = refl
fetched f (x ∷ code) (suc k) =
    ap (λ (w : ℕ). instruction_at (map (renamed_instruction f) (x ∷ code)) (w + offset code k)) (sym (width-renamed f x))
    ∙ past (renamed_instruction f x) (map (renamed_instruction f) code) (offset code k)
    ∙ fetched f code k

-- ---- the next offset

pub next_at : (code : List Instruction) (k : ℕ) (x : Instruction) → slice_get code k ≡ Some x → offset code k + width_of x ≡ offset code (suc k)
next_at [] k x e = absurd (cc)
next_at (y ∷ code) zero x e =
    let same : y ≡ x = cc in
    omega (arith, ap width_of same, offset-start code)
next_at (y ∷ code) (suc k) x e = omega (arith, next_at code k x e)

pub next_offset : (code : List Instruction) (k : ℕ) (x : Instruction) → slice_get code k ≡ Some x → position_after (instruction_at (map (renamed_instruction (offset code)) code) (offset code k)) (offset code k) ≡ offset code (k + 1)
next_offset code k x e =
    let here : instruction_at (map (renamed_instruction (offset code)) code) (offset code k) ≡ Some (renamed_instruction (offset code) x) =
    fetched (offset code) code k ∙ ap (option_map (renamed_instruction (offset code))) e in
    ap (λ (found : Option Instruction). position_after found (offset code k)) here
    ∙ ap (λ (w : ℕ). offset code k + w) (width-renamed (offset code) x)
    ∙ next_at code k x e ∙ ap (offset code) (sym (add-one k))

-- ---- handlers

chosen : (f : ℕ → ℕ) (taken : Bool) (target : ℕ) (after before : Option ℕ) → after ≡ option_map f before → cond taken (Some (f target)) after ≡ option_map f (cond taken (Some target) before)
chosen f true target after before h = refl
chosen f false target after before h = h

pub found : (code : List Instruction) (handlers : List Handler) (k exception : ℕ) → handler_for (map (renamed_handler (offset code)) handlers) (offset code k) exception ≡ option_map (offset code) (handler_for handlers k exception)
found code [] k exception = refl
found code (h ∷ handlers) k exception =
    let rest : Option ℕ = handler_for (map (renamed_handler (offset code)) handlers) (offset code k) exception in
    let choice : Bool → Bool → Option ℕ = λ early late. cond (not early && (late && eqb h.exception exception)) (Some (offset code h.target)) rest in
    ap (λ (early : Bool). choice early (ltb (offset code k) (offset code h.end))) (less-same code k h.start)
    ∙ ap (λ (late : Bool). choice (ltb k h.start) late) (less-same code k h.end)
    ∙ chosen (offset code) (not (ltb k h.start) && (ltb k h.end && eqb h.exception exception)) h.target rest (handler_for handlers k exception) (found code handlers k exception)

-- ---- procedures

fetched_in : (p : Option ProcedureContents) (k : ℕ) → instruction_at (code_of (option_map laid_out_procedure p)) (offset (code_of p) k) ≡ option_map (renamed_instruction (offset (code_of p))) (slice_get (code_of p) k)
fetched_in None k = refl
fetched_in (Some p) k = fetched (offset p.code) p.code k

next_in : (p : Option ProcedureContents) (k : ℕ) (x : Instruction) → slice_get (code_of p) k ≡ Some x → position_after (instruction_at (code_of (option_map laid_out_procedure p)) (offset (code_of p) k)) (offset (code_of p) k) ≡ offset (code_of p) (k + 1)
next_in None k x e = absurd (cc)
next_in (Some p) k x e = next_offset p.code k x e

found_in : (p : Option ProcedureContents) (k exception : ℕ) → handler_for (handlers_of (option_map laid_out_procedure p)) (offset (code_of p) k) exception ≡ option_map (offset (code_of p)) (handler_for (handlers_of p) k exception)
found_in None k exception = refl
found_in (Some p) k exception = found p.code p.handlers k exception

slots_as_before : (p : Option ProcedureContents) → slots_in (option_map laid_out_procedure p) ≡ slots_in p
slots_as_before None = refl
slots_as_before (Some p) = refl

pub headers-same : (procedures : List ProcedureContents) → map header_of (map laid_out_procedure procedures) ≡ map header_of procedures
headers-same [] = refl
headers-same (p ∷ procedures) = ap (λ (headers : List Header). header_of p ∷ headers) (headers-same procedures)

-- ---- programs

procedure_at : (g : ModuleContents) (k : ℕ) → slice_get (laid_out g).procedures k ≡ option_map laid_out_procedure (slice_get g.procedures k)
procedure_at g k = slice_get-map laid_out_procedure g.procedures k

relaid_of : ModuleContents → Relaid
relaid_of g = record {
  program = graph_program g;
  fetch = (machine_code (laid_out g)).fetch;
  next = (machine_code (laid_out g)).next;
  find = (machine_code (laid_out g)).find;
  rename = offset_in g;
  start = λ procedure. offset-start (code_of (slice_get g.procedures procedure));
  fetched = λ procedure k.
      ap (λ (p : Option ProcedureContents). instruction_at (code_of p) (offset_in g procedure k)) (procedure_at g procedure)
      ∙ fetched_in (slice_get g.procedures procedure) k;
  goes_next = λ procedure k x e.
      ap (λ (p : Option ProcedureContents). position_after (instruction_at (code_of p) (offset_in g procedure k)) (offset_in g procedure k)) (procedure_at g procedure)
      ∙ next_in (slice_get g.procedures procedure) k x e;
  finds = λ procedure k exception.
      ap (λ (p : Option ProcedureContents). handler_for (handlers_of p) (offset_in g procedure k) exception) (procedure_at g procedure)
      ∙ found_in (slice_get g.procedures procedure) k exception;
}

program-same : (g : ModuleContents) → machine_code (laid_out g) ≡ relaid (relaid_of g)
unfolding relaid_of
program-same g = ap (λ (headers : List Header). record (machine_code (laid_out g)) { headers = headers }) (headers-same g.procedures)

first-same : (g : ModuleContents) (world : ℕ → List ℤ) → Running (first_state (laid_out g) world) ≡ renamed (offset_in g) (Running (first_state g world))
first-same g world =
    let slots : slots_in (slice_get (laid_out g).procedures g.main) ≡ slots_in (slice_get g.procedures g.main) =
    ap slots_in (procedure_at g g.main) ∙ slots_as_before (slice_get g.procedures g.main) in
    let starts : List Slot → ℕ → Machine = λ declared position. Running (record (first_state g world) { frame = record (new_frame g.main declared []) { position = position } }) in
    λ i. starts (slots i) (sym (offset-start (code_of (slice_get g.procedures g.main))) i)

-- ---- runs

pub steps-same : (g : ModuleContents) (world : ℕ → List ℤ) (n : ℕ) → after_steps (laid_out g) world n ≡ renamed (offset_in g) (graph_after_steps g world n)
unfolding relaid_of
steps-same g world n =
    ap (λ (p : MachineCode). exec p n (Running (first_state (laid_out g) world))) (program-same g)
    ∙ ap (λ (m : Machine). exec (relaid (relaid_of g)) n m) (first-same g world)
    ∙ exec-same (relaid_of g) n (Running (first_state g world))

sent-same : (f : ℕ → ℕ → ℕ) (m : Machine) → sent_of (renamed f m) ≡ sent_of m
sent-same f (Running s) = refl
sent-same f (Ended ending sent) = refl
sent-same f (Stuck sent) = refl

ended : (f : ℕ → ℕ → ℕ) (m : Machine) (ending : Ending) (sent : List Pair) → renamed f m ≡ Ended ending sent → m ≡ Ended ending sent
ended f (Running s) ending sent e = absurd (cc)
ended f (Ended other list) ending sent e = e
ended f (Stuck list) ending sent e = absurd (cc)

stuck : (f : ℕ → ℕ → ℕ) (m : Machine) (sent : List Pair) → renamed f m ≡ Stuck sent → m ≡ Stuck sent
stuck f (Running s) sent e = absurd (cc)
stuck f (Ended other list) sent e = absurd (cc)
stuck f (Stuck list) sent e = e

pub runs-same : (g : ModuleContents) → SameRuns g (laid_out g)
runs-same g = record {
  steps = steps-same g;
  sends = λ world n. ap sent_of (steps-same g world n) ∙ sent-same (offset_in g) (graph_after_steps g world n);
  ends = λ world n ending sent. (
    λ e. ended (offset_in g) (graph_after_steps g world n) ending sent (sym (steps-same g world n) ∙ e),
    λ e. steps-same g world n ∙ ap (renamed (offset_in g)) e,
  );
  stuck = λ world n sent. (
    λ e. stuck (offset_in g) (graph_after_steps g world n) sent (sym (steps-same g world n) ∙ e),
    λ e. steps-same g world n ∙ ap (renamed (offset_in g)) e,
  );
}

pub interface-same : (g : ModuleContents) → SameInterface g (laid_out g)
interface-same g = record {
  version = refl;
  hierarchy = refl;
  exceptions = refl;
  channels = refl;
  globals = refl;
  main = refl;
  headers = headers-same g.procedures;
}
