-- A threaded graph runs as the graph does: for each of its steps the graph makes one, and then follows the unconditional jumps that were
-- left out, which do not count.
use Rattle.std.proofs.Common.{◌≡◌, ℕ, zero, suc, ◌+◌, ◌≤◌, refl, sym, ap, ◌∙◌, subst, arith, Bool, true, false, cond, ltb, List, [], ◌∷◌, map, length, Option, Some, None, ℤ, slice_get}
use Rattle.std.specs.Option.{option_map}
use Rattle.std.proofs.Math.Path.{fun_ext}
use Rattle.std.proofs.lemmas.Option.{slice_get-map}
use Rattle.modules.proofs.Tabled.{step-is}
use Rattle.modules.specs.declared.declaration.Handler.{Handler}
use Rattle.modules.specs.declared.instruction.Instruction.{Instruction}
use Rattle.modules.specs.declared.instruction.Instruction.TheVariants.{Jump, JumpIfFalse}
use Rattle.common.specs.declared.value.Value.{Value as Cell}
use Rattle.common.specs.declared.value.Value.TheVariants as cell
use Rattle.modules.specs.Contents.{ProcedureContents, ModuleContents}
use Rattle.modules.specs.Machine.{State, Machine, Running, Ended, Stuck, MachineCode, Header, goes_to, step, exec, handler_for, header_of, first_slots, first_state}
use Rattle.modules.specs.Transitions.{act, branches}
use Rattle.modules.specs.MachineParts.{acts, code_of, handlers_of, slots_in}
use Rattle.modules.specs.Targets.{renamed_instruction}
use Rattle.layout.specs.Runs.{graph_program}
use Rattle.lowering.specs.Direct.{jump_of}
use Rattle.lowering.specs.Threaded.{onward, followed, final_position}
use Rattle.lowering.proofs.Unthreaded.{threaded_procedure, threaded_graph}
use Rattle.lowering.proofs.Acting.{act-same}
use Rattle.lowering.proofs.Steps.{counted, count, counts}

-- ---- runs by how many steps they have at least, and how many of these count at most

pub record Follows (p : MachineCode) (least most : ℕ) (from to : Machine) : Type 0 where
  pub steps : ℕ
  pub enough : least ≤ steps
  pub few : counts p steps from ≤ most
  pub reached : exec p steps from ≡ to

follows-nowhere : (p : MachineCode) (m : Machine) → Follows p 0 0 m m
follows-nowhere p m = record { steps = 0; enough = omega arith; few = omega arith; reached = refl }

follows-step : (p : MachineCode) (least most : ℕ) (from to : Machine) → Follows p least most (step p from) to → Follows p (suc least) (count p from + most) from to
follows-step p least most from to h = record { steps = suc h.steps; enough = omega (arith, h.enough); few = omega (arith, h.few); reached = h.reached }

follows-after : (p : MachineCode) (n least most : ℕ) (from mid to : Machine) → exec p n from ≡ mid → Follows p least most mid to
    → Follows p (n + least) (counts p n from + most) from to
follows-after p zero least most from mid to e h =
    let same : Follows p least most from to = subst (λ m. Follows p least most m to) (sym e) h in
    record { steps = same.steps; enough = omega (arith, same.enough); few = omega (arith, same.few); reached = same.reached }
follows-after p (suc n) least most from mid to e h =
    let rest : Follows p (n + least) (counts p n (step p from) + most) (step p from) to = follows-after p n least most (step p from) mid to e h in
    record { steps = suc rest.steps; enough = omega (arith, rest.enough); few = omega (arith, rest.few); reached = rest.reached }

follows-through : (p : MachineCode) (least most more_least more_most : ℕ) (from mid to : Machine) → Follows p least most from mid → Follows p more_least more_most mid to
    → Follows p (least + more_least) (most + more_most) from to
follows-through p least most more_least more_most from mid to first second =
    let both = follows-after p first.steps more_least more_most from mid to first.reached second in
    record { steps = both.steps; enough = omega (arith, both.enough, first.enough); few = omega (arith, both.few, first.few); reached = both.reached }

counted-most : (o : Option ℕ) → counted o ≤ 1
counted-most None = omega arith
counted-most (Some target) = omega arith

-- a program, and the same one where each jump goes somewhere else
abbrev pub aimed : MachineCode → (ℕ → ℕ → ℕ) → MachineCode
aimed p aim = record p { fetch = λ procedure position. option_map (renamed_instruction (aim procedure)) (p.fetch procedure position) }

-- each jump goes to where unconditional jumps lead from its target
module _ (p : MachineCode) (aim : ℕ → ℕ → ℕ) (lands : (s : State) (operands : List Cell) (target : ℕ) → Follows p 0 0 (goes_to s operands target) (goes_to s operands (aim s.frame.procedure target))) where
  branch-follows : (s : State) (target : ℕ) (operands : List Cell)
      → Follows p 0 0 (branches p s target operands) (branches p s (aim s.frame.procedure target) operands)
  branch-follows s target [] = follows-nowhere p _
  branch-follows s target (cell.Int n ∷ operands) = follows-nowhere p _
  branch-follows s target (cell.Bool true ∷ operands) = follows-nowhere p _
  branch-follows s target (cell.Bool false ∷ operands) = lands s operands target

  act-follows : (s : State) (i : Instruction) → Follows p 0 0 (act p i s) (act p (renamed_instruction (aim s.frame.procedure) i) s)
  act-follows s (Jump target) = lands s s.frame.operands target
  act-follows s (JumpIfFalse target) = branch-follows s target s.frame.operands
  act-follows s i = follows-nowhere p _

  acts-follow : (s : State) (o : Option Instruction) → Follows p 0 0 (acts p s o) (acts (aimed p aim) s (option_map (renamed_instruction (aim s.frame.procedure)) o))
  acts-follow s None = follows-nowhere p _
  acts-follow s (Some i) =
      subst (λ m. Follows p 0 0 (act p i s) m) (sym (act-same p (aimed p aim).fetch (renamed_instruction (aim s.frame.procedure) i) s)) (act-follows s i)

  step-follows : (m : Machine) → Follows p 1 1 m (step (aimed p aim) m)
  step-follows (Running s) =
      let made =
      follows-step p 0 0 (Running s) _
      (subst (λ m. Follows p 0 0 m (step (aimed p aim) (Running s))) (sym (step-is p s))
      (subst (Follows p 0 0 (acts p s (p.fetch s.frame.procedure s.frame.position))) (sym (step-is (aimed p aim) s))
      (acts-follow s (p.fetch s.frame.procedure s.frame.position)))) in
      record {
        steps = made.steps;
        enough = omega (arith, made.enough);
        few = omega (arith, made.few, counted-most (jump_of (p.fetch s.frame.procedure s.frame.position)));
        reached = made.reached;
      }
  step-follows (Ended ending sent) = record { steps = 1; enough = omega arith; few = omega arith; reached = refl }
  step-follows (Stuck sent) = record { steps = 1; enough = omega arith; few = omega arith; reached = refl }

  pub exec-follows : (n : ℕ) (m : Machine) → Follows p n n m (exec (aimed p aim) n m)
  exec-follows zero m = follows-nowhere p m
  exec-follows (suc n) m =
      let made = follows-through p 1 1 n n m (step (aimed p aim) m) (exec (aimed p aim) (suc n) m) (step-follows m) (exec-follows n (step (aimed p aim) m)) in
      record { steps = made.steps; enough = omega (arith, made.enough); few = omega (arith, made.few); reached = made.reached }

-- ---- unconditional jumps are followed

-- where one is reported, the instruction is that jump
pub jump-is : (o : Option Instruction) (target : ℕ) → jump_of o ≡ Some target → o ≡ Some (Jump target)
jump-is None target e = absurd (let no : None ≡ Some target = e in cc)
jump-is (Some (Jump other)) target e = let same : Some other ≡ Some target = e in cc
jump-is (Some i) target e = absurd (let no : None ≡ Some target = e in cc)

module _ (p : MachineCode) (s : State) (operands : List Cell) (code : List Instruction) (fetched : (position : ℕ) → p.fetch s.frame.procedure position ≡ slice_get code position) where
  abbrev at : ℕ → Machine
  at position = goes_to s operands position

  jumps-once : (position target : ℕ) (to : Machine) → jump_of (slice_get code position) ≡ Some target → Follows p 0 0 (at target) to → Follows p 0 0 (at position) to
  jumps-once position target to e h =
      let goes : step p (at position) ≡ at target =
      step-is p (record s { frame = record s.frame { operands = operands; position = position } })
      ∙ ap (λ (o : Option Instruction). acts p (record s { frame = record s.frame { operands = operands; position = position } }) o)
      (fetched position ∙ jump-is (slice_get code position) target e) in
      let free : count p (at position) ≡ 0 = ap (λ (o : Option Instruction). counted (jump_of o)) (fetched position) ∙ ap counted e in
      let made = follows-step p 0 0 (at position) to (subst (λ m. Follows p 0 0 m to) (sym goes) h) in
      record { steps = made.steps; enough = omega arith; few = omega (arith, made.few, free); reached = made.reached }

  leads-by : (on : ℕ → ℕ) → ((target : ℕ) → Follows p 0 0 (at target) (at (on target))) → (position : ℕ) (o : Option ℕ) → jump_of (slice_get code position) ≡ o
      → Follows p 0 0 (at position) (at (onward position on o))
  leads-by on each position None e = follows-nowhere p _
  leads-by on each position (Some target) e = forward (ltb position target)
    where
      forward : (b : Bool) → Follows p 0 0 (at position) (at (cond b (on target) position))
      forward true = jumps-once position target (at (on target)) e (each target)
      forward false = follows-nowhere p _

  leads-on : (jumps position : ℕ) → Follows p 0 0 (at position) (at (followed jumps code position))
  leads-on zero position = follows-nowhere p _
  leads-on (suc jumps) position = leads-by (followed jumps code) (leads-on jumps) position (jump_of (slice_get code position)) refl

-- ---- graphs

pub headers-same : (procedures : List ProcedureContents) → map header_of (map threaded_procedure procedures) ≡ map header_of procedures
headers-same [] = refl
headers-same (procedure ∷ procedures) = ap (λ (rest : List Header). header_of procedure ∷ rest) (headers-same procedures)

fetched-in : (o : Option ProcedureContents) (k : ℕ)
    → slice_get (code_of (option_map threaded_procedure o)) k ≡ option_map (renamed_instruction (final_position (code_of o))) (slice_get (code_of o) k)
fetched-in None k = refl
fetched-in (Some procedure) k = slice_get-map (renamed_instruction (final_position procedure.code)) procedure.code k

handlers-in : (o : Option ProcedureContents) → handlers_of (option_map threaded_procedure o) ≡ handlers_of o
handlers-in None = refl
handlers-in (Some procedure) = refl

slots-same : (o : Option ProcedureContents) → slots_in (option_map threaded_procedure o) ≡ slots_in o
slots-same None = refl
slots-same (Some procedure) = refl

module _ (g : ModuleContents) where
  abbrev code_in : ℕ → List Instruction
  code_in procedure = code_of (slice_get g.procedures procedure)

  abbrev pub aims : ℕ → ℕ → ℕ
  aims procedure target = final_position (code_in procedure) target

  there : (k : ℕ) → slice_get (threaded_graph g).procedures k ≡ option_map threaded_procedure (slice_get g.procedures k)
  there k = slice_get-map threaded_procedure g.procedures k

  lands : (s : State) (operands : List Cell) (target : ℕ) → Follows (graph_program g) 0 0 (goes_to s operands target) (goes_to s operands (aims s.frame.procedure target))
  lands s operands target = leads-on (graph_program g) s operands (code_in s.frame.procedure) (λ position. refl) (length (code_in s.frame.procedure)) target

  program-same : graph_program (threaded_graph g) ≡ aimed (graph_program g) aims
  program-same =
      let fetches : (graph_program (threaded_graph g)).fetch ≡ (aimed (graph_program g) aims).fetch =
      fun_ext (λ f. fun_ext (λ k. ap (λ (o : Option ProcedureContents). slice_get (code_of o) k) (there f) ∙ fetched-in (slice_get g.procedures f) k)) in
      let finds : (graph_program (threaded_graph g)).find ≡ (graph_program g).find =
      fun_ext (λ f. fun_ext (λ k. fun_ext (λ e. ap (λ (l : List Handler). handler_for l k e) (ap handlers_of (there f) ∙ handlers-in (slice_get g.procedures f))))) in
      λ i. record (graph_program g) { headers = headers-same g.procedures i; fetch = fetches i; find = finds i }

  pub first-same : (world : ℕ → List ℤ) → ◌≡◌ {A = Machine} (Running (first_state (threaded_graph g) world)) (Running (first_state g world))
  first-same world =
      ap (λ (slots : ℕ → List Cell). Running (record (first_state g world) { frame = record (first_state g world).frame { slots = slots } }))
      (ap (λ (o : Option ProcedureContents). first_slots (slots_in o) []) (there g.main)
      ∙ ap (λ l. first_slots l []) (slots-same (slice_get g.procedures g.main)))

  pub runs-follow : (world : ℕ → List ℤ) (n : ℕ)
      → Follows (graph_program g) n n (Running (first_state g world)) (exec (graph_program (threaded_graph g)) n (Running (first_state (threaded_graph g) world)))
  runs-follow world n =
      subst (λ m. Follows (graph_program g) n n (Running (first_state g world)) m)
      (sym (ap (λ (q : MachineCode). exec q n (Running (first_state (threaded_graph g) world))) program-same ∙ ap (exec (aimed (graph_program g) aims) n) (first-same world)))
      (exec-follows (graph_program g) aims lands n (Running (first_state g world)))
