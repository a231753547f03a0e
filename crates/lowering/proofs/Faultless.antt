-- The module of a well-formed program without a fault of its exits has no fault: the verifier takes it, and no run of it is stuck.
use Rattle.std.proofs.Common.{◌≡◌, refl, sym, ap, ◌∙◌, subst, ℕ, suc, ◌+◌, Bool, true, false, not, ◌&&◌, List, [], ◌∷◌, ◌++◌, map, Option, Some, None, slice_get, append-nil}
use Rattle.std.specs.Prelude.{is_some}
use Rattle.std.specs.List.{list_all}
use Rattle.std.specs.Option.{option_map}
use Rattle.std.proofs.lemmas.Option.{slice_get-map}
use Rattle.resolved.specs.declared.expression.Variable.{Variable}
use Rattle.resolved.specs.declared.expression.Variable.TheVariants.{Global, Local}
use Rattle.resolved.specs.declared.statement.Exit.TheVariants.{Normal}
use Rattle.resolved.specs.Program.{Program, ProcedureEntry, ResultEntry}
use Rattle.resolved.specs.Exits.{has_exit, block_exits, fault_unless}
use Rattle.resolved.specs.ExitFaults.{block_faults, procedure_faults}
use Rattle.resolved.specs.Labelled.{exit_faults}
use Rattle.resolved.specs.FaultParts.{may_exit}
use Rattle.resolved.specs.declared.fault.ExitRefusalKind.TheVariants.{NoValueReturned, Undeclared}
use Rattle.resolved.specs.WellFormed.{variable_type, well_formed, block_fits}
use Rattle.resolved.proofs.WellFormedParts as parts
use Rattle.labels.specs.Channel.{ChannelContents}
use Rattle.modules.specs.Contents.{ProcedureContents, ModuleContents}
use Rattle.modules.specs.MachineParts.{slot_of}
use Rattle.modules.specs.declared.instruction.Instruction.TheVariants as instruction
use Rattle.layout.specs.Graph.{HasPositions}
use Rattle.layout.specs.Offsets.{laid_out_procedure, laid_out}
use Rattle.layout.proofs.Fitting.{Fits-laid_out}
use Rattle.verifier.specs.Fixed as fixed
use Rattle.verifier.specs.Flow.{FlowsWell}
use Rattle.verifier.proofs.Bounds.{bounded}
use Rattle.verifier.proofs.NeverStuck.{never_stuck}
use Rattle.lowering.specs.Interface.{slot_contents, global_contents, returned_kind}
use Rattle.lowering.specs.Code.{block_falls, block_size, block_code, block_table}
use Rattle.lowering.specs.Graphs.{end_code, no_loop, body_code, procedure_contents, graph_of}
use Rattle.lowering.specs.Laws.{ModulesAreNotRefused, ModulesAreNeverStuck}
use Rattle.lowering.proofs.Ending.{Stops, stops-one, stops-beyond, stops-alone, block-stops, block-normal}
use Rattle.lowering.proofs.Unthreaded.{unthreaded_procedure}
use Rattle.lowering.proofs.Finals.{all-at}
use Rattle.lowering.proofs.Threads.{threaded-sound}
use Rattle.lowering.proofs.Flowing.{Flows, Here, flows-none, flows-one}
use Rattle.lowering.proofs.Frames.{slot_same, global_there, direction_same, option_twice}
use Rattle.lowering.proofs.Inside.{graphs-positioned}
use Rattle.lowering.proofs.Kinded.{slot_in, Stated, return-does}
use Rattle.lowering.proofs.Settled.{Settles, LoopFlows, settles-front, block-settles}
use Rattle.lowering.proofs.Sizes.{block-sized}
use Rattle.lowering.proofs.States.{slot_of_type}
use Rattle.lowering.proofs.Standing.{Sound, sound-flows, sound-instructions, sound-handlers}
use Rattle.common.proofs.Cases.{append_empty, there_map_only}
use Rattle.resolved.proofs.Exits.{no_fault-test}
use Rattle.resolved.proofs.Judged.{faults-apart}
use Rattle.isolation.proofs.Valued.{faultless-there}

-- ---- lists

-- ---- a procedure in its module
stated : (program : Program) → well_formed program ≡ true → (entry : ProcedureEntry)
    → Stated program entry (laid_out (graph_of program)) (laid_out_procedure (procedure_contents program entry))
stated program formed entry = record {
  variables_there = λ x. there x;
  channels_there = λ k. slice_get-map (λ (channel : ChannelContents). channel.direction) program.channels k ∙ direction_same (slice_get program.channels k);
  exceptions_there = refl;
  returned_is = refl;
  called_there = λ f callee e. (
    laid_out_procedure (procedure_contents program callee),
    slice_get-map laid_out_procedure (graph_of program).procedures f
        ∙ ap (option_map laid_out_procedure) (slice_get-map (procedure_contents program) program.procedures f ∙ ap (option_map (procedure_contents program)) e),
    refl,
  );
}
  where
    there : (x : Variable) → slot_in (laid_out (graph_of program)) (laid_out_procedure (procedure_contents program entry)) x
        ≡ slot_of_type (variable_type program entry x)
    there (Local k) = slice_get-map slot_contents entry.slots k ∙ slot_same (slice_get entry.slots k)
    there (Global k) =
        slice_get-map slot_of (map global_contents program.globals) k ∙ ap (option_map slot_of) (slice_get-map global_contents program.globals k)
        ∙ option_twice global_contents slot_of (slice_get program.globals k) ∙ global_there program formed k (slice_get program.globals k) refl

-- ---- a body, and the return after it
module _ (program : Program) (formed : well_formed program ≡ true) (entry : ProcedureEntry)
    (fits : block_fits program entry entry.body ≡ true) (faults : procedure_faults program entry ≡ []) where
  abbrev module_is : ModuleContents
  module_is = laid_out (graph_of program)

  abbrev own : ProcedureContents
  own = laid_out_procedure (procedure_contents program entry)

  body-faults : block_faults program false true entry.body ≡ []
  body-faults =
      let ends = block_exits program entry.body in
      let value = fault_unless (not (is_some entry.result && has_exit ends Normal)) NoValueReturned entry.at in
      let declared = fault_unless (list_all (may_exit entry) ends) Undeclared entry.at in
      (append_empty (block_faults program false true entry.body) value
      (append_empty (block_faults program false true entry.body ++ value) declared faults).0).0

  value-test : not (is_some entry.result && has_exit (block_exits program entry.body) Normal) ≡ true
  value-test =
      let ends = block_exits program entry.body in
      let test = not (is_some entry.result && has_exit ends Normal) in
      let value = fault_unless test NoValueReturned entry.at in
      let declared = fault_unless (list_all (may_exit entry) ends) Undeclared entry.at in
      no_fault-test test NoValueReturned entry.at
      (append_empty (block_faults program false true entry.body) value
      (append_empty (block_faults program false true entry.body ++ value) declared faults).0).1

  -- a body that may end normally is that of a procedure without a value
  no-value : block_falls entry.body ≡ true → returned_kind entry.result ≡ None
  no-value falls = by entry.result (has_exit (block_exits program entry.body) Normal) (block-normal program entry.body falls) value-test
    where
      by : (result : Option ResultEntry) (ends : Bool) → ends ≡ true → not (is_some result && ends) ≡ true → returned_kind result ≡ None
      by None ends h test = refl
      by (Some r) true h test = absurd (let no : false ≡ true = test in cc)
      by (Some r) false h test = absurd (let no : false ≡ true = h in cc)

  end-flows : (at : ℕ) (falls : Bool) → block_falls entry.body ≡ falls
      → Flows module_is own (body_code program entry.body) at (end_code falls) (LoopFlows module_is own (body_code program entry.body) false no_loop) [] []
  end-flows at true is = flows-one module_is own (body_code program entry.body) (return-does module_is own (no-value is))
  end-flows at false is = flows-none module_is own (body_code program entry.body)

  body-settles : Settles module_is own (body_code program entry.body) 0 (body_code program entry.body) (block_table program 0 entry.body)
      (LoopFlows module_is own (body_code program entry.body) false no_loop)
  body-settles =
      settles-front module_is own (body_code program entry.body) (block_size program entry.body) (block-sized program no_loop 0 entry.body)
      (block-settles program entry module_is own (body_code program entry.body) (stated program formed entry) no_loop false true 0 entry.body fits body-faults)
      (end-flows (0 + block_size program entry.body) (block_falls entry.body) refl)

  here : Here module_is own (body_code program entry.body) (body_code program entry.body) 0 []
  here = record {
    stands = record { before = []; beyond = []; parts = sym (append-nil (body_code program entry.body)); position = refl };
    kinds_are = refl;
  }

  no-loops : LoopFlows module_is own (body_code program entry.body) false no_loop
  no-loops = record { beyond = λ h. absurd (let no : false ≡ true = h in cc); test = λ h. absurd (let no : false ≡ true = h in cc) }

  body-stops : (falls : Bool) → block_falls entry.body ≡ falls → Stops (block_code program no_loop 0 entry.body ++ end_code falls)
  body-stops true is = stops-beyond (block_code program no_loop 0 entry.body) (instruction.Return ∷ []) (stops-one instruction.Return refl)
  body-stops false is = stops-alone (block_code program no_loop 0 entry.body) (block-stops program entry no_loop false true 0 entry.body fits body-faults is)

  pub body-sound : HasPositions (procedure_contents program entry) → Sound module_is (procedure_contents program entry)
  body-sound positions =
      let stops = body-stops (block_falls entry.body) refl in
      threaded-sound module_is (unthreaded_procedure program entry) (body-settles.flows.each here no-loops) (body-settles.caught here) positions stops.filled stops.stays

-- ---- modules
procedures-right : (m : ModuleContents) (number : ℕ) (graphs : List ProcedureContents) → ((k : ℕ) (g : ProcedureContents) → slice_get graphs k ≡ Some g → Sound m g)
    → fixed.procedure_refusals m number (map laid_out_procedure graphs) ≡ []
procedures-right m number [] sound = refl
procedures-right m number (g ∷ graphs) sound =
    let rest = fixed.procedure_refusals m (number + 1) (map laid_out_procedure graphs) in
    let s = sound 0 g refl in
    ap (λ l. l ++ fixed.handler_refusals m number (laid_out_procedure g) (laid_out_procedure g).handlers ++ rest) (sound-instructions m g s number)
    ∙ (ap (λ l. l ++ rest) (sound-handlers m g s number) ∙ procedures-right m (number + 1) graphs (λ k h e. sound (suc k) h e))

sound-at : (program : Program) → well_formed program ≡ true → exit_faults program ≡ [] → (k : ℕ) (g : ProcedureContents)
    → slice_get (graph_of program).procedures k ≡ Some g → Sound (laid_out (graph_of program)) g
sound-at program formed none k g e =
    let from = there_map_only (procedure_contents program) program.procedures k g e in
    let entry = from.0 in
    let positions = all-at HasPositions (graph_of program).procedures k g (graphs-positioned program formed none) e in
    subst (Sound (laid_out (graph_of program))) from.2
    (body-sound program formed entry (parts.procedure_there program formed k entry from.1).body_fits (faultless-there program program.procedures (sym (faults-apart program) ∙ none) k entry from.1)
    (subst HasPositions (sym from.2) positions))

pub modules-are-not-refused : ModulesAreNotRefused
modules-are-not-refused program formed none =
    let m = laid_out (graph_of program) in
    record {
      fixed = procedures-right m 0 (graph_of program).procedures (sound-at program formed none);
      flow = λ refusal found.
          let from = there_map_only laid_out_procedure (graph_of program).procedures refusal.procedure found.procedure found.there in
          subst (FlowsWell m) from.2 (sound-flows m from.0 (sound-at program formed none refusal.procedure from.0 from.1)) refusal.offset refusal.kind found.kind;
    }

pub modules-run : ModulesAreNeverStuck
modules-run program formed none fits =
    let m = laid_out (graph_of program) in
    let fits_there = Fits-laid_out (graph_of program) (record { positions = graphs-positioned program formed none; limits = fits }) in
    never_stuck m (bounded m fits_there) (modules-are-not-refused program formed none)
