-- The graph of a program keeps its meaning.
use Rattle.std.proofs.Common.{◌≡◌, ℕ, ◌+◌, ◌⊎◌, inl, inr, true, false, ◌&&◌, ◌||◌, ℤ, pos, negsuc, List, [], ◌∷◌, refl, sym, ap, ◌∙◌, subst, zero, suc, slice_get, eqb-true}
use Rattle.std.specs.Prelude.{Option, Some, None, is_none, ◌==◌, replicate, take, slice_index_or}
use Rattle.std.specs.Option.{option_map}
use Rattle.std.specs.List.{list_all}
use Rattle.std.proofs.Math.Path.{fun_ext}
use Rattle.std.proofs.lemmas.Option.{slice_get-map}
use Rattle.std.proofs.lemmas.Bool.{and_parts, false≢true}
use Rattle.common.specs.declared.value.Value.{Value}
use Rattle.common.specs.declared.value.Value.TheVariants.{Int as Number, Bool as Truth}
use Rattle.common.specs.declared.base_type.BaseType.{BaseType}
use Rattle.common.specs.declared.base_type.BaseType.TheVariants as base
use Rattle.resolved.specs.declared.statement.Exit.TheVariants.{Normal, Return, Break, Continue, Throw}
use Rattle.common.specs.declared.direction.Direction.{Direction}
use Rattle.common.specs.declared.direction.Direction.TheVariants.{Input, Output}
use Rattle.common.proofs.Cases.{none_there}
use Rattle.labels.specs.Channel.{ChannelContents}
use Rattle.resolved.specs.Program.{Program, ProcedureEntry, ResultEntry, GlobalEntry, channel_at, procedure_at}
use Rattle.resolved.specs.SourceState as source
use Rattle.common.specs.Values.{kind_of}
use Rattle.resolved.specs.Exits.{thrown_exits, declared_by}
use Rattle.resolved.specs.Labelled.{exit_faults}
use Rattle.resolved.specs.Meaning as meaning
use Rattle.resolved.specs.Meaning.{Outcome, Ended, Stopped, Deep, OutOfFuel, leaving, entering, calls_with, block_meaning, state_after, first_cells_of_globals, numbers_by}
use Rattle.resolved.specs.WellFormed.{well_formed, parameters_of, has_result, same_base, main_fits, first_fits, size_fits, label_fits, is_zero_value}
use Rattle.resolved.specs.Kinds.{StateFits, OutcomeFits, ArgumentsFit}
use Rattle.resolved.proofs.WellFormedParts.{ProcedureParts, procedure_at_is, program_parts, passes_at}
use Rattle.resolved.proofs.WellFormedParts as parts
use Rattle.resolved.proofs.Sound.Values.{same_base_is}
use Rattle.resolved.proofs.Sound.Meanings.{meaning_keeps_types}
use Rattle.resolved.proofs.Sound.Runs.{runs_begin_typed}
use Rattle.isolation.specs.Runs.{ExitsAmong}
use Rattle.isolation.proofs.Among.{calls-among}
use Rattle.isolation.proofs.Declared.{ends-as-declared}
use Rattle.common.specs.declared.value.Value.{Value as Cell}
use Rattle.modules.specs.Contents.{ProcedureContents}
use Rattle.common.specs.Values.{zero_of}
use Rattle.modules.specs.Machine as machine
use Rattle.modules.specs.MachineParts as pieces
use Rattle.modules.specs.Machine.{Machine, Running}
use Rattle.layout.specs.Runs.{graph_program}
use Rattle.lowering.specs.Interface.{global_contents, scalar_global}
use Rattle.lowering.specs.Code.{block_size}
use Rattle.lowering.specs.Graphs.{no_loop}
use Rattle.lowering.proofs.Unthreaded.{unthreaded_graph}
use Rattle.lowering.specs.SameMeaning.{ending_of}
use Rattle.lowering.proofs.Steps.{Leads, Waits, leads-through}
use Rattle.lowering.proofs.States.{position, cell_of, cells_of, left_of, left_by}
use Rattle.lowering.proofs.Outcomes.{Runs}
use Rattle.lowering.proofs.Frames.{setting_of, procedure_there, slots-begin, cells_replicated}
use Rattle.lowering.proofs.Calls.{nowhere, body-run, body-returns, calls-run}
use Rattle.resolved.proofs.Exits.{thrown-break, thrown-continue}

-- ---- the first state

zero_value_cell : (v : Value) (b : BaseType) → kind_of v ≡ b → is_zero_value v ≡ true → cell_of v ≡ zero_of b
zero_value_cell (Number (pos n)) base.Int e h = let none : n ≡ 0 = eqb-true n 0 h in rw none refl
zero_value_cell (Number (negsuc n)) base.Int e h = absurd (let no : false ≡ true = h in cc)
zero_value_cell (Truth false) base.Boolean e h = refl
zero_value_cell (Truth true) base.Boolean e h = absurd (let no : false ≡ true = h in cc)
zero_value_cell (Number z) base.Boolean e h = absurd (let no : base.Int ≡ base.Boolean = e in cc)
zero_value_cell (Truth b) base.Int e h = absurd (let no : base.Boolean ≡ base.Int = e in cc)

scalar_begins : (v : Value) → machine.first_global (scalar_global v) ≡ cell_of v ∷ []
scalar_begins (Number z) = refl
scalar_begins (Truth b) = refl

sized_begins : (entry : GlobalEntry) (size : Option ℕ) → entry.size ≡ size → kind_of entry.first ≡ entry.base → (is_none entry.size || is_zero_value entry.first) ≡ true
    → machine.first_global (global_contents entry) ≡ cells_of (meaning.cells_of entry.size entry.first)
sized_begins entry None e h empty = rw e (scalar_begins entry.first)
sized_begins entry (Some count) e h empty =
    let is_zero_first : is_zero_value entry.first ≡ true = subst (λ s. (is_none s || is_zero_value entry.first) ≡ true) e empty in
    rw e (ap (replicate count) (sym (zero_value_cell entry.first entry.base h is_zero_first)) ∙ sym (cells_replicated count entry.first))

global_begins : (program : Program) → well_formed program ≡ true → (k : ℕ) (o : Option GlobalEntry) → slice_get program.globals k ≡ o
    → pieces.cells_of_global (option_map global_contents o) ≡ cells_of (first_cells_of_globals o)
global_begins program formed k None e = refl
global_begins program formed k (Some entry) e =
    let all_fit : list_all (λ (entry : GlobalEntry). size_fits entry.size && label_fits program.hierarchy entry.label && first_fits entry) program.globals ≡ true =
    (and_parts (list_all _ program.globals) _ (program_parts program formed).globals_are).0 in
    let fit : first_fits entry ≡ true =
    (and_parts (size_fits entry.size && label_fits program.hierarchy entry.label) _ (passes_at _ program.globals k entry all_fit e)).1 in
    let two = and_parts (same_base (kind_of entry.first) entry.base) (is_none entry.size || is_zero_value entry.first) fit in
    sized_begins entry entry.size refl (same_base_is (kind_of entry.first) entry.base two.0) two.1

rest_begins : (channels : List ChannelContents) (none : ChannelContents) (c : ℕ) (numbers : List ℤ)
    → numbers ≡ left_of (slice_get channels c) (numbers_by (slice_index_or channels c none).direction numbers) numbers
rest_begins [] none c numbers = refl
rest_begins (entry ∷ rest) none (suc c) numbers = rest_begins rest none c numbers
rest_begins (entry ∷ rest) none zero numbers = by entry.direction
  where
    by : (d : Direction) → numbers ≡ left_by d (numbers_by d numbers) numbers
    by Input = refl
    by Output = refl

begins-so : (program : Program) (formed : well_formed program ≡ true) (world : source.World) (main : ProcedureEntry) (there : slice_get program.procedures program.main ≡ Some main)
    → ArgumentsFit (parameters_of main) []
    → ◌≡◌ {A = Machine} (Running (machine.first_state (unthreaded_graph program) world))
    (position (setting_of program formed world program.main main there []) 0 [] (entering main [] (meaning.first_state program world)))
begins-so program formed world main there none =
    let graph = unthreaded_graph program in
    let globals : (λ k. pieces.cells_of_global (slice_get graph.globals k)) ≡ (λ n. cells_of (first_cells_of_globals (slice_get program.globals n))) =
    fun_ext (λ n. ap pieces.cells_of_global (slice_get-map global_contents program.globals n) ∙ global_begins program formed n (slice_get program.globals n) refl) in
    let slots : machine.first_slots (pieces.slots_in (slice_get graph.procedures program.main)) [] ≡ (λ n. cells_of (meaning.frame_of main.slots [] n)) =
    ap (λ (o : Option ProcedureContents). machine.first_slots (pieces.slots_in o) []) (procedure_there program program.main main there) ∙ slots-begin main [] none in
    let rest : world ≡ (λ c. left_of (slice_get program.channels c) (numbers_by (channel_at program c).direction (world c)) (world c)) =
    fun_ext (λ c. rest_begins program.channels _ c (world c)) in
    ap (λ (g : ℕ → List Cell). Running (record (machine.first_state graph world) { globals = g })) globals
    ∙ ap (λ (f : ℕ → List Cell). Running (record (machine.first_state graph world) {
      globals = λ n. cells_of (first_cells_of_globals (slice_get program.globals n));
      frame = record { procedure = program.main; slots = f; operands = []; position = 0 };
    })) slots
    ∙ ap (λ (r : ℕ → List ℤ). Running (record (machine.first_state graph world) {
      globals = λ n. cells_of (first_cells_of_globals (slice_get program.globals n));
      frame = record { procedure = program.main; slots = λ n. cells_of (meaning.frame_of main.slots [] n); operands = []; position = 0 };
      rest = r;
    })) rest

-- ---- how a run ends

pub record Comes (p : machine.MachineCode) (from : Machine) (o : Outcome) : Type 0 where
  pub ending : machine.Ending
  pub so : ending_of o ≡ Some ending
  pub leads : Leads p from (machine.Ended ending (state_after o).sent)

pub record GoesOn (p : machine.MachineCode) (k : ℕ) (from : Machine) (o : Outcome) : Type 0 where
  pub no_end : ending_of o ≡ None
  pub waits : Waits p k from (state_after o).sent

module _ (program : Program) (formed : well_formed program ≡ true) (none : exit_faults program ≡ []) (world : source.World) (k : ℕ) where
  module _ (main : ProcedureEntry) (there : slice_get program.procedures program.main ≡ Some main) (nothing : main.result ≡ None) where
    ends-by : (s : source.SourceState) (back : source.SourceState → source.SourceState) (o : Outcome) → block_meaning (calls_with program k 511) k main.body s ≡ o
        → ((t : source.SourceState) → (back t).sent ≡ t.sent) → OutcomeFits program main Return main.result o
        → ExitsAmong (Normal ∷ thrown_exits (declared_by main.throws)) (leaving back o)
        → Runs (setting_of program formed world program.main main there []) no_loop nowhere k (position (setting_of program formed world program.main main there []) 0 [] s) (0 + block_size program main.body) o
        → Comes (setting_of program formed world program.main main there []).p (position (setting_of program formed world program.main main there []) 0 [] s) (leaving back o)
        ⊎ GoesOn (setting_of program formed world program.main main there []).p k (position (setting_of program formed world program.main main there []) 0 [] s) (leaving back o)
    ends-by s back (Ended Normal None t) is same fit among run =
        inl (record { ending = machine.Finished; so = refl; leads = rw (same t) (leads-through _ _ _ _ run (body-returns program formed none world k 511 program.main main there [] s t None is (ap is_none nothing))) })
    ends-by s back (Ended Normal (Some v) t) is same fit among run = absurd (false≢true fit.returned)
    ends-by s back (Ended Return None t) is same fit among run = inl (record { ending = machine.Finished; so = refl; leads = rw (same t) run })
    ends-by s back (Ended Return (Some v) t) is same fit among run =
        absurd (false≢true (sym (ap (λ (r : Option ResultEntry). has_result r (same_base (kind_of v))) nothing) ∙ fit.returned))
    ends-by s back (Ended Break returned t) is same fit among run = absurd (false≢true (sym (thrown-break (declared_by main.throws)) ∙ among))
    ends-by s back (Ended Continue returned t) is same fit among run = absurd (false≢true (sym (thrown-continue (declared_by main.throws)) ∙ among))
    ends-by s back (Ended (Throw e) returned t) is same fit among run = inl (record { ending = machine.Threw e; so = refl; leads = rw (same t) run })
    ends-by s back (Stopped Deep t) is same fit among run = inl (record { ending = machine.Deep; so = refl; leads = rw (same t) run })
    ends-by s back (Stopped OutOfFuel t) is same fit among run = inr (record { no_end = refl; waits = rw (same t) run })

  abbrev Done : Outcome → Type 0
  Done o = Comes (graph_program (unthreaded_graph program)) (Running (machine.first_state (unthreaded_graph program) world)) o
      ⊎ GoesOn (graph_program (unthreaded_graph program)) k (Running (machine.first_state (unthreaded_graph program) world)) o

  main-run : (main : ProcedureEntry) → slice_get program.procedures program.main ≡ Some main → main_fits (Some main) ≡ true → Done (calls_with program k 512 program.main [] (meaning.first_state program world))
  main-run main there fits =
      let two = and_parts (main.parameters == 0) (is_none main.result) fits in
      let no_parameters : main.parameters ≡ 0 = eqb-true main.parameters 0 two.0 in
      let no_arguments : ArgumentsFit (parameters_of main) [] = subst (λ n. ArgumentsFit (take n main.slots) []) (sym no_parameters) tt in
      let is : procedure_at program program.main ≡ main = procedure_at_is program program.main main there in
      let first : source.SourceState = meaning.first_state program world in
      let s : source.SourceState = entering main [] first in
      let fit : StateFits program main s = subst (λ (p : ProcedureEntry). StateFits program p (entering p [] first)) is (runs_begin_typed program formed world) in
      let body : ProcedureParts program main = parts.procedure_there program formed program.main main there in
      let back : source.SourceState → source.SourceState = λ t. record t { locals = first.locals } in
      let o : Outcome = block_meaning (calls_with program k 511) k main.body s in
      let whole : calls_with program k 512 program.main [] first ≡ leaving back o =
      ap (λ (p : ProcedureEntry). leaving back (block_meaning (calls_with program k 511) k p.body (entering p [] first))) is in
      let among : ExitsAmong (Normal ∷ thrown_exits (declared_by main.throws)) (leaving back o) =
      subst (λ (x : Outcome). ExitsAmong (Normal ∷ thrown_exits (declared_by main.throws)) x) whole
      (subst (λ (p : ProcedureEntry). ExitsAmong (Normal ∷ thrown_exits (declared_by p.throws)) (calls_with program k 512 program.main [] first)) is
      (calls-among program k 512 (ends-as-declared program none) program.main [] first).among) in
      let done = ends-by main there (none_there main.result two.1) s back o refl (λ t. refl) (meaning_keeps_types program formed main main.body body.body_fits 511 k s fit) among
      (body-run program formed none world k 511 program.main main there [] s (calls-run program formed none world k 511 program.main main there [] refl) fit) in
      subst (λ (x : Outcome). Done x) (sym whole)
      (subst (λ (m : Machine). Comes (graph_program (unthreaded_graph program)) m (leaving back o) ⊎ GoesOn (graph_program (unthreaded_graph program)) k m (leaving back o)) (sym (begins-so program formed world main there no_arguments)) done)

  run-done : Done (calls_with program k 512 program.main [] (meaning.first_state program world))
  run-done = go (slice_get program.procedures program.main) refl (program_parts program formed).main_is
    where
      go : (o : Option ProcedureEntry) → slice_get program.procedures program.main ≡ o → main_fits o ≡ true → Done (calls_with program k 512 program.main [] (meaning.first_state program world))
      go None e fits = absurd (let no : false ≡ true = fits in cc)
      go (Some main) e fits = main-run main e fits

  pub run-within-limit : Done (meaning.run_within meaning.frame_limit program world k)
  unfolding meaning.frame_limit
  run-within-limit = run-done
